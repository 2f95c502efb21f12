-- What the passes over a text come to: 17, 18, 19, or the words of its question.
use Prim.Native.Nat.{ℕ, zero, suc, ◌+◌, ◌-◌, ◌*◌, ◌<◌, ◌≤◌, min}
use native.Mathlib.Omega.{arith}
use mathlib.Core.Path.{◌≡◌, refl, sym, ap, ap₂, ◌∙◌, subst, fun_ext}
use mathlib.Core.Bool.{Bool, true, false, ◌&&◌, ◌||◌}
use mathlib.Core.List.{List, [], ◌∷◌, ◌++◌, map}
use mathlib.Core.Option.{Option, some}
use lib.Dec.{ltb, leb}
use lib.ListN.{length, take, drop, get_or, set, length-append, length-map}
use lib.Seq.{sets, sets-eq, take-append_seam}
use borrow.Author.Tests.{ltb-true, ltb-false, le-leb, lt-leb}
use Rattle.std.specs.Prelude.{Some, None}
use Rattle.std.specs.Prelude as std
use Rattle.language.specs.declared.Refusal.TheVariants.{NotText, ManyNames, LongText}
use Rattle.language.specs.Limits.{Limits}
use Rattle.language.specs.Kinds.{pick}
use Rattle.language.specs.Between.{between}
use Rattle.language.specs.Trees.{Conj}
use Rattle.language.specs.Writing.{conj_words}
use Rattle.language.specs.Question.{counts_fit}
use Rattle.language.proofs.Offsets.{length-between}
use Rattle.grammar.specs.Tokens.{Token}
use Rattle.grammar.specs.Grammar.{Line, Lines, no_line, blank, line, lines_of}
use Rattle.meaning.specs.Values.{joined, offsets_of}
use Rattle.texts.specs.Parsing.{line_of, literals, literal_of, side_of, hedge}
use Rattle.texts.specs.Numbering.{Class, symbols, terms, hedges, functions, Naming, place, in_all, name_all, table, numbered, at_least_one, counts_in}
use Rattle.texts.specs.Outcomes.{gives, denies, question_words, fitted, counted, reads_text}
use Rattle.texts.proofs.Readings.{line_read}
use Rattle.texts.proofs.Accepted.{seventeen, not-seventeen}
use Rattle.text_names.specs.Shelves.{name_at, listed, width, shelf_of, numbering, enter_all}
use Rattle.collecting.specs.Collecting.{Taken}
use Rattle.read_text.proofs.Tables.{all-of-them, too_many}
use Rattle.text_survey.specs.Surveys.{another, counts, survey_of, Surveyed}
use Rattle.text_words.specs.Bodies.{words_of, ends_of, Body, ReadBody}
use Rattle.text_words.proofs.Stores.{sets-++, set_before, ends-offsets, length-ends, length-words}
use Rattle.read_text.specs.Reads.{many_of, one_at_least, header_of, first_of}

-- ---- the lines that are spelt are those that have a token

no-conj : (c : Conj) → Line c [] → ⊥
unfolding line_of literals literal_of side_of hedge
no-conj c m = let e = line_read m in let z : ◌≡◌ {A = ℕ} 0 1 = cc in omega arith

counts-line : (c : Conj) (ts : List Token) (n : Option ℕ) → Line c ts → counts (some ts) n ≡ another n
counts-line c [] n m = absurd (no-conj c m)
counts-line c (t ∷ ts) n m = refl

spelt-many : {ks : List Conj} {ls : List (List ℕ)} → Lines ks ls → survey_of ls ≡ some (length ks)
unfolding survey_of
spelt-many no_line = refl
spelt-many (blank {ks} {l} {ls} e d) = ap (λ o. counts o (survey_of ls)) e ∙ spelt-many d
spelt-many (line {k} {ks} {l} {ls} {ts} e m d) = ap (λ o. counts o (survey_of ls)) e ∙ counts-line k ts (survey_of ls) m ∙ ap another (spelt-many d)

-- a text that is not made of tokens is not of the grammar
pub not-tokens : (L : Limits) (room : ℕ) (text : List ℕ) {v : std.Option ℕ} → Surveyed text v → v ≡ None → reads_text L room text ≡ denies NotText
not-tokens L room text {v} s f = seventeen L room text (λ ks d. let e = spelt-many d in let g = s.bad f in let z : ◌≡◌ {A = ℕ} 0 1 = cc in omega arith)

-- ---- one of seven tests fails

right : (a b : Bool) → b ≡ false → (a && b) ≡ false
right true b e = e
right false b e = refl

module _ (a b c d e f g : Bool) where
  at2 : b ≡ false → (a && b && c && d && e && f && g) ≡ false
  at2 p = ap (λ x. x && c && d && e && f && g) (right a b p)

  at4 : d ≡ false → (a && b && c && d && e && f && g) ≡ false
  at4 p = ap (λ x. x && e && f && g) (right (a && b && c) d p)

  at5 : e ≡ false → (a && b && c && d && e && f && g) ≡ false
  at5 p = ap (λ x. x && f && g) (right (a && b && c && d) e p)

  at6 : f ≡ false → (a && b && c && d && e && f && g) ≡ false
  at6 p = ap (λ x. x && g) (right (a && b && c && d && e) f p)

  at7 : g ≡ false → (a && b && c && d && e && f && g) ≡ false
  at7 p = right (a && b && c && d && e && f) g p

-- ---- names: the shelves are the tables, where none is too full

module _ (L : Limits) (text names₀ names : List ℕ) (z : (c : Class) → get_or names₀ (shelf_of L c) 0 ≡ 0) (t : Taken L text names₀ names) (ks : List Conj) (d : Lines ks (lines_of text)) where
  empty-shelf : (c : Class) → listed text names₀ (shelf_of L c) ≡ []
  unfolding listed
  empty-shelf c = ap (λ n. map (name_at text) (between (shelf_of L c + 1) (shelf_of L c + 1 + n) names₀)) (z c) ∙ ap (λ n. map (name_at text) (take n (drop (shelf_of L c + 1) names₀))) (let y : shelf_of L c + 1 + 0 - (shelf_of L c + 1) ≡ 0 = omega arith in y)

  shelf : (c : Class) → listed text names (shelf_of L c) ≡ enter_all L [] (in_all c ks)
  shelf c = t.each ks d c ∙ ap (λ l. enter_all L l (in_all c ks)) (empty-shelf c)

  shelf-length : (c : Class) → length (listed text names (shelf_of L c)) ≡ get_or names (shelf_of L c) 0
  unfolding listed
  shelf-length c =
      let s = t.shelves c in
      let w = s.within in
      let f = s.few in
      length-map (between (shelf_of L c + 1) (shelf_of L c + 1 + get_or names (shelf_of L c) 0) names) (name_at text)
      ∙ length-between (shelf_of L c + 1) (shelf_of L c + 1 + get_or names (shelf_of L c) 0) names (omega arith)
      ∙ (let y : shelf_of L c + 1 + get_or names (shelf_of L c) 0 - (shelf_of L c + 1) ≡ get_or names (shelf_of L c) 0 = omega arith in y)

  full : (c : Class) → L.each < get_or names (shelf_of L c) 0 → L.each < length (table ks c)
  unfolding table
  full c p = too_many L (in_all c ks) (subst (λ n. L.each < n) (sym (shelf-length c) ∙ ap length (shelf c)) p)

  all-names : (c : Class) → get_or names (shelf_of L c) 0 ≤ L.each → listed text names (shelf_of L c) ≡ table ks c
  unfolding table
  all-names c p = shelf c ∙ all-of-them L (in_all c ks) (subst (λ n. n ≤ L.each) (sym (shelf-length c) ∙ ap length (shelf c)) p)

  -- the counts of a class
  count-is : (c : Class) → get_or names (shelf_of L c) 0 ≤ L.each → get_or names (shelf_of L c) 0 ≡ length (table ks c)
  count-is c p = sym (shelf-length c) ∙ ap length (all-names c p)

  one-least : (n : ℕ) → one_at_least n ≡ at_least_one n
  one-least zero = refl
  one-least (suc n) = refl

  least_more : (n m : ℕ) → n < m → n < at_least_one m
  least_more n zero p = absurd (omega arith)
  least_more n (suc m) p = p

  -- 18
  too-full : many_of L names (length ks) ≡ true → counts_fit L (counts_in ks) (length ks) ≡ false
  unfolding many_of counts_fit counts_in
  too-full e = on (ltb L.each (get_or names 0 0)) refl (ltb L.each (get_or names (width L) 0)) refl (ltb L.each (get_or names (2 * width L) 0)) refl (ltb L.each (get_or names (3 * width L) 0)) refl (ltb L.alternatives (length ks)) refl e
    where
      over : (n : ℕ) → L.each < n → leb n L.each ≡ false
      over n p = lt-leb n L.each p

      on : (a : Bool) → ltb L.each (get_or names 0 0) ≡ a → (b : Bool) → ltb L.each (get_or names (width L) 0) ≡ b → (c : Bool) → ltb L.each (get_or names (2 * width L) 0) ≡ c
          → (f : Bool) → ltb L.each (get_or names (3 * width L) 0) ≡ f → (g : Bool) → ltb L.alternatives (length ks) ≡ g → (a || (b || (c || (f || g)))) ≡ true
          → (leb 1 (at_least_one (length (table ks symbols))) && leb (at_least_one (length (table ks symbols))) L.each && leb 0 (at_least_one (length (table ks symbols))) && leb (length (table ks terms)) L.each && leb (length (table ks hedges)) L.each && leb (length (table ks functions)) L.each && leb (length ks) L.alternatives) ≡ false
      on true p b q c r f s g u e = at4 (leb 1 (at_least_one (length (table ks symbols)))) (leb (at_least_one (length (table ks symbols))) L.each) (leb 0 (at_least_one (length (table ks symbols)))) (leb (length (table ks terms)) L.each) (leb (length (table ks hedges)) L.each) (leb (length (table ks functions)) L.each) (leb (length ks) L.alternatives) (over (length (table ks terms)) (full terms (ltb-true L.each (get_or names 0 0) p)))
      on false p true q c r f s g u e = at5 (leb 1 (at_least_one (length (table ks symbols)))) (leb (at_least_one (length (table ks symbols))) L.each) (leb 0 (at_least_one (length (table ks symbols)))) (leb (length (table ks terms)) L.each) (leb (length (table ks hedges)) L.each) (leb (length (table ks functions)) L.each) (leb (length ks) L.alternatives) (over (length (table ks hedges)) (full hedges (ltb-true L.each (get_or names (width L) 0) q)))
      on false p false q true r f s g u e = at2 (leb 1 (at_least_one (length (table ks symbols)))) (leb (at_least_one (length (table ks symbols))) L.each) (leb 0 (at_least_one (length (table ks symbols)))) (leb (length (table ks terms)) L.each) (leb (length (table ks hedges)) L.each) (leb (length (table ks functions)) L.each) (leb (length ks) L.alternatives) (over (at_least_one (length (table ks symbols))) (least_more L.each (length (table ks symbols)) (full symbols (ltb-true L.each (get_or names (2 * width L) 0) r))))
      on false p false q false r true s g u e = at6 (leb 1 (at_least_one (length (table ks symbols)))) (leb (at_least_one (length (table ks symbols))) L.each) (leb 0 (at_least_one (length (table ks symbols)))) (leb (length (table ks terms)) L.each) (leb (length (table ks hedges)) L.each) (leb (length (table ks functions)) L.each) (leb (length ks) L.alternatives) (over (length (table ks functions)) (full functions (ltb-true L.each (get_or names (3 * width L) 0) s)))
      on false p false q false r false s true u e = at7 (leb 1 (at_least_one (length (table ks symbols)))) (leb (at_least_one (length (table ks symbols))) L.each) (leb 0 (at_least_one (length (table ks symbols)))) (leb (length (table ks terms)) L.each) (leb (length (table ks hedges)) L.each) (leb (length (table ks functions)) L.each) (leb (length ks) L.alternatives) (lt-leb (length ks) L.alternatives (ltb-true L.alternatives (length ks) u))
      on false p false q false r false s false u e = absurd (let y : ◌≡◌ {A = ℕ} 0 1 = cc in omega arith)

  module _ (e : many_of L names (length ks) ≡ false) where
    none-full : ((c : Class) → get_or names (shelf_of L c) 0 ≤ L.each) × (length ks ≤ L.alternatives)
    unfolding many_of
    none-full = on (ltb L.each (get_or names 0 0)) refl (ltb L.each (get_or names (width L) 0)) refl (ltb L.each (get_or names (2 * width L) 0)) refl (ltb L.each (get_or names (3 * width L) 0)) refl (ltb L.alternatives (length ks)) refl e
      where
        each : get_or names 0 0 ≤ L.each → get_or names (width L) 0 ≤ L.each → get_or names (2 * width L) 0 ≤ L.each → get_or names (3 * width L) 0 ≤ L.each → (c : Class) → get_or names (shelf_of L c) 0 ≤ L.each
        each a b c d terms = a
        each a b c d hedges = b
        each a b c d symbols = c
        each a b c d functions = d

        on : (a : Bool) → ltb L.each (get_or names 0 0) ≡ a → (b : Bool) → ltb L.each (get_or names (width L) 0) ≡ b → (c : Bool) → ltb L.each (get_or names (2 * width L) 0) ≡ c
            → (f : Bool) → ltb L.each (get_or names (3 * width L) 0) ≡ f → (g : Bool) → ltb L.alternatives (length ks) ≡ g → (a || (b || (c || (f || g)))) ≡ false
            → ((c : Class) → get_or names (shelf_of L c) 0 ≤ L.each) × (length ks ≤ L.alternatives)
        on true p b q c r f s g u e = absurd (let y : ◌≡◌ {A = ℕ} 0 1 = cc in omega arith)
        on false p true q c r f s g u e = absurd (let y : ◌≡◌ {A = ℕ} 0 1 = cc in omega arith)
        on false p false q true r f s g u e = absurd (let y : ◌≡◌ {A = ℕ} 0 1 = cc in omega arith)
        on false p false q false r true s g u e = absurd (let y : ◌≡◌ {A = ℕ} 0 1 = cc in omega arith)
        on false p false q false r false s true u e = absurd (let y : ◌≡◌ {A = ℕ} 0 1 = cc in omega arith)
        on false p false q false r false s false u e = (each (ltb-false _ _ p) (ltb-false _ _ q) (ltb-false _ _ r) (ltb-false _ _ s), ltb-false _ _ u)

    least-few : (n m : ℕ) → n ≤ m → 1 ≤ m → at_least_one n ≤ m
    least-few zero m p q = q
    least-few (suc n) m p q = p

    least-one : (n : ℕ) → 1 ≤ at_least_one n
    least-one zero = omega arith
    least-one (suc n) = omega arith

    counts-fit : 1 ≤ L.each → counts_fit L (counts_in ks) (length ks) ≡ true
    unfolding counts_fit counts_in
    counts-fit one =
        let f = none-full in
        let w : (c : Class) → length (table ks c) ≤ L.each = λ c. subst (λ n. n ≤ L.each) (count-is c (f.0 c)) (f.0 c) in
        ap₂ ◌&&◌ (ap₂ ◌&&◌ (ap₂ ◌&&◌ (ap₂ ◌&&◌ (ap₂ ◌&&◌ (ap₂ ◌&&◌
        (le-leb 1 (at_least_one (length (table ks symbols))) (least-one (length (table ks symbols))))
        (le-leb (at_least_one (length (table ks symbols))) L.each (least-few (length (table ks symbols)) L.each (w symbols) one)))
        (le-leb 0 (at_least_one (length (table ks symbols))) (omega arith)))
        (le-leb (length (table ks terms)) L.each (w terms)))
        (le-leb (length (table ks hedges)) L.each (w hedges)))
        (le-leb (length (table ks functions)) L.each (w functions)))
        (le-leb (length ks) L.alternatives f.1)

    same_numbers : numbering L text names ≡ (λ (c : Class) (n : ℕ). place n (table ks c))
    unfolding numbering
    same_numbers = fun_ext (λ c. fun_ext (λ n. ap (place n) (all-names c (none-full.0 c))))

    numbered-so : name_all (numbering L text names) ks ≡ numbered ks
    unfolding numbered
    numbered-so = ap (λ ρ. name_all ρ ks) same_numbers

    words-so : words_of (numbering L text names) ks ≡ map conj_words (numbered ks)
    words-so = ap (map conj_words) numbered-so

-- ---- the words, laid one behind the other

header-first : (l x : List ℕ) (a b c d e f : ℕ) → sets (sets l 6 x) 0 (a ∷ b ∷ c ∷ d ∷ e ∷ f ∷ []) ≡ sets (sets l 0 (a ∷ b ∷ c ∷ d ∷ e ∷ f ∷ [])) 6 x
header-first l x a b c d e f =
    ap (λ r. set (set (set (set (set r 1 b) 2 c) 3 d) 4 e) 5 f) (set_before l x 6 0 a (omega arith))
    ∙ ap (λ r. set (set (set (set r 2 c) 3 d) 4 e) 5 f) (set_before (set l 0 a) x 6 1 b (omega arith))
    ∙ ap (λ r. set (set (set r 3 d) 4 e) 5 f) (set_before (set (set l 0 a) 1 b) x 6 2 c (omega arith))
    ∙ ap (λ r. set (set r 4 e) 5 f) (set_before (set (set (set l 0 a) 1 b) 2 c) x 6 3 d (omega arith))
    ∙ ap (λ r. set r 5 f) (set_before (set (set (set (set l 0 a) 1 b) 2 c) 3 d) x 6 4 e (omega arith))
    ∙ set_before (set (set (set (set (set l 0 a) 1 b) 2 c) 3 d) 4 e) x 6 5 f (omega arith)

all_laid : (l ends js : List ℕ) (a b c d e f first : ℕ) → first ≡ 6 + length ends → first + length js ≤ length l
    → take (first + length js) (sets (sets (sets l 6 ends) first js) 0 (a ∷ b ∷ c ∷ d ∷ e ∷ f ∷ [])) ≡ a ∷ b ∷ c ∷ d ∷ e ∷ f ∷ (ends ++ js)
all_laid l ends js a b c d e f first p q =
    let x = ends ++ js in
    let lx = length-append ends js in
    let one : sets (sets (sets l 6 ends) first js) 0 (a ∷ b ∷ c ∷ d ∷ e ∷ f ∷ []) ≡ sets l 0 (a ∷ b ∷ c ∷ d ∷ e ∷ f ∷ x) =
    ap (λ n. sets (sets (sets l 6 ends) n js) 0 (a ∷ b ∷ c ∷ d ∷ e ∷ f ∷ [])) p
    ∙ ap (λ r. sets r 0 (a ∷ b ∷ c ∷ d ∷ e ∷ f ∷ [])) (sets-++ l 6 ends js)
    ∙ header-first l x a b c d e f
    ∙ sets-++ l 0 (a ∷ b ∷ c ∷ d ∷ e ∷ f ∷ []) x in
    let two = sets-eq (a ∷ b ∷ c ∷ d ∷ e ∷ f ∷ x) l 0 (omega arith) in
    ap₂ take (let y : first + length js ≡ length (a ∷ b ∷ c ∷ d ∷ e ∷ f ∷ x) = omega arith in y) (one ∙ two)
    ∙ take-append_seam (a ∷ b ∷ c ∷ d ∷ e ∷ f ∷ x) (drop (0 + length (a ∷ b ∷ c ∷ d ∷ e ∷ f ∷ x)) l)

length-named : (σ : Naming) (ks : List Conj) → length (name_all σ ks) ≡ length ks
length-named σ [] = refl
length-named σ (k ∷ ks) = ap suc (length-named σ ks)

one_more : (n : ℕ) → one_at_least n ≡ at_least_one n
one_more zero = refl
one_more (suc n) = refl

-- ---- the whole

module _ (L : Limits) (one : 1 ≤ L.each) (text names₀ names zeros : List ℕ) (room : ℕ) {v : std.Option ℕ} (s : Surveyed text v) {many : ℕ} (o : v ≡ Some many) {w : std.Option ℕ} {words' : List ℕ}
    (b : ReadBody (numbering L text names) text zeros (first_of L many) w words') (z : (c : Class) → get_or names₀ (shelf_of L c) 0 ≡ 0) (t : Taken L text names₀ names) where
  pub not-lines : w ≡ None → reads_text L room text ≡ denies NotText
  not-lines f = seventeen L room text (λ ks d. b.bad f ks d)

  module _ {size : ℕ} (f : w ≡ Some size) where
    trees : (ks : List Conj) × Lines ks (lines_of text) × Body (numbering L text names) zeros (first_of L many) ks size words'
    trees = b.good size f

    abbrev ks : List Conj
    ks = trees.0

    how-many : many ≡ length trees.0
    how-many = same (s.good many o) (spelt-many trees.1)
      where
        same : {x : Option ℕ} {n m : ℕ} → x ≡ some n → x ≡ some m → n ≡ m
        same e g = cc

    module _ {m : Bool} (e : m ≡ many_of L names many) where
      manyof : many_of L names many ≡ many_of L names (length trees.0)
      manyof = ap (many_of L names) how-many

      pub many-names : m ≡ true → reads_text L room text ≡ denies ManyNames
      unfolding counted
      many-names g =
          not-seventeen L room text trees.0 trees.1
          ∙ ap (λ x. pick x (fitted L.question room (question_words (counts_in trees.0) (numbered trees.0))) (denies ManyNames)) (too-full L text names₀ names z t trees.0 trees.1 (sym manyof ∙ sym e ∙ g))

      module _ (g : m ≡ false) where
        few : many_of L names (length trees.0) ≡ false
        few = sym manyof ∙ sym e ∙ g

        within : reads_text L room text ≡ fitted L.question room (question_words (counts_in trees.0) (numbered trees.0))
        unfolding counted
        within =
            not-seventeen L room text trees.0 trees.1
            ∙ ap (λ x. pick x (fitted L.question room (question_words (counts_in trees.0) (numbered trees.0))) (denies ManyNames)) (counts-fit L text names₀ names z t trees.0 trees.1 few one)

        lines-few : length trees.0 ≤ L.alternatives
        lines-few = (none-full L text names₀ names z t trees.0 trees.1 few).1

        first-is : first_of L many ≡ 6 + length trees.0
        first-is = let h = how-many in let l = lines-few in omega arith

        js : List ℕ
        js = joined (words_of (numbering L text names) trees.0)

        words_are : question_words (counts_in trees.0) (numbered trees.0)
            ≡ one_at_least (get_or names (2 * width L) 0) ∷ get_or names 0 0 ∷ get_or names (width L) 0 ∷ get_or names (3 * width L) 0 ∷ many ∷ (6 + many) ∷ (ends_of (first_of L many) (words_of (numbering L text names) trees.0) ++ joined (words_of (numbering L text names) trees.0))
        unfolding question_words counts_in numbered
        words_are =
            let nf = (none-full L text names₀ names z t trees.0 trees.1 few).0 in
            let ci : (c : Class) → get_or names (shelf_of L c) 0 ≡ length (table trees.0 c) = λ c. count-is L text names₀ names z t trees.0 trees.1 c (nf c) in
            let wo = words-so L text names₀ names z t trees.0 trees.1 few in
            let wss = words_of (numbering L text names) trees.0 in
            let ln : length (numbered trees.0) ≡ many = length-named (λ c n. place n (table trees.0 c)) trees.0 ∙ sym how-many in
            let fi : first_of L many ≡ 6 + many = first-is ∙ ap (λ n. 6 + n) (sym how-many) in
            ap₂ (λ a b. a ∷ b ∷ length (table trees.0 hedges) ∷ length (table trees.0 functions) ∷ length (numbered trees.0) ∷ (offsets_of (6 + length (numbered trees.0)) (map conj_words (numbered trees.0)) ++ joined (map conj_words (numbered trees.0))))
            (plain (at_least_one (length (table trees.0 symbols))) ∙ sym (one_more (get_or names (2 * width L) 0) ∙ ap at_least_one (ci symbols))) (sym (ci terms))
            ∙ ap₂ (λ a b. one_at_least (get_or names (2 * width L) 0) ∷ get_or names 0 0 ∷ a ∷ b ∷ length (numbered trees.0) ∷ (offsets_of (6 + length (numbered trees.0)) (map conj_words (numbered trees.0)) ++ joined (map conj_words (numbered trees.0)))) (sym (ci hedges)) (sym (ci functions))
            ∙ ap₂ (λ n l. one_at_least (get_or names (2 * width L) 0) ∷ get_or names 0 0 ∷ get_or names (width L) 0 ∷ get_or names (3 * width L) 0 ∷ n ∷ (offsets_of (6 + n) l ++ joined l)) ln (sym wo)
            ∙ ap (λ l. one_at_least (get_or names (2 * width L) 0) ∷ get_or names 0 0 ∷ get_or names (width L) 0 ∷ get_or names (3 * width L) 0 ∷ many ∷ (l ++ joined wss)) (sym (ends-offsets (6 + many) wss))
            ∙ ap (λ n. one_at_least (get_or names (2 * width L) 0) ∷ get_or names 0 0 ∷ get_or names (width L) 0 ∷ get_or names (3 * width L) 0 ∷ many ∷ (6 + many) ∷ (ends_of n wss ++ joined wss)) (sym fi)
          where
            plain : (n : ℕ) → n + 256 * 0 ≡ n
            plain n = omega arith

        long-is : length (question_words (counts_in trees.0) (numbered trees.0)) ≡ first_of L many + length js
        unfolding js
        long-is =
            let le = length-ends (first_of L many) (words_of (numbering L text names) trees.0) in
            let lw = length-words (numbering L text names) trees.0 in
            let la = length-append (ends_of (first_of L many) (words_of (numbering L text names) trees.0)) (joined (words_of (numbering L text names) trees.0)) in
            let lq = ap length words_are in
            let fi = first-is in
            omega arith

        module _ (lz : length zeros ≡ L.question + 1) where
          placed : size ≡ min (L.question + 1) (length (question_words (counts_in trees.0) (numbered trees.0)))
          unfolding js
          placed = trees.2.place ∙ ap₂ min lz (sym long-is)

          pub long-words : L.question < size → reads_text L room text ≡ denies LongText
          unfolding fitted
          long-words p = within ∙ ap (λ x. pick (x && leb (length (question_words (counts_in trees.0) (numbered trees.0))) room) (gives (question_words (counts_in trees.0) (numbered trees.0))) (denies LongText)) (lt-leb (length (question_words (counts_in trees.0) (numbered trees.0))) L.question (let q = placed in omega arith))

          module _ (p : size ≤ L.question) where
            exact : length (question_words (counts_in trees.0) (numbered trees.0)) ≡ size
            exact = let q = placed in omega arith

            short-enough : leb (length (question_words (counts_in trees.0) (numbered trees.0))) L.question ≡ true
            short-enough = le-leb (length (question_words (counts_in trees.0) (numbered trees.0))) L.question (let q = exact in omega arith)

            pub long-room : room < size → reads_text L room text ≡ denies LongText
            unfolding fitted
            long-room q =
                within
                ∙ ap₂ (λ x y. pick (x && y) (gives (question_words (counts_in trees.0) (numbered trees.0))) (denies LongText)) short-enough (lt-leb (length (question_words (counts_in trees.0) (numbered trees.0))) room (let r = exact in omega arith))

            pub all_words : size ≤ room → {words'' : List ℕ} → words'' ≡ sets words' 0 (header_of L names many) → (reads_text L room text ≡ gives (take size words'')) × (length (take size words'') ≡ size)
            unfolding fitted js
            all_words q {words''} h =
                let ex = exact in
                let li = long-is in
                let fi = first-is in
                let lw = length-words (numbering L text names) trees.0 in
                let le = length-ends (first_of L many) (words_of (numbering L text names) trees.0) in
                let bw = trees.2.words (omega arith) (omega arith) in
                let tk : take size words'' ≡ question_words (counts_in trees.0) (numbered trees.0) =
                ap₂ take (sym ex ∙ li) (h ∙ ap (λ r. sets r 0 (header_of L names many)) bw)
                ∙ all_laid zeros (ends_of (first_of L many) (words_of (numbering L text names) trees.0)) (joined (words_of (numbering L text names) trees.0)) _ _ _ _ _ _ (first_of L many) (omega arith) (omega arith)
                ∙ sym words_are in (
                  within
                      ∙ ap₂ (λ x y. pick (x && y) (gives (question_words (counts_in trees.0) (numbered trees.0))) (denies LongText)) short-enough (le-leb (length (question_words (counts_in trees.0) (numbered trees.0))) room (omega arith))
                      ∙ ap gives (sym tk),
                  ap length tk ∙ ex,
                )
