-- Writing and reading back gives the same question words.
use Prim.Native.Nat.{ℕ, zero, suc, ◌+◌, ◌-◌, ◌*◌, ◌/◌, ◌%◌, ◌<◌, ◌≤◌}
use native.Mathlib.Omega.{arith}
use mathlib.Core.Path.{◌≡◌, refl, sym, ap, ap₂, ◌∙◌}
use mathlib.Core.Bool.{Bool, true, false, ◌&&◌}
use mathlib.Core.List.{List, [], ◌∷◌, ◌++◌, map}
use mathlib.Core.Option.{Option, none, some}
use lib.Dec.{leb}
use lib.ListN.{length, take, drop, get_or, length-take, length-drop, take-append-drop, length-map}
use lib.Seq.{drop-drop}
use borrow.Author.Tests.{leb-true, le-leb, eqb-true}
use Rattle.language.specs.declared.Refusal.{Refusal}
use Rattle.language.specs.declared.Refusal.TheVariants.{NotText, ManyNames, LongText, OtherNumbers}
use Rattle.language.specs.Limits.{Limits}
use Rattle.language.specs.Kinds.{pick}
use Rattle.language.specs.Trees.{Conj, Counts, Question}
use Rattle.language.specs.Writing.{conj_words}
use Rattle.language.specs.Question.{rising, laid_out, parts_from, parts, alternatives_of, counts_fit, Asked, asks, refuses, read_question}
use Rattle.language.specs.Between.{between}
use Rattle.language.proofs.Bools.{both_true}
use Rattle.language.proofs.Offsets.{between_cons, rising_le, laid-length, laid-begins, laid-rises, parts-start}
use Rattle.language.proofs.Alternatives.{fine_all, all_words, read-all, parts_join}
use Rattle.language.proofs.Asking.{passed, ranges, how-many}
use Rattle.meaning.specs.Values.{joined, offsets_of}
use Rattle.texts.specs.Texts.{parse}
use Rattle.texts.specs.Numbering.{Class, symbols, terms, hedges, functions, in_all, name_all, entered, table, numbered, in_order, at_least_one, counts_in}
use Rattle.texts.specs.Writer.{plain, all_text}
use Rattle.texts.specs.Outcomes.{Outcome, gives, denies, question_words, fitted, counted, reads_text, count_is, symbols_are, as_read, lent, writes_text}
use Rattle.texts.proofs.Readings.{text-read}
use Rattle.texts.proofs.Tables.{All, all_map, in_order_lem, entered-other, length-up_to}
use Rattle.texts.proofs.Numbers.{map-all, other-names, kept}
use Rattle.texts.proofs.Lexing.{plain-names}
use Rattle.texts.proofs.Writing as Writing

-- ---- a question's words are those of its counts and alternatives

offsets-of : (from : ℕ) (os ws : List ℕ) → rising from os (length ws) ≡ true → from ∷ os ≡ offsets_of from (parts_from from os (drop from ws))
offsets-of from [] ws e = refl
offsets-of from (to ∷ os) ws e =
    let s = both_true (leb from to) (rising to os (length ws)) e in
    let p = leb-true from to s.0 in
    let q = rising_le to os (length ws) s.1 in
    let l : from + length (take (to - from) (drop from ws)) ≡ to = simp (length-take, length-drop) (omega arith) in
    let b : drop (to - from) (drop from ws) ≡ drop to ws = drop-drop (to - from) from ws ∙ ap (λ n. drop n ws) (let z : from + (to - from) ≡ to = omega arith in z) in
    ap (λ z. from ∷ z) (offsets-of to os ws s.1 ∙ ap (λ v. offsets_of to (parts_from to os v)) (sym b) ∙ ap (λ n. offsets_of n (parts_from to os (drop (to - from) (drop from ws)))) (sym l))

five : (ws : List ℕ) → 5 ≤ length ws → ws ≡ get_or ws 0 0 ∷ get_or ws 1 0 ∷ get_or ws 2 0 ∷ get_or ws 3 0 ∷ get_or ws 4 0 ∷ drop 5 ws
five [] p = absurd (omega arith)
five (a ∷ []) p = absurd (omega arith)
five (a ∷ b ∷ []) p = absurd (omega arith)
five (a ∷ b ∷ c ∷ []) p = absurd (omega arith)
five (a ∷ b ∷ c ∷ d ∷ []) p = absurd (omega arith)
five (a ∷ b ∷ c ∷ d ∷ e ∷ ws) p = refl

joined-all : (wss : List (List ℕ)) → all_words wss ≡ joined wss
joined-all [] = refl
joined-all (ws ∷ wss) = ap (λ z. ws ++ z) (joined-all wss)

module _ (L : Limits) (ws : List ℕ) (q : Question) (e : read_question L ws ≡ asks q) where
  laid : laid_out 5 (alternatives_of ws) ws ≡ true
  laid = (passed L ws q e).laid_out

  read : fine_all L q.alternatives × (parts 5 (alternatives_of ws) ws ≡ map conj_words q.alternatives)
  read = read-all L (parts 5 (alternatives_of ws) ws) q.alternatives (passed L ws q e).words (passed L ws q e).read

  behind-counts : drop 5 ws ≡ offsets_of (6 + alternatives_of ws) (parts 5 (alternatives_of ws) ws) ++ joined (parts 5 (alternatives_of ws) ws)
  behind-counts =
      let n = alternatives_of ws in
      let from : 5 + n + 1 ≡ 6 + n = omega arith in
      let rises = laid-rises 5 n ws laid in
      let start = parts-start 5 n ws laid in
      let head : between 5 (5 + n + 1) ws ≡ offsets_of (5 + n + 1) (parts 5 n ws) =
      between_cons 5 (5 + n + 1) ws (omega arith) (laid-length 5 n ws laid)
      ∙ ap (λ o. o ∷ between 6 (5 + n + 1) ws) (laid-begins 5 n ws laid)
      ∙ offsets-of (5 + n + 1) (between 6 (5 + n + 1) ws) ws rises
      ∙ ap (offsets_of (5 + n + 1)) (sym start) in
      let tail : drop (5 + n + 1 - 5) (drop 5 ws) ≡ joined (parts 5 n ws) =
      drop-drop (5 + n + 1 - 5) 5 ws
      ∙ ap (λ m. drop m ws) (let z : 5 + (5 + n + 1 - 5) ≡ 5 + n + 1 = omega arith in z)
      ∙ sym (parts_join (5 + n + 1) (between 6 (5 + n + 1) ws) ws rises) ∙ ap all_words (sym start) ∙ joined-all (parts 5 n ws) in
      sym (take-append-drop (5 + n + 1 - 5) (drop 5 ws))
      ∙ ap₂ ◌++◌ head tail
      ∙ ap (λ m. offsets_of m (parts 5 n ws) ++ joined (parts 5 n ws)) from

  pub question-words : question_words q.counts q.alternatives ≡ ws
  unfolding question_words
  question-words =
      let r = ranges L ws q e in
      let l = r.long in
      let c = (passed L ws q e).counts in
      let m = how-many L ws q e in
      sym (five ws (omega arith)
      ∙ ap (λ z. get_or ws 0 0 ∷ get_or ws 1 0 ∷ get_or ws 2 0 ∷ get_or ws 3 0 ∷ get_or ws 4 0 ∷ z) (behind-counts ∙ ap (λ ps. offsets_of (6 + alternatives_of ws) ps ++ joined ps) read.1)
      ∙ ap (λ w. w ∷ get_or ws 1 0 ∷ get_or ws 2 0 ∷ get_or ws 3 0 ∷ alternatives_of ws ∷ (offsets_of (6 + alternatives_of ws) (map conj_words q.alternatives) ++ joined (map conj_words q.alternatives))) (let z : get_or ws 0 0 ≡ get_or ws 0 0 % 256 + 256 * (get_or ws 0 0 / 256) = omega arith in z)
      ∙ ap (λ n. (n.symbols + 256 * n.unordered) ∷ n.terms ∷ n.hedges ∷ n.functions ∷ alternatives_of ws ∷ (offsets_of (6 + alternatives_of ws) (map conj_words q.alternatives) ++ joined (map conj_words q.alternatives))) (sym c)
      ∙ ap (λ n. (q.counts.symbols + 256 * q.counts.unordered) ∷ q.counts.terms ∷ q.counts.hedges ∷ q.counts.functions ∷ n ∷ (offsets_of (6 + n) (map conj_words q.alternatives) ++ joined (map conj_words q.alternatives))) (sym m))

-- ---- numbered and counted as read

clash : {A : Type 0} → false ≡ true → A
clash e = absurd (let z : ◌≡◌ {A = ℕ} 0 1 = cc in omega arith)

count-is : (o : Option ℕ) (n : ℕ) → count_is o n ≡ true → o ≡ some n
count-is none n e = clash e
count-is (some m) n e = ap some (eqb-true m n e)

symbols-are : (o : Option ℕ) (n : ℕ) → symbols_are o n ≡ true → (m : ℕ) × (o ≡ some m) × (at_least_one m ≡ n)
symbols-are none n e = clash e
symbols-are (some m) n e = (m, refl, eqb-true (at_least_one m) n e)

at_least : (m : ℕ) → m ≤ at_least_one m
at_least zero = omega arith
at_least (suc m) = omega arith

pub record InOrder (q : Question) : Type 0 where
  pub many : Class → ℕ
  pub order : (c : Class) → in_order 0 (in_all c q.alternatives) ≡ some (many c)
  pub ordered : 0 ≡ q.counts.unordered
  pub symbol : at_least_one (many symbols) ≡ q.counts.symbols
  pub term : many terms ≡ q.counts.terms
  pub hedge : many hedges ≡ q.counts.hedges
  pub function : many functions ≡ q.counts.functions

pub as_read_lem : (q : Question) → as_read q ≡ true → InOrder q
unfolding as_read
as_read_lem q e =
    let o = both_true _ _ e in
    let a = both_true _ _ o.1 in
    let b = both_true _ _ a.1 in
    let c = both_true _ _ b.1 in
    let s = symbols-are (in_order 0 (in_all symbols q.alternatives)) q.counts.symbols a.0 in
    record {
      many = many s.0;
      order = order s.0 s.1 (count-is _ q.counts.terms b.0) (count-is _ q.counts.hedges c.0) (count-is _ q.counts.functions c.1);
      ordered = sym (eqb-true q.counts.unordered 0 o.0);
      symbol = s.2;
      term = refl;
      hedge = refl;
      function = refl;
    }
  where
    many : ℕ → Class → ℕ
    many s symbols = s
    many s terms = q.counts.terms
    many s hedges = q.counts.hedges
    many s functions = q.counts.functions

    order : (s : ℕ) → in_order 0 (in_all symbols q.alternatives) ≡ some s → in_order 0 (in_all terms q.alternatives) ≡ some q.counts.terms
        → in_order 0 (in_all hedges q.alternatives) ≡ some q.counts.hedges → in_order 0 (in_all functions q.alternatives) ≡ some q.counts.functions
        → (c : Class) → in_order 0 (in_all c q.alternatives) ≡ some (many s c)
    order s a b c d symbols = a
    order s a b c d terms = b
    order s a b c d hedges = c
    order s a b c d functions = d

length-names : (ks : List Conj) → length (name_all plain ks) ≡ length ks
length-names [] = refl
length-names (k ∷ ks) = ap suc (length-names ks)

abbrev counts_as : ℕ → ℕ → ℕ → ℕ → ℕ → Counts
counts_as u a b c d = record { symbols = a; unordered = u; terms = b; hedges = c; functions = d }

module _ (L : Limits) (ws : List ℕ) (q : Question) (e : read_question L ws ≡ asks q) (i : InOrder q) where
  few : (c : Class) → i.many c ≤ 1000
  few symbols = let r = ranges L ws q e in let s = r.symbols in let m = at_least (i.many symbols) in let a = L.apart in let p = ap (λ n. n.symbols) (passed L ws q e).counts in let d = i.symbol in omega arith
  few terms = let r = ranges L ws q e in let s = r.terms in let a = L.apart in let p = ap (λ n. n.terms) (passed L ws q e).counts in let d = i.term in omega arith
  few hedges = let r = ranges L ws q e in let s = r.hedges in let a = L.apart in let p = ap (λ n. n.hedges) (passed L ws q e).counts in let d = i.hedge in omega arith
  few functions = let r = ranges L ws q e in let s = r.functions in let a = L.apart in let p = ap (λ n. n.functions) (passed L ws q e).counts in let d = i.function in omega arith

  below : (c : Class) → All (λ n. n < 1000) (in_all c q.alternatives)
  below c = all_map (λ n. n < i.many c) (λ n. n < 1000) (in_all c q.alternatives) (λ n p. let f = few c in omega arith) (in_order_lem 0 (i.many c) (in_all c q.alternatives) (i.order c)).2

  numbers-back : numbered (name_all plain q.alternatives) ≡ q.alternatives
  numbers-back = other-names 1000 plain plain-names q.alternatives below ∙ kept i.many q.alternatives i.order

  table-length : (c : Class) → length (table (name_all plain q.alternatives) c) ≡ i.many c
  unfolding table
  table-length c =
      ap (λ l. length (entered [] l)) (map-all plain c q.alternatives)
      ∙ ap length (entered-other 1000 (plain c) (plain-names c) [] (in_all c q.alternatives) tt (below c)).0
      ∙ length-map (entered [] (in_all c q.alternatives)) (plain c)
      ∙ ap length (in_order_lem 0 (i.many c) (in_all c q.alternatives) (i.order c)).0
      ∙ length-up_to (i.many c)

  counts-back : counts_in (name_all plain q.alternatives) ≡ q.counts
  unfolding counts_in
  counts-back =
      ap₂ (λ a b. counts_as 0 a b (length (table (name_all plain q.alternatives) hedges)) (length (table (name_all plain q.alternatives) functions)))
      (ap at_least_one (table-length symbols) ∙ i.symbol) (table-length terms ∙ i.term)
      ∙ ap₂ (λ a b. counts_as 0 q.counts.symbols q.counts.terms a b) (table-length hedges ∙ i.hedge) (table-length functions ∙ i.function)
      ∙ ap (λ u. counts_as u q.counts.symbols q.counts.terms q.counts.hedges q.counts.functions) i.ordered

  parsed : parse (all_text q.alternatives) ≡ some (name_all plain q.alternatives)
  parsed = text-read (all_text q.alternatives) (name_all plain q.alternatives) (Writing.written L q.alternatives (read L ws q e).0)

  fits : counts_fit L (counts_in (name_all plain q.alternatives)) (length (name_all plain q.alternatives)) ≡ true
  fits = ap₂ (counts_fit L) (counts-back ∙ (passed L ws q e).counts) (length-names q.alternatives ∙ how-many L ws q e) ∙ (passed L ws q e).counts-fit

  pub reads-back : (room : ℕ) → length ws ≤ room → reads_text L room (all_text q.alternatives) ≡ gives ws
  unfolding reads_text counted fitted
  reads-back room p =
      let r = ranges L ws q e in
      let l = r.short in
      ap (λ o. elim o as (λ z. Outcome) [ none ↦ denies NotText | some ks ↦ counted L room ks ]) parsed
      ∙ ap (λ b. pick b (fitted L.question room (question_words (counts_in (name_all plain q.alternatives)) (numbered (name_all plain q.alternatives)))) (denies ManyNames)) fits
      ∙ ap₂ (λ n ks. fitted L.question room (question_words n ks)) counts-back numbers-back
      ∙ ap (fitted L.question room) (question-words L ws q e)
      ∙ ap₂ (λ a b. pick (a && b) (gives ws) (denies LongText)) (le-leb (length ws) L.question l) (le-leb (length ws) room p)

-- ---- "Writing and reading back gives the same question words."

not-given : {A : Type 0} (o : Outcome) (n : Refusal) (t : List ℕ) → o ≡ denies n → o ≡ gives t → A
not-given o n t p q = absurd (let z : ◌≡◌ {A = ℕ} 0 1 = cc in omega arith)

pub round_trip : (L : Limits) (room : ℕ) (ws text : List ℕ) → writes_text L room ws ≡ gives text
    → (room' : ℕ) → length ws ≤ room' → reads_text L room' text ≡ gives ws
unfolding writes_text lent
round_trip L room ws text w room' p = on-asked (read_question L ws) refl w
  where
    on_room : (q : Question) → read_question L ws ≡ asks q → InOrder q → (b : Bool) → pick b (gives (all_text q.alternatives)) (denies LongText) ≡ gives text → reads_text L room' text ≡ gives ws
    on_room q e i true w = ap (reads_text L room') (let z : text ≡ all_text q.alternatives = cc in z) ∙ reads-back L ws q e i room' p
    on_room q e i false w = not-given (denies LongText) LongText text refl w

    on_read : (q : Question) → read_question L ws ≡ asks q → (b : Bool) → as_read q ≡ b → pick b (lent room (all_text q.alternatives)) (denies OtherNumbers) ≡ gives text → reads_text L room' text ≡ gives ws
    on_read q e true a w = on_room q e (as_read_lem q a) (leb (length (all_text q.alternatives)) room) w
    on_read q e false a w = not-given (denies OtherNumbers) OtherNumbers text refl w

    on-asked : (o : Asked) → read_question L ws ≡ o
        → elim o as (λ z. Outcome) [ refuses r ↦ denies r | asks q ↦ pick (as_read q) (lent room (all_text q.alternatives)) (denies OtherNumbers) ] ≡ gives text
        → reads_text L room' text ≡ gives ws
    on-asked (asks q) e w = on_read q e (as_read q) refl w
    on-asked (refuses r) e w = not-given (denies r) r text refl w
