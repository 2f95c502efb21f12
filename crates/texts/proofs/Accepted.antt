-- What the reader gives is a question: no refusal from 2 to 6, and numbered as read.
use Prim.Native.Nat.{ℕ, zero, suc, ◌+◌, ◌-◌, ◌<◌, ◌≤◌}
use native.Mathlib.Omega.{arith}
use mathlib.Core.Path.{◌≡◌, refl, sym, ap, ap₂, ◌∙◌}
use mathlib.Core.Bool.{Bool, true, false, ◌&&◌}
use mathlib.Core.List.{List, [], ◌∷◌, ◌++◌, map}
use mathlib.Core.Option.{Option, none, some}
use lib.Dec.{leb, eqb}
use lib.ListN.{length, take, drop, length-append, length-map}
use lib.Seq.{take-append-le, take_all, drop-append_seam}
use borrow.Author.Tests.{leb-true, le-leb, lt-ltb, eq-eqb}
use Rattle.language.specs.declared.Refusal.{Refusal}
use Rattle.language.specs.declared.Refusal.TheVariants.{NotText, ManyNames, LongText}
use Rattle.language.specs.Limits.{Limits}
use Rattle.language.specs.Kinds.{pick}
use Rattle.language.specs.Trees.{Functor, symbol, fvar, Hedge, ε, tvar, hvar, node, Expr, eps, cat, alt, star, over, Literal, eqn, mem, Conj, Counts}
use Rattle.language.specs.Writing.{conj_words}
use Rattle.language.specs.Fine.{fine_functor, fine_hedge, fine_expr, fine_literal, fine_conj}
use Rattle.language.specs.Reading.{got}
use Rattle.language.specs.Question.{offsets, rising, rises, laid_out, parts_from, parts, counts_of, alternatives_of, length_fits, counts_fit, declared_f, declared, declared_e, declared_l, declared_c, declared_q, with_conj, read_all, asks, read_question}
use Rattle.language.proofs.Header.{first-word}
use Rattle.language.proofs.Bools.{both_true}
use Rattle.language.proofs.Alternatives.{fine_all}
use Rattle.language.proofs.Laws.{conjunctions-read}
use Rattle.language.proofs.Questions.{asked}
use Rattle.grammar.specs.Grammar.{TextOf}
use Rattle.meaning.specs.Values.{joined, offsets_of}
use Rattle.texts.specs.Numbering.{Class, symbols, terms, hedges, functions, at_s, at_t, at_h, at_x, at_f, in_hedge, in_expr, in_literal, in_conj, in_all, name_all, table, numbered, place, at_least_one, counts_in}
use Rattle.texts.specs.Texts.{parse}
use Rattle.texts.specs.Outcomes.{Outcome, gives, denies, question_words, fitted, counted, reads_text, as_read, symbols_are, count_is}
use Rattle.texts.proofs.Readings.{text-spelt, text-read}
use Rattle.texts.proofs.Tables.{All, all_map, in_order_lem}
use Rattle.texts.proofs.Numbers.{in-order-always}

-- ---- a table of offsets as it is written

length-offsets : (at : ℕ) (wss : List (List ℕ)) → length (offsets_of at wss) ≡ suc (length wss)
length-offsets at [] = refl
length-offsets at (ws ∷ wss) = ap suc (length-offsets (at + length ws) wss)

head-offsets : (at : ℕ) (wss : List (List ℕ)) → offsets_of at wss ≡ at ∷ drop 1 (offsets_of at wss)
head-offsets at [] = refl
head-offsets at (ws ∷ wss) = refl

offsets-rise : (at : ℕ) (wss : List (List ℕ)) → rising at (drop 1 (offsets_of at wss)) (at + length (joined wss)) ≡ true
offsets-rise at [] = eq-eqb at (at + 0) (omega arith)
offsets-rise at (ws ∷ wss) =
    ap (λ os. rising at os (at + length (ws ++ joined wss))) (head-offsets (at + length ws) wss)
    ∙ ap (λ b. b && rising (at + length ws) (drop 1 (offsets_of (at + length ws) wss)) (at + length (ws ++ joined wss))) (le-leb at (at + length ws) (omega arith))
    ∙ ap (rising (at + length ws) (drop 1 (offsets_of (at + length ws) wss))) (let z : at + length (ws ++ joined wss) ≡ at + length ws + length (joined wss) = simp length-append (omega arith) in z)
    ∙ offsets-rise (at + length ws) wss

take-front : (n : ℕ) (l k : List ℕ) → n ≡ length l → take n (l ++ k) ≡ l
take-front n l k e = take-append-le n l k (omega arith) ∙ take_all n l (omega arith)

drop-front : (n : ℕ) (l k : List ℕ) → n ≡ length l → drop n (l ++ k) ≡ k
drop-front n l k e = ap (λ m. drop m (l ++ k)) e ∙ drop-append_seam l k

parts-back : (at : ℕ) (wss : List (List ℕ)) → parts_from at (drop 1 (offsets_of at wss)) (joined wss) ≡ wss
parts-back at [] = refl
parts-back at (ws ∷ wss) =
    ap (λ os. parts_from at os (ws ++ joined wss)) (head-offsets (at + length ws) wss)
    ∙ ap₂ (λ a b. a ∷ parts_from (at + length ws) (drop 1 (offsets_of (at + length ws) wss)) b)
    (take-front (at + length ws - at) ws (joined wss) (omega arith)) (drop-front (at + length ws - at) ws (joined wss) (omega arith))
    ∙ ap (λ z. ws ∷ z) (parts-back (at + length ws) wss)

-- ---- fine and declared

module _ (L : Limits) (n : Counts) where
  count : Class → ℕ
  count symbols = n.symbols
  count terms = n.terms
  count hedges = n.hedges
  count functions = n.functions

  abbrev Ok : (Class → List ℕ) → Type 0
  Ok k = (c : Class) → All (λ m. (m < L.each) × (m < count c)) (k c)

  rest-S : (m : ℕ) (k : Class → List ℕ) → Ok (λ c. at_s c m (k c)) → Ok k
  rest-S m k a symbols = (a symbols).1
  rest-S m k a terms = a terms
  rest-S m k a hedges = a hedges
  rest-S m k a functions = a functions

  rest-T : (m : ℕ) (k : Class → List ℕ) → Ok (λ c. at_t c m (k c)) → Ok k
  rest-T m k a symbols = a symbols
  rest-T m k a terms = (a terms).1
  rest-T m k a hedges = a hedges
  rest-T m k a functions = a functions

  rest-H : (m : ℕ) (k : Class → List ℕ) → Ok (λ c. at_h c m (k c)) → Ok k
  rest-H m k a symbols = a symbols
  rest-H m k a terms = a terms
  rest-H m k a hedges = (a hedges).1
  rest-H m k a functions = a functions

  rest-X : (m : ℕ) (k : Class → List ℕ) → Ok (λ c. at_x c m (k c)) → Ok k
  rest-X m k a symbols = a symbols
  rest-X m k a terms = a terms
  rest-X m k a hedges = a hedges
  rest-X m k a functions = (a functions).1

  ok-F : (f : Functor) (k : Class → List ℕ) → Ok (λ c. at_f c f (k c)) → fine_functor L f × (declared_f n f ≡ true) × Ok k
  unfolding count
  ok-F (symbol f) k a = ((a symbols).0.0, lt-ltb f.0 n.symbols (a symbols).0.1, rest-S f.0 k a)
  ok-F (fvar X) k a = ((a functions).0.0, lt-ltb X.0 n.functions (a functions).0.1, rest-X X.0 k a)

  ok-hedge : (h : Hedge) (k : Class → List ℕ) → Ok (λ c. in_hedge c h (k c)) → fine_hedge L h × (declared n h ≡ true) × Ok k
  unfolding count
  ok-hedge ε k a = (tt, refl, a)
  ok-hedge (tvar x r) k a =
      let i = ok-hedge r k (rest-T x.0 (λ c. in_hedge c r (k c)) a) in
      (((a terms).0.0, i.0), ap₂ ◌&&◌ (lt-ltb x.0 n.terms (a terms).0.1) i.1, i.2)
  ok-hedge (hvar p r) k a =
      let i = ok-hedge r k (rest-H p.0 (λ c. in_hedge c r (k c)) a) in
      (((a hedges).0.0, i.0), ap₂ ◌&&◌ (lt-ltb p.0 n.hedges (a hedges).0.1) i.1, i.2)
  ok-hedge (node f b r) k a =
      let h = ok-F f (λ c. in_hedge c b (in_hedge c r (k c))) a in
      let i = ok-hedge b (λ c. in_hedge c r (k c)) h.2 in
      let j = ok-hedge r k i.2 in
      ((h.0, i.0, j.0), three _ _ _ h.1 i.1 j.1, j.2)
    where
      three : (x y z : Bool) → x ≡ true → y ≡ true → z ≡ true → (x && y && z) ≡ true
      three x y z p q r = rw (p, q, r)

  ok-expr : (R : Expr) (k : Class → List ℕ) → Ok (λ c. in_expr c R (k c)) → fine_expr L R × (declared_e n R ≡ true) × Ok k
  unfolding count
  ok-expr eps k a = (tt, refl, a)
  ok-expr (cat R S) k a = let i = ok-expr R (λ c. in_expr c S (k c)) a in let j = ok-expr S k i.2 in ((i.0, j.0), ap₂ ◌&&◌ i.1 j.1, j.2)
  ok-expr (alt R S) k a = let i = ok-expr R (λ c. in_expr c S (k c)) a in let j = ok-expr S k i.2 in ((i.0, j.0), ap₂ ◌&&◌ i.1 j.1, j.2)
  ok-expr (star R) k a = ok-expr R k a
  ok-expr (over f R) k a =
      let i = ok-expr R k (rest-S f.0 (λ c. in_expr c R (k c)) a) in
      (((a symbols).0.0, i.0), ap₂ ◌&&◌ (lt-ltb f.0 n.symbols (a symbols).0.1) i.1, i.2)

  ok-literal : (l : Literal) (k : Class → List ℕ) → Ok (λ c. in_literal c l (k c)) → fine_literal L l × (declared_l n l ≡ true) × Ok k
  ok-literal (eqn l r) k a = let i = ok-hedge l (λ c. in_hedge c r (k c)) a in let j = ok-hedge r k i.2 in ((i.0, j.0), ap₂ ◌&&◌ i.1 j.1, j.2)
  ok-literal (mem h R) k a = let i = ok-hedge h (λ c. in_expr c R (k c)) a in let j = ok-expr R k i.2 in ((i.0, j.0), ap₂ ◌&&◌ i.1 j.1, j.2)

  ok-conj : (j : Conj) (k : Class → List ℕ) → Ok (λ c. in_conj c j (k c)) → fine_conj L j × (declared_c n j ≡ true) × Ok k
  ok-conj [] k a = (tt, refl, a)
  ok-conj (l ∷ j) k a = let i = ok-literal l (λ c. in_conj c j (k c)) a in let m = ok-conj j k i.2 in ((i.0, m.0), ap₂ ◌&&◌ i.1 m.1, m.2)

  ok-all : (ks : List Conj) → Ok (λ c. in_all c ks) → fine_all L ks × (declared_q n ks ≡ true)
  ok-all [] a = (tt, refl)
  ok-all (j ∷ js) a = let i = ok-conj j (λ c. in_all c js) a in let m = ok-all js i.2 in ((i.0, m.0), ap₂ ◌&&◌ i.1 m.1)

all_read : (L : Limits) (ks : List Conj) → fine_all L ks → read_all L (map conj_words ks) ≡ got ks (length (joined (map conj_words ks)))
all_read L [] f = refl
all_read L (k ∷ ks) f =
    ap (λ g. with_conj g (read_all L (map conj_words ks))) ((conjunctions-read L).read_back k f.0)
    ∙ ap (with_conj (got k (length (conj_words k)))) (all_read L ks f.1)
    ∙ ap (got (k ∷ ks)) (sym (length-append (conj_words k) (joined (map conj_words ks))))

-- ---- the question that is read

length-named : (σ : _) (ks : List Conj) → length (name_all σ ks) ≡ length ks
length-named σ [] = refl
length-named σ (k ∷ ks) = ap suc (length-named σ ks)

length-numbered : (ks : List Conj) → length (numbered ks) ≡ length ks
unfolding numbered
length-numbered ks = length-named (λ c n. place n (table ks c)) ks

at_least : (m : ℕ) → m ≤ at_least_one m
at_least zero = omega arith
at_least (suc m) = omega arith

module _ (L : Limits) (below : L.each < 256) (ks : List Conj) (fit : counts_fit L (counts_in ks) (length ks) ≡ true) (short : length (question_words (counts_in ks) (numbered ks)) ≤ L.question) where
  abbrev ws : List ℕ
  ws = question_words (counts_in ks) (numbered ks)

  abbrev ps : List (List ℕ)
  ps = map conj_words (numbered ks)

  symbols-few : at_least_one (length (table ks symbols)) < 256
  unfolding counts_fit counts_in
  symbols-few =
      let a = both_true _ (leb (length ks) L.alternatives) fit in
      let f = both_true _ _ a.0 in
      let h = both_true _ _ f.0 in
      let t = both_true _ _ h.0 in
      let u = both_true _ _ t.0 in
      let s = both_true (leb 1 (at_least_one (length (table ks symbols)))) _ u.0 in
      let p = leb-true _ L.each s.1 in
      omega arith

  few : (c : Class) → length (table ks c) ≤ L.each
  unfolding counts_fit counts_in
  few c =
      let a = both_true _ (leb (length ks) L.alternatives) fit in
      let f = both_true _ _ a.0 in
      let h = both_true _ _ f.0 in
      let t = both_true _ _ h.0 in
      let u = both_true _ _ t.0 in
      let s = both_true (leb 1 (at_least_one (length (table ks symbols)))) _ u.0 in
      on (leb-true _ _ s.1) (leb-true _ _ t.1) (leb-true _ _ h.1) (leb-true _ _ f.1) c
    where
      on : at_least_one (length (table ks symbols)) ≤ L.each → length (table ks terms) ≤ L.each → length (table ks hedges) ≤ L.each → length (table ks functions) ≤ L.each
          → (c : Class) → length (table ks c) ≤ L.each
      on a b d e symbols = let m = at_least (length (table ks symbols)) in omega arith
      on a b d e terms = b
      on a b d e hedges = d
      on a b d e functions = e

  enough : (c : Class) → length (table ks c) ≤ count L (counts_in ks) c
  unfolding count counts_in
  enough symbols = at_least (length (table ks symbols))
  enough terms = omega arith
  enough hedges = omega arith
  enough functions = omega arith

  ok : fine_all L (numbered ks) × (declared_q (counts_in ks) (numbered ks) ≡ true)
  ok = ok-all L (counts_in ks) (numbered ks) (λ c. all_map (λ m. m < length (table ks c)) (λ m. (m < L.each) × (m < count L (counts_in ks) c)) (in_all c (numbered ks))
      (λ m p. let a = few c in let b = enough c in (omega arith, omega arith)) (in_order_lem 0 (length (table ks c)) (in_all c (numbered ks)) (in-order-always ks c)).2)

  many : length ps ≡ length (numbered ks)
  many = length-map (numbered ks) conj_words

  behind : drop 5 ws ≡ offsets_of (6 + length (numbered ks)) ps ++ joined ps
  unfolding question_words
  behind = refl

  long : length ws ≡ 6 + length (numbered ks) + length (joined ps)
  unfolding question_words
  long = let l = length-offsets (6 + length (numbered ks)) ps in let m = many in simp length-append (omega arith)

  table-there : offsets 5 (length (numbered ks)) ws ≡ offsets_of (6 + length (numbered ks)) ps
  table-there = ap (take (suc (length (numbered ks)))) behind ∙ take-front (suc (length (numbered ks))) (offsets_of (6 + length (numbered ks)) ps) (joined ps) (let l = length-offsets (6 + length (numbered ks)) ps in let m = many in omega arith)

  first : 5 + suc (length (numbered ks)) ≡ 6 + length (numbered ks)
  first = omega arith

  laid : laid_out 5 (length (numbered ks)) ws ≡ true
  unfolding laid_out
  laid =
      ap₂ ◌&&◌ (le-leb (5 + suc (length (numbered ks))) (length ws) (let l = long in omega arith))
      (ap₂ (λ a b. rises a b (length ws)) first (table-there ∙ head-offsets (6 + length (numbered ks)) ps)
      ∙ ap₂ ◌&&◌ (eq-eqb (6 + length (numbered ks)) (6 + length (numbered ks)) refl)
      (ap (rising (6 + length (numbered ks)) (drop 1 (offsets_of (6 + length (numbered ks)) ps))) long ∙ offsets-rise (6 + length (numbered ks)) ps))

  all-parts : parts 5 (length (numbered ks)) ws ≡ ps
  unfolding parts
  all-parts =
      ap₂ (λ a b. parts_from a (drop 1 b) (drop a ws)) first table-there
      ∙ ap (λ m. parts_from (6 + length (numbered ks)) (drop 1 (offsets_of (6 + length (numbered ks)) ps)) m) tail
      ∙ parts-back (6 + length (numbered ks)) ps
    where
      tail : drop (6 + length (numbered ks)) ws ≡ joined ps
      tail =
          sym (lib.Seq.drop-drop (suc (length (numbered ks))) 5 ws ∙ ap (λ m. drop m ws) first)
          ∙ ap (drop (suc (length (numbered ks)))) behind
          ∙ drop-front (suc (length (numbered ks))) (offsets_of (6 + length (numbered ks)) ps) (joined ps) (let l = length-offsets (6 + length (numbered ks)) ps in let m = many in omega arith)

  alternatives-are : alternatives_of ws ≡ length (numbered ks)
  unfolding question_words
  alternatives-are = refl

  counts-are : counts_of ws ≡ counts_in ks
  unfolding question_words counts_in
  counts-are =
      let s = symbols-few in
      let w = first-word (at_least_one (length (table ks symbols))) 0 (drop 1 ws) s in
      ap₂ (λ a b. record { symbols = a; unordered = b; terms = length (table ks terms); hedges = length (table ks hedges); functions = length (table ks functions) }) w.0 w.1

  fits : length_fits L ws ≡ true
  unfolding length_fits
  fits = ap₂ ◌&&◌ (le-leb 6 (length ws) (let l = long in omega arith)) (le-leb (length ws) L.question short)

  -- What the reader gives is not refused,
  pub accepted : read_question L ws ≡ asks (record { counts = counts_in ks; alternatives = numbered ks })
  accepted =
      asked L ws fits (ap₂ (counts_fit L) counts-are (alternatives-are ∙ length-numbered ks) ∙ fit)
      (ap (λ n. laid_out 5 n ws) alternatives-are ∙ laid)
      (numbered ks) (length (joined ps)) (ap (λ n. read_all L (parts 5 n ws)) alternatives-are ∙ ap (read_all L) all-parts ∙ all_read L (numbered ks) ok.0)
      (ap (λ n. declared_q n (numbered ks)) counts-are ∙ ok.1)
      ∙ ap (λ n. asks (record { counts = n; alternatives = numbered ks })) counts-are

  -- and numbered as read.
  pub as-read-always : as_read (record { counts = counts_in ks; alternatives = numbered ks }) ≡ true
  unfolding as_read counts_in
  as-read-always =
      let o = in-order-always ks in
      let self : (n : ℕ) → eqb n n ≡ true = λ n. eq-eqb n n refl in
      ap₂ ◌&&◌ (self 0)
      (ap₂ ◌&&◌ (ap (λ z. symbols_are z (at_least_one (length (table ks symbols)))) (o symbols) ∙ self (at_least_one (length (table ks symbols))))
      (ap₂ ◌&&◌ (ap (λ z. count_is z (length (table ks terms))) (o terms) ∙ self (length (table ks terms)))
      (ap₂ ◌&&◌ (ap (λ z. count_is z (length (table ks hedges))) (o hedges) ∙ self (length (table ks hedges)))
      (ap (λ z. count_is z (length (table ks functions))) (o functions) ∙ self (length (table ks functions))))))

-- ---- so a text that is read gives words that are read again, and that the writer writes

open-outcome : {A : Type 0} (o : Outcome) (n : Refusal) (v : List ℕ) → o ≡ denies n → o ≡ gives v → A
open-outcome o n v p q = absurd (let z : ◌≡◌ {A = ℕ} 0 1 = cc in omega arith)

pub record Given (L : Limits) (text v : List ℕ) : Type 0 where
  pub trees : List Conj
  pub spelt : TextOf trees text
  pub asked : read_question L v ≡ asks (record { counts = counts_in trees; alternatives = numbered trees })
  pub order : as_read (record { counts = counts_in trees; alternatives = numbered trees }) ≡ true

pub given : (L : Limits) → L.each < 256 → (room : ℕ) (text v : List ℕ) → reads_text L room text ≡ gives v → Given L text v
unfolding reads_text counted fitted
given L below room text v e = on (parse text) refl e
  where
    on_room : (ks : List Conj) → parse text ≡ some ks → counts_fit L (counts_in ks) (length ks) ≡ true → (a b : Bool) → leb (length (question_words (counts_in ks) (numbered ks))) L.question ≡ a
        → pick (a && b) (gives (question_words (counts_in ks) (numbered ks))) (denies LongText) ≡ gives v → Given L text v
    on_room ks p f true true l w =
        let z : question_words (counts_in ks) (numbered ks) ≡ v = cc in
        let s = leb-true (length (question_words (counts_in ks) (numbered ks))) L.question l in
        record { trees = ks; spelt = text-spelt text ks p; asked = ap (read_question L) (sym z) ∙ accepted L below ks f s; order = as-read-always L below ks f s }
    on_room ks p f true false l w = open-outcome (denies LongText) LongText v refl w
    on_room ks p f false b l w = open-outcome (denies LongText) LongText v refl w

    on-counts : (ks : List Conj) → parse text ≡ some ks → (b : Bool) → counts_fit L (counts_in ks) (length ks) ≡ b
        → pick b (fitted L.question room (question_words (counts_in ks) (numbered ks))) (denies ManyNames) ≡ gives v → Given L text v
    on-counts ks p true f w = on_room ks p f (leb (length (question_words (counts_in ks) (numbered ks))) L.question) (leb (length (question_words (counts_in ks) (numbered ks))) room) refl w
    on-counts ks p false f w = open-outcome (denies ManyNames) ManyNames v refl w

    on : (o : Option (List Conj)) → parse text ≡ o → elim o as (λ z. Outcome) [ none ↦ denies NotText | some ks ↦ counted L room ks ] ≡ gives v → Given L text v
    on none p w = open-outcome (denies NotText) NotText v refl w
    on (some ks) p w = on-counts ks p (counts_fit L (counts_in ks) (length ks)) refl w

-- ---- 17, 18, 19, in this order

-- 17 where the grammar spells nothing,
pub seventeen : (L : Limits) (room : ℕ) (text : List ℕ) → ((ks : List Conj) → TextOf ks text → ⊥) → reads_text L room text ≡ denies NotText
unfolding reads_text
seventeen L room text h = on (parse text) refl
  where
    on : (o : Option (List Conj)) → parse text ≡ o → elim o as (λ z. Outcome) [ none ↦ denies NotText | some ks ↦ counted L room ks ] ≡ denies NotText
    on none e = refl
    on (some ks) e = absurd (h ks (text-spelt text ks e))

-- and where it spells ks, 18, 19 or the words, by their counts and their length.
pub not-seventeen : (L : Limits) (room : ℕ) (text : List ℕ) (ks : List Conj) → TextOf ks text → reads_text L room text ≡ counted L room ks
unfolding reads_text
not-seventeen L room text ks d = ap (λ o. elim o as (λ z. Outcome) [ none ↦ denies NotText | some js ↦ counted L room js ]) (text-read text ks d)
