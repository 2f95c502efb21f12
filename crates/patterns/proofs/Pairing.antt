-- A pattern's words by its table are the pattern numbered apart; and what is written piece by piece is the pair's question.
use Prim.Native.Nat.{ℕ, ◌+◌, ◌-◌, ◌*◌, ◌≤◌}
use mathlib.Core.Path.{◌≡◌, refl, sym, ap, ap₂, subst, ◌∙◌}
use mathlib.Core.Bool.{Bool, true, false, ◌&&◌, ◌||◌}
use mathlib.Core.List.{List, [], ◌∷◌, ◌++◌, map, append_assoc}
use native.Mathlib.Omega.{arith}
use native.Mathlib.Nat.{zero-add}
use lib.Dec.{ltb}
use lib.ListN.{length, get_or, replicate, length-map, length-append, get_or-replicate, length-replicate}
use lib.Seq.{sets}
use Rattle.language.specs.declared.Kind.{Kind}
use Rattle.language.specs.declared.Kind.TheVariants.{End, Term, Run, Symbol, Function, Equation, Membership, Eps, Cat, Alt, Star, Other}
use Rattle.language.specs.Limits.{desk}
use Rattle.language.specs.Kinds.{kind_of}
use Rattle.language.specs.Trees.{Counts}
use Rattle.language.proofs.Words.{Is, term, run, function, is}
use Rattle.language.proofs.Stores.{sets-append}
use Rattle.patterns.specs.declared.Numbers.{Numbers}
use Rattle.std.specs.Prelude.{Result, Ok, Err}
use Rattle.patterns.specs.declared.Pair.{Pair}
use Rattle.patterns.specs.declared.Unasked.{Unasked}
use Rattle.patterns.specs.declared.Unasked.TheVariants.{TooMany, TooLong}
use Rattle.patterns.specs.Blanks.{before, Blanks, no_blanks, blanks_in, counted, nothing, numbered_on, numbered_by, apart}
use Rattle.patterns.specs.Terms.{one_term}
use Rattle.patterns.specs.Pairs.{of_both, too_many, pair_words, asked, asked_words, asked_leaves}
use Rattle.patterns.specs.Tables.{at_hedges, at_functions, Tabled, Noted, renumbered_on, renumbered_by, EnteredOn, Ready}
use Rattle.patterns.proofs.Noting.{there, AmongOn, AllIn, all-at, blanks-in}
use Rattle.patterns.proofs.Asking.{Few, few}

-- an empty table
pub none-tabled : Tabled no_blanks (replicate {A = ℕ} (3 * desk.each) 0)
none-tabled = record {
  size = length-replicate {A = ℕ} (3 * desk.each) 0;
  terms = λ x p. get_or-replicate {A = ℕ} (3 * desk.each) x 0 0 (omega arith);
  hedges = λ x p. get_or-replicate {A = ℕ} (3 * desk.each) (at_hedges + x) 0 0 (omega arith);
  functions = λ x p. get_or-replicate {A = ℕ} (3 * desk.each) (at_functions + x) 0 0 (omega arith);
}

-- ---- one pattern

module _ (n : Numbers) (c : Counts) (et : n.terms ≡ c.terms) (eh : n.hedges ≡ c.hedges) (ef : n.functions ≡ c.functions) (b : Blanks) (t : List ℕ) (tab : Tabled b t) where
  abbrev On : ℕ → Kind → Type 0
  On w k = renumbered_on n t w k ≡ numbered_on c b w k

  on-kind : (w : ℕ) (k : Kind) → Is desk w k → AmongOn b k → On w k
  on-kind w (Term x) (term y p d) a =
      let e = tab.terms x.0 p ∙ (there x.0 b.terms a).0 in
      ap (λ v. 1000 + v) (let z : n.terms + get_or t x.0 0 - 1 ≡ c.terms + before x.0 b.terms = omega arith in z)
  on-kind w (Run x) (run y p d) a =
      let e = tab.hedges x.0 p ∙ (there x.0 b.hedges a).0 in
      ap (λ v. 2000 + v) (let z : n.hedges + get_or t (at_hedges + x.0) 0 - 1 ≡ c.hedges + before x.0 b.hedges = omega arith in z)
  on-kind w (Function x) (function y p d) a =
      let e = tab.functions x.0 p ∙ (there x.0 b.functions a).0 in
      ap (λ v. 4000 + v) (let z : n.functions + get_or t (at_functions + x.0) 0 - 1 ≡ c.functions + before x.0 b.functions = omega arith in z)
  on-kind w (Symbol f) i a = refl
  on-kind w End i a = refl
  on-kind w Equation i a = refl
  on-kind w Membership i a = refl
  on-kind w Eps i a = refl
  on-kind w Cat i a = refl
  on-kind w Alt i a = refl
  on-kind w Star i a = refl
  on-kind w Other i a = refl

  word-is : (w : ℕ) → AmongOn b (kind_of desk w) → renumbered_by n t w ≡ numbered_by c b w
  unfolding renumbered_by numbered_by
  word-is w a = on-kind w (kind_of desk w) (is desk w) a

  pub words_are : (ws : List ℕ) → AllIn b ws → map (renumbered_by n t) ws ≡ map (numbered_by c b) ws
  words_are [] a = refl
  words_are (w ∷ ws) a = ap₂ (λ v (l : List ℕ). v ∷ l) (word-is w a.0) (words_are ws a.1)

  module _ (ft : c.terms + length b.terms ≤ desk.each) (fh : c.hedges + length b.hedges ≤ desk.each) (ff : c.functions + length b.functions ≤ desk.each) where
    entered : (w : ℕ) (k : Kind) → Is desk w k → AmongOn b k → EnteredOn n t k
    entered w (Term x) (term y p d) a =
        let e = tab.terms x.0 p ∙ (there x.0 b.terms a).0 in
        let f = (there x.0 b.terms a).1 in
        let s = tab.size in
        record { inside = omega arith; there = omega arith; fits = omega arith }
    entered w (Run x) (run y p d) a =
        let e = tab.hedges x.0 p ∙ (there x.0 b.hedges a).0 in
        let f = (there x.0 b.hedges a).1 in
        let s = tab.size in
        record { inside = omega arith; there = omega arith; fits = omega arith }
    entered w (Function x) (function y p d) a =
        let e = tab.functions x.0 p ∙ (there x.0 b.functions a).0 in
        let f = (there x.0 b.functions a).1 in
        let s = tab.size in
        record { inside = omega arith; there = omega arith; fits = omega arith }
    entered w (Symbol f) i a = tt
    entered w End i a = tt
    entered w Equation i a = tt
    entered w Membership i a = tt
    entered w Eps i a = tt
    entered w Cat i a = tt
    entered w Alt i a = tt
    entered w Star i a = tt
    entered w Other i a = tt

    pub ready : (ws : List ℕ) → AllIn b ws → Ready n t ws
    ready ws a = record { each = λ i p. entered (get_or ws i 0) (kind_of desk (get_or ws i 0)) (is desk (get_or ws i 0)) (all-at b ws a i p) }

-- ---- both, piece by piece

pieces : (q head u v : List ℕ) (at : ℕ) → length head ≡ 8 → at ≡ 8 + length u + 1
    → sets (sets (sets q 0 head) 8 (u ++ (0 ∷ []))) at (v ++ (0 ∷ [])) ≡ sets q 0 (head ++ (u ++ (0 ∷ (v ++ (0 ∷ [])))))
pieces q head u v at eh ea =
    let y = v ++ (0 ∷ []) in
    let l : length (u ++ (0 ∷ [])) ≡ length u + 1 = length-append u (0 ∷ []) in
    let z : u ++ (0 ∷ y) ≡ (u ++ (0 ∷ [])) ++ y = sym (append_assoc u (0 ∷ []) y) in
    let a : sets q 0 (head ++ (u ++ (0 ∷ y))) ≡ sets (sets q 0 head) 8 (u ++ (0 ∷ y)) = sets-append head (u ++ (0 ∷ y)) q 0 ∙ ap (λ i. sets (sets q 0 head) i (u ++ (0 ∷ y))) (zero-add (length head) ∙ eh) in
    let b : sets (sets q 0 head) 8 ((u ++ (0 ∷ [])) ++ y) ≡ sets (sets (sets q 0 head) 8 (u ++ (0 ∷ []))) (8 + length (u ++ (0 ∷ []))) y = sets-append (u ++ (0 ∷ [])) y (sets q 0 head) 8 in
    let c : at ≡ 8 + length (u ++ (0 ∷ [])) = omega arith in
    sym (a ∙ ap (sets (sets q 0 head) 8) z ∙ b ∙ ap (λ i. sets (sets (sets q 0 head) 8 (u ++ (0 ∷ []))) i y) (sym c))

module _ (word : ℕ) (ps qs : List ℕ) (n m : Numbers) (one other : List ℕ) (x : Noted ps n one) (y : Noted qs m other) (ok : too_many (of_both word ps qs) ≡ false) where
  abbrev none : Numbers
  none = record { terms = 0; hedges = 0; functions = 0 }

  limits : Few (of_both word ps qs)
  limits = few (of_both word ps qs) ok

  pub sums-fit : (n.terms + m.terms ≤ desk.each) × (n.hedges + m.hedges ≤ desk.each) × (n.functions + m.functions ≤ desk.each)
  sums-fit =
      let l = limits in
      let a = x.terms in let b = x.hedges in let c = x.functions in
      let d = y.terms in let e = y.hedges in let f = y.functions in
      (omega (arith, l.terms), omega (arith, l.hedges), omega (arith, l.functions))

  pub first-ready : Ready none one ps
  first-ready =
      let l = limits in
      ready none nothing refl refl refl (blanks_in ps) one x.table (omega (arith, l.terms)) (omega (arith, l.hedges)) (omega (arith, l.functions)) ps (blanks-in ps)

  pub second-ready : Ready n other qs
  second-ready =
      let l = limits in
      ready n (counted word (blanks_in ps)) x.terms x.hedges x.functions (blanks_in qs) other y.table l.terms l.hedges l.functions qs (blanks-in qs)

  pub pair-written : (q a b c : List ℕ) (len at i j : ℕ) → i ≡ length ps → j ≡ length qs → len ≡ 10 + (i + j) → at ≡ 8 + i + 1
      → a ≡ sets q 0 (word ∷ (n.terms + m.terms) ∷ (n.hedges + m.hedges) ∷ (n.functions + m.functions) ∷ 1 ∷ 7 ∷ len ∷ 5000 ∷ [])
      → b ≡ sets a 8 (map (renumbered_by none one) ps ++ (0 ∷ [])) → c ≡ sets b at (map (renumbered_by n other) qs ++ (0 ∷ []))
      → c ≡ sets q 0 (pair_words word ps qs)
  unfolding pair_words
  pair-written q a b c len at i j ei ej el ea da db dc =
      let u = words_are none nothing refl refl refl (blanks_in ps) one x.table ps (blanks-in ps) in
      let v = words_are n (counted word (blanks_in ps)) x.terms x.hedges x.functions (blanks_in qs) other y.table qs (blanks-in qs) in
      let lu = length-map ps (numbered_by nothing (blanks_in ps)) in
      let ln : len ≡ 10 + (length ps + length qs) = omega arith in
      dc ∙ rw (db, da, u, v, x.terms, x.hedges, x.functions, y.terms, y.hedges, y.functions, ln)
      (pieces q (word ∷ _ ∷ _ ∷ _ ∷ 1 ∷ 7 ∷ (10 + (length ps + length qs)) ∷ 5000 ∷ []) (apart nothing ps) (apart (counted word (blanks_in ps)) qs) at refl (omega arith))

-- ---- the answers

module _ (word : ℕ) (ps qs : List ℕ) where
  abbrev size : ℕ
  size = 10 + (length ps + length qs)

  abbrev Answers : Result Pair Unasked → List ℕ → List ℕ → Type 0
  Answers r old new = (r ≡ asked word ps qs) × (new ≡ asked_leaves word ps qs old)

  answers : (r : Result Pair Unasked) (old new : List ℕ) → r ≡ asked word ps qs → new ≡ sets old 0 (asked_words r (pair_words word ps qs)) → Answers r old new
  unfolding asked_leaves
  answers r old new e f = (e, f ∙ ap (λ r. sets old 0 (asked_words r (pair_words word ps qs))) e)

  pub answers-many : too_many (of_both word ps qs) ≡ true → (q : List ℕ) → Answers (Err TooMany) q q
  unfolding asked
  answers-many e q = answers (Err TooMany) q q (rw e refl) refl

  module _ (ok : too_many (of_both word ps qs) ≡ false) where
    pub answers-long : true ≡ ltb desk.question size → (q : List ℕ) → Answers (Err TooLong) q q
    unfolding asked
    answers-long e q = answers (Err TooLong) q q (rw (ok, sym e) refl) refl

    module _ (short : false ≡ ltb desk.question size) (n m : Numbers) (one other : List ℕ) (x : Noted ps n one) (y : Noted qs m other) where
      pub answers-asks : (len first terms hedges : ℕ) (a b fair : Bool) (q new : List ℕ) → first ≡ length ps → len ≡ 10 + (first + length qs) → terms ≡ n.terms + m.terms → hedges ≡ n.hedges + m.hedges
          → fair ≡ (a && b) → a ≡ one_term ps → b ≡ one_term qs → new ≡ sets q 0 (pair_words word ps qs)
          → Answers (Ok (record { len = len; first = first; terms = terms; hedges = hedges; fair = fair })) q new
      unfolding asked
      answers-asks len first terms hedges a b fair q new ef el et eh ea fa fb en =
          answers _ q new
          (rw (ok, sym short, el, ef, et, eh, ea, fa, fb, x.terms, x.hedges, y.terms, y.hedges) refl)
          en

-- what the test says, of numbers that are those of the patterns
pub test-is : (word : ℕ) (ps qs : List ℕ) (n m : Numbers) (one other : List ℕ) → Noted ps n one → Noted qs m other → (r : Bool)
    → r ≡ (ltb desk.each (n.terms + m.terms) || ltb desk.each (n.hedges + m.hedges) || ltb desk.each (n.functions + m.functions)) → too_many (of_both word ps qs) ≡ r
unfolding too_many
test-is word ps qs n m one other x y r e = sym (e ∙ rw (x.terms, x.hedges, x.functions, y.terms, y.hedges, y.functions) refl)

-- ---- the returns, where u and v are the words of the bytes that are whole

module _ (word : ℕ) (ps qs u v : List ℕ) (eu : u ≡ ps) (ev : v ≡ qs) (n m : Numbers) (one other : List ℕ) (x : Noted u n one) (y : Noted v m other) (many : Bool)
    (em : many ≡ (ltb desk.each (n.terms + m.terms) || ltb desk.each (n.hedges + m.hedges) || ltb desk.each (n.functions + m.functions))) where
  abbrev Comes : Result Pair Unasked → List ℕ → List ℕ → Type 0
  Comes r old new = Answers word ps qs r old new

  both_equal : (P : List ℕ → List ℕ → Type 0) → P u v → P ps qs
  both_equal P p = subst (P ps) ev (subst (λ l. P l v) eu p)

  pub ask-many : many ≡ true → (q : List ℕ) → Comes (Err TooMany) q q
  ask-many t q = answers-many word ps qs (both_equal (λ a b. too_many (of_both word a b) ≡ true) (test-is word u v n m one other x y many em ∙ t)) q

  pub ask-few : many ≡ false → too_many (of_both word u v) ≡ false
  ask-few t = test-is word u v n m one other x y many em ∙ t

  pub ask-long : many ≡ false → (long : Bool) → long ≡ ltb desk.question (10 + (length u + length v)) → long ≡ true → (q : List ℕ) → Comes (Err TooLong) q q
  ask-long t long e l q =
      answers-long word ps qs (both_equal (λ a b. too_many (of_both word a b) ≡ false) (ask-few t)) (both_equal (λ a b. true ≡ ltb desk.question (10 + (length a + length b))) (sym l ∙ e)) q

  pub ask-asks : many ≡ false → (long : Bool) → long ≡ ltb desk.question (10 + (length u + length v)) → long ≡ false
      → (i j : ℕ) (a b fair : Bool) (q new : List ℕ) → i ≡ length u → j ≡ length v → fair ≡ (a && b) → a ≡ one_term u → b ≡ one_term v → new ≡ sets q 0 (pair_words word u v)
      → Comes (Ok (record { len = 10 + (i + j); first = i; terms = n.terms + m.terms; hedges = n.hedges + m.hedges; fair = fair })) q new
  ask-asks t long e l i j a b fair q new ei ej ef ea eb en =
      both_equal (λ ps qs. Answers word ps qs (Ok (record { len = 10 + (i + j); first = i; terms = n.terms + m.terms; hedges = n.hedges + m.hedges; fair = fair })) q new)
      (answers-asks word u v (ask-few t) (sym l ∙ e) n m one other x y (10 + (i + j)) i (n.terms + m.terms) (n.hedges + m.hedges) a b fair q new ei (ap (λ j. 10 + (i + j)) ej) refl refl ef ea eb en)
