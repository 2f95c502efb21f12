-- Where each walk goes on and where it stops, by the tests that are made of the word at its place.
use Prim.Native.Nat.{ℕ, ◌+◌}
use mathlib.Core.Path.{◌≡◌, sym, ap, ◌∙◌}
use mathlib.Core.Bool.{Bool, true, false, not, ◌||◌}
use mathlib.Core.List.{List}
use lib.Dec.{eqb}
use lib.ListN.{get_or}
use lib.Seq.{slice}
use borrow.Author.Tests.{eq-eqb, ne_eqb}
use Rattle.language.specs.Kinds.{pick}
use Rattle.words.specs.Spans.{member, element_end}
use Rattle.finds.specs.declared.Terms.{Terms}
use Rattle.std.specs.Prelude.{Option, Some, None}
use Rattle.finds.specs.Walks.{term_word, run_word}
use Rattle.finds.specs.Places.{runs_end, HasTerm, terms_end, AllTerms, below_end, Under, free_end, UpTo, others_end, Inside}
use Rattle.finds.proofs.Firsts.{Gone, gone-on, gone-end, Going, going_on, going_end}

or-first : (a b : Bool) → a ≡ true → (a || b) ≡ true
or-first a b e = ap (λ c. c || b) e

or-second : (a b : Bool) {c : Bool} → a ≡ false → b ≡ c → (a || b) ≡ c
or-second a b e d = ap (λ c. c || b) e ∙ d

abbrev counted : ℕ → ℕ → Terms
counted n y = record { all = eqb y 0; count = n }

module _ (k : List ℕ) (i : ℕ) {x : ℕ} (q : x ≡ get_or k i 0) where
  -- a test of the word at i
  test : (f : ℕ → Bool) {b c : Bool} → b ≡ f x → b ≡ c → f (get_or k i 0) ≡ c
  test f e t = ap f (sym q) ∙ sym e ∙ t

  more : (x ≡ 0 → ⊥) → eqb (get_or k i 0) 0 ≡ false
  more nz = ap (λ y. eqb y 0) (sym q) ∙ ne_eqb x 0 nz

  over : x ≡ 0 → eqb (get_or k i 0) 0 ≡ true
  over z = ap (λ y. eqb y 0) (sym q) ∙ eq-eqb x 0 z

  -- ---- past hedge variables, past terms
  pub runs_on : {at : ℕ} {b : Bool} {e : ℕ} → b ≡ run_word x → b ≡ true → e ≡ element_end k i → Going k at (runs_end k) i → Going k at (runs_end k) e
  unfolding runs_end
  runs_on r t d g = going_on (ap not (test run_word r t)) d g

  pub runs-end : {at : ℕ} {b : Bool} → b ≡ run_word x → b ≡ false → Going k at (runs_end k) i → HasTerm k at (not (eqb x 0))
  unfolding runs_end
  runs-end r t g = going_end (ap not (test run_word r t)) (λ n. ap (λ y. not (eqb y 0)) q) g

  pub terms-on : {at : ℕ} {b : Bool} {n e : ℕ} → b ≡ term_word x → b ≡ true → e ≡ element_end k i → Gone k at (terms_end k) n i → Gone k at (terms_end k) (n + 1) e
  unfolding terms_end
  terms-on r t d g = gone-on (ap not (test term_word r t)) d g

  pub terms-end : {at : ℕ} {b : Bool} {n : ℕ} → b ≡ term_word x → b ≡ false → Gone k at (terms_end k) n i → AllTerms k at (record { all = eqb x 0; count = n })
  unfolding terms_end
  terms-end {at} {b} {n} r t g = gone-end (ap not (test term_word r t)) (ap (counted n) q) g

  -- ---- up to an element that has a word
  module _ (v : ℕ) where
    module _ {e : ℕ} {b : Bool} (nz : x ≡ 0 → ⊥) (d : e ≡ element_end k i) (m : b ≡ member v (slice (i + 1) e k)) where
      below-test : {c : Bool} → b ≡ c → below_end v k i ≡ c
      unfolding below_end
      below-test t = or-second (eqb (get_or k i 0) 0) (member v (slice (i + 1) (element_end k i) k)) (more nz) (ap (λ j. member v (slice (i + 1) j k)) (sym d) ∙ sym m ∙ t)

      pub below_on : {at : ℕ} → b ≡ false → Going k at (below_end v k) i → Going k at (below_end v k) e
      below_on t g = going_on (below-test t) d g

      pub below-found : {at : ℕ} → b ≡ true → Going k at (below_end v k) i → Under k at v true
      below-found t g = going_end (below-test t) (λ n. sym (ap not (more nz))) g

    pub below_none : {at : ℕ} → x ≡ 0 → Going k at (below_end v k) i → Under k at v false
    unfolding below_end
    below_none z g = going_end (or-first (eqb (get_or k i 0) 0) (member v (slice (i + 1) (element_end k i) k)) (over z)) (λ n. sym (ap not (over z))) g

  module _ (p n : ℕ) {a : Bool} (r : a ≡ term_word x) where
    abbrev found : Bool → Option ℕ
    found c = pick c (Some n) None

    module _ {e : ℕ} {b : Bool} (t : a ≡ true) (d : e ≡ element_end k i) (m : b ≡ member p (slice i e k)) where
      free-test : {c : Bool} → b ≡ c → free_end p k i ≡ c
      unfolding free_end
      free-test u = or-second (not (term_word (get_or k i 0))) (member p (slice i (element_end k i) k)) (ap not (test term_word r t)) (ap (λ j. member p (slice i j k)) (sym d) ∙ sym m ∙ u)

      pub free_on : {at : ℕ} → b ≡ false → Gone k at (free_end p k) n i → Gone k at (free_end p k) (n + 1) e
      free_on u g = gone-on (free-test u) d g

      pub free-found : {at : ℕ} → b ≡ true → Gone k at (free_end p k) n i → UpTo k at p (Some n)
      free-found u g = gone-end (free-test u) (sym (ap found (test term_word r t))) g

    pub free-end : {at : ℕ} → a ≡ false → Gone k at (free_end p k) n i → UpTo k at p None
    unfolding free_end
    free-end t g = gone-end (or-first (not (term_word (get_or k i 0))) (member p (slice i (element_end k i) k)) (ap not (test term_word r t))) (sym (ap found (test term_word r t))) g

  -- ---- up to an element that is a word
  abbrev spot : Bool → Option ℕ
  spot c = pick c None (Some i)

  module _ (at p : ℕ) where
    others-test : (x ≡ 0 → ⊥) → {c : Bool} → eqb x p ≡ c → others_end p k i ≡ c
    unfolding others_end
    others-test nz t = or-second (eqb (get_or k i 0) 0) (eqb (get_or k i 0) p) (more nz) (ap (λ y. eqb y p) (sym q) ∙ t)

    pub others-on : {e : ℕ} → (x ≡ 0 → ⊥) → (x ≡ p → ⊥) → e ≡ element_end k i → Going k (element_end k at) (others_end p k) i → Going k (element_end k at) (others_end p k) e
    others-on nz ne d g = going_on (others-test nz (ne_eqb x p ne)) d g

    pub others-found : (x ≡ 0 → ⊥) → x ≡ p → Going k (element_end k at) (others_end p k) i → Inside k at p (Some i)
    others-found nz e g = going_end (others-test nz (eq-eqb x p e)) (λ n. sym (ap spot (more nz))) g

    pub others-none : x ≡ 0 → Going k (element_end k at) (others_end p k) i → Inside k at p None
    unfolding others_end
    others-none z g = going_end (or-first (eqb (get_or k i 0) 0) (eqb (get_or k i 0) p) (over z)) (λ n. sym (ap spot (over z))) g
