-- A walk from element to element that has more steps left than there are words from its place on.
use Prim.Native.Nat.{ℕ, zero, suc, ◌+◌, ◌-◌, ◌<◌, ◌≤◌}
use mathlib.Core.Path.{◌≡◌, refl, sym, ap, ◌∙◌}
use mathlib.Core.Bool.{Bool, true, false, ◌&&◌}
use mathlib.Core.List.{List, [], ◌∷◌}
use native.Mathlib.Omega.{arith}
use lib.Dec.{eqb, ltb}
use lib.ListN.{length, get_or, drop, length-drop}
use lib.Seq.{slice, length-slice}
use borrow.Author.Tests.{eq-eqb, ne_eqb, le-ltb, lt-ltb}
use Rattle.language.specs.Kinds.{pick}
use Rattle.words.specs.Spans.{opens, span, element_end}
use Rattle.words.specs.Places.{same_list}
use Rattle.words.proofs.Spans.{element-on, element-more}
use Rattle.std.specs.Prelude.{Some, None}
use Rattle.sharing.specs.Shared.{equal_from, twice, shared_from}

-- ---- places

span-short : (n : ℕ) (ws : List ℕ) → span n ws ≤ length ws
unfolding span
span-short n [] = omega arith
span-short zero (x ∷ ws) = omega arith
span-short (suc n) (x ∷ ws) = let h = span-short (n + opens x) ws in omega arith

-- a step goes on, and stays within the words
pub goes_on : (k : List ℕ) (i : ℕ) {x e : ℕ} → x ≡ get_or k i 0 → e ≡ element_end k i → (x ≡ 0 → ⊥) → (i < e) × (i < length k) × (e ≤ length k)
goes_on k i {x} {e} a b nz =
    let z = element-more k i (λ q. nz (a ∙ q)) in
    let y = element-on k i (λ q. nz (a ∙ q)) in
    let s = span-short (opens (get_or k i 0) - 1) (drop (i + 1) k) in
    let l = length-drop (i + 1) k in
    (omega arith, omega arith, omega arith)

-- ---- lists of different lengths

lengths_differ : (ws us : List ℕ) → (length ws ≡ length us → ⊥) → same_list ws us ≡ false
lengths_differ [] [] d = absurd (d refl)
lengths_differ [] (y ∷ us) d = refl
lengths_differ (x ∷ ws) [] d = refl
lengths_differ (x ∷ ws) (y ∷ us) d = ap (λ b. eqb x y && b) (lengths_differ ws us (λ e. d (ap suc e))) ∙ never (eqb x y)
  where
    never : (b : Bool) → (b && false) ≡ false
    never true = refl
    never false = refl

pub parts-differ : (k : List ℕ) (i t j u : ℕ) → t ≤ length k → u ≤ length k → (t - i ≡ u - j → ⊥) → false ≡ same_list (slice i t k) (slice j u k)
parts-differ k i t j u a b d = sym (lengths_differ (slice i t k) (slice j u k) (λ e. d (sym (length-slice i t k a) ∙ e ∙ length-slice j u k b)))

-- ---- steps left

-- what the walk tells from its place on is what it tells of all
pub record Still {A : Type 0} (k : List ℕ) (walk : ℕ → ℕ → A) (i : ℕ) (r : A) : Type 0 where
  pub steps : ℕ
  pub enough : length k ≤ steps + i
  pub same : walk steps i ≡ r

module _ {A : Type 0} {k : List ℕ} {walk : ℕ → ℕ → A} where
  pub still-start : {i : ℕ} → Still k walk i (walk (length k) i)
  still-start = record { steps = length k; enough = omega arith; same = refl }

  -- one that stands in the words is not the last
  some_left : {i : ℕ} {r s : A} → i < length k → ((n : ℕ) → walk (suc n) i ≡ s) → Still k walk i r → s ≡ r
  some_left {i} {r} {s} b e w = go w.steps w.enough w.same
    where
      go : (n : ℕ) → length k ≤ n + i → walk n i ≡ r → s ≡ r
      go zero l d = absurd (omega arith)
      go (suc n) l d = sym (e n) ∙ d

  pub still-found : {i : ℕ} {r s : A} → i < length k → ((n : ℕ) → walk (suc n) i ≡ s) → Still k walk i r → s ≡ r
  still-found b e w = some_left b e w

  pub still-over : {i : ℕ} {r s : A} → ((n : ℕ) → walk n i ≡ s) → Still k walk i r → s ≡ r
  still-over e w = sym (e w.steps) ∙ w.same

  pub still-on : {i e : ℕ} {r : A} → i < length k → i < e → ((n : ℕ) → walk (suc n) i ≡ walk n e) → Still k walk i r → Still k walk e r
  still-on {i} {e} {r} b m d w = go w.steps w.enough w.same
    where
      go : (n : ℕ) → length k ≤ n + i → walk n i ≡ r → Still k walk e r
      go zero l s = absurd (omega arith)
      go (suc n) l s = record { steps = n; enough = omega arith; same = sym (d n) ∙ s }

-- ---- the first that has the words

module _ (k ws : List ℕ) (i : ℕ) {x : ℕ} (a : x ≡ get_or k i 0) where
  pub equal_over : x ≡ 0 → (n : ℕ) → equal_from n k ws i ≡ length k
  unfolding equal_from
  equal_over z zero = refl
  equal_over z (suc n) = rw (eq-eqb _ 0 (sym a ∙ z))

  module _ {e : ℕ} (nz : x ≡ 0 → ⊥) (d : e ≡ element_end k i) {b : Bool} (s : b ≡ same_list ws (slice i e k)) where
    pub equal-here : b ≡ true → (n : ℕ) → equal_from (suc n) k ws i ≡ i
    unfolding equal_from
    equal-here t n = rw (ne_eqb _ 0 (λ q. nz (a ∙ q)), ap (λ j. same_list ws (slice i j k)) (sym d) ∙ sym s ∙ t)

    pub equal-on : b ≡ false → (n : ℕ) → equal_from (suc n) k ws i ≡ equal_from n k ws e
    unfolding equal_from
    equal-on t n = rw (ne_eqb _ 0 (λ q. nz (a ∙ q)), ap (λ j. same_list ws (slice i j k)) (sym d) ∙ sym s ∙ t, sym d)

-- one step, by what its tests say
pub equal-step : (k ws : List ℕ) (i : ℕ) {b : Bool} → eqb (get_or k i 0) 0 ≡ false → same_list ws (slice i (element_end k i) k) ≡ b → (n : ℕ)
    → equal_from (suc n) k ws i ≡ pick b i (equal_from n k ws (element_end k i))
unfolding equal_from
equal-step k ws i z s n = rw (z, s)

-- ---- the first that is shared

module _ (k : List ℕ) (i j : ℕ) {x : ℕ} (a : x ≡ get_or k i 0) where
  pub shared-over : x ≡ 0 → (n : ℕ) → shared_from n k i j ≡ None
  unfolding shared_from
  shared-over z zero = refl
  shared-over z (suc n) = rw (eq-eqb _ 0 (sym a ∙ z))

  module _ {e p : ℕ} (nz : x ≡ 0 → ⊥) (d : e ≡ element_end k i) (s : p ≡ equal_from (length k) k (slice i e k) j) where
    abbrev place : ℕ
    place = equal_from (length k) k (slice i (element_end k i) k) j

    there : p ≡ place
    there = s ∙ ap (λ m. equal_from (length k) k (slice i m k) j) d

    pub shared-here : {q : ℕ} → p < length k → q ≡ element_end k p → (n : ℕ) → shared_from (suc n) k i j ≡ Some (record { left = i; after = e; right = p; behind = q })
    unfolding shared_from
    shared-here {q} t w n = rw (ne_eqb _ 0 (λ q. nz (a ∙ q)), sym there, lt-ltb _ _ t, w, d)

    pub shared-on : (p < length k → ⊥) → (n : ℕ) → shared_from (suc n) k i j ≡ shared_from n k e j
    unfolding shared_from
    shared-on t n = rw (ne_eqb _ 0 (λ q. nz (a ∙ q)), sym there, le-ltb p (length k) (omega arith), d)

pub shared_step : (k : List ℕ) (i j : ℕ) {ws : List ℕ} → eqb (get_or k i 0) 0 ≡ false → slice i (element_end k i) k ≡ ws → (n : ℕ)
    → shared_from (suc n) k i j ≡ pick (ltb (equal_from (length k) k ws j) (length k)) (Some (twice k i (equal_from (length k) k ws j))) (shared_from n k (element_end k i) j)
unfolding shared_from
shared_step k i j z w n = rw (z, w)
