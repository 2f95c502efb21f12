-- Chains: along one the places fall, and a store behind them leaves them as they are.
use mathlib.Core.Path.{◌≡◌, sym, ap, ◌∙◌, subst}
use mathlib.Core.Bool.{false}
use mathlib.Core.List.{List}
use mathlib.Core.Logic.{◌⊎◌, inl, inr}
use Prim.Native.Nat.{ℕ, suc, ◌+◌, ◌*◌, ◌-◌, ◌/◌, ◌≤◌, ◌<◌}
use native.Mathlib.Omega.{arith}
use lib.ListN.{get_or, set}
use lib.Seq.{get_or-set_other}
use Rattle.folding.specs.Chains.{Held, here, further, same_at}

pub held_none : {next : List ℕ} {p q : ℕ} → p ≡ 0 → Held next p q → ⊥
held_none z (here e) = omega arith
held_none z (further m e r) = omega arith

-- a place is in its row of three words, and one three words before it in a row before
pub in_row : (q : ℕ) → (3 * (q / 3) ≤ q) × (q ≤ 3 * (q / 3) + 2)
in_row q = (omega arith, omega arith)

module _ (next : List ℕ) (falls : (s : ℕ) → get_or next s 0 ≤ 3 * s) where
  pub held_below : {p q : ℕ} → Held next p q → q < p
  held_below (here e) = omega arith
  held_below (further m e r) = let h = held_below r in let f = falls (m / 3) in let z = in_row m in omega arith

  module _ (i v : ℕ) where
    other : (m : ℕ) → m + 3 ≤ i → get_or (set next (i / 3) v) (m / 3) 0 ≡ get_or next (m / 3) 0
    other m h = get_or-set_other next (i / 3) (m / 3) v 0 (λ e. let y = in_row m in let z = in_row i in omega arith)

    pub held-set : {p q : ℕ} → p ≤ i - 2 → Held next p q → Held (set next (i / 3) v) p q
    held-set h (here e) = here e
    held-set {p} {q} h (further m e r) =
        let f = falls (m / 3) in
        let z = in_row m in
        further m e (subst (λ n. Held (set next (i / 3) v) n q) (sym (other m (omega arith))) (held-set (omega arith) r))

    pub held-unset : {p q : ℕ} → p ≤ i - 2 → Held (set next (i / 3) v) p q → Held next p q
    held-unset h (here e) = here e
    held-unset {p} {q} h (further m e r) =
        let f = falls (m / 3) in
        let z = in_row m in
        let o = other m (omega arith) in
        further m e (subst (λ n. Held next n q) o (held-unset (omega arith) r))

-- ---- a walk along a chain: from p on, those of the chain are left that were not compared

abbrev pub Left : List ℕ → List ℕ → ℕ → ℕ → ℕ → ℕ → Type 0
Left k next first at end p = (x : ℕ) → Held next first x → (same_at k at end x ≡ false) ⊎ Held next p x

module _ (k next : List ℕ) (first at end p : ℕ) (left : Left k next first at end p) where
  pub left-on : (q p' : ℕ) → p ≡ suc q → p' ≡ get_or next (q / 3) 0 → same_at k at end q ≡ false → Left k next first at end p'
  left-on q p' d e s x r = go (left x r)
    where
      go : (same_at k at end x ≡ false) ⊎ Held next p x → (same_at k at end x ≡ false) ⊎ Held next p' x
      go (inl f) = inl f
      go (inr (here g)) = inl (ap (same_at k at end) (let z : x ≡ q = omega arith in z) ∙ s)
      go (inr (further m g h)) = inr (subst (λ n. Held next n x) (ap (λ j. get_or next (j / 3) 0) (let z : m ≡ q = omega arith in z) ∙ sym e) h)

  pub left_end : p ≡ 0 → (x : ℕ) → Held next first x → same_at k at end x ≡ false
  left_end z x r = go (left x r)
    where
      go : (same_at k at end x ≡ false) ⊎ Held next p x → same_at k at end x ≡ false
      go (inl f) = f
      go (inr h) = absurd (held_none z h)
