-- The chart of ends, place by place from the last.
use Prim.Native.Nat.{ℕ, zero, suc, ◌+◌, ◌-◌, ◌<◌, ◌≤◌}
use mathlib.Core.Path.{◌≡◌, refl, sym, ap, ◌∙◌}
use mathlib.Core.Bool.{Bool, true, false}
use mathlib.Core.List.{List, [], ◌∷◌}
use native.Mathlib.Omega.{arith}
use lib.ListN.{length, get_or, drop, set, length-drop, length-set}
use lib.Dec.{eqb}
use lib.Seq.{drop-drop, get_or-set_same, get_or-set_other}
use borrow.Author.Tests.{eqb-true, eqb-false}
use Rattle.expressions.specs.Passing.{asks, reach}
use Rattle.linear_form.specs.Charted.{ChartedFrom, Past}
use Rattle.expressions.proofs.Passing.{asks_none, asks-star, asks-over, asks_two, reach-none, reach-more}
use Rattle.linear_form.proofs.Reaching.{reach-past, reach_step, past_by}

reach-le : (n : ℕ) (ws : List ℕ) → reach n ws ≤ length ws
unfolding reach
reach-le n [] = omega arith
reach-le zero (x ∷ ws) = omega arith
reach-le (suc n) (x ∷ ws) = let h = reach-le (n + asks x) ws in omega arith

past_of : {k : List ℕ} {at e : ℕ} → e ≡ at + reach 1 (drop at k) → Past k at e
past_of {k} {at} {e} d = past_by (omega arith) (λ h. let l = reach-le 1 (drop at k) in let z = length-drop at k in omega arith) d

-- so that it is a place of the words, and one word holds it
pub end-within : (k : List ℕ) {at e : ℕ} → at < length k → e ≡ at + reach 1 (drop at k) → e ≤ length k
end-within k {at} h d = let l = reach-le 1 (drop at k) in let z = length-drop at k in omega arith

pub past-end-of : {k : List ℕ} {at : ℕ} → length k ≤ at → Past k at at
past-end-of {k} {at} h = past_of (let z = reach-past 1 k at h in omega arith)

pub past-charted : {k ends : List ℕ} {at : ℕ} → ChartedFrom at k ends → at < length k → Past k at (get_or ends at 0)
past-charted {k} {ends} {at} c h = past_of (c.each at (omega arith) h)

module _ (k : List ℕ) (at : ℕ) (h : at < length k) where
  step-one : (n : ℕ) → asks (get_or k at 0) ≡ n → at + 1 + reach n (drop (at + 1) k) ≡ at + reach 1 (drop at k)
  step-one n e =
      let s = reach_step 1 k at (omega arith) h in
      let z : 1 - 1 + asks (get_or k at 0) ≡ n = omega arith in
      sym (ap (λ j. at + 1 + reach j (drop (at + 1) k)) z) ∙ s

  pub end-eps : get_or k at 0 ≡ 7000 → at + 1 ≡ at + reach 1 (drop at k)
  end-eps z = let s = step-one 0 (asks_none _ z) in let r = reach-none (drop (at + 1) k) in omega arith

  end-one : {m : ℕ} → asks (get_or k at 0) ≡ 1 → Past k (at + 1) m → m ≡ at + reach 1 (drop at k)
  end-one a p = p.is ∙ step-one 1 a

  pub end-over : {m : ℕ} → get_or k at 0 ≤ 6999 → Past k (at + 1) m → m ≡ at + reach 1 (drop at k)
  end-over z p = end-one (asks-over _ (omega arith)) p

  pub end-star : {m : ℕ} → get_or k at 0 ≡ 7003 → Past k (at + 1) m → m ≡ at + reach 1 (drop at k)
  end-star z p = end-one (asks-star _ z) p

  pub end-two : {m e : ℕ} → (get_or k at 0 ≡ 7000 → ⊥) → 6999 < get_or k at 0 → (get_or k at 0 ≡ 7003 → ⊥) → Past k (at + 1) m → Past k m e → e ≡ at + reach 1 (drop at k)
  end-two {m} {e} n0 lo n3 p q =
      let ws = drop (at + 1) k in
      let s = step-one 2 (asks_two _ n0 n3 (omega arith)) in
      let r = reach-more 1 1 ws in
      let d : drop (reach 1 ws) ws ≡ drop m k = drop-drop (reach 1 ws) (at + 1) k ∙ ap (λ j. drop j k) (sym p.is) in
      let f = ap (reach 1) d in
      let x = p.is in
      let y = q.is in
      omega arith

-- ---- a place more

pub chart-none : {k ends : List ℕ} → length k ≤ length ends → ChartedFrom (length k) k ends
chart-none r = record { room = r; each = λ i a b. absurd (omega arith) }

pub chart-more : {k ends : List ℕ} {at e : ℕ} → at < length k → e ≡ at + reach 1 (drop at k) → ChartedFrom (at + 1) k ends → ChartedFrom at k (set ends at e)
chart-more {k} {ends} {at} {e} h d c =
    record {
      room = let l = length-set ends at e in let r = c.room in omega arith;
      each = λ i a b. go i a b (eqb i at) refl;
    }
  where
    go : (i : ℕ) → at ≤ i → i < length k → (b : Bool) → eqb i at ≡ b → get_or (set ends at e) i 0 ≡ i + reach 1 (drop i k)
    go i a b true z =
        let y = eqb-true i at z in
        let r = c.room in
        ap (λ j. get_or (set ends at e) j 0) y ∙ get_or-set_same ends at e 0 (omega arith) ∙ d ∙ ap (λ j. j + reach 1 (drop j k)) (sym y)
    go i a b false z =
        let y = eqb-false i at z in
        get_or-set_other ends at i e 0 (omega arith) ∙ c.each i (omega arith) b

pub chart-from : {k ends : List ℕ} {at i : ℕ} → at ≤ i → ChartedFrom at k ends → ChartedFrom i k ends
chart-from h c = record { room = c.room; each = λ j a b. c.each j (omega arith) b }
