-- Arrays of eight places: filled element by element, and with those behind one moved up.
use Prim.Native.Nat.{ℕ, suc, ◌+◌, ◌-◌, ◌<◌, ◌≤◌}
use mathlib.Core.Path.{◌≡◌, refl, sym, ap, ◌∙◌}
use mathlib.Core.List.{List, ◌∷◌}
use native.Mathlib.Decide.{dec_lt}
use native.Mathlib.Numerals.{add-one}
use native.Mathlib.Omega.{arith}
use lib.ListN.{length, get_or, set, length-set}
use lib.Seq.{get_or-set_same, get_or-set_other}
use Rattle.words.specs.Spans.{element_end, places}
use Rattle.orders.specs.Agreeing.{Agree}
use Rattle.orders.specs.Orders.{drop_at}
use Rattle.orders.proofs.Orders.{drop-before, drop-behind}

-- ---- filled

-- i places of n are there, and p is the next
pub record Filling (k : List ℕ) (from n : ℕ) (at : List ℕ) (i p : ℕ) : Type 0 where
  pub size : length at ≡ 8
  pub done : (m : ℕ) → m < i → get_or at m 0 ≡ get_or (places n k from) m 0
  pub left : (m : ℕ) → get_or (places n k from) (i + m) 0 ≡ get_or (places (n - i) k p) m 0

pub filling-none : (k : List ℕ) (from n : ℕ) (at : List ℕ) → length at ≡ 8 → Filling k from n at 0 from
filling-none k from n at e = record { size = e; done = λ m h. absurd (omega arith); left = λ m. let z : 0 + m ≡ m = omega arith in let y : n - 0 ≡ n = omega arith in rw (z, y) refl }

module _ {k : List ℕ} {from n : ℕ} {at : List ℕ} {i p : ℕ} (f : Filling k from n at i p) where
  filling-next : i < n → (m : ℕ) → get_or (places n k from) (i + m) 0 ≡ get_or (p ∷ places (n - (i + 1)) k (element_end k p)) m 0
  unfolding places
  filling-next h m = let e : n - i ≡ suc (n - (i + 1)) = omega arith in f.left m ∙ ap (λ r. get_or (places r k p) m 0) e

  pub filling-one : i < n → n ≤ 8 → {e : ℕ} → e ≡ element_end k p → Filling k from n (set at i p) (i + 1) e
  filling-one h l {e} d = let s = f.size in record {
    size = length-set at i p ∙ f.size;
    done = λ m q. go m q (dec_lt m i);
    left = λ m. let z : i + 1 + m ≡ i + suc m = omega arith in rw (z, d) (filling-next h (suc m));
  }
    where
      here : get_or (set at i p) i 0 ≡ get_or (places n k from) i 0
      here =
          let s = f.size in
          get_or-set_same at i p 0 (omega arith) ∙ sym (ap (λ j. get_or (places n k from) j 0) (let z : i ≡ i + 0 = omega arith in z) ∙ filling-next h 0)

      go : (m : ℕ) → m < i + 1 → Dec (m < i) → get_or (set at i p) m 0 ≡ get_or (places n k from) m 0
      go m q (yes r) = get_or-set_other at i m p 0 (λ x. omega arith) ∙ f.done m r
      go m q (no r) = let e : m ≡ i = omega arith in ap (λ j. get_or (set at i p) j 0) e ∙ here ∙ ap (λ j. get_or (places n k from) j 0) (sym e)

  pub filled : n ≤ i → Agree n at (places n k from)
  filled h m l = f.done m (omega arith)

-- ---- moved up

-- the places before i are as they are to be, and the others as they were
pub record Moving (d : ℕ) (old at : List ℕ) (i : ℕ) : Type 0 where
  pub size : length at ≡ 8
  pub low : d ≤ i
  pub done : (m : ℕ) → m < i → get_or at m 0 ≡ get_or (drop_at d old) m 0
  pub rest : (m : ℕ) → i ≤ m → get_or at m 0 ≡ get_or old m 0

pub moving-none : (d : ℕ) (old : List ℕ) → length old ≡ 8 → Moving d old old d
moving-none d old e = record { size = e; low = omega arith; done = λ m h. sym (drop-before d old m h); rest = λ m h. refl }

module _ {d : ℕ} {old at : List ℕ} {i : ℕ} (v : Moving d old at i) where
  pub moving-one : i < 7 → Moving d old (set at i (get_or at (i + 1) 0)) (i + 1)
  moving-one h = let l = v.low in record {
    size = length-set at i (get_or at (i + 1) 0) ∙ v.size;
    low = omega arith;
    done = λ m q. go m q (dec_lt m i);
    rest = λ m q. get_or-set_other at i m (get_or at (i + 1) 0) 0 (λ x. omega arith) ∙ v.rest m (omega arith);
  }
    where
      here : get_or (set at i (get_or at (i + 1) 0)) i 0 ≡ get_or (drop_at d old) i 0
      here =
          let s = v.size in
          get_or-set_same at i (get_or at (i + 1) 0) 0 (omega arith) ∙ v.rest (i + 1) (omega arith) ∙ ap (λ j. get_or old j 0) (add-one i) ∙ sym (drop-behind d old i v.low)

      go : (m : ℕ) → m < i + 1 → Dec (m < i) → get_or (set at i (get_or at (i + 1) 0)) m 0 ≡ get_or (drop_at d old) m 0
      go m q (yes r) = get_or-set_other at i m (get_or at (i + 1) 0) 0 (λ x. omega arith) ∙ v.done m r
      go m q (no r) = let e : m ≡ i = omega arith in ap (λ j. get_or (set at i (get_or at (i + 1) 0)) j 0) e ∙ here ∙ ap (λ j. get_or (drop_at d old) j 0) (sym e)

  pub moved : 7 ≤ i → Agree 7 at (drop_at d old)
  moved h m l = v.done m (omega arith)
