-- Each arm is the number of that many elements; from eight on it is not counted.
use Prim.Native.Nat.{ℕ, ◌<◌}
use mathlib.Core.Path.{◌≡◌, refl}
use native.Mathlib.Omega.{arith}
use Rattle.orders.proofs.Orders.{few-orders, many-orders}
use Rattle.orders.proofs.count_orders.Goals as goal

past_three : {n : ℕ} → (n ≡ 0 → ⊥) → (n ≡ 1 → ⊥) → (n ≡ 2 → ⊥) → (n ≡ 3 → ⊥) → 3 < n
past_three a b c d = omega arith

past-seven : {n : ℕ} → 3 < n → (n ≡ 4 → ⊥) → (n ≡ 5 → ⊥) → (n ≡ 6 → ⊥) → (n ≡ 7 → ⊥) → 7 < n
past-seven l a b c d = omega arith

pub returns-in_default : goal.returns-in_default
returns-in_default c = let m = c.in_default.in_default-own.rest in
    many-orders (past-seven (past_three m.0.0.0.0.0.0.0.1 m.0.0.0.0.0.0.1 m.0.0.0.0.0.1 m.0.0.0.0.1) m.0.0.0.1 m.0.0.1 m.0.1 m.1)

pub returns-in-0 : goal.returns-in-0
returns-in-0 c = few-orders 0 (omega arith) refl (omega arith)

pub returns-in-1 : goal.returns-in-1
returns-in-1 c = few-orders 1 (omega arith) refl (omega arith)

pub returns-in-2 : goal.returns-in-2
returns-in-2 c = few-orders 2 (omega arith) refl (omega arith)

pub returns-in-3 : goal.returns-in-3
returns-in-3 c = few-orders 3 (omega arith) refl (omega arith)

pub returns-in-4 : goal.returns-in-4
returns-in-4 c = few-orders 4 (omega arith) refl (omega arith)

pub returns-in-5 : goal.returns-in-5
returns-in-5 c = few-orders 5 (omega arith) refl (omega arith)

pub returns-in-6 : goal.returns-in-6
returns-in-6 c = few-orders 6 (omega arith) refl (omega arith)

pub returns-in-7 : goal.returns-in-7
returns-in-7 c = few-orders 7 (omega arith) refl (omega arith)
