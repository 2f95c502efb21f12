-- Marks that change between two places only.
use Prim.Native.Nat.{ℕ, ◌+◌, ◌≤◌}
use mathlib.Core.Path.{◌≡◌, refl, ◌∙◌}
use mathlib.Core.Bool.{Bool, false}
use mathlib.Core.List.{List}
use native.Mathlib.Omega.{arith}
use lib.ListN.{set, length-set}
use lib.Seq.{get_or-set_other}
use Rattle.passing.specs.Places.{Beside}

pub beside-refl : {k : List Bool} {a b : ℕ} → Beside k k a b
beside-refl = record { len = refl; low = λ i p. refl; high = λ i p. refl }

pub beside-wide : {k k' : List Bool} {a b a' b' : ℕ} → Beside k k' a b → a' ≤ a → b ≤ b' → Beside k k' a' b'
beside-wide s p q = record { len = s.len; low = λ i r. s.low i (omega arith); high = λ i r. s.high i (omega arith) }

pub beside_trans : {k k' l : List Bool} {a b : ℕ} → Beside k k' a b → Beside k' l a b → Beside k l a b
beside_trans s t = record { len = t.len ∙ s.len; low = λ i r. t.low i r ∙ s.low i r; high = λ i r. t.high i r ∙ s.high i r }

pub beside-set : {k k' : List Bool} {at : ℕ} (x : Bool) → k' ≡ set k at x → Beside k k' at (at + 1)
beside-set {k} {k'} {at} x e =
    rw e (record {
      len = length-set k at x;
      low = λ i r. get_or-set_other k at i x false (omega arith);
      high = λ i r. get_or-set_other k at i x false (omega arith);
    })
