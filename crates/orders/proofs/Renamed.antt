-- A word for another: word by word, and as long as before.
use Prim.Native.Nat.{ℕ, suc, ◌+◌, ◌<◌, ◌≤◌}
use mathlib.Core.Path.{◌≡◌, refl, sym, ap, ◌∙◌}
use mathlib.Core.List.{List, [], ◌∷◌}
use lib.Dec.{eqb}
use lib.ListN.{length, get_or}
use lib.Seq.{slice}
use Rattle.language.specs.Kinds.{pick}
use Rattle.slices.specs.Written.{Within}
use Rattle.slices.proofs.Parts.{Split, part-cons, part_none}
use Rattle.orders.specs.Orders.{renamed}

pub length-renamed : (old new : ℕ) (ws : List ℕ) → length (renamed old new ws) ≡ length ws
length-renamed old new [] = refl
length-renamed old new (x ∷ ws) = ap suc (length-renamed old new ws)

module _ {k : List ℕ} {to e : ℕ} (w : Within k to e) (old new : ℕ) where
  pub rename-step : (i : ℕ) → i < e → {x : ℕ} → x ≡ pick (eqb old (get_or k i 0)) new (get_or k i 0) → Split (renamed old new (slice i to k)) (x ∷ []) (renamed old new (slice (i + 1) to k))
  rename-step i h {x} d = record { eq = ap (renamed old new) (part-cons w i h) ∙ ap (λ y. y ∷ renamed old new (slice (i + 1) to k)) (sym d) }

  pub rename-none : (i : ℕ) → e ≤ i → renamed old new (slice i to k) ≡ []
  rename-none i h = ap (renamed old new) (part_none w i h)
