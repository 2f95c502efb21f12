-- The word at that place, and the symbol's.
use Prim.Native.Nat.{◌+◌}
use mathlib.Core.Path.{sym, ap}
use lib.Seq.{slice}
use Rattle.slices.proofs.Still.{wrote_as}
use Rattle.orders.specs.Orders.{renamed}
use Rattle.renaming.proofs.write_named.Goals as goal

pub returns : goal.returns
returns c = let a = c.args in
    wrote_as (ap (λ x. renamed x (3000 + a.number) (slice a.from a.to a.k.now)) (sym c.word-x.ensures)) c.rename.ensures
