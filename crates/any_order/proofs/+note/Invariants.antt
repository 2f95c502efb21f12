-- `any_order::note` meets its contract. The measure is what is left of the kinds.
use Prim.Native.Nat.{◌-◌}
use Rattle.any_order.proofs.+note.Given as goal

abbrev pub decreases-note : goal.decreases-note
decreases-note l = l.top - l.kind
