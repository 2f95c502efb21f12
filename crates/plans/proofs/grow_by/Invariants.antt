-- The loop's invariant: as many as are not made are left to be counted on from n. Past the room nothing is.
use mathlib.Core.Path.{◌≡◌}
use Prim.Native.Nat.{◌-◌}
use Rattle.plans.specs.Sizes.{grown_by}
use Rattle.plans.proofs.grow_by.Given as goal

abbrev pub invariant-loop-made : goal.invariant-loop-made
invariant-loop-made l = grown_by (l.times - l._made) l.n l.one ≡ grown_by l.times 0 l.one
