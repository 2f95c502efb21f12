-- The loop's invariant: the results from the i-th on are still to come, and none is too long.
use Prim.Native.Nat.{◌-◌}
use Rattle.frames.specs.Frames.{in_frames}
use Rattle.plans.specs.Sizes.{Short}
use Rattle.slices.proofs.Still.{Still}
use Rattle.results.proofs.Results.{alike}
use Rattle.results.proofs.write_alike.Given as goal

abbrev pub invariant-loop-i : goal.invariant-loop-i
invariant-loop-i l = Still l.initial.out l.at (in_frames l.number (alike l.k l.r 0 l.times)) l.out l.e (in_frames l.number (alike l.k l.r l.i (l.times - l.i))) × Short (alike l.k l.r l.i (l.times - l.i))
