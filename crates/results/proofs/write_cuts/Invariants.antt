-- The loop's invariant: the results for the cuts that are left are still to come, and none is too long.
use Rattle.frames.specs.Frames.{in_frames}
use Prim.Native.Nat.{◌-◌}
use Rattle.plans.specs.Sizes.{Short}
use Rattle.slices.proofs.Still.{Still}
use Rattle.results.proofs.Results.{cuts}
use Rattle.results.proofs.write_cuts.Given as goal

abbrev pub invariant-loop-done : goal.invariant-loop-done
invariant-loop-done l = Still l.initial.out l.at (in_frames l.number (cuts l.k l.r l.times l.cut)) l.out l.e (in_frames l.number (cuts l.k l.r (l.times - l._done) l.c)) × Short (cuts l.k l.r (l.times - l._done) l.c)
