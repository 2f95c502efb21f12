-- The loop's invariant: the count and the results for the cuts that are left make the whole.
use mathlib.Core.Path.{◌≡◌}
use Prim.Native.Nat.{◌-◌}
use Rattle.plans.specs.Sizes.{sized_from}
use Rattle.results.proofs.Results.{cuts}
use Rattle.results.proofs.size_cuts.Given as goal

abbrev pub invariant-loop-done : goal.invariant-loop-done
invariant-loop-done l = sized_from l.n (cuts l.k l.r (l.times - l._done) l.at) ≡ sized_from 0 (cuts l.k l.r l.times l.cut)
