-- The loop's invariant: where the last sweep was quiet, nothing more is to be marked.
use Prim.Native.Nat.{◌+◌}
use Rattle.language.specs.Kinds.{pick}
use Rattle.clash.specs.Sweeping.{unmarked}
use Rattle.clash.proofs.Flagging.{Sweeping}
use Rattle.clash.proofs.sweeps.settle.Given as goal

abbrev pub invariant-loop-more : goal.invariant-loop-more
invariant-loop-more l = Sweeping l.chart.words.now l.classes l.at l.met.left l.met.right l.met.count l.initial.marks l.marks l.more

abbrev pub decreases-loop-more : goal.decreases-loop-more
decreases-loop-more l = unmarked l.met.count l.marks + pick l.more 1 0
