-- The invariant: where the pair can still stand is below x.
use Rattle.clash.proofs.Chaining.{Below}
use Rattle.clash.proofs.pairs.Stops.find.Given as goal

abbrev pub invariant-loop-x : goal.invariant-loop-x
invariant-loop-x l = Below l.self.left l.self.right l.self.count l.a l.b l.h l.x

abbrev pub decreases-loop-x : goal.decreases-loop-x
decreases-loop-x l = l.x
