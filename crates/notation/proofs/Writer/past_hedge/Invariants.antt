-- `notation::Writer::past_hedge` meets its contract: the depth is at most the words passed.
use Rattle.std.proofs.Common.{length, ◌-◌, ◌≤◌}
use Rattle.notation.proofs.Writer.past_hedge.Given as goal

abbrev pub invariant-loop-at : goal.invariant-loop-at
invariant-loop-at l = (l.from ≤ l.at) × (l.depth ≤ l.at)

abbrev pub decreases-loop-at : goal.decreases-loop-at
decreases-loop-at l = length l.ws - l.at
