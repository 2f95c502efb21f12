-- `mistakes::word_places::beginning` is safe and ends.
use Rattle.std.proofs.Common.{length, ◌-◌, ◌≤◌}
use Rattle.mistakes.proofs.word_places.beginning.Given as goal

abbrev pub invariant-loop-low : goal.invariant-loop-low
invariant-loop-low l = (l.low ≤ l.high) × (l.high ≤ length l.text)

abbrev pub decreases-loop-low : goal.decreases-loop-low
decreases-loop-low l = l.high - l.low
