-- `text_places::first_wrong` is safe and ends.
use Rattle.std.proofs.Common.{length, ◌-◌, ◌≤◌}
use Rattle.text_places.proofs.first_wrong.Given as goal

abbrev pub invariant-loop-low : goal.invariant-loop-low
invariant-loop-low l = (l.low ≤ l.high) × (l.high ≤ length l.text)

abbrev pub decreases-loop-low : goal.decreases-loop-low
decreases-loop-low l = l.high - l.low
