-- `solve_cases::all` is safe and ends: each turn goes past a line.
use Rattle.std.proofs.Common.{length, ◌-◌}
use Rattle.solve_cases.proofs.all.Given as goal

abbrev pub decreases-loop-at : goal.decreases-loop-at
decreases-loop-at l = length l.text - l.at
