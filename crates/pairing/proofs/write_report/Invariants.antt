-- `pairing::write_report` meets its contract: the values written, and then those still to come, are the report.
use mathlib.Core.Path.{◌≡◌}
use lib.ListN.{length}
use Rattle.pairing.proofs.Reporting.{Writing}
use Rattle.pairing.proofs.write_report.Given as goal

abbrev pub invariant-loop-i : goal.invariant-loop-i
invariant-loop-i l = Writing l.terms l.hedges l.filling l.pattern l.initial.room l.at l.i l.to l.room × (length l.scratch ≡ length l.initial.scratch)
