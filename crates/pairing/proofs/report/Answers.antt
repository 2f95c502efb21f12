-- `pairing::report` meets its contract: the report fits, or 16.
use Rattle.filling.specs.Showing.{filled}
use Rattle.pairing.proofs.Reporting.{report-few, too_long, shown-here}
use native.Mathlib.Omega.{arith}
use Rattle.pairing.proofs.report.Goals as goal

pub filled_len-n-requires : goal.filled_len-n-requires
filled_len-n-requires c = record { filling_len_bound = c.requires.filling_len_bound.0; words_len_bound = c.requires.filling_len_bound.1; shows = c.requires.shows }

pub returns-then-size-n : goal.returns-then-size-n
returns-then-size-n c = too_long c.args.size (filled c.args.terms c.args.hedges c.args.filling.now c.args.pattern.now) c.args.at c.args.room.now _ c.filled_len-n.ensures (omega arith)

pub write_report-requires : goal.write_report-requires
write_report-requires c = let e = c.filled_len-n.ensures in let p = c.requires.size_in_bounds in record { shows = c.requires.shows; filling_len_bound = (c.requires.filling_len_bound.0, c.requires.filling_len_bound.2); pattern_in_bounds = omega arith }

pub narrow-requires : goal.narrow-requires
narrow-requires c = let e = c.filled_len-n.ensures in let z = report-few c.args.terms c.args.hedges c.args.filling.now c.args.pattern.now c.requires.filling_len_bound.0 c.requires.filling_len_bound.1 in omega arith

pub overflow_add-result : goal.overflow_add-result
overflow_add-result c = let e = c.filled_len-n.ensures in let z = report-few c.args.terms c.args.hedges c.args.filling.now c.args.pattern.now c.requires.filling_len_bound.0 c.requires.filling_len_bound.1 in let k = c.narrow.ensures in omega arith

pub returns : goal.returns
returns c = shown-here c.args.size (filled c.args.terms c.args.hedges c.args.filling.now c.args.pattern.now) c.args.at c.args.room.now _ _ _ c.filled_len-n.ensures c.narrow.ensures (omega arith) c.write_report.ensures
