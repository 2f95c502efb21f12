-- By the first word, and by what is charted of the parts.
use Rattle.expressions.proofs.Passed.{passed-eps, passed-star, passed_over, passed-cat, passed-alt}
use Rattle.charts.proofs.Charting.{chart-from}
use Rattle.charts.proofs.part_by.Goals as goal

pub part_at-b-requires : goal.part_at-b-requires
part_at-b-requires c = search (chart-from)

pub returns-then-x-eq7000 : goal.returns-then-x-eq7000
returns-then-x-eq7000 c = search (passed-eps)

pub returns-then-x-eq7003 : goal.returns-then-x-eq7003
returns-then-x-eq7003 c = search (passed-star)

pub returns-then-x-lt7000 : goal.returns-then-x-lt7000
returns-then-x-lt7000 c = search (passed_over)

pub returns-then-x-eq7001 : goal.returns-then-x-eq7001
returns-then-x-eq7001 c = search (passed-cat)

pub returns : goal.returns
returns c = search (passed-alt)
