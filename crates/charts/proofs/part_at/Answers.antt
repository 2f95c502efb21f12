-- Past the end, or by the chart.
use Rattle.expressions.proofs.Passed.{passed-end}
use Rattle.charts.proofs.Charting.{charted}
use Rattle.charts.proofs.part_at.Goals as goal

pub returns-then-k-at : goal.returns-then-k-at
returns-then-k-at c = search (passed-end)

pub returns : goal.returns
returns c = search (charted)
