-- By the first word, and by the ends that are charted.
use Rattle.linear_form.proofs.Charting.{end-eps, end-over, end-star, end-two, chart-from}
use Rattle.linear_form.proofs.chart.end_by_parts.Goals as goal

pub expression_end-requires : goal.expression_end-requires
expression_end-requires c = chart-from c.expression_end-mid.ensures.after c.requires.1

pub returns-then-x-eq7000 : goal.returns-then-x-eq7000
returns-then-x-eq7000 c = search (end-eps)

pub expression_end-mid-requires : goal.expression_end-mid-requires
expression_end-mid-requires c = c.requires.1

pub returns-then-x-le6999 : goal.returns-then-x-le6999
returns-then-x-le6999 c = search (end-over)

pub returns-then-x-eq7003 : goal.returns-then-x-eq7003
returns-then-x-eq7003 c = search (end-star)

pub returns : goal.returns
returns c = search (end-two)
