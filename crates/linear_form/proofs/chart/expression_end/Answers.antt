use native.Mathlib.Omega.{arith}
use Rattle.linear_form.proofs.Charting.{past-end-of, past-charted}
use Rattle.linear_form.proofs.chart.expression_end.Goals as goal

pub returns-then-k-at : goal.returns-then-k-at
returns-then-k-at c = search (past-end-of)

pub bounds-ends-at : goal.bounds-ends-at
bounds-ends-at c = let r = c.requires.room in omega arith

pub returns : goal.returns
returns c = rw (← c.wide.ensures) at (past-charted c.requires c.if-k-at.false)
