use Rattle.text_survey.proofs.Scan.{survey-starts, survey-bad, survey-ends, survey-on}
use native.Mathlib.Omega.{arith}
use Rattle.text_survey.proofs.survey.Goals as goal

pub loop-l-init : goal.loop-l-init
loop-l-init c = survey-starts _

pub line-l-requires : goal.line-l-requires
line-l-requires c = c.loop-l.invariant.high

pub returns-then-not-l : goal.returns-then-not-l
returns-then-not-l c = survey-bad c.loop-l.invariant c.line-l.ensures c.if-not-l.true

pub one_more-many-requires : goal.one_more-many-requires
one_more-many-requires c = omega (arith, c.loop-l.invariant.few, c.loop-l.invariant.high)

pub returns-then-text-to : goal.returns-then-text-to
returns-then-text-to c = survey-ends c.loop-l.invariant c.line-l.ensures c.if-not-l.false c.one_more-many.ensures c.if-text-to.true

pub loop-l-smaller : goal.loop-l-smaller
loop-l-smaller c = omega (arith, c.line-l.ensures.low)

pub loop-l-preserved : goal.loop-l-preserved
loop-l-preserved c = survey-on c.loop-l.invariant c.line-l.ensures c.if-not-l.false c.one_more-many.ensures (omega arith)
