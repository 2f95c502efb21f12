use Rattle.text_survey.proofs.Scan.{line-starts, line-less, line_on_lem, line-ends}
use Rattle.text_survey.proofs.line.Goals as goal

pub loop-p-init : goal.loop-p-init
loop-p-init c = line-starts c.requires

pub next-p-requires : goal.next-p-requires
next-p-requires c = c.loop-p.invariant.high

pub returns-then-s-ne2 : goal.returns-then-s-ne2
returns-then-s-ne2 c = line-ends c.loop-p.invariant c.next-p.ensures c.step-s.ensures c.if-s-ne2.true

pub loop-p-smaller : goal.loop-p-smaller
loop-p-smaller c = line-less c.loop-p.invariant c.next-p.ensures c.step-s.ensures c.if-s-ne2.false

pub loop-p-preserved : goal.loop-p-preserved
loop-p-preserved c = line_on_lem c.loop-p.invariant c.next-p.ensures c.step-s.ensures c.if-s-ne2.false
