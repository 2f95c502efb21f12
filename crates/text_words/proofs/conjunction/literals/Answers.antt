use Rattle.language.specs.Limits.{desk}
use Rattle.text_words.proofs.Rows.{literals-start, literals-bad, literals_end, literals-less, literals-on}
use Rattle.text_words.proofs.conjunction.literals.Goals as goal

pub loop-w-init : goal.loop-w-init
loop-w-init c = literals-start desk _ _ _ _ _ c.requires

pub returns-then-not-w : goal.returns-then-not-w
returns-then-not-w c = (literals-bad desk _ _ _ _ _ c.loop-w.invariant c.literal-w.ensures c.if-not-w.true)

pub returns-then-turn-eq1 : goal.returns-then-turn-eq1
returns-then-turn-eq1 c = (literals_end desk _ _ _ _ _ c.loop-w.invariant c.literal-w.ensures c.if-not-w.false c.next-p.ensures c.turn.ensures c.if-turn-eq1.true)

pub loop-w-smaller : goal.loop-w-smaller
loop-w-smaller c = literals-less desk _ _ _ _ _ c.loop-w.invariant c.literal-w.ensures c.if-not-w.false c.next-p.ensures c.turn.ensures c.if-turn-eq1.false

pub loop-w-preserved : goal.loop-w-preserved
loop-w-preserved c = literals-on desk _ _ _ _ _ c.loop-w.invariant c.literal-w.ensures c.if-not-w.false c.next-p.ensures c.turn.ensures c.if-turn-eq1.false
