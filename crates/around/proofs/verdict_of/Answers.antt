-- By the two tests.
use borrow.Author.Tests.{eq-eqb, ne_eqb, lt-ltb, le-ltb}
use Rattle.around.proofs.verdict_of.Goals as goal

pub returns-then-t-gt0 : goal.returns-then-t-gt0
returns-then-t-gt0 c = simp (ne_eqb _ _ c.if-t-eq0.false, lt-ltb _ _ c.if-t-gt0.true)

pub returns : goal.returns
returns c = simp (ne_eqb _ _ c.if-t-eq0.false, le-ltb _ _ c.if-t-gt0.false)

pub returns-then-t-eq0 : goal.returns-then-t-eq0
returns-then-t-eq0 c = simp (eq-eqb _ _ c.if-t-eq0.true)
