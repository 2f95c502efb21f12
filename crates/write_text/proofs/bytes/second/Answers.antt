-- `write_text::bytes::second` meets its contract: by the test.
use borrow.Author.Tests.{eq-eqb, ne_eqb}
use Rattle.write_text.proofs.bytes.second.Goals as goal

pub returns-then-s-eq2 : goal.returns-then-s-eq2
returns-then-s-eq2 c = rw (eq-eqb _ _ c.if-s-eq2.true)

pub returns : goal.returns
returns c = rw (ne_eqb _ _ c.if-s-eq2.false)
