-- `write_text::bytes::first` meets its contract: by the tests.
use borrow.Author.Tests.{eq-eqb, ne_eqb}
use Rattle.write_text.proofs.bytes.first.Goals as goal

pub returns-then-s-eq0 : goal.returns-then-s-eq0
returns-then-s-eq0 c = rw (eq-eqb _ _ c.if-s-eq0.true)

pub returns-then-s-eq1 : goal.returns-then-s-eq1
returns-then-s-eq1 c = rw (ne_eqb _ _ c.if-s-eq0.false, eq-eqb _ _ c.if-s-eq1.true)

pub returns : goal.returns
returns c = rw (ne_eqb _ _ c.if-s-eq0.false, ne_eqb _ _ c.if-s-eq1.false)
