-- By the test.
use mathlib.Core.Path.{sym, ap}
use borrow.Author.Tests.{lt-ltb, le-ltb}
use Rattle.language.specs.Kinds.{pick}
use Rattle.search.proofs.lesser.Goals as goal

pub returns-then-b-a : goal.returns-then-b-a
returns-then-b-a c = ap (λ t. pick t c.args.b c.args.a) (sym (lt-ltb _ _ c.if-b-a.true))

pub returns-else-b-a : goal.returns-else-b-a
returns-else-b-a c = ap (λ t. pick t c.args.b c.args.a) (sym (le-ltb _ _ c.if-b-a.false))
