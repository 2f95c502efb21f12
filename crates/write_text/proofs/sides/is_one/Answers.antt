-- each return by the test of its place: the hedge is empty, or a variable comes first, or a functor, behind whose children the end is.
use Rattle.write_text.proofs.Siding.{one-past, one-empty, one-variable, one-functor, one-broken}
use Rattle.write_text.proofs.sides.is_one.Goals as goal

pub returns-then-w-at : goal.returns-then-w-at
returns-then-w-at c = record { tells = one-past _ _ c.args.last c.if-w-at.true }

pub returns-then-at-last : goal.returns-then-at-last
returns-then-at-last c = record { tells = one-empty _ _ c.args.last c.if-at-last.true }

pub returns-then-w-at-lt3000 : goal.returns-then-w-at-lt3000
returns-then-w-at-lt3000 c = record { tells = one-variable _ _ c.args.last c.if-at-last.false c.if-w-at-lt3000.true }

pub returns-in-Ok : goal.returns-in-Ok
returns-in-Ok c = record { tells = one-functor _ _ c.args.last _ c.if-w-at-lt3000.false c.read_hedge.ensures c.in-Ok.is }

pub returns-in-Err : goal.returns-in-Err
returns-in-Err c = record { tells = one-broken _ _ c.args.last _ c.if-w-at-lt3000.false c.read_hedge.ensures c.in-Err.is }
