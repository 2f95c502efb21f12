-- `member::undo` meets its contract, whether the kind is new or not.
use native.Mathlib.Omega.{arith}
use Rattle.member.proofs.Joining.{undo-new, undo-old}
use Rattle.member.proofs.kinds.undo.Goals as goal

pub returns-then-o-top : goal.returns-then-o-top
returns-then-o-top c = undo-new c.if-o-top.true

pub offset_bounds-w-o : goal.offset_bounds-w-o
offset_bounds-w-o c = omega (arith, c.requires.some c.if-o-top.false)

pub bounds-w-o : goal.bounds-w-o
bounds-w-o c = omega (arith, c.requires.some c.if-o-top.false)

pub overflow_sub-w : goal.overflow_sub-w
overflow_sub-w c = omega (arith, c.requires.some c.if-o-top.false)

pub bounds-w-o-2 : goal.bounds-w-o-2
bounds-w-o-2 c = omega (arith, c.requires.some c.if-o-top.false)

pub returns : goal.returns
returns c = undo-old c.if-o-top.false
