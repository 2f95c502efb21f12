use Prim.Native.Nat.{◌-◌}
use native.Mathlib.Omega.{arith}
use Rattle.member.proofs.Finding.{kinds-fit, kinds-on, find-here, find-on, find_none}
use Rattle.member.proofs.kinds.+find.Goals as goal

pub overflow_add-next : goal.overflow_add-next
overflow_add-next t c = omega (arith, kinds-fit c.requires.kinds c.if-at-top.true, c.requires.kinds.fits)

pub overflow_add-at : goal.overflow_add-at
overflow_add-at t c = omega (arith, kinds-fit c.requires.kinds c.if-at-top.true, c.requires.kinds.fits)

pub offset_bounds-w-at : goal.offset_bounds-w-at
offset_bounds-w-at t c = omega (arith, kinds-fit c.requires.kinds c.if-at-top.true, c.requires.kinds.fits)

pub bounds-w-at : goal.bounds-w-at
bounds-w-at t c = omega (arith, kinds-fit c.requires.kinds c.if-at-top.true, c.requires.kinds.fits)

pub overflow_add-next-then-at-top : goal.overflow_add-next-then-at-top
overflow_add-next-then-at-top t c = omega (arith, kinds-fit c.requires.kinds c.if-at-top.true, c.requires.kinds.fits, c.wide.ensures)

pub overflow_add-at-then-at-top : goal.overflow_add-at-then-at-top
overflow_add-at-then-at-top t c = omega (arith, kinds-fit c.requires.kinds c.if-at-top.true, c.requires.kinds.fits)

pub overflow_add-top : goal.overflow_add-top
overflow_add-top t c = omega (arith, c.requires.top_bound)

pub returns-then-same_part : goal.returns-then-same_part
returns-then-same_part t c = find-here c.requires.kinds c.if-at-top.true c.wide.ensures c.requires.top_bound.1 c.same_part.ensures c.if-same_part.true

pub find-requires : goal.find-requires
find-requires t c = (omega (arith, kinds-fit c.requires.kinds c.if-at-top.true), (kinds-on c.requires.kinds c.if-at-top.true c.wide.ensures, c.requires.top_bound))

pub returns-then-at-top : goal.returns-then-at-top
returns-then-at-top t c = find-on c.if-at-top.true c.wide.ensures c.find.ensures

pub returns : goal.returns
returns t c = find_none c.requires.kinds c.if-at-top.false
