-- `member::join` meets its contract, whether the kind is new or not.
use native.Mathlib.Omega.{arith}
use Rattle.member.proofs.Joining.{join-new, join-old}
use Rattle.member.proofs.kinds.join.Goals as goal

pub find-o-requires : goal.find-o-requires
find-o-requires c = record {
  kinds = c.requires.kinds;
  top_bound = (c.requires.top_bound.0, c.requires.top_bound.1);
}

pub store-requires : goal.store-requires
store-requires c = (omega (arith, c.requires.top_bound), omega arith)

pub overflow_add-top : goal.overflow_add-top
overflow_add-top c = omega (arith, c.requires.top_bound)

pub overflow_sub-t : goal.overflow_sub-t
overflow_sub-t c = omega (arith, c.requires.top_bound)

pub overflow_sub-t-then-o-top : goal.overflow_sub-t-then-o-top
overflow_sub-t-then-o-top c = omega (arith, c.requires.top_bound)

pub store-requires-then-o-top : goal.store-requires-then-o-top
store-requires-then-o-top c = (omega (arith, c.requires.top_bound), omega (arith, c.requires.top_bound))

pub returns-then-o-top : goal.returns-then-o-top
returns-then-o-top c = join-new c.find-o.ensures c.if-o-top.true c.store.ensures c.store-then-o-top.ensures

pub offset_bounds-w-o : goal.offset_bounds-w-o
offset_bounds-w-o c = omega (arith, c.find-o.ensures.within, c.requires.top_bound)

pub bounds-w-o : goal.bounds-w-o
bounds-w-o c = omega (arith, c.find-o.ensures.within, c.requires.top_bound)

pub overflow_add-w : goal.overflow_add-w
overflow_add-w c = omega (arith, c.requires.countable.few _ c.find-o.ensures c.if-o-top.false)

pub bounds-w-o-2 : goal.bounds-w-o-2
bounds-w-o-2 c = omega (arith, c.find-o.ensures.within, c.requires.top_bound)

pub returns : goal.returns
returns c = join-old c.find-o.ensures c.if-o-top.false
