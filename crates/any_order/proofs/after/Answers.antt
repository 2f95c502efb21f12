-- `any_order::after` meets its contract: a lemma for each way out.
use native.Mathlib.Omega.{arith}
use Rattle.any_order.proofs.Recording.{some_fits, onward-more, onward-next, onward-end}
use Rattle.any_order.proofs.after.Goals as goal

pub returns-then-times-gt0 : goal.returns-then-times-gt0
returns-then-times-gt0 c = search (onward-more)

pub overflow_add-next : goal.overflow_add-next
overflow_add-next c = omega (arith, some_fits)

pub overflow_add-kind : goal.overflow_add-kind
overflow_add-kind c = omega (arith, some_fits)

pub offset_bounds-w-kind : goal.offset_bounds-w-kind
offset_bounds-w-kind c = omega (arith, some_fits)

pub bounds-w-kind : goal.bounds-w-kind
bounds-w-kind c = omega (arith, some_fits)

pub overflow_add-next-2 : goal.overflow_add-next-2
overflow_add-next-2 c = omega (arith, some_fits)

pub offset_bounds-w-next : goal.offset_bounds-w-next
offset_bounds-w-next c = omega (arith, some_fits)

pub bounds-w-next : goal.bounds-w-next
bounds-w-next c = omega (arith, some_fits)

pub returns-then-next-top : goal.returns-then-next-top
returns-then-next-top c = search (onward-next)

pub returns : goal.returns
returns c = search (onward-end)
