use native.Mathlib.Omega.{arith}
use Rattle.any_order.proofs.Standing.{expression-lt, first, second, less, past-each, past-eps, past-over, past-star, past_two}
use Rattle.any_order.proofs.+past.Goals as goal

pub offset_bounds-e-at : goal.offset_bounds-e-at
offset_bounds-e-at t c = omega (arith, expression-lt)

pub bounds-e-at : goal.bounds-e-at
bounds-e-at t c = omega (arith, expression-lt)

pub overflow_add-result : goal.overflow_add-result
overflow_add-result t c = omega (arith, expression-lt)

pub returns-then-x-eq7000 : goal.returns-then-x-eq7000
returns-then-x-eq7000 t c = search (past-eps)

pub overflow_add-at : goal.overflow_add-at
overflow_add-at t c = omega (arith, expression-lt)

pub past-a-requires : goal.past-a-requires
past-a-requires t c = (omega (arith, expression-lt), search (first))

pub returns-then-x-lt7000 : goal.returns-then-x-lt7000
returns-then-x-lt7000 t c = search (past-over)

pub returns-then-x-eq7003 : goal.returns-then-x-eq7003
returns-then-x-eq7003 t c = search (past-star)

pub past-requires : goal.past-requires
past-requires t c = (search (less, past-each), search (second, past-each))

pub returns : goal.returns
returns t c = search (past_two)
