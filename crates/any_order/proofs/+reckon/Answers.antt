use native.Mathlib.Omega.{arith}
use borrow.Author.Rules.{rules}
use Rattle.any_order.proofs.Standing.{expression-lt, first, second, less, is-alt}
use Rattle.any_order.proofs.Spans.{sp-eps, sp-over, sp-star, sp-cat, sp-alt, span-end, span_small}
use Rattle.any_order.proofs.+reckon.Goals as goal

pub offset_bounds-e-at : goal.offset_bounds-e-at
offset_bounds-e-at t c = omega (arith, expression-lt)

pub bounds-e-at : goal.bounds-e-at
bounds-e-at t c = omega (arith, expression-lt)

pub overflow_add-result : goal.overflow_add-result
overflow_add-result t c = omega (arith, expression-lt)

pub returns-then-x-eq7000 : goal.returns-then-x-eq7000
returns-then-x-eq7000 t c = search (sp-eps)

pub overflow_add-at : goal.overflow_add-at
overflow_add-at t c = omega (arith, expression-lt)

pub past-end-requires : goal.past-end-requires
past-end-requires t c = search (first)

pub offset_bounds-c-at : goal.offset_bounds-c-at
offset_bounds-c-at t c = omega (arith, expression-lt)

pub bounds-c-at : goal.bounds-c-at
bounds-c-at t c = omega (arith, expression-lt)

pub grows-requires : goal.grows-requires
grows-requires t c = record {
  at_in_bounds = omega (arith, expression-lt);
  kind_bound = omega arith;
}

pub returns-then-x-lt7000 : goal.returns-then-x-lt7000
returns-then-x-lt7000 t c = search (sp-over)

pub overflow_add-at-2 : goal.overflow_add-at-2
overflow_add-at-2 t c = omega (arith, expression-lt)

pub reckon-a-requires : goal.reckon-a-requires
reckon-a-requires t c = (omega (arith, expression-lt), (search (first), (omega arith, (omega arith, (omega arith, (search rules, omega arith))))))

pub returns-then-x-eq7003 : goal.returns-then-x-eq7003
returns-then-x-eq7003 t c = search (sp-star)

pub reckon-b-requires : goal.reckon-b-requires
reckon-b-requires t c = (search (less, span-end), (search (second, span-end), (omega arith, (omega arith, (omega arith, (search rules, omega arith))))))

pub returns-then-x-eq7001 : goal.returns-then-x-eq7001
returns-then-x-eq7001 t c = search (sp-cat)

pub plus-requires : goal.plus-requires
plus-requires t c = record {
  small = search (span_small, first);
  small_2 = search (span_small, second, span-end);
}

pub returns : goal.returns
returns t c = search (sp-alt, is-alt)
