use native.Mathlib.Omega.{arith}
use Rattle.passing.proofs.Standing.{hedge-lt, children, skipped-less}
use Rattle.alike.proofs.Finding.{passes-start, passes_on, passes-free, passes-end}
use Rattle.alike.proofs.next.Goals as goal

pub loop-p-init : goal.loop-p-init
loop-p-init c = search (passes-start)

pub offset_bounds-w-p : goal.offset_bounds-w-p
offset_bounds-w-p c = omega (arith, hedge-lt)

pub bounds-w-p : goal.bounds-w-p
bounds-w-p c = omega (arith, hedge-lt)

pub bounds-k-p : goal.bounds-k-p
bounds-k-p c = omega (arith, hedge-lt)

pub returns-then-not-k-p : goal.returns-then-not-k-p
returns-then-not-k-p c = search (passes-free)

pub overflow_add-p : goal.overflow_add-p
overflow_add-p c = omega (arith, hedge-lt)

pub skip-p-requires : goal.skip-p-requires
skip-p-requires c = search (children)

pub loop-p-smaller : goal.loop-p-smaller
loop-p-smaller c = search (skipped-less)

pub loop-p-preserved : goal.loop-p-preserved
loop-p-preserved c = search (passes_on)

pub returns : goal.returns
returns c = search (passes-end)
