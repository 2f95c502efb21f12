use mathlib.Core.Path.{refl, ap, ◌∙◌}
use Prim.Native.Nat.{◌+◌, ◌-◌}
use lib.ListN.{drop, get_or}
use native.Mathlib.Omega.{arith}
use Rattle.words.specs.Spans.{span}
use Rattle.words.proofs.Spans.{opens-le, span-past, span_none, span-step}
use Rattle.spans.proofs.passed.Goals as goal

pub returns-then-need-eq0 : goal.returns-then-need-eq0
returns-then-need-eq0 c = let rest = drop c.loop-i.i c.args.k.now in
    let y = c.loop-i.invariant.2 in
    let z = span_none rest in
    let w = ap (λ n. span n rest) c.if-need-eq0.true in
    omega arith

pub overflow_add-need : goal.overflow_add-need
overflow_add-need c = let k = c.args.k.now in let z = opens-le (get_or k c.loop-i.i 0) in let y = c.opened-more.ensures in omega arith

pub loop-i-preserved : goal.loop-i-preserved
loop-i-preserved c = let k = c.args.k.now in
    let i = c.loop-i.i in
    let need = c.loop-i.need in
    let z = opens-le (get_or k i 0) in
    let y = c.opened-more.ensures in
    (omega arith, omega arith, ap (λ n. i + 1 + span (need - 1 + n) (drop (i + 1) k)) y ∙ span-step need k i c.if-need-eq0.false c.loop-i-test.true ∙ c.loop-i.invariant.2)

pub returns : goal.returns
returns c = let k = c.args.k.now in let z = span-past c.loop-i.need k c.loop-i.i c.loop-i-test.false in let y = c.loop-i.invariant.2 in let m = c.max.ensures in omega arith

pub loop-i-init : goal.loop-i-init
loop-i-init c = (omega arith, omega arith, refl)
