use Prim.Native.Nat.{◌-◌, ◌/◌}
use mathlib.Core.Path.{refl, sym, ◌∙◌, subst}
use mathlib.Core.Logic.{inr}
use native.Mathlib.Omega.{arith}
use Rattle.folding.specs.Chains.{Held, here, further, met, unmet}
use Rattle.folding.proofs.Chains.{in_row, left-on, left_end}
use Rattle.folding.proofs.seek.Goals as goal

pub returns-then-same_part : goal.returns-then-same_part
returns-then-same_part c = met (c.loop-p.invariant.1 _ (here (omega arith))) (sym c.same_part.ensures ∙ c.if-same_part.true)

pub loop-p-smaller : goal.loop-p-smaller
loop-p-smaller c = let q = c.loop-p.p - 1 in
    let z = c.requires.4 (q / 3) in let x = in_row q in let y = c.from-p.ensures in omega arith

pub loop-p-preserved : goal.loop-p-preserved
loop-p-preserved c = let z = c.requires.4 ((c.loop-p.p - 1) / 3) in
    let x = in_row (c.loop-p.p - 1) in
    let y = c.from-p.ensures in (
      omega arith,
      λ q r. c.loop-p.invariant.1 q (further (c.loop-p.p - 1) (omega arith) (subst (λ n. Held c.args.next.now n q) y r)),
      left-on c.args.k.now c.args.next.now c.args.first c.args.at c.args.end c.loop-p.p c.loop-p.invariant.2 (c.loop-p.p - 1) _ (omega arith) y (sym c.same_part.ensures ∙ c.if-same_part.false),
    )

pub returns : goal.returns
returns c = unmet refl (left_end c.args.k.now c.args.next.now c.args.first c.args.at c.args.end c.loop-p.p c.loop-p.invariant.2 c.loop-p-test.false)

pub loop-p-init : goal.loop-p-init
loop-p-init c = (omega arith, λ q r. r, λ q r. inr r)
