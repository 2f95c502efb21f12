use mathlib.Core.Path.{◌≡◌, subst}
use native.Mathlib.Omega.{arith}
use Rattle.first_waiting.specs.Parts.{AlikeBack}
use Rattle.first_waiting.proofs.Kept.{back_none, back_more}
use Rattle.first_waiting.proofs.same_behind.Goals as goal

pub loop-i-init : goal.loop-i-init
loop-i-init c = back_none _ _ _ _

pub loop-i-preserved : goal.loop-i-preserved
loop-i-preserved c = back_more c.loop-i.invariant c.if-k-end.false

pub returns-then-k-end : goal.returns-then-k-end
returns-then-k-end c = (omega arith, c.loop-i.invariant)

pub returns : goal.returns
returns c = (omega arith, subst (λ n. AlikeBack c.args.k.now c.args.end c.args.work.now c.args.to n) (let z : c.loop-i.i ≡ c.args.most = omega arith in z) c.loop-i.invariant)
