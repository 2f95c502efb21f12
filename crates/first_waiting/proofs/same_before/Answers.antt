use mathlib.Core.Path.{◌≡◌, subst}
use native.Mathlib.Omega.{arith}
use Rattle.first_waiting.specs.Parts.{Alike}
use Rattle.first_waiting.proofs.Kept.{alike-none, alike-more}
use Rattle.first_waiting.proofs.same_before.Goals as goal

pub loop-i-init : goal.loop-i-init
loop-i-init c = alike-none _ _ _

pub loop-i-preserved : goal.loop-i-preserved
loop-i-preserved c = alike-more c.loop-i.invariant c.if-k-i.false

pub returns-then-k-i : goal.returns-then-k-i
returns-then-k-i c = (omega arith, c.loop-i.invariant)

pub returns : goal.returns
returns c = (omega arith, subst (λ n. Alike c.args.k.now c.args.work.now c.args.from n) (let z : c.loop-i.i ≡ c.args.most = omega arith in z) c.loop-i.invariant)
