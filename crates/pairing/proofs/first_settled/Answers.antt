use mathlib.Core.Path.{◌≡◌, sym, ◌∙◌}
use borrow.Author.Tests.{eqb-true, eqb-false}
use Rattle.pairing.proofs.Reporting.{mark-here, mark-not, mark-end, marks-start}
use native.Mathlib.Omega.{arith}
use Rattle.pairing.proofs.first_settled.Goals as goal

pub returns-then-settled : goal.returns-then-settled
returns-then-settled c = mark-here _ c.loop-i.i _ (omega arith) (eqb-true _ _ (sym c.settled.ensures ∙ c.if-settled.true)) ∙ c.loop-i.invariant

pub loop-i-preserved : goal.loop-i-preserved
loop-i-preserved c = mark-not _ c.loop-i.i _ (omega arith) (eqb-false _ _ (sym c.settled.ensures ∙ c.if-settled.false)) ∙ c.loop-i.invariant

pub loop-i-init : goal.loop-i-init
loop-i-init c = marks-start _ _

pub returns : goal.returns
returns c = let z : c.args.lines ≡ c.loop-i.i = omega arith in z ∙ mark-end _ c.loop-i.i _ (omega arith) ∙ c.loop-i.invariant
