use native.Mathlib.Omega.{arith}
use mathlib.Core.Path.{sym, ◌∙◌}
use Rattle.finds.proofs.Walks.{pass-first, pass_on, goes_on}
use Rattle.finds.proofs.Searches.{behind-start, behind-on, behind-found, behind-end}
use Rattle.finds.proofs.Firsts.{going_start}
use Rattle.finds.proofs.Stops.{others-on, others-found, others-none}
use Rattle.spots.proofs.word_inside.Goals as goal

pub loop-x-init : goal.loop-x-init
loop-x-init c = ((λ q h beyond f w s. pass-first c.element_end-i.ensures s behind-start), c.word-x.ensures, rw c.element_end-i.ensures going_start)

pub returns-then-from-p : goal.returns-then-from-p
returns-then-from-p c = ((λ q h beyond f w s. behind-found w c.loop-x.invariant.1 f (sym c.from.ensures ∙ c.if-from-p.true) (c.loop-x.invariant.0 q h beyond f w s)), others-found _ _ c.loop-x.invariant.1 _ _ c.loop-x-test.true (sym c.from.ensures ∙ c.if-from-p.true) c.loop-x.invariant.2)

pub loop-x-smaller : goal.loop-x-smaller
loop-x-smaller c = let z = goes_on c.args.k.now c.loop-x.i c.loop-x.invariant.1 c.element_end-i-in-loop-x.ensures c.loop-x-test.true in omega arith

pub loop-x-preserved : goal.loop-x-preserved
loop-x-preserved c = ((λ q h beyond f w s. pass_on c.element_end-i-in-loop-x.ensures (c.loop-x.invariant.0 q h beyond f w s) (λ done left t m. behind-on w c.loop-x.invariant.1 c.loop-x-test.true (λ e. c.if-from-p.false (c.from.ensures ∙ e)) t m)), c.word-x-in-loop-x.ensures, others-on _ _ c.loop-x.invariant.1 _ _ c.loop-x-test.true (λ e. c.if-from-p.false (c.from.ensures ∙ e)) c.element_end-i-in-loop-x.ensures c.loop-x.invariant.2)

pub returns : goal.returns
returns c = ((λ q h beyond f w s. behind-end w c.loop-x.invariant.1 c.loop-x-test.false (c.loop-x.invariant.0 q h beyond f w s)), others-none _ _ c.loop-x.invariant.1 _ _ c.loop-x-test.false c.loop-x.invariant.2)
