use native.Mathlib.Omega.{arith}
use mathlib.Core.Path.{refl, sym, ap, ◌∙◌}
use mathlib.Core.Bool.{not}
use Rattle.finds.proofs.Walks.{pass-start, pass_on, goes_on, run-some, word-run, word-empty, has_term-on, has_term-end}
use Rattle.finds.proofs.Firsts.{going_start}
use Rattle.finds.proofs.Stops.{runs_on, runs-end}
use Rattle.spots.proofs.has_term.Goals as goal

pub loop-x-init : goal.loop-x-init
loop-x-init c = ((λ h beyond s. pass-start s refl), c.word-x.ensures, going_start)

pub loop-x-smaller : goal.loop-x-smaller
loop-x-smaller c = let z = goes_on c.args.k.now c.loop-x.i c.loop-x.invariant.1 c.element_end-i.ensures (run-some _ (sym c.is_run.ensures ∙ c.loop-x-test.true)) in omega arith

pub loop-x-preserved : goal.loop-x-preserved
loop-x-preserved c = ((λ h beyond s. pass_on c.element_end-i.ensures (c.loop-x.invariant.0 h beyond s) (λ done left t q. has_term-on left (sym (word-run t c.loop-x.invariant.1) ∙ sym c.is_run.ensures ∙ c.loop-x-test.true) ∙ q)), c.word-x-in-loop-x.ensures, runs_on _ _ c.loop-x.invariant.1 c.is_run.ensures c.loop-x-test.true c.element_end-i.ensures c.loop-x.invariant.2)

pub returns : goal.returns
returns c = ((λ h beyond s. let w = c.loop-x.invariant.0 h beyond s in ap not (word-empty w.here c.loop-x.invariant.1) ∙ has_term-end w.left (sym (word-run w.here c.loop-x.invariant.1) ∙ sym c.is_run.ensures ∙ c.loop-x-test.false) ∙ w.keeps), runs-end _ _ c.loop-x.invariant.1 c.is_run.ensures c.loop-x-test.false c.loop-x.invariant.2)
