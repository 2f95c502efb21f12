use native.Mathlib.Omega.{arith}
use mathlib.Core.Path.{refl, sym, ◌∙◌}
use Rattle.finds.proofs.Walks.{pass-start, pass_on, goes_on, term-some, word-term, word-empty, all_terms-on, all_terms-end}
use Rattle.finds.proofs.Firsts.{gone-start}
use Rattle.finds.proofs.Stops.{terms-on, terms-end}
use Rattle.finds.proofs.all_terms.Goals as goal

pub loop-x-init : goal.loop-x-init
loop-x-init c = ((λ h beyond s. pass-start s (refl, omega arith)), c.word-x.ensures, omega arith, omega arith, gone-start)

pub overflow_add-n : goal.overflow_add-n
overflow_add-n c = let z = goes_on c.args.k.now c.loop-x.i c.loop-x.invariant.1 c.element_end-i.ensures (term-some _ (sym c.is_term.ensures ∙ c.loop-x-test.true)) in omega arith

pub loop-x-smaller : goal.loop-x-smaller
loop-x-smaller c = let z = goes_on c.args.k.now c.loop-x.i c.loop-x.invariant.1 c.element_end-i.ensures (term-some _ (sym c.is_term.ensures ∙ c.loop-x-test.true)) in omega arith

pub loop-x-preserved : goal.loop-x-preserved
loop-x-preserved c = let z = goes_on c.args.k.now c.loop-x.i c.loop-x.invariant.1 c.element_end-i.ensures (term-some _ (sym c.is_term.ensures ∙ c.loop-x-test.true)) in (
  (λ h beyond s. pass_on c.element_end-i.ensures (c.loop-x.invariant.0 h beyond s) (λ done left t q. let a = all_terms-on left (sym (word-term t c.loop-x.invariant.1) ∙ sym c.is_term.ensures ∙ c.loop-x-test.true) in (a.0 ∙ q.0, omega arith))),
  c.word-x-in-loop-x.ensures,
  omega arith,
  omega arith,
  terms-on _ _ c.loop-x.invariant.1 c.is_term.ensures c.loop-x-test.true c.element_end-i.ensures c.loop-x.invariant.4,
)

pub returns : goal.returns
returns c = (
  (λ h beyond s.
      let w = c.loop-x.invariant.0 h beyond s in
      let e = word-empty w.here c.loop-x.invariant.1 in
      let a = all_terms-end w.left (sym (word-term w.here c.loop-x.invariant.1) ∙ sym c.is_term.ensures ∙ c.loop-x-test.false) in
      record { all = e ∙ a.0 ∙ w.keeps.0; count = λ y. let z = a.1 (sym e ∙ y) in let q = w.keeps.1 in omega arith }),
  omega arith,
  terms-end _ _ c.loop-x.invariant.1 c.is_term.ensures c.loop-x-test.false c.loop-x.invariant.4,
)
