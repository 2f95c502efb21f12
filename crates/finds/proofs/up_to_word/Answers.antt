use native.Mathlib.Omega.{arith}
use mathlib.Core.Path.{sym, ◌∙◌}
use Rattle.finds.proofs.Walks.{pass-start, pass_on, goes_on, term-some, word-term}
use Rattle.finds.proofs.Searches.{without-start, without_on, without-found, without_end}
use Rattle.finds.proofs.Firsts.{gone-start}
use Rattle.finds.proofs.Stops.{free_on, free-found, free-end}
use Rattle.finds.proofs.up_to_word.Goals as goal

pub loop-e-init : goal.loop-e-init
loop-e-init c = ((λ q h beyond f w s. pass-start s without-start), c.word-x.ensures, omega arith, omega arith, gone-start)

pub returns-then-stands : goal.returns-then-stands
returns-then-stands c = (
  (λ q h beyond f w s.
      let u = c.loop-e.invariant.0 q h beyond f w s in
      without-found f w c.element_end-e.ensures c.stands.ensures c.if-stands.true u.here (sym (word-term u.here c.loop-e.invariant.1) ∙ sym c.is_term.ensures ∙ c.loop-e-test.true) u.keeps),
  omega arith,
  free-found _ _ c.loop-e.invariant.1 _ _ c.is_term.ensures c.loop-e-test.true c.element_end-e.ensures c.stands.ensures c.if-stands.true c.loop-e.invariant.4,
)

pub overflow_add-n : goal.overflow_add-n
overflow_add-n c = let z = goes_on c.args.k.now c.loop-e.i c.loop-e.invariant.1 c.element_end-e.ensures (term-some _ (sym c.is_term.ensures ∙ c.loop-e-test.true)) in omega arith

pub loop-e-smaller : goal.loop-e-smaller
loop-e-smaller c = let z = goes_on c.args.k.now c.loop-e.i c.loop-e.invariant.1 c.element_end-e.ensures (term-some _ (sym c.is_term.ensures ∙ c.loop-e-test.true)) in omega arith

pub loop-e-preserved : goal.loop-e-preserved
loop-e-preserved c = let z = goes_on c.args.k.now c.loop-e.i c.loop-e.invariant.1 c.element_end-e.ensures (term-some _ (sym c.is_term.ensures ∙ c.loop-e-test.true)) in (
  (λ q h beyond f w s. pass_on c.element_end-e.ensures (c.loop-e.invariant.0 q h beyond f w s) (λ done left t m. without_on f w c.element_end-e.ensures c.stands.ensures c.if-stands.false t (sym (word-term t c.loop-e.invariant.1) ∙ sym c.is_term.ensures ∙ c.loop-e-test.true) m)),
  c.word-x-in-loop-e.ensures,
  omega arith,
  omega arith,
  free_on _ _ c.loop-e.invariant.1 _ _ c.is_term.ensures c.loop-e-test.true c.element_end-e.ensures c.stands.ensures c.if-stands.false c.loop-e.invariant.4,
)

pub returns : goal.returns
returns c = ((λ q h beyond f w s. let u = c.loop-e.invariant.0 q h beyond f w s in without_end (sym (word-term u.here c.loop-e.invariant.1) ∙ sym c.is_term.ensures ∙ c.loop-e-test.false) u.keeps), omega arith, free-end _ _ c.loop-e.invariant.1 _ _ c.is_term.ensures c.loop-e-test.false c.loop-e.invariant.4)
