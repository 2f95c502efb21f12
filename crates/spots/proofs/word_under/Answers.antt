use native.Mathlib.Omega.{arith}
use mathlib.Core.Path.{refl, ◌∙◌}
use Rattle.finds.proofs.Walks.{pass-start, pass_on, goes_on}
use Rattle.finds.proofs.Searches.{under-found, under-on, under-end}
use Rattle.finds.proofs.Firsts.{going_start}
use Rattle.finds.proofs.Stops.{below_on, below-found, below_none}
use Rattle.spots.proofs.word_under.Goals as goal

pub loop-x-init : goal.loop-x-init
loop-x-init c = ((λ y h beyond f w s. pass-start s refl), c.word-x.ensures, going_start)

pub overflow_add-i : goal.overflow_add-i
overflow_add-i c = let z = goes_on c.args.k.now c.loop-x.i c.loop-x.invariant.1 c.element_end-e.ensures c.loop-x-test.true in omega arith

pub returns-then-stands : goal.returns-then-stands
returns-then-stands c = ((λ y h beyond f w s. let u = c.loop-x.invariant.0 y h beyond f w s in under-found y u.left f w u.here c.element_end-e.ensures c.stands.ensures c.if-stands.true ∙ u.keeps), below-found _ _ c.loop-x.invariant.1 _ c.loop-x-test.true c.element_end-e.ensures c.stands.ensures c.if-stands.true c.loop-x.invariant.2)

pub loop-x-smaller : goal.loop-x-smaller
loop-x-smaller c = let z = goes_on c.args.k.now c.loop-x.i c.loop-x.invariant.1 c.element_end-e.ensures c.loop-x-test.true in omega arith

pub loop-x-preserved : goal.loop-x-preserved
loop-x-preserved c = (
  (λ y h beyond f w s. pass_on c.element_end-e.ensures (c.loop-x.invariant.0 y h beyond f w s) (λ done left t q. under-on y left f w t c.element_end-e.ensures c.stands.ensures c.if-stands.false ∙ q)),
  c.word-x-in-loop-x.ensures,
  below_on _ _ c.loop-x.invariant.1 _ c.loop-x-test.true c.element_end-e.ensures c.stands.ensures c.if-stands.false c.loop-x.invariant.2,
)

pub returns : goal.returns
returns c = ((λ y h beyond f w s. let u = c.loop-x.invariant.0 y h beyond f w s in under-end y u.left u.here c.loop-x.invariant.1 c.loop-x-test.false ∙ u.keeps), below_none _ _ c.loop-x.invariant.1 _ c.loop-x-test.false c.loop-x.invariant.2)
