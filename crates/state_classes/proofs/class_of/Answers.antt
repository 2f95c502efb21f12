use mathlib.Core.Path.{refl, subst}
use Rattle.state_classes.specs.Classes.{Liked}
use Rattle.state_classes.proofs.Classing.{unmet-start, unmet-next, classed-here, classed-self}
use Rattle.state_classes.proofs.class_of.Goals as goal

pub loop-t-init : goal.loop-t-init
loop-t-init c = unmet-start refl

pub returns-then-is_like : goal.returns-then-is_like
returns-then-is_like c = classed-here c.loop-t-test.true (subst (Liked _ _ _ _ _) c.if-is_like.true c.is_like.ensures) c.loop-t.invariant

pub loop-t-preserved : goal.loop-t-preserved
loop-t-preserved c = unmet-next (subst (Liked _ _ _ _ _) c.if-is_like.false c.is_like.ensures) c.loop-t.invariant

pub returns : goal.returns
returns c = classed-self c.loop-t-test.false c.loop-t.invariant
