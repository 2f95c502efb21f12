use mathlib.Core.Path.{sym, ◌∙◌}
use native.Mathlib.Omega.{arith}
use Rattle.folding.proofs.Laters.{later-starts, later-found, later-on, later-ends}
use Rattle.folding.proofs.later_equal.Goals as goal

pub loop-j-init : goal.loop-j-init
loop-j-init c = (c.next_literal-end.ensures, λ before l behind s. later-starts s _ c.next_literal-end.ensures)

pub returns-then-same_part : goal.returns-then-same_part
returns-then-same_part c = λ before l behind s. later-found s _ c.loop-j.invariant.0 _ (c.loop-j.invariant.1 before l behind s) _ c.next_literal-after.ensures c.loop-j-test.true (sym c.same_part.ensures ∙ c.if-same_part.true)

pub loop-j-smaller : goal.loop-j-smaller
loop-j-smaller c = let z = c.next_literal-after.ensures in omega arith

pub loop-j-preserved : goal.loop-j-preserved
loop-j-preserved c = (c.loop-j.invariant.0, λ before l behind s. later-on s _ c.loop-j.invariant.0 _ (c.loop-j.invariant.1 before l behind s) _ c.next_literal-after.ensures c.loop-j-test.true (sym c.same_part.ensures ∙ c.if-same_part.false))

pub returns : goal.returns
returns c = λ before l behind s. later-ends s _ c.loop-j.invariant.0 _ (c.loop-j.invariant.1 before l behind s) c.loop-j-test.false
