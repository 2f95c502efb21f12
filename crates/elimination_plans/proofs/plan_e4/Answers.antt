-- The terms before the first that holds the variable are counted.
use mathlib.Core.Path.{◌∙◌}
use Rattle.equation_recipes.proofs.Cutting.{e4-is, e4-begins, e4-finds}
use Rattle.elimination_plans.proofs.plan_e4.Goals as goal

pub returns-in_default : goal.returns-in_default
returns-in_default c = e4-begins _ _ c.in_default.not-Run

pub returns-in_default-up_to : goal.returns-in_default-up_to
returns-in_default-up_to c = e4-finds _ _ c.in-Run.is c.up_to.ensures.0 c.in_default-up_to.is

pub returns : goal.returns
returns c = λ l r a. c.cut_by.ensures ∙ e4-is _ _ c.in-Run.is c.up_to.ensures.0 c.in-Some.is l r a
