-- The variable stands where it was found.
use mathlib.Core.Path.{◌∙◌}
use Rattle.equation_recipes.proofs.Cutting.{del3-is, del3-begins, del3-finds}
use Rattle.elimination_plans.proofs.plan_del3.Goals as goal

pub returns-in_default : goal.returns-in_default
returns-in_default c = del3-begins _ _ c.in_default.not-Run

pub returns-in_default-inside : goal.returns-in_default-inside
returns-in_default-inside c = del3-finds _ _ c.in-Run.is c.inside.ensures.0 c.in_default-inside.is

pub returns : goal.returns
returns c = λ l r a. c.strike.ensures ∙ del3-is _ _ c.in-Run.is c.inside.ensures.0 c.in-Some.is l r a
