-- The terms of the right side are counted.
use mathlib.Core.Path.{◌∙◌}
use Rattle.equation_recipes.proofs.Cutting.{e3-is}
use Rattle.elimination_plans.proofs.plan_e3.Goals as goal

pub returns : goal.returns
returns c = λ l r a. c.cut_by.ensures ∙ e3-is _ _ c.all_terms-terms.result (λ h beyond s. c.all_terms-terms.ensures.0 h beyond s) l r a
