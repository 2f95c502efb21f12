-- The plan is that of the two recipes.
use Rattle.membership_plans.proofs.Plain.{by_two}
use Rattle.membership_plans.proofs.plan_m3.Goals as goal

pub returns : goal.returns
returns c = by_two c.first_in-first.ensures c.rest_in-second.ensures
