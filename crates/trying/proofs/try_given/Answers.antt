-- `trying::try_given` meets its contract: a law for each return.
use borrow.Author.Rules.{rules}
use Rattle.trying.proofs.Outcomes.{given-fits, given-long, given_yes, given-no}
use Rattle.trying.proofs.try_given.Goals as goal

pub returns-then-any_too_long : goal.returns-then-any_too_long
returns-then-any_too_long c = given-long _ _ _ c.any_too_long.ensures c.if-any_too_long.true c.clear.ensures

pub meets_one-met-requires : goal.meets_one-met-requires
meets_one-met-requires c = record {
  fitting_question = given-fits _ _ _ c.any_too_long.ensures c.if-any_too_long.false c.requires.some_question;
  room_in_bounds = search rules;
}

pub returns-then-met : goal.returns-then-met
returns-then-met c = given_yes _ _ _ c.any_too_long.ensures c.if-any_too_long.false c.meets_one-met.ensures c.clear-2.ensures c.if-met.true

pub returns : goal.returns
returns c = given-no _ _ _ c.any_too_long.ensures c.if-any_too_long.false c.meets_one-met.ensures c.clear-2.ensures c.if-met.false
