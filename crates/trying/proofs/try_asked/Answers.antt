-- `trying::try_asked` meets its contract: the filling is refused, or tried.
use borrow.Author.Rules.{rules}
use Rattle.trying.proofs.Outcomes.{asked-counts, asked-refused, asked-some, asked-given}
use Rattle.trying.proofs.try_asked.Goals as goal

pub read_filling-requires : goal.read_filling-requires
read_filling-requires c = asked-counts _ c.args.filling.now _ c.requires.asked_question

pub try_given-requires : goal.try_given-requires
try_given-requires c = record {
  some_question = asked-some _ _ _ c.read_filling.ensures c.in-Ok.is c.requires.asked_question;
  room_in_bounds = search rules;
}

pub returns-in-Err : goal.returns-in-Err
returns-in-Err c = asked-refused _ _ _ c.read_filling.ensures c.in-Err.is

pub returns-in-Ok : goal.returns-in-Ok
returns-in-Ok c = asked-given _ _ _ c.read_filling.ensures c.in-Ok.is c.try_given.ensures
