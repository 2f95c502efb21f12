-- `trying::literal_end` meets its contract: a literal is read back.
use Rattle.trying.proofs.Conjunctions.{literal-next, literal-stop}
use Rattle.trying.proofs.literal_end.Goals as goal

pub returns-in-Ok : goal.returns-in-Ok
returns-in-Ok c = literal-next _ _ c.read_literal.ensures c.in-Ok.is

pub returns-in-Err : goal.returns-in-Err
returns-in-Err c = literal-stop _ _ c.read_literal.ensures c.in-Err.is
