-- `trying::first_end` meets its contract: a literal's first hedge is read back.
use Rattle.trying.proofs.Literals.{first_next, first-stop}
use Rattle.trying.proofs.first_end.Goals as goal

pub returns-in-Ok : goal.returns-in-Ok
returns-in-Ok c = first_next _ c.read_hedge.ensures c.in-Ok.is

pub returns-in-Err : goal.returns-in-Err
returns-in-Err c = first-stop _ c.read_hedge.ensures c.in-Err.is
