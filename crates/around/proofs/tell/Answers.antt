-- `tell`: how the run ended, and what is cleared then.
use Rattle.around.proofs.Laws.{told-done, told-stopped}
use Rattle.around.proofs.tell.Goals as goal

pub returns-in-Ok : goal.returns-in-Ok
returns-in-Ok c = told-done _ _ _ _ c.clear.ensures _ _ c.in-Ok.is c.verdict_of-outcome.ensures

pub returns-in-Err : goal.returns-in-Err
returns-in-Err c = told-stopped _ _ _ _ c.clear.ensures _ _ _ c.in-Err.is c.clear-in-Err.ensures c.refused.ensures
