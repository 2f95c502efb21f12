-- `settle`: only a run that was stopped has its room cleared.
use mathlib.Core.Path.{sym, ◌∙◌}
use Rattle.around.proofs.Laws.{settled-done, settled-stopped}
use Rattle.around.proofs.settle.Goals as goal

pub returns-then-is_err : goal.returns-then-is_err
returns-then-is_err c = settled-stopped _ _ _ (sym c.is_err.ensures.value ∙ c.if-is_err.true) c.wipe.ensures

pub returns-else-is_err : goal.returns-else-is_err
returns-else-is_err c = settled-done _ _ (sym c.is_err.ensures.value ∙ c.if-is_err.false)
