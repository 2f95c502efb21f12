-- A default is written word by word.
use Rattle.values.proofs.Unsolved.{runs-named, default-empty, default-laid}
use Rattle.values.proofs.write_default.Goals as goal

pub returns-then-is_run : goal.returns-then-is_run
returns-then-is_run c = default-empty (runs-named c.is_run.ensures) _ c.if-is_run.true

pub returns : goal.returns
returns c = default-laid (runs-named c.is_run.ensures) _ c.if-is_run.false c.symbol_word-d.ensures c.put-e.ensures c.put.ensures
