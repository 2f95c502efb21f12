-- A default is two words, or none for a hedge variable.
use native.Mathlib.Omega.{arith}
use Rattle.values.proofs.Unsolved.{runs-named, default_none, default-two}
use Rattle.values.proofs.default_len.Goals as goal

pub returns-then-is_run : goal.returns-then-is_run
returns-then-is_run c = (omega arith, default_none (runs-named c.is_run.ensures) c.if-is_run.true)

pub returns-else-is_run : goal.returns-else-is_run
returns-else-is_run c = (omega arith, default-two (runs-named c.is_run.ensures) c.if-is_run.false)
