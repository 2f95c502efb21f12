-- A solved line leaves the count, an open one adds to it.
use native.Mathlib.Omega.{arith}
use mathlib.Core.Path.{refl}
use Rattle.answers.proofs.opened.Goals as goal

pub returns-else-solved : goal.returns-else-solved
returns-else-solved c = rw c.if-solved.false (refl, omega arith)
