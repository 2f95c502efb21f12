-- `patterns::too_long` meets its contract.
use Prim.Native.Nat.{◌+◌, ◌/◌}
use lib.ListN.{length}
use Rattle.patterns.proofs.Turns.{long-so}
use native.Mathlib.Omega.{arith}
use Rattle.patterns.proofs.too_long.Goals as goal

pub returns-then-first-gt-QUESTION : goal.returns-then-first-gt-QUESTION
returns-then-first-gt-QUESTION c = long-so (10 + (length c.args.first.now / 2 + length c.args.second.now / 2)) (omega arith)

pub returns-then-second-gt-QUESTION : goal.returns-then-second-gt-QUESTION
returns-then-second-gt-QUESTION c = long-so (10 + (length c.args.first.now / 2 + length c.args.second.now / 2)) (omega arith)
