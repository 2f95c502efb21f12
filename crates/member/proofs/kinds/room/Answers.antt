-- `member::room` meets its contract: the hedge is within the words.
use mathlib.Core.Path.{refl}
use native.Mathlib.Omega.{arith}
use Rattle.member.proofs.kinds.room.Goals as goal

pub overflow_add-result : goal.overflow_add-result
overflow_add-result c = omega (arith, c.requires.roomy.bounded)

pub skip-requires : goal.skip-requires
skip-requires c = c.requires.hedge

pub overflow_sub-result : goal.overflow_sub-result
overflow_sub-result c = omega (arith, c.requires.roomy.enough _ c.skip.ensures)

pub overflow_mul-result : goal.overflow_mul-result
overflow_mul-result c = omega (arith, c.requires.roomy.enough _ c.skip.ensures, c.requires.roomy.bounded)

pub overflow_sub-result-2 : goal.overflow_sub-result-2
overflow_sub-result-2 c = omega (arith, c.requires.roomy.enough _ c.skip.ensures)

pub returns : goal.returns
returns c = record { stop = _; skipped = c.skip.ensures; is = refl }
