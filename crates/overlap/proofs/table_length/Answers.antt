-- `overlap::table_length` meets its contract.
use mathlib.Core.Path.{ap, ◌∙◌}
use Prim.Native.Nat.{◌+◌, ◌*◌}
use native.Mathlib.Nat.{mul-le-mul_right}
use Rattle.overlap.proofs.Tabling.{table-times}
use native.Mathlib.Omega.{arith}
use Rattle.overlap.proofs.table_length.Goals as goal

pub overflow_mul-result : goal.overflow_mul-result
overflow_mul-result c = let z = mul-le-mul_right (c.args.size + 4) c.pair_count.ensures.1 in omega arith

pub returns : goal.returns
returns c = ap (λ n. n * (c.args.size + 4)) c.pair_count.ensures.0 ∙ table-times c.args.size c.args.n
