-- `handing::most` meets its contract.
use mathlib.Core.Path.{◌∙◌}
use native.Mathlib.Omega.{arith}
use Rattle.std.proofs.Math.Nat.{min-le_left, min-le_right}
use Rattle.handing.proofs.Handed.{used-min}
use Rattle.handing.proofs.most.Goals as goal

pub returns : goal.returns
returns c = let a = c.args in
    (c.min.ensures ∙ used-min _ _, omega (arith, c.min.ensures, min-le_right a.n a.limit), omega (arith, c.min.ensures, min-le_left a.n a.limit))
