-- `expression_words::write_expression` meets its contract: the rows are long enough.
use Prim.Native.Nat.{ℕ, ◌+◌}
use lib.ListN.{length-replicate}
use Rattle.language.specs.Limits.{desk}
use native.Mathlib.Omega.{arith}
use Rattle.expression_words.proofs.write_expression.Goals as goal

pub write_with-requires : goal.write_with-requires
write_with-requires c = let p = c.requires in
    (p.0, p.1, p.2, omega (arith, p.2, length-replicate {A = ℕ} (desk.question + 1) 0), omega (arith, p.2, length-replicate {A = ℕ} (desk.question + 1) 0))

pub returns : goal.returns
returns c = c.write_with.ensures.0
