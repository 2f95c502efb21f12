use native.Mathlib.Omega.{arith}
use Rattle.clash.proofs.Growing.{of-more, of-to}
use Rattle.clash.proofs.walking.meet_all.Goals as goal

pub loop-i-preserved : goal.loop-i-preserved
loop-i-preserved c = (omega arith, of-more c.loop-i.invariant.1 c.from.ensures c.meet_with.ensures)

pub returns : goal.returns
returns c = let l = c.loop-i-test.false in let m = c.loop-i.invariant.0 in of-to (omega arith) c.loop-i.invariant.1
