use native.Mathlib.Omega.{arith}
use Rattle.clash.proofs.Growing.{with-more}
use Rattle.clash.proofs.Growing.{with-to}
use Rattle.clash.proofs.walking.meet_with.Goals as goal

pub loop-j-preserved : goal.loop-j-preserved
loop-j-preserved c = (omega arith, with-more c.loop-j.invariant.1 c.from.ensures c.meet_twin.ensures)

pub returns : goal.returns
returns c = let l = c.loop-j-test.false in let m = c.loop-j.invariant.0 in with-to (omega arith) c.loop-j.invariant.1
