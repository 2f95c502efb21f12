use native.Mathlib.Omega.{arith}
use Rattle.clash.proofs.Flagging.{sweep-more, swept_all}
use Rattle.clash.proofs.sweeps.sweep.Goals as goal

pub loop-i-preserved : goal.loop-i-preserved
loop-i-preserved c = let l = c.loop-i.invariant.0 in (omega arith, sweep-more _ _ (omega arith) c.loop-i.invariant.1 c.sweep_at-new.ensures c.or-changed.ensures)

pub returns : goal.returns
returns c = swept_all (omega arith) c.loop-i.invariant.1
