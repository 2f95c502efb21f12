use Prim.Native.Nat.{◌-◌}
use Rattle.read_text.proofs.Leaves.{copy-starts, copy-length, copy-on, copy-ends}
use native.Mathlib.Omega.{arith}
use Rattle.read_text.proofs.copy.Goals as goal

pub loop-i-init : goal.loop-i-init
loop-i-init c = copy-starts c.requires.0 c.requires.1

pub bounds-words-i : goal.bounds-words-i
bounds-words-i c = omega (arith, c.loop-i.invariant.within)

pub bounds-room-i : goal.bounds-room-i
bounds-room-i c = omega (arith, c.loop-i.invariant.fits, copy-length c.loop-i.invariant)

pub loop-i-preserved : goal.loop-i-preserved
loop-i-preserved c = copy-on c.loop-i.invariant (omega arith)

pub returns : goal.returns
returns c = copy-ends c.loop-i.invariant (omega arith)
