use mathlib.Core.Path.{refl}
use Rattle.write_text.proofs.Siding.{going_on, all-gone}
use native.Mathlib.Omega.{arith}
use Rattle.write_text.proofs.sides.put_elements.Goals as goal

pub loop-i-init : goal.loop-i-init
loop-i-init c = record { high = omega arith; same = refl; on = λ new e l. l }

pub loop-i-preserved : goal.loop-i-preserved
loop-i-preserved c = going_on c.loop-i.invariant (omega arith) c.requires.1 c.put_word-n.ensures c.after-s.ensures (omega arith)

pub returns : goal.returns
returns c = all-gone c.loop-i.invariant (omega arith)
