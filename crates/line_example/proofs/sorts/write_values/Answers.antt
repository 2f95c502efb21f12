use mathlib.Core.Path.{refl}
use native.Mathlib.Omega.{arith}
use Rattle.line_example.proofs.Rows.{named-numbered, written_start, written_next, written-done}
use Rattle.line_example.proofs.sorts.write_values.Goals as goal

pub loop-j-init : goal.loop-j-init
loop-j-init c = (refl, written_start)

pub write_value-e-requires : goal.write_value-e-requires
write_value-e-requires c = let p = c.requires in (p.1, named-numbered c.args.of c.loop-j-test.true p.0 c.numbered.ensures, p.2)

pub loop-j-preserved : goal.loop-j-preserved
loop-j-preserved c = let p = c.requires.0 in let t = c.loop-j-test.true in (omega arith, written_next c.loop-j.invariant.1 (c.numbered.ensures (omega arith)) t c.write_value-e.ensures)

pub returns : goal.returns
returns c = written-done c.loop-j.invariant.1 c.loop-j-test.false
