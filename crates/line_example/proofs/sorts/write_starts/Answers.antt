use mathlib.Core.Path.{refl}
use native.Mathlib.Omega.{arith}
use Rattle.line_example.proofs.Rows.{named-numbered, started-start, started-next, started-done}
use Rattle.line_example.proofs.sorts.write_starts.Goals as goal

pub loop-j-init : goal.loop-j-init
loop-j-init c = (refl, started-start)

pub value_len-next-requires : goal.value_len-next-requires
value_len-next-requires c = let p = c.requires in (p.0, p.3, named-numbered c.args.of c.loop-j-test.true p.1 c.numbered.ensures)

pub loop-j-preserved : goal.loop-j-preserved
loop-j-preserved c = let p = c.requires.1 in let t = c.loop-j-test.true in (omega arith, started-next c.loop-j.invariant.1 (c.numbered.ensures (omega arith)) t c.short.ensures c.put-e.ensures c.value_len-next.ensures)

pub returns : goal.returns
returns c = started-done c.loop-j.invariant.1 c.requires.1 c.loop-j-test.false
