use native.Mathlib.Omega.{arith}
use Prim.Native.Nat.{◌-◌}
use lib.ListN.{length-set}
use Rattle.charts.proofs.Charting.{chart-more, chart-from, rest_more}
use Rattle.charts.proofs.chart.Goals as goal

pub loop-i-preserved : goal.loop-i-preserved
loop-i-preserved c = let h = c.loop-i.invariant.0 in
    let l = length-set c.loop-i.ends (c.loop-i.i - 1) c.part_by-p.result.end in
    let n = length-set c.loop-i.nulls (c.loop-i.i - 1) c.part_by-p.result.null in
    let m = c.loop-i.invariant.2 in
    let o = c.loop-i.invariant.3 in
    (omega arith, chart-more (omega arith) c.part_by-p.ensures (chart-from (omega arith) c.loop-i.invariant.1), omega arith, omega arith, rest_more _ _ _ (omega arith) c.loop-i.invariant.4)
