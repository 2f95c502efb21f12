use native.Mathlib.Omega.{arith}
use mathlib.Core.Path.{refl, ap}
use Prim.Native.Nat.{◌-◌}
use lib.ListN.{length, length-set}
use Rattle.linear_form.proofs.Charting.{end-within, chart-none, chart-more, chart-from}
use Rattle.linear_form.proofs.chart.chart.Goals as goal

pub end_by_parts-e-requires : goal.end_by_parts-e-requires
end_by_parts-e-requires c = let h = c.loop-i.invariant.0 in (omega arith, chart-from (omega arith) c.loop-i.invariant.1)

pub store-requires : goal.store-requires
store-requires c = let h = c.loop-i.invariant.0 in let r = c.loop-i.invariant.1.room in let e = end-within c.args.k.now (omega arith) c.end_by_parts-e.ensures in let p = c.requires.0 in (omega arith, omega arith)

pub loop-i-preserved : goal.loop-i-preserved
loop-i-preserved c = let h = c.loop-i.invariant.0 in
    let l = length-set c.loop-i.ends (c.loop-i.i - 1) c.end_by_parts-e.result in
    let m = c.loop-i.invariant.2 in
    let w = c.store.ensures in
    let n = ap length w in
    (omega arith, rw (← w) at (chart-more (omega arith) c.end_by_parts-e.ensures (chart-from (omega arith) c.loop-i.invariant.1)), omega arith)

pub loop-i-init : goal.loop-i-init
loop-i-init c = (omega arith, chart-none c.requires.1, refl)

pub returns : goal.returns
returns c = chart-from (omega arith) c.loop-i.invariant.1
