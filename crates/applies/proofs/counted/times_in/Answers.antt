use native.Mathlib.Omega.{arith}
use lib.Dec.{eqb}
use lib.ListN.{get_or}
use Rattle.applies.proofs.Others.{one-short, times-next, times_none, times-past}
use Rattle.applies.proofs.counted.times_in.Goals as goal

pub loop-i-init : goal.loop-i-init
loop-i-init c = (omega arith, omega arith)

pub returns-then-k-i : goal.returns-then-k-i
returns-then-k-i c = let z = times-past c.args.k.now c.args.x c.loop-i.i c.args.to c.if-k-i.true in let y = c.loop-i.invariant.1 in omega arith

pub overflow_add-n : goal.overflow_add-n
overflow_add-n c = let z = one-short (eqb (get_or c.args.k.now c.loop-i.i 0) c.args.x) in let e = c.one_if-n.ensures in let y = c.loop-i.invariant.0 in let t = c.loop-i-test.true in omega arith

pub loop-i-preserved : goal.loop-i-preserved
loop-i-preserved c = let z = one-short (eqb (get_or c.args.k.now c.loop-i.i 0) c.args.x) in let e = c.one_if-n.ensures in let y = c.loop-i.invariant in
    let s = times-next c.args.k.now c.args.x c.loop-i.i c.args.to c.loop-i-test.true c.if-k-i.false in (omega arith, omega arith)

pub returns : goal.returns
returns c = let z = times_none c.args.k.now c.args.x c.loop-i.i c.args.to c.loop-i-test.false in let y = c.loop-i.invariant.1 in omega arith
