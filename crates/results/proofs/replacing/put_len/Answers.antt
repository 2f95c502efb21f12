use mathlib.Core.Path.{ap}
use lib.ListN.{length}
use lib.Seq.{slice}
use Rattle.plans.specs.Results.{changed}
use Rattle.results.proofs.Replaced.{put-length, put-none, put-short}
use native.Mathlib.Omega.{arith}
use Rattle.results.proofs.replacing.put_len.Goals as goal

pub overflow_add-n : goal.overflow_add-n
overflow_add-n c = let a = c.args in
    let k = a.k.now in
    let y = c.loop-i.invariant in
    let b = put-short k a.s.old a.s.new a.cut a.from a.to a.s.until c.requires.1 in
    let w = put-length c.within-end.ensures (slice a.s.old a.s.until k) (slice a.s.new a.cut k) _ c.loop-i-test.true _ c.is_old-found.ensures _ _ c.part_len-gain.ensures c.swap_len-n.ensures in
    omega arith

pub loop-i-preserved : goal.loop-i-preserved
loop-i-preserved c = let a = c.args in
    let k = a.k.now in
    let y = c.loop-i.invariant in
    let w = put-length c.within-end.ensures (slice a.s.old a.s.until k) (slice a.s.new a.cut k) _ c.loop-i-test.true _ c.is_old-found.ensures _ _ c.part_len-gain.ensures c.swap_len-n.ensures in
    omega arith

pub returns : goal.returns
unfolding changed
returns c = let a = c.args in
    let k = a.k.now in
    let y = c.loop-i.invariant in
    let w = ap length (put-none c.within-end.ensures (slice a.s.old a.s.until k) (slice a.s.new a.cut k) _ c.loop-i-test.false) in
    omega arith

pub loop-i-init : goal.loop-i-init
loop-i-init c = omega arith

pub is_old-found-requires : goal.is_old-found-requires
is_old-found-requires c = c.requires.0
