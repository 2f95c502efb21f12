use mathlib.Core.Path.{ap}
use lib.ListN.{length}
use Rattle.plans.specs.Results.{slot_at, numbered}
use Rattle.results.proofs.Made.{swap_of, made-length, made_none, piece-short}
use Rattle.results.specs.Marked.{bare}
use native.Mathlib.Omega.{arith}
use Rattle.results.proofs.making.made_len.Goals as goal

pub loop-slot-init : goal.loop-slot-init
unfolding numbered
loop-slot-init c = (omega arith, omega arith, omega arith)

pub piece_len-n-requires : goal.piece_len-n-requires
piece_len-n-requires c = (c.note-m.ensures, c.requires)

pub overflow_add-n : goal.overflow_add-n
overflow_add-n c = let a = c.args in
    let b = piece-short a.k.now (bare (swap_of a.r)) a.cut 0 (slot_at a.r c.loop-slot.slot-index) c.requires in
    let e = c.piece_len-n.ensures in
    let y = c.loop-slot.invariant.1 in
    omega arith

pub loop-slot-preserved : goal.loop-slot-preserved
loop-slot-preserved c = let a = c.args in
    let b = piece-short a.k.now (bare (swap_of a.r)) a.cut 0 (slot_at a.r c.loop-slot.slot-index) c.requires in
    let e = c.piece_len-n.ensures in
    let w = made-length a.k.now a.r a.cut 0 c.loop-slot.slot-index c.loop-slot-test.true c.piece_len-n.result e in
    let y = c.loop-slot.invariant.0 in
    let z = c.loop-slot.invariant.1 in
    (omega arith, omega arith, omega arith)

pub returns : goal.returns
unfolding numbered
returns c = let a = c.args in
    let y = c.loop-slot.invariant.0 in
    let w = ap length (made_none a.k.now a.r a.cut 0 c.loop-slot.slot-index c.loop-slot-test.false) in
    omega arith
