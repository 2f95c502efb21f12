-- `take_first`: what is the same in front and behind stays, the part between is counted out and in, and copied.
use Prim.Native.Nat.{◌+◌}
use mathlib.Core.Path.{ap, ◌∙◌}
use native.Mathlib.Omega.{arith}
use lib.ListN.{length}
use lib.Seq.{slice, sets, length-slice}
use Rattle.frames.specs.Frames.{frame}
use Rattle.counts.specs.Tables.{afresh}
use Rattle.counts.proofs.Added.{length-afresh, length_removed}
use Rattle.first_waiting.proofs.Kept.{follows, out-fits, in-fits, table_kept, words-kept}
use Rattle.first_waiting.proofs.take_first.Goals as goal

pub count_out-requires : goal.count_out-requires
count_out-requires c = let n = c.read_frame-n.ensures in
    let f = follows c.args.k.now c.args.work.now (c.args.at + frame) c.read_frame-n.result c.args.old _ _ _ (let p = c.requires.at_in_bounds in omega arith) (let p = c.requires.at_in_bounds in omega arith) c.requires.at_in_bounds.2 (let m = c.min-most.ensures in omega arith, let m = c.min-most.ensures in omega arith) c.same_before-front.ensures c.same_behind-back.ensures in
    (let p = c.requires.at_in_bounds in omega arith, ap length c.requires.table_value ∙ length-afresh _, out-fits f _ c.requires.table_value)

pub count_in-requires : goal.count_in-requires
count_in-requires c = let n = c.read_frame-n.ensures in
    let f = follows c.args.k.now c.args.work.now (c.args.at + frame) c.read_frame-n.result c.args.old _ _ _ (let p = c.requires.at_in_bounds in omega arith) (let p = c.requires.at_in_bounds in omega arith) c.requires.at_in_bounds.2 (let m = c.min-most.ensures in omega arith, let m = c.min-most.ensures in omega arith) c.same_before-front.ensures c.same_behind-back.ensures in
    (let p = c.requires.at_in_bounds in omega arith, ap length c.count_out.ensures ∙ length_removed _ _ ∙ ap length c.requires.table_value ∙ length-afresh _, in-fits f _ c.requires.table_value c.requires.at_in_bounds.3 _ c.count_out.ensures)

pub copy-requires : goal.copy-requires
copy-requires c = let n = c.read_frame-n.ensures in
    let p = c.requires.at_in_bounds in
    let l = length-slice (c.args.at + frame + c.same_before-front.result) (c.args.at + frame + c.read_frame-n.result) c.args.work.now (omega arith) in
    let m = c.min-most.ensures in let a = c.same_before-front.ensures.0 in omega arith

pub returns-clause-value : goal.returns-clause-value
returns-clause-value c = c.read_frame-n.ensures

pub returns-clause-k_after : goal.returns-clause-k_after
returns-clause-k_after c = let n = c.read_frame-n.ensures in
    let f = follows c.args.k.now c.args.work.now (c.args.at + frame) c.read_frame-n.result c.args.old _ _ _ (let p = c.requires.at_in_bounds in omega arith) (let p = c.requires.at_in_bounds in omega arith) c.requires.at_in_bounds.2 (let m = c.min-most.ensures in omega arith, let m = c.min-most.ensures in omega arith) c.same_before-front.ensures c.same_behind-back.ensures in
    words-kept f _ c.copy.ensures.list ∙ ap (λ m. sets c.args.k.now 0 (slice (c.args.at + frame) (c.args.at + frame + m) c.args.work.now)) n

pub returns-clause-table_after : goal.returns-clause-table_after
returns-clause-table_after c = let n = c.read_frame-n.ensures in
    let f = follows c.args.k.now c.args.work.now (c.args.at + frame) c.read_frame-n.result c.args.old _ _ _ (let p = c.requires.at_in_bounds in omega arith) (let p = c.requires.at_in_bounds in omega arith) c.requires.at_in_bounds.2 (let m = c.min-most.ensures in omega arith, let m = c.min-most.ensures in omega arith) c.same_before-front.ensures c.same_behind-back.ensures in
    table_kept f _ c.requires.table_value _ c.count_out.ensures _ c.count_in.ensures ∙ ap (λ m. afresh (slice (c.args.at + frame) (c.args.at + frame + m) c.args.work.now)) n
