-- `day::answer_day` meets its contract: no room for the table, or what the loop leaves in a room that is begun.
use native.Mathlib.Omega.{arith}
use Rattle.day.proofs.Cuts.{table-inside}
use Rattle.day.proofs.Ends.{kept_same}
use Rattle.day.proofs.Turns.{counted, no_table, from-begun, begun-there}
use Rattle.day.proofs.answer_day.Goals as goal

pub word_at-n-requires : goal.word_at-n-requires
word_at-n-requires c = let t = table-inside _ c.requires.0 in omega arith

pub returns-then-room-from : goal.returns-then-room-from
returns-then-room-from c = let n = counted _ c.requires.0 _ c.word_at-n.ensures in
    let e = c.from.ensures in
    let t = c.if-room-from.true in
    (no_table _ _ n _ _ _ (omega arith), kept_same _, kept_same _)

pub begin-requires : goal.begin-requires
begin-requires c = let e = c.from.ensures in let t = c.if-room-from.false in omega arith

pub answer_all-requires : goal.answer_all-requires
answer_all-requires c = let p = c.requires in
    let n = counted _ p.0 _ c.word_at-n.ensures in
    let e = c.from.ensures in
    let t = c.if-room-from.false in
    let b = begun-there _ _ _ c.begin.ensures in
    let k = b.0 in
    (p.0, n, p.1, p.2, omega arith, b.1)

pub returns : goal.returns
returns c = let p = c.requires in
    let n = counted _ p.0 _ c.word_at-n.ensures in
    let e = c.from.ensures in
    let t = c.if-room-from.false in
    let s = c.answer_all.ensures in
    (from-begun _ _ n _ _ _ (omega arith) _ _ _ c.begin.ensures s.0, s.1, s.2)
