-- `host::show` meets its contract: what is written is the example's length of words, none for a refusal.
use Prim.Native.Nat.{ℕ, ◌≤◌}
use mathlib.Core.Path.{◌≡◌, sym}
use mathlib.Core.List.{List}
use native.Mathlib.Omega.{arith}
use lib.ListN.{length, length-take, replicate, length-replicate}
use lib.Seq.{length-take-le}
use Rattle.language.specs.Limits.{desk}
use Rattle.handing.proofs.Handed.{number-as}
use Rattle.host.proofs.Shows.{example-within, shown-line}
use Rattle.host.proofs.show.Goals as goal

-- the desk's own slices at the start
abbrev clear : List ℕ
clear = replicate desk.room 0

-- by the law: computing it would walk the whole list
long : length clear ≡ desk.room
long = length-replicate {A = ℕ} desk.room 0

pub slice_bounds-write_words-end : goal.slice_bounds-write_words-end
slice_bounds-write_words-end c = let a = c.args in
    omega (arith, example-within a.question.now clear clear a.own.now _ _ _ a.line a.old _ long long c.example-s.ensures _ c.shown_length-n.ensures)

pub slice_bounds-write_words-end-2 : goal.slice_bounds-write_words-end-2
slice_bounds-write_words-end-2 c = let a = c.args in
    let h : c.shown_length-n.result ≤ length a.own.now = example-within a.question.now clear clear a.own.now _ _ _ a.line a.old _ long long c.example-s.ensures _ c.shown_length-n.ensures in
    sym (length-take-le _ _ (omega arith))

pub write_words-requires : goal.write_words-requires
write_words-requires c = let a = c.args in
    let h : c.shown_length-n.result ≤ length a.own.now = example-within a.question.now clear clear a.own.now _ _ _ a.line a.old _ long long c.example-s.ensures _ c.shown_length-n.ensures in
    simp length-take (omega arith)

pub returns-clause-value : goal.returns-clause-value
returns-clause-value c = (let a = c.args in
    shown-line a.question.now clear clear a.own.now _ _ _ a.line a.old _ long long c.example-s.ensures _ _ _ _ (number-as c.told.ensures c.shown_number.ensures c.shown_length-n.ensures) c.shown_length-n.ensures c.requires.1 c.write_words.ensures).0

pub returns-clause-room_after : goal.returns-clause-room_after
returns-clause-room_after c = (let a = c.args in
    shown-line a.question.now clear clear a.own.now _ _ _ a.line a.old _ long long c.example-s.ensures _ _ _ _ (number-as c.told.ensures c.shown_number.ensures c.shown_length-n.ensures) c.shown_length-n.ensures c.requires.1 c.write_words.ensures).1

pub overflow_cast-n : goal.overflow_cast-n
overflow_cast-n c = let a = c.args in
    let p = c.requires.0 in
    let h : c.shown_length-n.result ≤ length a.own.now = example-within a.question.now clear clear a.own.now _ _ _ a.line a.old _ long long c.example-s.ensures _ c.shown_length-n.ensures in
    omega arith
