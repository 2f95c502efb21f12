-- `trail_host::note` meets its contract: what is written is told by the number that came back.
use Prim.Native.Nat.{ℕ}
use mathlib.Core.Path.{◌≡◌, refl}
use mathlib.Core.List.{List}
use native.Mathlib.Omega.{arith}
use lib.ListN.{length, replicate, length-replicate}
use Rattle.language.specs.Limits.{desk}
use Rattle.outcomes.specs.Numbers.{solved_numbers}
use Rattle.trail_host.proofs.Notes.{few-steps, noted}
use Rattle.trail_host.proofs.note.Goals as goal

-- the desk's own slices at the start
abbrev clear : List ℕ
clear = replicate desk.room 0

-- by the law: computing it would walk the whole list
long : length clear ≡ desk.room
long = length-replicate {A = ℕ} desk.room 0

pub put_trail-requires : goal.put_trail-requires
put_trail-requires c = let a = c.args in
    let p = c.requires in
    let k = c.solve_trail-s.auto.trail in
    let s = few-steps a.question.now clear clear a.own.now _ _ _ (solved_numbers c.solve_trail-s.result) long long c.solve_trail-s.ensures _ refl in
    let m = p.2 in
    (omega arith, omega arith)

pub returns-clause-value : goal.returns-clause-value
returns-clause-value c = (let a = c.args in
    let p = c.requires in
    noted a.question.now clear clear a.own.now _ _ _ (solved_numbers c.solve_trail-s.result) long long c.solve_trail-s.ensures _ _ _ a.answer.now _ a.trail.now _
    c.solved_number-number.ensures refl p.0 p.2 c.solve_trail-s.auto.answer c.told.ensures c.put_answer.ensures c.put_trail.ensures).0

pub returns-clause-answer_after : goal.returns-clause-answer_after
returns-clause-answer_after c = (let a = c.args in
    let p = c.requires in
    noted a.question.now clear clear a.own.now _ _ _ (solved_numbers c.solve_trail-s.result) long long c.solve_trail-s.ensures _ _ _ a.answer.now _ a.trail.now _
    c.solved_number-number.ensures refl p.0 p.2 c.solve_trail-s.auto.answer c.told.ensures c.put_answer.ensures c.put_trail.ensures).1.0

pub returns-clause-trail_after : goal.returns-clause-trail_after
returns-clause-trail_after c = (let a = c.args in
    let p = c.requires in
    noted a.question.now clear clear a.own.now _ _ _ (solved_numbers c.solve_trail-s.result) long long c.solve_trail-s.ensures _ _ _ a.answer.now _ a.trail.now _
    c.solved_number-number.ensures refl p.0 p.2 c.solve_trail-s.auto.answer c.told.ensures c.put_answer.ensures c.put_trail.ensures).1.1

pub overflow_cast-steps : goal.overflow_cast-steps
overflow_cast-steps c = let a = c.args in
    let n = c.requires.1 in
    let s = few-steps a.question.now clear clear a.own.now _ _ _ (solved_numbers c.solve_trail-s.result) long long c.solve_trail-s.ensures _ refl in
    omega arith
