-- `note`: where steps are noted, the literal's number is counted and three words are written.
use native.Mathlib.Omega.{arith}
use Rattle.courses.specs.Steps.{Roomy}
use Rattle.courses.proofs.Laws.{as-course, unnoted-first, unnoted-told, noted-there}
use Rattle.courses.proofs.note.Goals as goal

pub note_step-requires : goal.note_step-requires
note_step-requires c = let p = c.requires.at_in_bounds in
    let z = as-course (λ x. Roomy x c.args.b c.args.made c.args.out.now) _ _ c.in-Noted.is p.2 in
    let y = c.literal_number-n.ensures.0 in
    (z.0, omega arith, omega arith)

pub returns-in-Noted : goal.returns-in-Noted
returns-in-Noted c = noted-there _ _ _ _ _ c.in-Noted.is _ _ _ c.literal_number-n.ensures.1 c.note_step.ensures

pub returns-in-First : goal.returns-in-First
returns-in-First c = unnoted-first _ _ _ _ _ c.in-First.is

pub returns-in-Told : goal.returns-in-Told
returns-in-Told c = unnoted-told _ _ _ _ _ c.in-Told.is
