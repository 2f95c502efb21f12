-- `choose`: what was found, or what the trail tells.
use Rattle.running.specs.Courses.{Guided, Chooses}
use Rattle.courses.proofs.Laws.{as-course}
use Rattle.running.proofs.Choosing.{chosen-first, chosen-noted, chosen-told, of-course}
use Rattle.running.proofs.next_steps.choose.Goals as goal

pub told_step-requires-clause-made_in_bounds : goal.told_step-requires-clause-made_in_bounds
told_step-requires-clause-made_in_bounds c = (as-course (λ x. Guided x c.args.told.now c.args.s.steps) _ _ c.in-Told.is c.requires.guided.0, c.requires.guided.1)

pub returns-in-First : goal.returns-in-First
returns-in-First c = λ room x fine ek few low found.
    of-course (λ y. Chooses y c.args.told.now room c.args.s.signature c.args.s.steps x c.under_ceiling.result) _ _ c.in-First.is
    (chosen-first c.args.told.now room c.args.s.signature c.args.s.steps x fine few c.args.b low found _ c.under_ceiling.ensures)

pub returns-in-Noted : goal.returns-in-Noted
returns-in-Noted c = λ room x fine ek few low found.
    of-course (λ y. Chooses y c.args.told.now room c.args.s.signature c.args.s.steps x c.under_ceiling-in-Noted.result) _ _ c.in-Noted.is
    (chosen-noted c.args.told.now room c.args.s.signature c.args.s.steps x fine few c.args.b low found _ c.under_ceiling-in-Noted.ensures)

pub returns-in-Told : goal.returns-in-Told
returns-in-Told c = λ room x fine ek few low found.
    of-course (λ y. Chooses y c.args.told.now room c.args.s.signature c.args.s.steps x c.told_step.result) _ _ c.in-Told.is
    (chosen-told c.args.told.now room c.args.s.signature c.args.s.steps x fine few c.args.b low found _
    (as-course (λ y. Guided y c.args.told.now c.args.s.steps) _ _ c.in-Told.is c.requires.guided.0) (c.told_step.ensures x.literals fine ek))
