-- `solve`: what the run on the first course comes to.
use Rattle.solver.proofs.solve.Goals as goal

pub returns : goal.returns
returns c = c.run_course.ensures.answer_after
