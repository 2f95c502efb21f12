-- `solve_trail`: what the run comes to that notes its steps.
use Rattle.trails.proofs.solve_trail.Goals as goal

pub returns : goal.returns
returns c = (c.run_course.ensures.answer_after, c.run_course.ensures.out_after)
