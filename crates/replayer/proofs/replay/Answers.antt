-- `replay`: what the run comes to that a trail tells.
use Rattle.replayer.proofs.replay.Goals as goal

pub returns : goal.returns
returns c = c.run_course.ensures.answer_after
