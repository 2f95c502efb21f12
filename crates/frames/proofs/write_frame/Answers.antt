-- The length, and the number after it.
use Rattle.frames.proofs.Framing.{frame-stored}
use Rattle.frames.proofs.write_frame.Goals as goal

pub returns : goal.returns
returns c = frame-stored c.args.out.now c.args.at c.args.n c.args.number
