-- Against a single term.
use mathlib.Core.Path.{◌∙◌}
use Rattle.alone.proofs.Sides.{side-lone}
use Rattle.solved.proofs.lone_variable.Goals as goal

pub returns : goal.returns
returns c = c.side_variable.ensures ∙ side-lone _ c.args.look
