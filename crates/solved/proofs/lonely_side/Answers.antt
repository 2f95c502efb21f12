-- No variable; or one, and whether it is counted once.
use mathlib.Core.Path.{ap, ◌∙◌}
use Rattle.alone.specs.Lone.{lone_word}
use Rattle.solved.proofs.Memberships.{no-side, lone-side}
use Rattle.solved.proofs.lonely_side.Goals as goal

pub returns-then-x-eq0 : goal.returns-then-x-eq0
returns-then-x-eq0 c = λ k before l r behind s b. no-side s _ (c.lone_word-x.ensures ∙ ap lone_word c.side_variable.ensures) c.if-x-eq0.true

pub returns : goal.returns
returns c = λ k before l r behind s b. c.once.ensures ∙ lone-side s _ (c.lone_word-x.ensures ∙ ap lone_word c.side_variable.ensures) c.if-x-eq0.false b
