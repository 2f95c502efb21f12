-- No lone variable; or one, and whether it is in another membership.
use mathlib.Core.Path.{ap, ◌∙◌}
use Rattle.alone.specs.Lone.{lone_word}
use Rattle.solved.proofs.Memberships.{no-lone, only_here}
use Rattle.solved.proofs.lone_member.Goals as goal

pub returns-then-x-eq0 : goal.returns-then-x-eq0
returns-then-x-eq0 c = λ k before h R behind q m. no-lone q _ (c.lone_word-x.ensures ∙ ap lone_word c.lone_variable.ensures) c.if-x-eq0.true

pub returns : goal.returns
returns c = λ k before h R behind q m. c.once.ensures ∙ only_here q _ (c.lone_word-x.ensures ∙ ap lone_word c.lone_variable.ensures) c.if-x-eq0.false m
