-- No variable; or one, and whether it stands in the other side or elsewhere.
use mathlib.Core.Path.{ap, ◌∙◌}
use Rattle.alone.specs.Lone.{lone_word}
use Rattle.alone.proofs.Sides.{no_word, word_stands}
use Rattle.alone.proofs.alone_side.Goals as goal

pub returns-then-x-eq0 : goal.returns-then-x-eq0
returns-then-x-eq0 c = no_word c.args.k.now c.args.v _ (c.lone_word-x.ensures ∙ ap lone_word c.side_variable.ensures) c.if-x-eq0.true

pub returns : goal.returns
returns c = c.neither.ensures
    ∙ word_stands c.args.k.now c.args.v _ (c.lone_word-x.ensures ∙ ap lone_word c.side_variable.ensures) c.if-x-eq0.false _ _ c.stands-here.ensures c.elsewhere-there.ensures
