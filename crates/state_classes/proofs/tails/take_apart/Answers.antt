-- By what was laid open, and by the word of an expression.
use mathlib.Core.Path.{sym, ◌∙◌}
use Rattle.state_classes.proofs.Opening.{split_one, split-none}
use Rattle.state_classes.proofs.tails.take_apart.Goals as goal

pub returns-then-word-eq7001 : goal.returns-then-word-eq7001
returns-then-word-eq7001 c = split_one c.args.o c.in-One.is c.requires (sym c.word.ensures ∙ c.if-word-eq7001.true) c.part-a.ensures

pub returns-else-word-eq7001 : goal.returns-else-word-eq7001
returns-else-word-eq7001 c = split-none c.args.o c.in-One.is c.requires (λ e. c.if-word-eq7001.false (c.word.ensures ∙ e))
