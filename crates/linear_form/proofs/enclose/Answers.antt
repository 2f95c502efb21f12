use mathlib.Core.Path.{sym, ◌∙◌}
use Rattle.linear_form.proofs.Walking.{enclosed-bare, enclosed-more}
use Rattle.linear_form.proofs.enclose.Goals as goal

pub returns-then-word-eq7000 : goal.returns-then-word-eq7000
returns-then-word-eq7000 c = enclosed-bare (sym c.word.ensures ∙ c.if-word-eq7000.true)

pub returns : goal.returns
returns c = enclosed-more (λ z. c.if-word-eq7000.false (c.word.ensures ∙ z)) c.requires.0 c.widen.ensures
