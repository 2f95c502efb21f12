-- `expression_words::on_closes` meets its contract: nothing is owed, or it is kept aside.
use Rattle.expression_words.proofs.Rows.{enclosed-free, enclosed-kept}
use mathlib.Core.Path.{◌∙◌}
use Rattle.expression_words.proofs.on_closes.Goals as goal

pub returns-then-c-eq0 : goal.returns-then-c-eq0
returns-then-c-eq0 c = enclosed-free c.args.s c.code-c.ensures c.if-c-eq0.true

pub bounds-depths-k : goal.bounds-depths-k
bounds-depths-k c = (c.requires.2 (λ z. c.if-c-eq0.false (c.code-c.ensures ∙ z))).0

pub bounds-owed-k : goal.bounds-owed-k
bounds-owed-k c = (c.requires.2 (λ z. c.if-c-eq0.false (c.code-c.ensures ∙ z))).1

pub returns : goal.returns
returns c = enclosed-kept c.args.s c.code-c.ensures c.if-c-eq0.false (c.requires.2 (λ z. c.if-c-eq0.false (c.code-c.ensures ∙ z)))
