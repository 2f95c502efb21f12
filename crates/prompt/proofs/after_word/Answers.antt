-- `prompt::after_word` meets its contract: a blank, a #, and any other byte.
use mathlib.Core.Path.{sym, ◌∙◌}
use Rattle.prompt.proofs.Bytes.{follows-gap, follows-hash, follows-other}
use Rattle.prompt.proofs.after_word.Goals as goal

pub returns-then-is_gap : goal.returns-then-is_gap
returns-then-is_gap c = follows-gap _ (sym c.is_gap.ensures ∙ c.if-is_gap.true)

pub returns-then-b-eq35 : goal.returns-then-b-eq35
returns-then-b-eq35 c = follows-hash _ (sym c.is_gap.ensures ∙ c.if-is_gap.false) c.if-b-eq35.true

pub returns : goal.returns
returns c = follows-other _ (sym c.is_gap.ensures ∙ c.if-is_gap.false) c.if-b-eq35.false
