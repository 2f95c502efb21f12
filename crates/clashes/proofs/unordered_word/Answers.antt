-- `unordered_word`: by the kind of the word.
use borrow.Enum.Refused.{opened}
use mathlib.Core.Path.{sym, ap, ◌∙◌}
use Rattle.clashes.specs.Pairs.{kind_unordered}
use Rattle.clashes.proofs.Unordered.{other_word}
use Rattle.clashes.proofs.unordered_word.Goals as goal

pub returns-in-Symbol : goal.returns-in-Symbol
returns-in-Symbol c = c.is_unordered.ensures ∙ ap (kind_unordered c.args.s) (sym c.in-Symbol.is ∙ c.classify.ensures)

pub returns-in_default : goal.returns-in_default
returns-in_default c = other_word _ c.classify.ensures (opened c.in_default.in_default-own.keys2)
