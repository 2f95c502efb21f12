-- `lone_word`: by the kind of the word.
use borrow.Enum.Refused.{opened}
use mathlib.Core.Path.{sym, ap, ◌∙◌}
use Rattle.clashes.specs.Pairs.{lone_kind}
use Rattle.clashes.proofs.Alone.{no-variable}
use Rattle.clashes.proofs.lone_word.Goals as goal

pub returns-in-Term : goal.returns-in-Term
returns-in-Term c = ap lone_kind (sym c.in-Term.is ∙ c.classify.ensures)

pub returns-in-Run : goal.returns-in-Run
returns-in-Run c = ap lone_kind (sym c.in-Run.is ∙ c.classify.ensures)

pub returns-in_default : goal.returns-in_default
returns-in_default c = no-variable c.classify.ensures (opened c.in_default.in_default-own.keys3)
