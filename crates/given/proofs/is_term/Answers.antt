-- `given::is_term` meets its contract: too few words, and where the children end.
use mathlib.Core.Path.{sym, ◌∙◌}
use native.Mathlib.Omega.{arith}
use Rattle.given.proofs.Plain.{few_words, term-next, term-stop}
use Rattle.given.proofs.is_term.Goals as goal

pub returns-then-value-lt2 : goal.returns-then-value-lt2
returns-then-value-lt2 c = few_words _ (omega arith)

pub returns-in-Ok : goal.returns-in-Ok
returns-in-Ok c = term-next _ _ (omega arith) (sym c.read_hedge.ensures ∙ c.in-Ok.is)

pub returns-in-Err : goal.returns-in-Err
returns-in-Err c = term-stop _ _ (omega arith) (sym c.read_hedge.ensures ∙ c.in-Err.is)
