-- `given::is_complete` meets its contract: where reading a hedge ended, and then whether its words are plain.
use mathlib.Core.Path.{sym, ◌∙◌}
use native.Mathlib.Omega.{arith}
use Rattle.given.proofs.Plain.{judged-stop, judged-short, judged-all}
use Rattle.given.proofs.is_complete.Goals as goal

pub returns-then-end-value : goal.returns-then-end-value
returns-then-end-value c = judged-short _ _ _ (sym c.read_hedge.ensures ∙ c.in-Ok.is) (omega arith)

pub returns-else-end-value : goal.returns-else-end-value
returns-else-end-value c = judged-all _ _ _ (sym c.read_hedge.ensures ∙ c.in-Ok.is) (omega arith) _ c.is_plain.ensures

pub returns-in-Err : goal.returns-in-Err
returns-in-Err c = judged-stop _ _ _ (sym c.read_hedge.ensures ∙ c.in-Err.is)
