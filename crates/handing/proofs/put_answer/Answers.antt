-- `handing::put_answer` meets its contract, by the number.
use mathlib.Core.Path.{◌∙◌, sym}
use Rattle.handing.proofs.Handed.{answer-kept, answer-put}
use Rattle.handing.proofs.put_answer.Goals as goal

pub returns-then-keeps_bytes : goal.returns-then-keeps_bytes
returns-then-keeps_bytes c = sym (answer-kept _ _ _ (sym c.keeps_bytes.ensures ∙ c.if-keeps_bytes.true))

pub returns : goal.returns
returns c = c.write_words.ensures ∙ sym (answer-put _ _ _ (sym c.keeps_bytes.ensures ∙ c.if-keeps_bytes.false))
