-- `text_names::letter_at` meets its contract: past the end, a letter or digit, any other byte.
use native.Mathlib.Omega.{arith}
use mathlib.Core.Path.{sym, ◌∙◌}
use Rattle.text_names.proofs.Letters.{past_end, a-letter, no-letter}
use Rattle.text_names.proofs.letter_at.Goals as goal

pub returns-then-text-at : goal.returns-then-text-at
returns-then-text-at c = past_end _ _ (omega arith)

pub returns-then-is_name_byte : goal.returns-then-is_name_byte
returns-then-is_name_byte c = a-letter _ _ (omega arith) (sym c.is_name_byte.ensures ∙ c.if-is_name_byte.true)

pub returns : goal.returns
returns c = no-letter _ _ (omega arith) (sym c.is_name_byte.ensures ∙ c.if-is_name_byte.false)
