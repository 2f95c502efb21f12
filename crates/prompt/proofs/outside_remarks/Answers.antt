-- `prompt::outside_remarks` meets its contract: a digit, and any other byte.
use mathlib.Core.Path.{sym, ◌∙◌}
use Rattle.prompt.proofs.Bytes.{digit-from, on-digit, on-other}
use Rattle.prompt.proofs.outside_remarks.Goals as goal

pub with_digit-requires : goal.with_digit-requires
with_digit-requires c = digit-from _ (sym c.is_digit.ensures ∙ c.if-is_digit.true)

pub returns-then-is_digit : goal.returns-then-is_digit
returns-then-is_digit c = c.with_digit.ensures ∙ on-digit _ _ (sym c.is_digit.ensures ∙ c.if-is_digit.true)

pub returns : goal.returns
returns c = c.after_word.ensures ∙ on-other _ _ (sym c.is_digit.ensures ∙ c.if-is_digit.false)
