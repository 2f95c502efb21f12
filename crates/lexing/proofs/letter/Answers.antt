-- `lexing::letter` meets its contract: a letter or digit, and any other byte.
use mathlib.Core.Path.{sym, ap, ◌∙◌}
use Rattle.language.specs.Kinds.{pick}
use Rattle.lexing.specs.declared.Mark.TheVariants.{Bad, Symbol}
use Rattle.lexing.proofs.letter.Goals as goal

pub returns-then-is_name_byte : goal.returns-then-is_name_byte
returns-then-is_name_byte c = ap (λ t. pick t Symbol Bad) (sym c.if-is_name_byte.true ∙ c.is_name_byte.ensures)

pub returns : goal.returns
returns c = ap (λ t. pick t Symbol Bad) (sym c.if-is_name_byte.false ∙ c.is_name_byte.ensures)
