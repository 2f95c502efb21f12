-- Each part of the test is so of the trees.
use mathlib.Core.Path.{ap, ◌∙◌}
use Rattle.applies.specs.Parts.{name_in, is_symbol}
use Rattle.applies.proofs.Reading.{both, one, read, blank-there}
use Rattle.applies.proofs.equation.blanks_elsewhere.Goals as goal

pub returns : goal.returns
returns c = λ before behind l r w. both c.and.ensures (blank-there w w.left c.name_in.ensures c.blank_of.ensures c.function_word.ensures c.elsewhere-first.ensures) (one c.or.ensures (c.is_symbol.ensures ∙ ap is_symbol (read w.right name_in c.name_in-g.ensures)) (blank-there w w.right c.name_in-g.ensures c.blank_of-2.ensures c.function_word-2.ensures c.elsewhere-second.ensures))
