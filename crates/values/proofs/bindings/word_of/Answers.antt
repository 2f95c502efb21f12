-- The word of each kind.
use mathlib.Core.Path.{sym, ap, ◌∙◌}
use Rattle.views.specs.Variables.{variable_word}
use Rattle.values.specs.Lines.{var_of}
use Rattle.values.proofs.bindings.word_of.Goals as goal

pub returns-in-Term : goal.returns-in-Term
returns-in-Term c = c.term_word.ensures ∙ ap (λ x. variable_word (var_of x)) (sym c.in-Term.is)

pub returns-in-Run : goal.returns-in-Run
returns-in-Run c = c.run_word.ensures ∙ ap (λ x. variable_word (var_of x)) (sym c.in-Run.is)

pub returns-in-Function : goal.returns-in-Function
returns-in-Function c = c.function_word.ensures ∙ ap (λ x. variable_word (var_of x)) (sym c.in-Function.is)
