-- Case by case.
use mathlib.Core.Path.{sym, ap, ◌∙◌}
use Rattle.std.specs.Prelude.{Some}
use Rattle.alone.specs.Lone.{lone_word}
use Rattle.alone.proofs.lone_word.Goals as goal

pub returns-in-Term : goal.returns-in-Term
returns-in-Term c = c.term_word.ensures ∙ ap lone_word (sym (c.in-Some.is ∙ ap Some c.in-Term.is))

pub returns-in-Run : goal.returns-in-Run
returns-in-Run c = c.run_word.ensures ∙ ap lone_word (sym (c.in-Some.is ∙ ap Some c.in-Run.is))

pub returns-in-Blank : goal.returns-in-Blank
returns-in-Blank c = c.function_word.ensures ∙ ap lone_word (sym (c.in-Some.is ∙ ap Some c.in-Blank.is))
