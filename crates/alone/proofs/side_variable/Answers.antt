-- Case by case.
use mathlib.Core.Path.{sym, ap, ◌∙◌}
use Rattle.alone.specs.Lone.{side_variable}
use Rattle.alone.proofs.Sides.{term-chosen, symbol-chosen, blank-chosen}
use Rattle.alone.proofs.side_variable.Goals as goal

pub returns-in-Term : goal.returns-in-Term
returns-in-Term c = term-chosen _ _ _ _ _ _ _ c.in-Term.is c.single_term.ensures c.and.ensures c.chosen.ensures

pub returns-in-Run : goal.returns-in-Run
returns-in-Run c = c.chosen-in-Run.ensures ∙ ap (λ l. side_variable l c.args.r) (sym c.in-Run.is)

pub returns-in-Symbol : goal.returns-in-Symbol
returns-in-Symbol c = symbol-chosen _ _ _ _ _ c.in-Node.is _ c.in-Symbol.is

pub returns-in-Blank : goal.returns-in-Blank
returns-in-Blank c = blank-chosen _ _ _ _ _ c.in-Node.is _ _ _ _ _ c.in-Blank.is c.bare_functor.ensures c.and-in-Blank.ensures c.and-in-Blank-2.ensures c.chosen-in-Blank.ensures
