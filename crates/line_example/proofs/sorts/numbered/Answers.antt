-- A variable of each kind, with its number.
use mathlib.Core.Path.{sym, ap, ◌∙◌}
use Rattle.values.specs.declared.Variable.TheVariants.{Term, Run, Function}
use Rattle.line_example.specs.Rows.{numbered_of}
use Rattle.line_example.proofs.sorts.numbered.Goals as goal

pub returns-in-Terms : goal.returns-in-Terms
returns-in-Terms c i = ap (λ n. Term (record { 0 = n })) (c.short-n.ensures i) ∙ ap (λ o. numbered_of o c.args.j) (sym c.in-Terms.is)

pub returns-in-Runs : goal.returns-in-Runs
returns-in-Runs c i = ap (λ n. Run (record { 0 = n })) (c.short-n.ensures i) ∙ ap (λ o. numbered_of o c.args.j) (sym c.in-Runs.is)

pub returns-in-Functions : goal.returns-in-Functions
returns-in-Functions c i = ap (λ n. Function (record { 0 = n })) (c.short-n.ensures i) ∙ ap (λ o. numbered_of o c.args.j) (sym c.in-Functions.is)
