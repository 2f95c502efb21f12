-- The look of the right side says whether it is one hedge variable.
use mathlib.Core.Path.{sym, subst, ◌∙◌}
use mathlib.Core.List.{◌++◌}
use Rattle.language.specs.Fine.{fine_hedge}
use Rattle.language.specs.Limits.{desk}
use Rattle.equations.proofs.Leading.{run-elsewhere, other-run, too-empty, too-term, too-node, too-run, too-alone}
use Rattle.equations.proofs.runs.too_elsewhere.Goals as goal

pub returns-then-lone : goal.returns-then-lone
returns-then-lone c = λ before behind l r w q o.
    too-alone (before ++ behind) r (sym c.in-Run.is ∙ w.right.look) c.if-lone.true (λ t i e. c.repeated.ensures ∙ run-elsewhere q c.in-Run.q (subst (fine_hedge desk) i w.right.fine).0 (other-run l c.in-Run.q t r i e (o c.in-Run.q t i e)) c.run_word.ensures)

pub returns-in-Empty : goal.returns-in-Empty
returns-in-Empty c = λ before behind l r w q o. too-empty (before ++ behind) r (sym c.in-Empty.is ∙ w.right.look)

pub returns-in-Term : goal.returns-in-Term
returns-in-Term c = λ before behind l r w q o. too-term (before ++ behind) r (sym c.in-Term.is ∙ w.right.look)

pub returns-else-lone : goal.returns-else-lone
returns-else-lone c = λ before behind l r w q o. too-run (before ++ behind) r (sym c.in-Run.is ∙ w.right.look) c.if-lone.false

pub returns-in-Node : goal.returns-in-Node
returns-in-Node c = λ before behind l r w q o. too-node (before ++ behind) r (sym c.in-Node.is ∙ w.right.look)
