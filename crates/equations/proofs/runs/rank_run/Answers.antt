-- The look of the right side leads to the rank.
use mathlib.Core.Path.{sym, ◌∙◌}
use mathlib.Core.List.{◌++◌}
use Rattle.language.specs.Trees.{hvar}
use Rattle.equations.specs.Ranked.{Ranks}
use Rattle.equations.proofs.Looked.{at-run}
use Rattle.equations.proofs.Leading.{run-elsewhere, run-empty, run_ends, run-rests, run-vanishes, begins-term, begins-node}
use Rattle.equations.proofs.runs.rank_run.Goals as goal

pub returns-then-repeated : goal.returns-then-repeated
returns-then-repeated c = λ s r e σ before behind w q. run_ends σ (before ++ behind) c.args.p s r (sym c.in-Empty.is ∙ w.right.look) (sym e ∙ c.if-lone.true) (sym (c.repeated.ensures ∙ run-elsewhere q c.args.p w.left.fine.0 (run-empty c.args.p s r (sym e ∙ c.if-lone.true) (sym c.in-Empty.is ∙ w.right.look)) c.run_word.ensures) ∙ c.if-repeated.true)

pub returns-then-lone : goal.returns-then-lone
returns-then-lone c = λ s r e σ before behind w q. run-rests σ (before ++ behind) c.args.p s r (sym c.in-Empty.is ∙ w.right.look) (sym e ∙ c.if-lone.true) (sym (c.repeated.ensures ∙ run-elsewhere q c.args.p w.left.fine.0 (run-empty c.args.p s r (sym e ∙ c.if-lone.true) (sym c.in-Empty.is ∙ w.right.look)) c.run_word.ensures) ∙ c.if-repeated.false)

pub returns-else-lone : goal.returns-else-lone
returns-else-lone c = λ s r e σ before behind w q. run-vanishes σ (before ++ behind) c.args.p s r (sym c.in-Empty.is ∙ w.right.look) (sym e ∙ c.if-lone.false)

pub returns-in-Term : goal.returns-in-Term
returns-in-Term c = λ s r e σ before behind w q. c.rank_run_term.ensures s r e (begins-term r (sym c.in-Term.is ∙ w.right.look)) σ before behind w q

pub returns-in-Run : goal.returns-in-Run
returns-in-Run c = λ s r e σ before behind w q.
    at-run (λ m. Ranks c.args.k.now c.args.table.now c.args.v (hvar c.args.p s) m c.rank_run_run.result) r (sym c.in-Run.is ∙ w.right.look) (λ t _. c.rank_run_run.ensures s t e) σ before behind w q

pub returns-in-Node : goal.returns-in-Node
returns-in-Node c = λ s r e σ before behind w q. c.rank_run_term-in-Node.ensures s r e (begins-node r (sym c.in-Node.is ∙ w.right.look)) σ before behind w q
