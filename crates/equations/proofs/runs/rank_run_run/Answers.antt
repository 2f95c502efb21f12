-- The same variable is struck; another is looked for.
use mathlib.Core.Path.{sym, subst, ◌∙◌}
use mathlib.Core.List.{◌++◌}
use Rattle.language.specs.Trees.{hvar}
use Rattle.equations.specs.Ranked.{Ranks}
use Rattle.equations.proofs.Leading.{same-run, runs-lonely, runs-open}
use Rattle.equations.proofs.runs.rank_run_run.Goals as goal

pub returns-then-p-z : goal.returns-then-p-z
returns-then-p-z c = λ s t e.
    subst (λ u. Ranks c.args.k.now c.args.table.now c.args.v (hvar c.args.p s) (hvar u t) c.rank_struck.result) (same-run c.args.p c.args.z c.if-p-z.true) (c.rank_struck.ensures c.args.p s t c.args.table.now e)

pub returns-then-lone : goal.returns-then-lone
returns-then-lone c = λ s t e σ before behind w q.
    runs-lonely σ (before ++ behind) c.args.p c.args.z s t c.if-p-z.false (sym e ∙ c.if-lone.true) (c.rank_lonely.ensures before behind s _ w q (sym e ∙ c.if-lone.true))

pub returns : goal.returns
returns c = λ s t e σ before behind w q. runs-open σ (before ++ behind) c.args.p c.args.z s t c.if-p-z.false (sym e ∙ c.if-lone.false)
