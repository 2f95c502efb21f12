-- A lone variable, or one in front.
use mathlib.Core.Path.{sym, ◌∙◌}
use mathlib.Core.List.{◌++◌}
use Rattle.equations.proofs.Leading.{run-lonely, run-leading}
use Rattle.equations.proofs.runs.rank_run_term.Goals as goal

pub returns-then-lone : goal.returns-then-lone
returns-then-lone c = λ s r e b σ before behind w q. run-lonely σ (before ++ behind) c.args.p s r b (sym e ∙ c.if-lone.true) (c.rank_lonely.ensures before behind s r w q (sym e ∙ c.if-lone.true))

pub returns : goal.returns
returns c = λ s r e b σ before behind w q. run-leading σ (before ++ behind) c.args.p s r b (sym e ∙ c.if-lone.false) (c.rank_leading.ensures before behind s r w)
