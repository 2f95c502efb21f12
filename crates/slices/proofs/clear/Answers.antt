-- `clear`: zeros as far as the room goes, and the rest as it was.
use mathlib.Core.Path.{ap, ◌∙◌}
use mathlib.Core.List.{◌++◌}
use lib.ListN.{drop, replicate}
use lib.Seq.{length-take-le}
use Rattle.language.specs.Limits.{desk}
use Rattle.rules.specs.Answer.{zeros}
use Rattle.slices.proofs.clear.Goals as goal

pub returns : goal.returns
unfolding zeros
returns c =
    ap (λ l. l ++ drop desk.room c.args.s.now) (c.fill.ensures.after (λ y e. e) ∙ ap (λ n. replicate n 0) (length-take-le desk.room c.args.s.now c.requires))
