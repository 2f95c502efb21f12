-- `pairing::settled` meets its contract.
use mathlib.Core.Path.{ap, ◌∙◌}
use lib.Dec.{eqb}
use lib.ListN.{get_or}
use Rattle.pairing.proofs.settled.Goals as goal

pub returns : goal.returns
returns c = ap (λ m. eqb m 1) (c.word-2.ensures ∙ ap (λ i. get_or c.args.answer.now i 0) (c.from.ensures ∙ c.word.ensures))
