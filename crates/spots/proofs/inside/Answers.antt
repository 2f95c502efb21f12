-- `inside`: the search for the variable's word.
use mathlib.Core.Path.{sym}
use Rattle.spots.proofs.inside.Goals as goal

pub returns : goal.returns
returns c = ((λ h beyond b s. c.word_inside.ensures.0 _ h beyond b c.run_word.ensures s), rw (sym c.run_word.ensures) c.word_inside.ensures.1)
