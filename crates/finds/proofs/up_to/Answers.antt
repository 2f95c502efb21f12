-- `up_to`: the search for the variable's word.
use mathlib.Core.Path.{sym}
use Rattle.finds.proofs.up_to.Goals as goal

pub returns : goal.returns
returns c = ((λ h beyond b s. c.up_to_word.ensures.0 _ h beyond b c.run_word.ensures s), c.up_to_word.ensures.1, rw (sym c.run_word.ensures) c.up_to_word.ensures.2)
