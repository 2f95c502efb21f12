-- `under`: the search for the variable's word.
use mathlib.Core.Path.{sym}
use Rattle.language.specs.Trees.{tv}
use Rattle.spots.proofs.under.Goals as goal

pub returns : goal.returns
returns c = ((λ h beyond b s. c.word_under.ensures.0 (tv _) h beyond b c.term_word.ensures s), rw (sym c.term_word.ensures) c.word_under.ensures.1)
