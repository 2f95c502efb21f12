-- The other pieces have no words.
use Rattle.recipes.proofs.few.Goals as goal

pub returns : goal.returns
returns c = c.full.ensures
