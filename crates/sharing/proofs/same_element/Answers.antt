-- `same_element`: parts of different lengths are not the same words.
use Rattle.sharing.proofs.Walks.{parts-differ}
use Rattle.sharing.proofs.same_element.Goals as goal

pub returns-then-to-from : goal.returns-then-to-from
returns-then-to-from c = parts-differ _ _ _ _ _ c.requires.1 c.requires.3 c.if-to-from.true

pub returns : goal.returns
returns c = c.same_part.ensures
