-- `text_names::enter` meets its contract: a name that is there, a full shelf, and a name put at the end.
use Rattle.text_names.proofs.Shelving.{is_known, is-full, is-put}
use Rattle.text_names.proofs.enter.Goals as goal

pub returns-then-n-many : goal.returns-then-n-many
returns-then-n-many c = search (is_known)

pub returns-then-many-gt-PLACES : goal.returns-then-many-gt-PLACES
returns-then-many-gt-PLACES c = search (is-full)

pub returns : goal.returns
returns c = search (is-put)
