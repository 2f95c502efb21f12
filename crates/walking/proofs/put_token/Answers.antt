-- `walking::put_token` meets its contract: what is owed, and its own word.
use Rattle.walking.proofs.Elements.{put_both}
use Rattle.walking.proofs.put_token.Goals as goal

pub returns : goal.returns
returns c = search (put_both)
