-- `walking::has_word` meets its contract: names, and a bracket that closes.
use Rattle.walking.proofs.Tokens.{word-early, word-late}
use Rattle.walking.proofs.has_word.Goals as goal

pub returns-then-role-lt3 : goal.returns-then-role-lt3
returns-then-role-lt3 c = word-early _ c.if-role-lt3.true

pub returns : goal.returns
returns c = word-late _ c.if-role-lt3.false
