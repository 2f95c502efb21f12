-- `prompt::is_digit` meets its contract: below 0, and else up to 9.
use Rattle.prompt.proofs.Bytes.{low, not_low}
use Rattle.prompt.proofs.is_digit.Goals as goal

pub returns-then-b-lt48 : goal.returns-then-b-lt48
returns-then-b-lt48 c = low _ c.if-b-lt48.true

pub returns : goal.returns
returns c = not_low _ c.if-b-lt48.false
