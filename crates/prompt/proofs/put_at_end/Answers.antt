-- `prompt::put_at_end` meets its contract: a digit more, or the word is put.
use native.Mathlib.Omega.{arith}
use Rattle.prompt.proofs.Reading.{put-none, word-ended, word-goes-on}
use Rattle.prompt.proofs.put_at_end.Goals as goal

pub returns-then-is_digit : goal.returns-then-is_digit
returns-then-is_digit c = word-goes-on c.args.b c.args.v c.is_digit.ensures c.if-is_digit.true (put-none (omega arith))

pub returns : goal.returns
returns c = word-ended c.args.b c.args.v c.is_digit.ensures c.if-is_digit.false c.put.ensures
