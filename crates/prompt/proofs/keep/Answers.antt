-- `prompt::keep` meets its contract: a word begun, and each other mode.
use native.Mathlib.Omega.{arith}
use Rattle.prompt.proofs.Reading.{put-none, as-ended}
use Rattle.prompt.proofs.keep.Goals as goal

pub returns-in-Number : goal.returns-in-Number
returns-in-Number c = as-ended c.args.b c.in-Number.is c.put_at_end.ensures

pub returns-in-Between : goal.returns-in-Between
returns-in-Between c = as-ended c.args.b c.in-Between.is (put-none (omega arith))

pub returns-in-Remark : goal.returns-in-Remark
returns-in-Remark c = as-ended c.args.b c.in-Remark.is (put-none (omega arith))

pub returns-in-Wrong : goal.returns-in-Wrong
returns-in-Wrong c = as-ended c.args.b c.in-Wrong.is (put-none (omega arith))
