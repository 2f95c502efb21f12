-- `prompt::put` meets its contract: where there is room, and where there is none.
use native.Mathlib.Omega.{arith}
use Rattle.prompt.proofs.Reading.{put_full}
use Rattle.prompt.proofs.put.Goals as goal

pub returns : goal.returns
returns c = put_full (omega arith) _ c.if-n-words.false
