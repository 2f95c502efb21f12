-- One byte: it is none, or there is no place left, or it is stored, or counted only.
use Rattle.write_text.proofs.Laid.{put-none, put-past, put-here, put-over}
use Rattle.write_text.proofs.bytes.put.Goals as goal

pub returns-then-x-eq0 : goal.returns-then-x-eq0
returns-then-x-eq0 c = search (put-none)

pub returns-then-stop-at : goal.returns-then-stop-at
returns-then-stop-at c = search (put-past)

pub returns-then-at-out : goal.returns-then-at-out
returns-then-at-out c = search (put-here)

pub returns : goal.returns
returns c = search (put-over)
