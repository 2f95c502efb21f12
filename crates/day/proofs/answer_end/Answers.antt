-- `day::answer_end` meets its contract: the last offset, or nothing.
use Rattle.day.proofs.Ends.{end-answered, end_refused}
use Rattle.day.proofs.answer_end.Goals as goal

pub returns-then-number-eq0 : goal.returns-then-number-eq0
returns-then-number-eq0 c = end-answered _ _ _ c.if-number-eq0.true c.from.ensures

pub returns : goal.returns
returns c = end_refused _ _ c.if-number-eq0.false
