-- `text_survey::one_more` meets its contract: one more, or none.
use Rattle.text_survey.proofs.Scan.{one-yes, one-no}
use Rattle.text_survey.proofs.one_more.Goals as goal

pub returns-then-yes : goal.returns-then-yes
returns-then-yes c = one-yes _ c.if-yes.true

pub returns : goal.returns
returns c = one-no _ c.if-yes.false
