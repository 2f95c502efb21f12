-- `prompt::go_on` meets its contract: each mode.
use Rattle.prompt.proofs.Reading.{as-next}
use Rattle.prompt.proofs.go_on.Goals as goal

pub returns-in-Between : goal.returns-in-Between
returns-in-Between c = as-next c.args.b c.in-Between.is c.outside_remarks.ensures

pub returns-in-Number : goal.returns-in-Number
returns-in-Number c = as-next c.args.b c.in-Number.is c.outside_remarks-in-Number.ensures

pub returns-in-Remark : goal.returns-in-Remark
returns-in-Remark c = as-next c.args.b c.in-Remark.is c.inside_remark.ensures
