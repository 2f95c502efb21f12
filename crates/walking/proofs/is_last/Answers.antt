-- `walking::is_last` meets its contract: a bracket that closes, and any other token.
use Rattle.walking.proofs.Elements.{last-closes, last-other}
use Rattle.walking.proofs.is_last.Goals as goal

pub returns-then-role-eq5 : goal.returns-then-role-eq5
returns-then-role-eq5 c = last-closes _ _ c.if-role-eq5.true

pub returns : goal.returns
returns c = last-other _ _ c.if-role-eq5.false
