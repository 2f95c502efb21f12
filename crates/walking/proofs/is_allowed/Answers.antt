-- `walking::is_allowed` meets its contract: by the role.
use Rattle.walking.proofs.Tokens.{none_allowed, element-allowed, comma-allowed, opens-allowed, closes-allowed}
use Rattle.walking.proofs.is_allowed.Goals as goal

pub returns-then-role-eq0 : goal.returns-then-role-eq0
returns-then-role-eq0 c = none_allowed _ _ c.if-role-eq0.true

pub returns-then-role-lt3 : goal.returns-then-role-lt3
returns-then-role-lt3 c = element-allowed _ _ c.if-role-eq0.false c.if-role-lt3.true

pub returns-then-role-eq3 : goal.returns-then-role-eq3
returns-then-role-eq3 c = comma-allowed _ _ c.if-role-eq0.false c.if-role-lt3.false c.if-role-eq3.true

pub returns-then-role-eq4 : goal.returns-then-role-eq4
returns-then-role-eq4 c = opens-allowed _ _ c.if-role-eq0.false c.if-role-lt3.false c.if-role-eq3.false c.if-role-eq4.true

pub returns : goal.returns
returns c = closes-allowed _ _ c.if-role-eq0.false c.if-role-lt3.false c.if-role-eq3.false c.if-role-eq4.false
