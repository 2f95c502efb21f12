-- A membership is counted, an equation is not.
use mathlib.Core.Path.{◌∙◌}
use Rattle.solved.proofs.Memberships.{member-counted, none-counted}
use Rattle.solved.proofs.member_in.Goals as goal

pub returns-then-k-i-eq6000 : goal.returns-then-k-i-eq6000
returns-then-k-i-eq6000 c = c.count_in.ensures ∙ member-counted c.args.k.now c.args.members.now c.args.i c.args.next c.if-k-i-eq6000.true

pub returns-else-k-i-eq6000 : goal.returns-else-k-i-eq6000
returns-else-k-i-eq6000 c = none-counted c.args.k.now c.args.members.now c.args.i c.args.next c.if-k-i-eq6000.false
