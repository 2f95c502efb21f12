use Rattle.linear_form.proofs.Joining.{joined-second, joined-neither, joined-first, joined-other}
use Rattle.linear_form.proofs.join.Goals as goal

pub returns-then-a : goal.returns-then-a
returns-then-a c = search (joined-second)

pub returns-then-x-eq7001 : goal.returns-then-x-eq7001
returns-then-x-eq7001 c = search (joined-neither)

pub returns-then-a-2 : goal.returns-then-a-2
returns-then-a-2 c = search (joined-first)

pub returns-else-a-2 : goal.returns-else-a-2
returns-else-a-2 c = search (joined-other)
