use mathlib.Core.Path.{sym, ap}
use lib.ListN.{length}
use Rattle.linear_form.proofs.Rests.{opening-length, opening-none}
use Rattle.linear_form.proofs.adding.opening_len.Goals as goal

pub returns-then-parts-eq0 : goal.returns-then-parts-eq0
returns-then-parts-eq0 c = sym (ap length (opening-none _ c.if-parts-eq0.true))

pub returns-else-parts-eq0 : goal.returns-else-parts-eq0
returns-else-parts-eq0 c = opening-length _ c.if-parts-eq0.false
