use native.Mathlib.Omega.{arith}
use mathlib.Core.Path.{sym, ◌∙◌}
use Rattle.clash.proofs.Beginning.{begun-end, begun-eps, begun-over, begun-star, begun-shut, begun-both}
use Rattle.clash.proofs.follow.+begin.Goals as goal

pub returns-then-k-at : goal.returns-then-k-at
returns-then-k-at t c = search (begun-end)

pub returns-then-x-eq7000 : goal.returns-then-x-eq7000
returns-then-x-eq7000 t c = search (begun-eps)

pub mark-requires : goal.mark-requires
mark-requires t c = omega arith

pub returns-then-x-lt7000 : goal.returns-then-x-lt7000
returns-then-x-lt7000 t c = begun-over c.if-x-lt7000.true c.mark.ensures

pub begin-requires : goal.begin-requires
begin-requires t c = (omega arith, omega arith)

pub returns-then-x-eq7003 : goal.returns-then-x-eq7003
returns-then-x-eq7003 t c = begun-star c.if-x-eq7003.true c.begin.ensures

pub returns-then-shut : goal.returns-then-shut
returns-then-shut t c = begun-shut c.part-a.ensures c.begin.ensures (sym c.shut.ensures ∙ c.if-shut.true)

pub begin-requires-2 : goal.begin-requires-2
begin-requires-2 t c = let a = c.part-a.ensures.after in (omega arith, omega arith)

pub returns : goal.returns
returns t c = begun-both c.part-a.ensures c.if-x-eq7000.false c.if-x-lt7000.false c.if-x-eq7003.false c.begin.ensures (sym c.shut.ensures ∙ c.if-shut.false) c.begin-2.ensures
