use native.Mathlib.Omega.{arith}
use mathlib.Core.Path.{sym, subst, ◌∙◌}
use Rattle.clash.specs.Marks.{Resumed}
use Rattle.clash.proofs.Resuming.{resumed-end, resumed-eps, resumed-over, resumed-second, resumed-alt, resumed-star, resumed-cat, resumed-no}
use Rattle.clash.proofs.follow.+resume.Goals as goal

pub returns-then-k-at : goal.returns-then-k-at
returns-then-k-at t c = search (resumed-end)

pub returns-then-x-eq7000 : goal.returns-then-x-eq7000
returns-then-x-eq7000 t c = search (resumed-eps)

pub returns-then-x-lt7000 : goal.returns-then-x-lt7000
returns-then-x-lt7000 t c = search (resumed-over)

pub resume-requires : goal.resume-requires
resume-requires t c = let a = c.part-a.ensures.after in (omega arith, c.requires)

pub returns-then-later : goal.returns-then-later
returns-then-later t c = resumed-second _ _ _ _ _ c.part-a.ensures c.if-x-eq7000.false c.if-x-lt7000.false (sym c.later.ensures ∙ c.if-later.true) c.resume.ensures

pub resume-more-requires : goal.resume-more-requires
resume-more-requires t c = (omega arith, c.requires)

pub returns-then-x-eq7002 : goal.returns-then-x-eq7002
returns-then-x-eq7002 t c = resumed-alt _ _ _ _ _ c.part-a.ensures c.if-x-eq7000.false c.if-x-lt7000.false (sym c.later.ensures ∙ c.if-later.false) c.if-x-eq7002.true c.resume-more.ensures

pub begin-requires : goal.begin-requires
begin-requires t c = omega arith

pub returns-then-x-eq7003 : goal.returns-then-x-eq7003
returns-then-x-eq7003 t c = resumed-star c.if-x-eq7003.true (subst (Resumed _ _ _ _ _) c.if-more.true c.resume-more.ensures) c.begin.ensures

pub begin-requires-then-more : goal.begin-requires-then-more
begin-requires-then-more t c = omega arith

pub returns-then-more : goal.returns-then-more
returns-then-more t c = resumed-cat _ _ _ _ _ c.part-a.ensures c.if-x-eq7000.false c.if-x-lt7000.false (sym c.later.ensures ∙ c.if-later.false) c.if-x-eq7002.false c.if-x-eq7003.false (subst (Resumed _ _ _ _ _) c.if-more.true c.resume-more.ensures) c.begin-then-more.ensures c.part-b.ensures

pub returns : goal.returns
returns t c = resumed-no _ _ _ _ _ c.part-a.ensures c.if-x-eq7000.false c.if-x-lt7000.false (sym c.later.ensures ∙ c.if-later.false) c.if-x-eq7002.false (subst (Resumed _ _ _ _ _) c.if-more.false c.resume-more.ensures)
