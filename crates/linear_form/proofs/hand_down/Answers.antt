use native.Mathlib.Omega.{arith}
use Rattle.linear_form.proofs.Charting.{chart-from}
use Rattle.linear_form.proofs.Walking.{handed-star, handed-cat, handed-alt}
use Rattle.linear_form.proofs.hand_down.Goals as goal

pub widen-requires : goal.widen-requires
widen-requires c = let p = c.requires in (p.1, p.2, p.3, p.5, p.6)

pub returns-then-x-eq7003 : goal.returns-then-x-eq7003
returns-then-x-eq7003 c = let p = c.requires in handed-star c.if-x-eq7003.true p.1 p.2 p.3 c.widen.ensures

pub expression_end-end-requires : goal.expression_end-end-requires
expression_end-end-requires c = chart-from (omega arith) c.requires.4

pub enclose-requires : goal.enclose-requires
enclose-requires c = let p = c.requires in let e = c.expression_end-end.ensures in (e.after, e.within p.2, p.3, p.5, p.6)

pub returns-then-x-eq7001 : goal.returns-then-x-eq7001
returns-then-x-eq7001 c = let p = c.requires in let e = c.expression_end-end.ensures in handed-cat c.if-x-eq7001.true (e.within p.2) p.3 e c.enclose.ensures

pub returns : goal.returns
returns c = handed-alt c.if-x-eq7003.false c.if-x-eq7001.false
