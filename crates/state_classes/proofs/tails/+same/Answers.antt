-- Nothing, two expressions in the words, or the second parts and then what is before them.
use Rattle.std.proofs.Common.{Some}
use mathlib.Core.Path.{sym, subst}
use Rattle.state_classes.specs.Tails.{Alike}
use Rattle.state_classes.proofs.Opening.{same_left, same-right, same-ones, same-whole, same-other, same_parts, same-differ}
use Rattle.state_classes.proofs.tails.+same.Goals as goal

pub returns-in_default : goal.returns-in_default
returns-in_default t c = same_left c.in_default.ensures c.lay_open-b.ensures c.is_nothing.ensures

pub returns-in_default-b : goal.returns-in_default-b
returns-in_default-b t c = same-right {a = Some c.in-Some.x} c.in-Some.ensures c.in_default-b.ensures c.is_nothing-in_default-b.ensures

pub returns-in-Some-both_one : goal.returns-in-Some-both_one
returns-in-Some-both_one t c = same-ones c.in-Some.x c.in-Some-b.y (sym c.in-Some-both_one.ensures) c.in-Some.ensures c.in-Some-b.ensures c.same_at.ensures

pub returns-in_default-take_apart : goal.returns-in_default-take_apart
returns-in_default-take_apart t c = same-whole c.in-Some.x c.in-Some-b.y (sym c.in_default-both_one.ensures) c.in-Some.ensures c.in-Some-b.ensures c.in_default-take_apart.ensures

pub returns-in_default-take_apart-2 : goal.returns-in_default-take_apart-2
returns-in_default-take_apart-2 t c = same-other c.in-Some.x c.in-Some-b.y (sym c.in_default-both_one.ensures) c.in-Some.ensures c.in-Some-b.ensures c.in_default-take_apart-2.ensures

pub returns-then-same_at : goal.returns-then-same_at
returns-then-same_at t c = same_parts c.in-Ok.ensures c.in-Ok-take_apart.ensures (subst (Alike _ _ _) c.if-same_at.true c.same_at-2.ensures) c.same.ensures

pub returns : goal.returns
returns t c = same-differ c.in-Ok.ensures c.in-Ok-take_apart.ensures (subst (Alike _ _ _) c.if-same_at.false c.same_at-2.ensures)
