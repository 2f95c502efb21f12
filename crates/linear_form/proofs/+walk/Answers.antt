use native.Mathlib.Omega.{arith}
use mathlib.Core.Path.{sym, ◌∙◌}
use Rattle.linear_form.proofs.Charting.{chart-from}
use Rattle.linear_form.proofs.Walking.{walks-end, walks-eps, walks-over, walks-star, walks-first, walks-both}
use Rattle.linear_form.proofs.+walk.Goals as goal

pub returns-then-k-at : goal.returns-then-k-at
returns-then-k-at t c = walks-end c.requires.4 c.if-k-at.true

pub returns-then-x-eq7000 : goal.returns-then-x-eq7000
returns-then-x-eq7000 t c = walks-eps c.requires.4 c.if-x-eq7000.true

pub expression_end-mid-requires : goal.expression_end-mid-requires
expression_end-mid-requires t c = chart-from (omega arith) c.requires.1

pub add_row-end-requires : goal.add_row-end-requires
add_row-end-requires t c = let p = c.requires in let x = p.0 in let y = p.2 in let z = p.3 in let h = c.if-k-at.false in (p.0, record { few = omega arith; short = omega arith }, p.4)

pub returns-then-x-lt7000 : goal.returns-then-x-lt7000
returns-then-x-lt7000 t c = walks-over c.expression_end-mid.ensures c.if-x-lt7000.true c.add_row-end.ensures

pub hand_down-inner-requires : goal.hand_down-inner-requires
hand_down-inner-requires t c = let p = c.requires in let x = p.0 in let y = p.2 in let z = p.3 in let h = c.if-k-at.false in let a = c.expression_end-mid.ensures.after in
    (c.if-k-at.false, omega arith, c.expression_end-mid.ensures.within (omega arith), p.0, p.1, omega arith, omega arith)

pub walk-a-requires : goal.walk-a-requires
walk-a-requires t c = let p = c.requires in let x = p.0 in let y = p.2 in let z = p.3 in let h = c.if-k-at.false in let u = c.hand_down-inner.ensures.few in let v = c.hand_down-inner.ensures.short in
    (omega arith, (p.0, p.1, omega arith, omega arith, p.4))

pub returns-then-x-eq7003 : goal.returns-then-x-eq7003
returns-then-x-eq7003 t c = walks-star c.expression_end-mid.ensures c.hand_down-inner.ensures c.walk-a.ensures c.if-x-eq7003.true

pub returns-then-closed : goal.returns-then-closed
returns-then-closed t c = walks-first c.expression_end-mid.ensures c.hand_down-inner.ensures c.walk-a.ensures c.closed.ensures c.if-closed.true

pub walk-b-requires : goal.walk-b-requires
walk-b-requires t c = let p = c.requires in let y = p.2 in let z = p.3 in let h = c.if-k-at.false in let a = c.expression_end-mid.ensures.after in
    (omega arith, (p.0, p.1, omega arith, omega arith, c.walk-a.ensures.room))

pub returns : goal.returns
returns t c = walks-both c.expression_end-mid.ensures c.hand_down-inner.ensures c.walk-a.ensures c.walk-b.ensures c.if-x-eq7000.false c.if-x-eq7003.false c.if-x-lt7000.false (sym c.closed.ensures ∙ c.if-closed.false) c.join-null.ensures
