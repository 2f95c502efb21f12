use native.Mathlib.Omega.{arith}
use mathlib.Core.Path.{sym, ◌∙◌}
use Rattle.linear_form.proofs.Charting.{chart-from}
use Rattle.linear_form.proofs.Tallying.{tallies-end, tallies-eps, tallies-over, tallies-star, tallies-first, tallies-both}
use Rattle.linear_form.proofs.+tally.Goals as goal

pub returns-then-k-at : goal.returns-then-k-at
returns-then-k-at t c = tallies-end c.if-k-at.true

pub returns-then-x-eq7000 : goal.returns-then-x-eq7000
returns-then-x-eq7000 t c = tallies-eps c.if-x-eq7000.true

pub expression_end-mid-requires : goal.expression_end-mid-requires
expression_end-mid-requires t c = chart-from (omega arith) c.requires.1

pub result_len-one-requires : goal.result_len-one-requires
result_len-one-requires t c = let p = c.requires in let x = p.0 in let y = p.3 in let z = p.4 in let h = c.if-k-at.false in (p.0, p.2, record { few = omega arith; short = omega arith })

pub returns-then-x-lt7000 : goal.returns-then-x-lt7000
returns-then-x-lt7000 t c = tallies-over c.expression_end-mid.ensures c.if-x-lt7000.true c.result_len-one.ensures c.count-more.ensures

pub hand_down-inner-requires : goal.hand_down-inner-requires
hand_down-inner-requires t c = let p = c.requires in let x = p.0 in let y = p.3 in let z = p.4 in let h = c.if-k-at.false in let a = c.expression_end-mid.ensures.after in
    (c.if-k-at.false, omega arith, c.expression_end-mid.ensures.within (omega arith), p.0, p.1, omega arith, omega arith)

pub tally-a-requires : goal.tally-a-requires
tally-a-requires t c = let p = c.requires in let x = p.0 in let y = p.3 in let z = p.4 in let h = c.if-k-at.false in let u = c.hand_down-inner.ensures.few in let v = c.hand_down-inner.ensures.short in
    (omega arith, (p.0, p.1, p.2, omega arith, omega arith))

pub returns-then-x-eq7003 : goal.returns-then-x-eq7003
returns-then-x-eq7003 t c = tallies-star c.expression_end-mid.ensures c.hand_down-inner.ensures c.tally-a.ensures c.if-x-eq7003.true

pub returns-then-closed : goal.returns-then-closed
returns-then-closed t c = tallies-first c.expression_end-mid.ensures c.hand_down-inner.ensures c.tally-a.ensures c.closed.ensures c.if-closed.true

pub tally-b-requires : goal.tally-b-requires
tally-b-requires t c = let p = c.requires in let y = p.3 in let z = p.4 in let h = c.if-k-at.false in let a = c.expression_end-mid.ensures.after in
    (omega arith, (p.0, p.1, p.2, omega arith, omega arith))

pub returns : goal.returns
returns t c = tallies-both c.expression_end-mid.ensures c.hand_down-inner.ensures c.tally-a.ensures c.tally-b.ensures c.if-x-eq7000.false c.if-x-eq7003.false c.if-x-lt7000.false (sym c.closed.ensures ∙ c.if-closed.false) c.join-null.ensures
