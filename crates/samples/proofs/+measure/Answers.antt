use native.Mathlib.Omega.{arith}
use Prim.Native.Nat.{◌-◌}
use Rattle.samples.proofs.Sampling.{measured-end, measured-eps, measured-star, measured-over, measured-cat, measured-alt}
use Rattle.samples.proofs.+measure.Goals as goal

pub returns-then-k-at : goal.returns-then-k-at
returns-then-k-at t c = search (measured-end)

pub returns-then-x-eq7000 : goal.returns-then-x-eq7000
returns-then-x-eq7000 t c = search (measured-eps)

pub measure-a-requires : goal.measure-a-requires
measure-a-requires t c = (omega arith, tt)

pub returns-then-x-eq7003 : goal.returns-then-x-eq7003
returns-then-x-eq7003 t c = search (measured-star)

pub overflow_add-result-then-x-lt7000 : goal.overflow_add-result-then-x-lt7000
overflow_add-result-then-x-lt7000 t c = let e = c.measure-a.ensures in let w = e.within (omega arith) in omega arith

pub returns-then-x-lt7000 : goal.returns-then-x-lt7000
returns-then-x-lt7000 t c = search (measured-over)

pub measure-b-requires : goal.measure-b-requires
measure-b-requires t c = (omega arith, tt)

pub overflow_add-result-then-x-eq7001 : goal.overflow_add-result-then-x-eq7001
overflow_add-result-then-x-eq7001 t c = let e = c.measure-a.ensures in
    let w = e.within (omega arith) in
    let v = c.measure-b.ensures.within w in
    omega arith

pub returns-then-x-eq7001 : goal.returns-then-x-eq7001
returns-then-x-eq7001 t c = search (measured-cat)

pub returns : goal.returns
returns t c = search (measured-alt)
