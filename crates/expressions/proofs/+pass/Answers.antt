use native.Mathlib.Omega.{arith}
use Prim.Native.Nat.{◌-◌}
use Rattle.expressions.proofs.Passed.{passed-end, passed-eps, passed-star, passed_over, passed-cat, passed-alt}
use Rattle.expressions.proofs.+pass.Goals as goal

pub returns-then-k-at : goal.returns-then-k-at
returns-then-k-at t c = search (passed-end)

pub returns-then-x-eq7000 : goal.returns-then-x-eq7000
returns-then-x-eq7000 t c = search (passed-eps)

pub pass-a-requires : goal.pass-a-requires
pass-a-requires t c = (omega arith, tt)

pub returns-then-x-eq7003 : goal.returns-then-x-eq7003
returns-then-x-eq7003 t c = search (passed-star)

pub returns-then-x-lt7000 : goal.returns-then-x-lt7000
returns-then-x-lt7000 t c = search (passed_over)

pub pass-b-requires : goal.pass-b-requires
pass-b-requires t c = (omega arith, tt)

pub returns-then-x-eq7001 : goal.returns-then-x-eq7001
returns-then-x-eq7001 t c = search (passed-cat)

pub returns : goal.returns
returns t c = search (passed-alt)
