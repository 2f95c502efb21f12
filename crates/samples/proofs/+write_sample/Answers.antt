use native.Mathlib.Omega.{arith}
use Prim.Native.Nat.{◌-◌}
use Rattle.samples.proofs.Sampling.{written-end, written-eps, written-star, written_over, written-cat, written-alt}
use Rattle.samples.proofs.+write_sample.Goals as goal

pub returns-then-k-at : goal.returns-then-k-at
returns-then-k-at t c = search (written-end)

pub returns-then-x-eq7000 : goal.returns-then-x-eq7000
returns-then-x-eq7000 t c = search (written-eps)

pub returns-then-x-eq7003 : goal.returns-then-x-eq7003
returns-then-x-eq7003 t c = search (written-star)

pub write_sample-a-requires : goal.write_sample-a-requires
write_sample-a-requires t c = (omega arith, tt)

pub returns-then-x-lt7000 : goal.returns-then-x-lt7000
returns-then-x-lt7000 t c = search (written_over)

pub write_sample-a-requires-2 : goal.write_sample-a-requires-2
write_sample-a-requires-2 t c = (omega arith, tt)

pub write_sample-requires : goal.write_sample-requires
write_sample-requires t c = (omega arith, tt)

pub returns-then-x-eq7001 : goal.returns-then-x-eq7001
returns-then-x-eq7001 t c = search (written-cat)

pub returns : goal.returns
returns t c = search (written-alt)
