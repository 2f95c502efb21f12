-- `repeated`: a word past the table is not counted.
use mathlib.Core.Path.{sym, ap}
use lib.Dec.{ltb}
use Rattle.counts.proofs.Added.{counted, uncounted}
use Rattle.counts.proofs.repeated.Goals as goal

pub returns-then-x-lt-TABLE : goal.returns-then-x-lt-TABLE
returns-then-x-lt-TABLE c = ap (λ n. ltb 1 n) (counted c.args.x c.args.t.now c.if-x-lt-TABLE.true)

pub returns : goal.returns
returns c = sym (ap (λ n. ltb 1 n) (uncounted c.args.x c.args.t.now c.if-x-lt-TABLE.false))
