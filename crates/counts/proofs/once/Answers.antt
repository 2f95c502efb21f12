-- `once`: a word past the table is not counted.
use mathlib.Core.Path.{sym, ap}
use lib.Dec.{eqb}
use Rattle.counts.proofs.Added.{counted, uncounted}
use Rattle.counts.proofs.once.Goals as goal

pub returns-then-x-lt-TABLE : goal.returns-then-x-lt-TABLE
returns-then-x-lt-TABLE c = ap (λ n. eqb n 1) (counted c.args.x c.args.t.now c.if-x-lt-TABLE.true)

pub returns : goal.returns
returns c = sym (ap (λ n. eqb n 1) (uncounted c.args.x c.args.t.now c.if-x-lt-TABLE.false))
