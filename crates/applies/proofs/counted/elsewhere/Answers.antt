-- The table says how often in all words, the part how often in its own.
use native.Mathlib.Omega.{arith}
use Rattle.applies.proofs.Others.{by-table}
use Rattle.applies.proofs.counted.elsewhere.Goals as goal

pub returns-then-x-lt-TABLE : goal.returns-then-x-lt-TABLE
returns-then-x-lt-TABLE c = λ h. by-table c.args.k.now c.args.table.now c.args.at c.args.end c.args.x _ _ c.requires h c.times_in-here.ensures c.wide.ensures

pub returns : goal.returns
returns c = λ h. absurd (let z = c.if-x-lt-TABLE.false in omega arith)
