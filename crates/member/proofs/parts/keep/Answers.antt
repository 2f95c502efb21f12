-- `member::keep` meets its contract, whether it writes or not.
use native.Mathlib.Omega.{arith}
use Rattle.member.proofs.Moves.{keeps-none, keeps-one}
use Rattle.member.proofs.parts.keep.Goals as goal

pub returns-then-x-eq7002 : goal.returns-then-x-eq7002
returns-then-x-eq7002 c = keeps-none c.if-x-eq7002.true

pub bounds-k-at : goal.bounds-k-at
bounds-k-at c = omega (arith, c.requires)

pub returns : goal.returns
returns c = keeps-one c.if-x-eq7002.false
