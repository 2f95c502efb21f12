-- `member::note` meets its contract, whether it writes or not.
use native.Mathlib.Omega.{arith}
use Rattle.member.proofs.Asking.{noted-not, noted_one, noted_more}
use Rattle.member.proofs.kinds.note.Goals as goal

pub store-requires : goal.store-requires
store-requires c = (omega (arith, c.if-t-cap.true, c.requires), omega (arith, c.requires))

pub overflow_add-result : goal.overflow_add-result
overflow_add-result c = omega (arith, c.if-t-cap.true, c.requires)

pub returns-then-t-cap : goal.returns-then-t-cap
returns-then-t-cap c = noted_one c.if-yes.true c.if-t-cap.true c.store.ensures

pub returns-then-yes : goal.returns-then-yes
returns-then-yes c = noted_more c.if-yes.true c.if-t-cap.false

pub returns : goal.returns
returns c = noted-not c.if-yes.false
