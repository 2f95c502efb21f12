-- `step_host::word` meets its contract.
use mathlib.Core.Path.{sym}
use Rattle.handing.proofs.Handed.{used_all, used-most}
use Rattle.step_host.proofs.word.Goals as goal

pub returns-then-n-le65535 : goal.returns-then-n-le65535
returns-then-n-le65535 c = sym (used_all _ _ c.if-n-le65535.true)

pub returns : goal.returns
returns c = sym (used-most _ _ c.if-n-le65535.false)
