-- `member::alone` meets its contract: three words, one after another.
use Prim.Native.Nat.{◌+◌}
use mathlib.Core.Path.{◌∙◌, ap}
use lib.ListN.{set}
use native.Mathlib.Omega.{arith}
use Rattle.member.proofs.kinds.alone.Goals as goal

pub store-requires : goal.store-requires
store-requires c = (omega (arith, c.requires), omega arith)

pub overflow_add-top : goal.overflow_add-top
overflow_add-top c = omega (arith, c.requires)

pub store-requires-2 : goal.store-requires-2
store-requires-2 c = (omega (arith, c.requires), omega arith)

pub overflow_add-top-2 : goal.overflow_add-top-2
overflow_add-top-2 c = omega (arith, c.requires)

pub store-requires-3 : goal.store-requires-3
store-requires-3 c = (omega (arith, c.requires), omega (arith, c.requires))

pub returns : goal.returns
returns c = c.store-3.ensures ∙ ap (λ v. set v (c.args.top + 2) c.args.q) (c.store-2.ensures ∙ ap (λ v. set v (c.args.top + 1) 1) c.store.ensures)
