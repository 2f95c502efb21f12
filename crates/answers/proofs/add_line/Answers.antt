-- The line written, its end, and the two counts.
use native.Mathlib.Omega.{arith}
use borrow.Author.Rules.{rules}
use Rattle.answers.proofs.Tallies.{line-stored}
use Rattle.answers.proofs.add_line.Goals as goal

pub store-requires-3 : goal.store-requires-3
store-requires-3 c = let h = c.opened-open.ensures.1 in let p = c.requires in (search rules, omega arith)

pub returns : goal.returns
returns c = line-stored c.args.t c.args.answer.now c.args.k.now c.args.number c.args.solved _ _ _ _ _
    c.write_line.ensures c.store.ensures c.store-2.ensures c.store-3.ensures c.opened-open.ensures.0
