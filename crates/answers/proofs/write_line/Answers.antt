-- A mark, a number and the words behind them, stored in a row.
use mathlib.Core.Path.{refl}
use native.Mathlib.Omega.{arith}
use lib.ListN.{length, length-set}
use Rattle.slices.proofs.Parts.{part-short}
use Rattle.answers.proofs.Tallies.{line-written}
use Rattle.answers.proofs.write_line.Goals as goal

pub copy-requires : goal.copy-requires
copy-requires c = let n = part-short c.args.k.now 0 (length c.args.k.now) in
    simp length-set (omega arith)

pub returns : goal.returns
returns c = line-written c.args.answer.now _ _ c.args.k.now c.args.at _ _ c.args.number c.args.solved c.store.ensures c.copy.ensures.list c.mark.ensures.0 refl
