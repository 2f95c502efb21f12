-- `note`: by what is found in the chain.
use native.Mathlib.Omega.{arith}
use mathlib.Core.Path.{refl, sym}
use Rattle.folding.proofs.Noting.{note-old, note-new}
use Rattle.folding.proofs.note.Goals as goal

pub seek-p-requires : goal.seek-p-requires
seek-p-requires c = let y = c.from.ensures in let z = c.requires.3.low c.chain_of-h.result in (omega arith, omega arith, omega arith, omega arith, c.requires.3.falls)

pub returns-then-p-k : goal.returns-then-p-k
returns-then-p-k c = note-old _ _ _ _ _ _ c.chain_of-h.result c.from.result c.chain_of-h.ensures.0 c.from.ensures c.seek-p.ensures c.if-p-k.true

pub returns : goal.returns
returns c = let h = c.chain_of-h.ensures.1 in
    let f = c.requires.3 in
    let a = f.chains in
    let b = f.room in
    note-new _ _ _ _ _ _ c.chain_of-h.result c.from.result c.chain_of-h.ensures.0 c.from.ensures c.seek-p.ensures c.if-p-k.false (omega arith) f (omega arith) (omega arith) _ _ refl (sym c.from.ensures)
