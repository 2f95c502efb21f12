-- The symbols of both states, and the pairs that they lead to.
use native.Mathlib.Omega.{arith}
use Prim.Native.Nat.{ℕ}
use lib.ListN.{length-replicate}
use Rattle.language.specs.Limits.{desk}
use Rattle.clash.proofs.Going.{went}
use Rattle.clash.proofs.walking.go_on.Goals as goal

pub symbols_after-x-requires : goal.symbols_after-x-requires
symbols_after-x-requires c = let b = c.requires in let x = b.apart in let y = b.two in let z = b.within in (b.one, omega arith, b.few, length-replicate {A = ℕ} desk.question 0)

pub symbols_after-y-requires : goal.symbols_after-y-requires
symbols_after-y-requires c = let b = c.requires in (b.two, b.within, b.few, length-replicate {A = ℕ} desk.question 0)

pub meet_all-requires : goal.meet_all-requires
meet_all-requires c = (c.requires.few, c.symbols_after-x.ensures.listed, c.symbols_after-y.ensures.listed)

pub returns : goal.returns
returns c = went c.symbols_after-x.ensures c.symbols_after-y.ensures c.meet_all.ensures c.and.ensures
