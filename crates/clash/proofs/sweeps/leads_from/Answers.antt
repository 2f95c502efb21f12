-- The symbols of both states, and the pairs that they lead to.
use native.Mathlib.Omega.{arith}
use Prim.Native.Nat.{ℕ}
use mathlib.Core.Path.{refl}
use lib.ListN.{length-replicate}
use Rattle.language.specs.Limits.{desk}
use Rattle.clash.proofs.Flagging.{leads-from}
use Rattle.clash.proofs.sweeps.leads_from.Goals as goal

pub bounds-met-i : goal.bounds-met-i
bounds-met-i c = let f = c.args.met.now.chained.few in let l = c.requires.1 in omega arith

pub bounds-met-i-2 : goal.bounds-met-i-2
bounds-met-i-2 c = let f = c.args.met.now.chained.few in let l = c.requires.1 in omega arith

pub symbols_after-x-requires : goal.symbols_after-x-requires
symbols_after-x-requires c = let b = c.requires.0 in let x = b.apart in let y = b.two in let z = b.within in (b.one, omega arith, b.few, length-replicate {A = ℕ} desk.question 0)

pub symbols_after-y-requires : goal.symbols_after-y-requires
symbols_after-y-requires c = let b = c.requires.0 in (b.two, b.within, b.few, length-replicate {A = ℕ} desk.question 0)

pub leads_of-requires : goal.leads_of-requires
leads_of-requires c = (c.requires.0.few, c.symbols_after-x.ensures.listed, c.symbols_after-y.ensures.listed)

pub returns : goal.returns
returns c = leads-from _ c.from-a.ensures c.from-b.ensures c.symbols_after-x.ensures c.symbols_after-y.ensures refl refl c.leads_of.ensures
