-- By the mark, and then by where the pair leads.
use native.Mathlib.Omega.{arith}
use mathlib.Core.Path.{subst}
use Rattle.clash.specs.Sweeping.{LeadsFrom}
use Rattle.clash.proofs.Flagging.{swept-old, swept_none, swept-new}
use Rattle.clash.proofs.sweeps.sweep_at.Goals as goal

pub bounds-marks-i : goal.bounds-marks-i
bounds-marks-i c = let f = c.args.met.now.chained.few in let l = c.requires.1 in omega arith

pub returns-then-marks-i : goal.returns-then-marks-i
returns-then-marks-i c = swept-old c.if-marks-i.true

pub leads_from-found-requires : goal.leads_from-found-requires
leads_from-found-requires c = (c.requires.0, c.requires.1)

pub bounds-marks-i-then-found : goal.bounds-marks-i-then-found
bounds-marks-i-then-found c = let f = c.args.met.now.chained.few in let l = c.requires.1 in omega arith

pub returns-then-found : goal.returns-then-found
returns-then-found c = let f = c.args.met.now.chained.few in let e = c.requires.2 in swept-new c.requires.1 (omega arith) c.if-marks-i.false (subst (LeadsFrom _ _ _ _ _ _ _ _ _) c.if-found.true c.leads_from-found.ensures)

pub returns : goal.returns
returns c = swept_none (subst (LeadsFrom _ _ _ _ _ _ _ _ _) c.if-found.false c.leads_from-found.ensures)
