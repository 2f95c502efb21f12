use native.Mathlib.Omega.{arith}
use Prim.Native.Nat.{ℕ}
use mathlib.Core.Path.{refl}
use lib.ListN.{length-replicate}
use Rattle.state_classes.specs.Classes.{state_room}
use Rattle.state_classes.proofs.Classing.{tabled_start, tabled-to, kept_same, kept_then, keys_none, changed-none, changed_then, changed-to}
use Rattle.state_classes.proofs.class_all.Goals as goal

pub loop-s-init : goal.loop-s-init
loop-s-init c = let p = c.requires.0 in (omega arith, omega arith, tabled_start refl, kept_same, keys_none refl, length-replicate {A = ℕ} state_room 0, changed-none)

pub class_at-requires : goal.class_at-requires
class_at-requires c = let e = c.loop-s.invariant.3.long in let p = c.requires.1 in let q = c.requires.2 in record {
  places = (omega arith, refl, c.loop-s.invariant.0, omega arith);
  classes_len = (omega arith, c.loop-s.invariant.5, c.loop-s.invariant.4);
}

pub loop-s-preserved : goal.loop-s-preserved
loop-s-preserved c = let e = c.class_at.ensures in let h = c.loop-s.invariant.0 in (omega arith, omega arith, e.1 c.loop-s.invariant.2, kept_then h c.loop-s.invariant.3 e.0, e.2, e.3, changed_then c.loop-s.invariant.6 e.4)

pub returns : goal.returns
returns c = let h = c.loop-s.invariant.1 in (tabled-to (omega arith) c.loop-s.invariant.2, c.loop-s.invariant.3, changed-to (omega arith) c.loop-s.invariant.6)
