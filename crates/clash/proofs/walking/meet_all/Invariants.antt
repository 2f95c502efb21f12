-- The loop's invariant: the pairs that the symbols of the first list before i lead to are listed.
use Prim.Native.Nat.{◌≤◌}
use Rattle.clash.specs.Chains.{Grown}
use Rattle.clash.specs.Walking.{TwinOf}
use Rattle.clash.proofs.walking.meet_all.Given as goal

abbrev pub invariant-loop-i : goal.invariant-loop-i
invariant-loop-i l = (l.i ≤ l.ones) × Grown (TwinOf l.k l.classes l.ps l.i l.qs l.others) l.initial.met.left l.initial.met.right l.initial.met.count l.met.left l.met.right l.met.count
