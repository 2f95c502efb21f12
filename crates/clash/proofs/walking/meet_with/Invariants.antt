-- The loop's invariant: the pairs that the symbols of the list before j lead to are listed.
use Prim.Native.Nat.{◌≤◌}
use Rattle.clash.specs.Chains.{Grown}
use Rattle.clash.specs.Walking.{TwinWith}
use Rattle.clash.proofs.walking.meet_with.Given as goal

abbrev pub invariant-loop-j : goal.invariant-loop-j
invariant-loop-j l = (l.j ≤ l.count) × Grown (TwinWith l.k l.classes l.p l.qs l.j) l.initial.met.left l.initial.met.right l.initial.met.count l.met.left l.met.right l.met.count
