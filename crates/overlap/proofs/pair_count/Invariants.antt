-- `overlap::pair_count` meets its contract.
use Prim.Native.Nat.{◌≤◌, ◌-◌, ◌*◌}
use mathlib.Core.Path.{◌≡◌}
use Rattle.live_rules.specs.Layout.{most_rules}
use Rattle.overlap.specs.Lengths.{pair_count}
use Rattle.overlap.proofs.pair_count.Given as goal

abbrev pub invariant-loop-i : goal.invariant-loop-i
invariant-loop-i l = (l.pairs ≡ pair_count l.i) × (l.pairs ≤ l.i * most_rules)
