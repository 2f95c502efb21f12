-- `live_rules::laid` meets its contract.
use Prim.Native.Nat.{◌≤◌, ◌-◌, ◌/◌}
use mathlib.Core.Path.{◌≡◌}
use lib.ListN.{length}
use Rattle.word_bytes.specs.Bytes.{words_of}
use Rattle.live_rules.specs.Layout.{rules_laid}
use Rattle.live_rules.proofs.laid.Given as goal

abbrev pub invariant-loop-i : goal.invariant-loop-i
invariant-loop-i l = (l.at ≤ length l.sheet / 2) × (rules_laid (l.n - l.i) l.at (words_of l.sheet) ≡ rules_laid l.n 2 (words_of l.sheet))
