-- `given::is_plain` meets its contract. The loop keeps what is to be returned.
use Prim.Native.Nat.{◌-◌}
use mathlib.Core.Path.{◌≡◌}
use lib.ListN.{length, drop}
use Rattle.given.specs.Checking.{plain_words}
use Rattle.given.proofs.is_plain.Given as goal

abbrev pub invariant-loop-i : goal.invariant-loop-i
invariant-loop-i l = plain_words l.symbols (drop l.i l.words) ≡ plain_words l.symbols l.words
