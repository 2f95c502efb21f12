-- `conjunctions::read_all` meets its contract. The loop walks along the parts and keeps what is to be returned.
-- Assumes nothing.
use Prim.Native.Nat.{◌≤◌, ◌+◌}
use mathlib.Core.Path.{◌≡◌}
use lib.ListN.{length}
use Rattle.language.proofs.Walks.{Walk}
use Rattle.conjunctions.proofs.Parts.{to_read}
use Rattle.conjunctions.proofs.read_all.Given as goal

abbrev pub invariant-loop-i : goal.invariant-loop-i
invariant-loop-i l = (l.stop ≡ l.n + 6) × (l.stop ≤ length l.w) × Walk to_read 5 l.n l.w l.i l.from
