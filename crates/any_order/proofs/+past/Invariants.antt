-- `any_order::past` meets its contract: a lemma for each kind of word. The measure is the words that are left.
use Prim.Native.Nat.{◌-◌}
use lib.ListN.{length}
use Rattle.any_order.proofs.+past.Given as goal

abbrev pub decreases-past : goal.decreases-past
decreases-past l = length l.e.now - l.at
