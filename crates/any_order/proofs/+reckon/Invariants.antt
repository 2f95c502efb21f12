-- `any_order::reckon` meets its contract: a lemma for each kind of word. The measure is the words that are left.
use Prim.Native.Nat.{◌-◌}
use lib.ListN.{length}
use Rattle.any_order.proofs.+reckon.Given as goal

abbrev pub decreases-reckon : goal.decreases-reckon
decreases-reckon l = length l.e.now - l.at
