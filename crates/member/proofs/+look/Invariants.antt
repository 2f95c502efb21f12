-- `member::look` meets its contract: a lemma for each kind of word. The measure is the words that are left.
use Prim.Native.Nat.{◌-◌}
use lib.ListN.{length}
use Rattle.member.proofs.+look.Given as goal

abbrev pub decreases-look : goal.decreases-look
decreases-look l = length l.e.now - l.at
