-- `overlap::overlap_pair` meets its contract.
use Prim.Native.Nat.{◌/◌}
use mathlib.Core.Path.{subst}
use lib.ListN.{length}
use Rattle.word_bytes.specs.Bytes.{words_in}
use Rattle.pairing.specs.Meeting.{meeting}
use Rattle.pairing.specs.Lent.{Told}
use native.Mathlib.Omega.{arith}
use Rattle.overlap.proofs.overlap_pair.Goals as goal

pub returns : goal.returns
returns c = subst (λ w. Told (meeting (length c.args.room.now / 2) w (words_in c.args.first.now) (words_in c.args.second.now)) 0 c.args.room.now c.meet.result c.meet.new.room) c.first_word.ensures c.meet.ensures

pub meet-requires : goal.meet-requires
meet-requires c = omega arith
