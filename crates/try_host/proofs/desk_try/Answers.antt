-- `try_host::desk_try` meets its contract: the words lent come to what the bytes come to.
use Prim.Native.Nat.{ℕ}
use lib.ListN.{replicate, length-replicate}
use Rattle.language.specs.Limits.{desk}
use Rattle.handing.proofs.Handed.{number-as}
use Rattle.try_host.proofs.Tries.{tried}
use Rattle.try_host.proofs.desk_try.Goals as goal

pub returns : goal.returns
returns c = tried _ _ _ _ (replicate desk.room 0) _ c.try_filling-t.result _ c.take_words-n.ensures.words_after.0 c.take_words-m.ensures.words_after.0 (length-replicate {A = ℕ} desk.room 0) c.try_filling-t.ensures (number-as c.told.ensures c.tried_number.ensures c.tried_value.ensures)
