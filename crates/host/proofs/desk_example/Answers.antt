-- `host::desk_example` meets its contract: the words and the room lent come to what the bytes come to.
use Prim.Native.Nat.{ℕ, ◌≤◌}
use mathlib.Core.Path.{◌≡◌, ap, ◌∙◌, sym, subst}
use mathlib.Core.List.{List}
use native.Mathlib.Omega.{arith}
use lib.ListN.{length, take, replicate, length-replicate}
use lib.Seq.{length-take-le}
use Rattle.language.specs.Limits.{desk}
use Rattle.rules.specs.Calls.{Showing}
use Rattle.host.specs.Host.{show_number, show_leaves}
use Rattle.host.proofs.Shows.{bytes-show}
use Rattle.host.proofs.desk_example.Goals as goal

-- the desk's own room at the start
abbrev clear : List ℕ
clear = replicate desk.filling 0

-- as many of its words as the room has; by the law, since computing the length would walk the whole list
within : (m : ℕ) → m ≤ desk.filling → length (take m clear) ≡ m
within m h = length-take-le m clear (subst (λ n. m ≤ n) (sym (length-replicate {A = ℕ} desk.filling 0)) h)

pub show-requires : goal.show-requires
show-requires c = let n : length (take c.most-m.result clear) ≡ c.most-m.result = within _ (omega arith) in (omega arith, omega arith)

pub returns : goal.returns
returns c = let a = c.args in
    let n : length (take c.most-m.result clear) ≡ c.most-m.result = within _ (omega arith) in
    let e = bytes-show a.question.now _ a.room.now a.line a.old _ _ c.truth.ensures c.take_words-n.ensures.words_after.0 (n ∙ c.most-m.ensures.0) in
    record {
      value = c.show.ensures.value ∙ ap show_number e;
      room_after = c.show.ensures.room_after ∙ ap (λ (s : Showing). show_leaves s a.room.now) e;
    }

pub slice_bounds-show-end-2 : goal.slice_bounds-show-end-2
slice_bounds-show-end-2 c = sym (within _ (omega arith))
