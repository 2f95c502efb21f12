-- `text_host::desk_read_text` meets its contract: the words lent come to what the bytes come to.
use Prim.Native.Nat.{ℕ, ◌/◌, ◌≤◌, min}
use mathlib.Core.Path.{◌≡◌, ap, ◌∙◌, sym, subst}
use mathlib.Core.List.{List}
use native.Mathlib.Omega.{arith}
use lib.ListN.{length, take, replicate, length-replicate}
use lib.Seq.{length-take-le}
use Rattle.language.specs.Limits.{desk}
use Rattle.texts.specs.Outcomes.{Outcome}
use Rattle.text_host.specs.Texts.{text_number, words_left}
use Rattle.text_host.proofs.Taken.{read-bytes}
use Rattle.text_host.proofs.desk_read_text.Goals as goal

-- the desk's own room at the start
abbrev clear : List ℕ
clear = replicate desk.question 0

-- as many of its words as the room has; by the law, since computing the length would walk the whole list
within : (m : ℕ) → m ≤ desk.question → length (take m clear) ≡ m
within m h = length-take-le m clear (subst (λ n. m ≤ n) (sym (length-replicate {A = ℕ} desk.question 0)) h)

pub read-requires : goal.read-requires
read-requires c = let n : length (take c.min-m.result clear) ≡ c.min-m.result = within _ (omega arith) in omega arith

pub returns : goal.returns
returns c = let n : length (take c.min-m.result clear) ≡ c.min-m.result = within _ (omega arith) in
    let least : c.min-m.result ≡ min desk.question (length c.args.room.now / 2) = omega arith in
    let e = read-bytes c.args.text.now c.args.room.now _ (n ∙ least) in
    record {
      value = c.read.ensures.value ∙ ap text_number e;
      room_after = c.read.ensures.room_after ∙ ap (λ (o : Outcome). words_left o c.args.room.now) e;
    }

pub slice_bounds-read-end : goal.slice_bounds-read-end
slice_bounds-read-end c = sym (within _ (omega arith))
