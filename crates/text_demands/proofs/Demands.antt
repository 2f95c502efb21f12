-- What each call on texts comes to for a C program: theorems of any outcome that the contracts allow, from the bytes that the caller holds. Nothing is known of
-- a call but its contract (`allowed` beside each kind of call). The proofs are cited.
use Prim.Native.Nat.{ℕ, ◌+◌, ◌/◌, ◌≤◌}
use mathlib.Core.Path.{◌≡◌}
use mathlib.Core.List.{List}
use lib.ListN.{length, take}
use Rattle.language.specs.Trees.{Conj}
use Rattle.grammar.specs.Grammar.{TextOf}
use Rattle.word_bytes.specs.Bytes.{words_of, words_in}
use Rattle.text_demands.specs.Calls.{DeskWriteText, DeskReadText}
use Rattle.text_demands.specs.Tells.{DeskWriteTextTells, DeskReadTextTells}
use Rattle.text_demands.proofs.Reading as reading
use Rattle.text_demands.proofs.Writing as writing

-- desk_read_text gives 17 where the text is not of the grammar; else 18 where a header cannot count its names or lines; else 19 where its words are too many;
-- each leaves the room as it was. Else it gives 100 and the number of its words, which the room begins with and which are a question, the rest of the room as
-- it was.
pub desk-read-text-tells : (c : DeskReadText) → DeskReadTextTells c
desk-read-text-tells = reading.read-tells

-- 17 exactly for texts that the grammar does not spell
pub desk-not-text : (c : DeskReadText) → (c.number ≡ 17 → (ks : List Conj) → TextOf ks c.text → ⊥) × (((ks : List Conj) → TextOf ks c.text → ⊥) → c.number ≡ 17)
desk-not-text c = (reading.only-no-text c, reading.always-no-text c)

-- desk_write_text gives 2 to 6 as any call does; else 20 where the question is numbered or counted otherwise; else 19 where the text is longer than the room;
-- each leaves the room as it was. Else it gives 100 and the length of the text, which the room begins with.
pub desk-write-text-tells : (c : DeskWriteText) → DeskWriteTextTells c
desk-write-text-tells = writing.write-tells

-- What desk_write_text wrote, n bytes of its room, any call of desk_read_text in a room long enough reads as the same words.
pub desk-text-back : (w : DeskWriteText) (n : ℕ) → w.number ≡ 100 + n → (c : DeskReadText) → c.text ≡ take n w.room_left → length (words_in w.question) ≤ length c.room / 2
    → (c.number ≡ 100 + length (words_in w.question)) × (take (length (words_in w.question)) (words_of c.room_left) ≡ words_in w.question)
desk-text-back = writing.read_back
