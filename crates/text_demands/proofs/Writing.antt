-- What is shown of any call of desk_write_text that came back, and of a call of desk_read_text with what it wrote.
use Prim.Native.Nat.{ℕ, ◌+◌, ◌*◌, ◌/◌, ◌≤◌}
use mathlib.Core.Path.{◌≡◌, refl, sym, ap, ◌∙◌}
use mathlib.Core.Bool.{Bool, true, false}
use mathlib.Core.List.{List, ◌++◌}
use native.Mathlib.Omega.{arith}
use lib.Dec.{leb}
use lib.ListN.{length, take, drop}
use lib.Seq.{sets-eq, take_at}
use borrow.Author.Tests.{leb-true, leb-false}
use Rattle.language.specs.declared.Refusal.{Refusal}
use Rattle.language.specs.declared.Refusal.TheVariants.{LongText, OtherNumbers}
use Rattle.language.specs.Limits.{desk}
use Rattle.language.specs.Numbers.{number_of}
use Rattle.language.specs.Trees.{Question}
use Rattle.language.specs.Question.{Asked, asks, refuses, read_question}
use Rattle.language.proofs.Numbering.{each_number}
use Rattle.texts.specs.Writer.{all_text}
use Rattle.texts.specs.Outcomes.{gives, denies, as_read, reads_text, writes_text}
use Rattle.texts.proofs.Refusing.{as_before, twenty, too_long, text_of}
use Rattle.texts.proofs.RoundTrip.{round_trip}
use Rattle.word_bytes.specs.Bytes.{words_in, words_of}
use Rattle.write_text.specs.Writes.{left_by}
use Rattle.text_host.specs.Texts.{writing_bytes, text_number}
use Rattle.text_demands.specs.Calls.{DeskWriteText, DeskReadText}
use Rattle.text_demands.specs.Tells.{DeskWriteTextTells}
use Rattle.text_demands.specs.Tells as tells
use Rattle.text_demands.proofs.Reading.{gave, first-words}

module _ (c : DeskWriteText) where
  abbrev words : List ℕ
  words = words_in c.question

  comes : writing_bytes desk (length c.room) c.question ≡ writes_text desk (length c.room) words
  unfolding writing_bytes
  comes = refl

  denied : (r : Refusal) → writes_text desk (length c.room) words ≡ denies r → (c.number ≡ number_of r) × (c.room_left ≡ c.room)
  denied r e = (c.said.0 ∙ ap text_number (comes ∙ e), c.said.1 ∙ ap (λ o. left_by o c.room) (comes ∙ e))

  wrote : (text : List ℕ) → writes_text desk (length c.room) words ≡ gives text → length text ≤ length c.room
      → (c.number ≡ 100 + length text) × (c.room_left ≡ text ++ drop (length text) c.room)
  wrote text e h = (
    c.said.0 ∙ ap text_number (comes ∙ e),
    c.said.1 ∙ ap (λ o. left_by o c.room) (comes ∙ e) ∙ sets-eq text c.room 0 (omega arith) ∙ ap (λ n. text ++ drop n c.room) (let z : 0 + length text ≡ length text = omega arith in z),
  )

  pub write-tells : DeskWriteTextTells c
  write-tells = on (read_question desk words) refl where
    on_room : (q : Question) → read_question desk words ≡ asks q → as_read q ≡ true → (b : Bool) → leb (length (all_text q.alternatives)) (length c.room) ≡ b → DeskWriteTextTells c
    on_room q e f true p =
        let s = leb-true (length (all_text q.alternatives)) (length c.room) p in
        let g = wrote (all_text q.alternatives) (text_of desk (length c.room) words q e f s) s in tells.writes q e f g.0 g.1
    on_room q e f false p =
        let s = leb-false (length (all_text q.alternatives)) (length c.room) p in
        let g = denied LongText (too_long desk (length c.room) words q e f s) in tells.long q e f s g.0 g.1

    on_read : (q : Question) → read_question desk words ≡ asks q → (b : Bool) → as_read q ≡ b → DeskWriteTextTells c
    on_read q e true f = on_room q e f (leb (length (all_text q.alternatives)) (length c.room)) refl
    on_read q e false f = let g = denied OtherNumbers (twenty desk (length c.room) words q e f) in tells.otherwise q e f g.0 g.1

    on : (a : Asked) → read_question desk words ≡ a → DeskWriteTextTells c
    on (refuses r) e = let g = denied r (as_before desk (length c.room) words r e) in tells.refuses r e g.0 g.1
    on (asks q) e = on_read q e (as_read q) refl

  -- a text that was written, and the bytes that a caller takes for it
  pub record Wrote (n : ℕ) : Type 0 where
    pub text : List ℕ
    pub came : writes_text desk (length c.room) words ≡ gives text
    pub taken : take n c.room_left ≡ text

  pub text-written : (n : ℕ) → c.number ≡ 100 + n → Wrote n
  text-written n k = on write-tells where
    on : DeskWriteTextTells c → Wrote n
    on (tells.refuses r e m l) = let t = each_number r in absurd (omega arith)
    on (tells.otherwise q e f m l) = absurd (omega arith)
    on (tells.long q e f h m l) = absurd (omega arith)
    on (tells.writes q e f m l) =
        let i : n ≡ length (all_text q.alternatives) = omega arith in
        record {
          text = all_text q.alternatives;
          came = by-room q e f m (leb (length (all_text q.alternatives)) (length c.room)) refl;
          taken = ap (take n) l ∙ take_at (all_text q.alternatives) (drop (length (all_text q.alternatives)) c.room) n (sym i);
        }
      where
        by-room : (q : Question) → read_question desk words ≡ asks q → as_read q ≡ true → c.number ≡ 100 + length (all_text q.alternatives) → (b : Bool) → leb (length (all_text q.alternatives)) (length c.room) ≡ b
            → writes_text desk (length c.room) words ≡ gives (all_text q.alternatives)
        by-room q e f m true p = text_of desk (length c.room) words q e f (leb-true (length (all_text q.alternatives)) (length c.room) p)
        by-room q e f m false p = let g = denied LongText (too_long desk (length c.room) words q e f (leb-false (length (all_text q.alternatives)) (length c.room) p)) in let z = g.0 in absurd (omega arith)

-- "Writing and reading back gives the same question words."
pub read_back : (w : DeskWriteText) (n : ℕ) → w.number ≡ 100 + n → (c : DeskReadText) → c.text ≡ take n w.room_left → length (words_in w.question) ≤ length c.room / 2
    → (c.number ≡ 100 + length (words_in w.question)) × (take (length (words_in w.question)) (words_of c.room_left) ≡ words_in w.question)
read_back w n k c e h =
    let t = text-written w n k in
    let ws = words_in w.question in
    let back : reads_text desk (length c.room / 2) c.text ≡ gives ws = ap (reads_text desk (length c.room / 2)) (e ∙ t.taken) ∙ round_trip desk (length w.room) ws t.text t.came (length c.room / 2) h in
    let g = gave c ws back h in
    (g.0, ap (λ l. take (length ws) (words_of l)) g.1 ∙ first-words ws (drop (2 * length ws) c.room))
