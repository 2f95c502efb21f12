-- What is shown of any call of desk_read_text that came back.
use Prim.Native.Nat.{ℕ, ◌+◌, ◌*◌, ◌/◌, ◌≤◌}
use mathlib.Core.Path.{◌≡◌, refl, sym, ap, ◌∙◌}
use mathlib.Core.Bool.{Bool, true, false}
use mathlib.Core.List.{List, ◌++◌}
use mathlib.Core.Option.{Option, none, some}
use native.Mathlib.Omega.{arith}
use lib.Dec.{leb, lit≤}
use lib.ListN.{length, take, drop}
use lib.Seq.{take_at}
use borrow.Author.Tests.{leb-true, leb-false}
use Rattle.language.specs.declared.Refusal.{Refusal}
use Rattle.language.specs.declared.Refusal.TheVariants.{NotText, ManyNames, LongText}
use Rattle.language.specs.Limits.{desk}
use Rattle.language.specs.Numbers.{number_of}
use Rattle.language.specs.Trees.{Conj}
use Rattle.language.specs.Question.{counts_fit}
use Rattle.grammar.specs.Grammar.{TextOf}
use Rattle.texts.specs.Texts.{parse}
use Rattle.texts.specs.Numbering.{counts_in}
use Rattle.texts.specs.Outcomes.{gives, denies, reads_text}
use Rattle.texts.proofs.Readings.{text-spelt, not-of-grammar}
use Rattle.texts.proofs.Accepted.{accepted, seventeen}
use Rattle.texts.proofs.Refusing.{eighteen, nineteen, read}
use Rattle.word_bytes.specs.Bytes.{bytes_of, words_of}
use Rattle.word_bytes.proofs.Pairs.{length-bytes_of, words-up-to, words-of-bytes, written}
use Rattle.text_host.specs.Texts.{reading_bytes, text_number, words_left}
use Rattle.text_demands.specs.Calls.{DeskReadText}
use Rattle.text_demands.specs.Tells.{asking_words, DeskReadTextTells}
use Rattle.text_demands.specs.Tells as tells

module _ (c : DeskReadText) where
  abbrev room : ℕ
  room = length c.room / 2

  comes : reading_bytes desk (length c.room) c.text ≡ reads_text desk room c.text
  unfolding reading_bytes
  comes = refl

  denied : (r : Refusal) → reads_text desk room c.text ≡ denies r → (c.number ≡ number_of r) × (c.room_left ≡ c.room)
  denied r e = (c.said.0 ∙ ap text_number (comes ∙ e), c.said.1 ∙ ap (λ o. words_left o c.room) (comes ∙ e))

  pub gave : (ws : List ℕ) → reads_text desk room c.text ≡ gives ws → length ws ≤ room
      → (c.number ≡ 100 + length ws) × (c.room_left ≡ bytes_of ws ++ drop (2 * length ws) c.room)
  gave ws e h = (c.said.0 ∙ ap text_number (comes ∙ e), c.said.1 ∙ ap (λ o. words_left o c.room) (comes ∙ e) ∙ written c.room ws (omega arith))

  pub read-tells : DeskReadTextTells c
  read-tells = on (parse c.text) refl where
    on_room : (ks : List Conj) → TextOf ks c.text → counts_fit desk (counts_in ks) (length ks) ≡ true → (a b : Bool) → leb (length (asking_words ks)) desk.question ≡ a
        → leb (length (asking_words ks)) room ≡ b → DeskReadTextTells c
    on_room ks d f true true p q =
        let s = leb-true (length (asking_words ks)) desk.question p in let t = leb-true (length (asking_words ks)) room q in
        let g = gave (asking_words ks) (read desk room c.text ks d f s t) t in
        tells.reads ks d (accepted desk (lit≤ tt) ks f s) g.0 g.1
    on_room ks d f true false p q =
        let t = leb-false (length (asking_words ks)) room q in let n : length (asking_words ks) ≤ desk.question → length (asking_words ks) ≤ room → ⊥ = λ a b. omega arith in
        let g = denied LongText (nineteen desk room c.text ks d f n) in tells.long ks d f n g.0 g.1
    on_room ks d f false b p q =
        let t = leb-false (length (asking_words ks)) desk.question p in let n : length (asking_words ks) ≤ desk.question → length (asking_words ks) ≤ room → ⊥ = λ a b. omega arith in
        let g = denied LongText (nineteen desk room c.text ks d f n) in tells.long ks d f n g.0 g.1

    on-counts : (ks : List Conj) → TextOf ks c.text → (b : Bool) → counts_fit desk (counts_in ks) (length ks) ≡ b → DeskReadTextTells c
    on-counts ks d true f = on_room ks d f (leb (length (asking_words ks)) desk.question) (leb (length (asking_words ks)) room) refl refl
    on-counts ks d false f = let g = denied ManyNames (eighteen desk room c.text ks d f) in tells.many ks d f g.0 g.1

    on : (o : Option (List Conj)) → parse c.text ≡ o → DeskReadTextTells c
    on none e = let n = not-of-grammar c.text e in let g = denied NotText (seventeen desk room c.text n) in tells.no_text n g.0 g.1
    on (some ks) e = on-counts ks (text-spelt c.text ks e) (counts_fit desk (counts_in ks) (length ks)) refl

  -- 17 exactly where the grammar spells nothing
  pub only-no-text : c.number ≡ 17 → (ks : List Conj) → TextOf ks c.text → ⊥
  only-no-text n = on read-tells where
    on : DeskReadTextTells c → (ks : List Conj) → TextOf ks c.text → ⊥
    on (tells.no_text h m l) = h
    on (tells.many ks d f m l) = λ js e. omega arith
    on (tells.long ks d f h m l) = λ js e. omega arith
    on (tells.reads ks d a m l) = λ js e. omega arith

  pub always-no-text : ((ks : List Conj) → TextOf ks c.text → ⊥) → c.number ≡ 17
  always-no-text n = (denied NotText (seventeen desk room c.text n)).0

-- the words at the start of bytes that begin with theirs
pub first-words : (ws rest : List ℕ) → take (length ws) (words_of (bytes_of ws ++ rest)) ≡ ws
first-words ws rest =
    sym (words-up-to (bytes_of ws ++ rest) (length ws)) ∙ ap words_of (take_at (bytes_of ws) rest (2 * length ws) (length-bytes_of ws)) ∙ words-of-bytes ws
