-- The words and rooms that the desk lends come to what the bytes come to: a question that does not fit is refused for its length, a trail never has more
-- words than three for each step, and a filling is never longer than its limit.
use Prim.Native.Nat.{ℕ, ◌*◌, ◌/◌, ◌≤◌, ◌<◌}
use mathlib.Core.Path.{◌≡◌, refl, sym, ap, ◌∙◌}
use mathlib.Core.Bool.{Bool, true, false}
use mathlib.Core.List.{List, []}
use native.Mathlib.Omega.{arith}
use lib.Dec.{leb}
use lib.ListN.{length}
use borrow.Author.Tests.{leb-false, lt-ltb, le-ltb}
use Rattle.language.specs.declared.Refusal.TheVariants.{ShortSlice, QuestionLength}
use Rattle.language.specs.Kinds.{pick}
use Rattle.language.specs.Limits.{desk}
use Rattle.language.specs.Trees.{signature}
use Rattle.language.specs.Question.{Asked, asks, refuses, read_question, counts_of}
use Rattle.rules.specs.Answer.{Solving, unread, ran}
use Rattle.rules.specs.Calls.{denied, showing_of}
use Rattle.word_bytes.specs.Bytes.{words_in, words_of, half_word, fitting}
use Rattle.word_bytes.proofs.Fitting.{long-question, no-question, fitting-question}
use Rattle.handing.specs.Handed.{used}
use Rattle.host.specs.Numbers.{asks_old}
use Rattle.host.proofs.Fitting.{showing-used}
use Rattle.replay.specs.Calls.{lent, solving_trail_of, solving_trail, trail_of, replaying_of, replaying, showing_trail}
use Rattle.replay.proofs.Trailed.{never-29}
use Rattle.trail_host.specs.Host.{longest_trail, trailing_bytes, replaying_bytes, showing_trail_bytes}

-- ---- an answer of so many bytes

abbrev unless-short : Solving → Bool → Solving
unless-short s b = elim b [ true ↦ unread ShortSlice | false ↦ s ]

lent-long : (n : ℕ) (s : Solving) → 2 * desk.room ≤ n → lent desk desk.room (n / 2) s ≡ s
lent-long n s h = ap (unless-short s) (le-ltb (n / 2) desk.room (omega arith))

lent-short : (n : ℕ) (s : Solving) → n < 2 * desk.room → lent desk desk.room (n / 2) s ≡ unread ShortSlice
lent-short n s h = ap (unless-short s) (lt-ltb (n / 2) desk.room (omega arith))

pub trail-short : (q : List ℕ) (n room : ℕ) → n < 2 * desk.room → trailing_bytes desk n room q ≡ unread ShortSlice
unfolding trailing_bytes solving_trail
trail-short q n room h = lent-short n (solving_trail_of desk (room / 2) (read_question desk (words_in q))) h

pub replay-short : (q trail : List ℕ) (n : ℕ) → n < 2 * desk.room → replaying_bytes desk n trail q ≡ unread ShortSlice
unfolding replaying_bytes replaying
replay-short q trail n h = lent-short n (replaying_of desk (half_word trail) (words_of trail) (read_question desk (words_in q))) h

-- ---- a room for a trail

room-used : (room : ℕ) (a : Asked) → solving_trail_of desk (used (longest_trail desk) room) a ≡ solving_trail_of desk room a
unfolding used
room-used room (asks q) = go (leb room (longest_trail desk)) refl
  where
    go : (b : Bool) → leb room (longest_trail desk) ≡ b → solving_trail_of desk (pick b room (longest_trail desk)) (asks q) ≡ solving_trail_of desk room (asks q)
    go true e = refl
    go false e =
        let h = leb-false room (longest_trail desk) e in
        let σ = signature q.counts in
        ap ran (never-29 desk σ (longest_trail desk) q.alternatives (omega arith) ∙ sym (never-29 desk σ room q.alternatives (omega arith)))
room-used room (refuses r) = refl

module _ (q ws : List ℕ) (words : ws ≡ fitting desk.question (words_in q)) where
  asked : read_question desk ws ≡ read_question desk (words_in q)
  asked = ap (read_question desk) words ∙ fitting-question (words_in q)

  pub same-trail : trail_of desk (read_question desk ws) ≡ trail_of desk (read_question desk (words_in q))
  same-trail = ap (trail_of desk) asked

  pub trail-lent : (n room own : ℕ) → 2 * desk.room ≤ n → own ≡ used (longest_trail desk) (room / 2)
      → solving_trail desk desk.room desk.room own ws ≡ trailing_bytes desk n room q
  unfolding trailing_bytes solving_trail
  trail-lent n room own h e =
      ap (λ a. solving_trail_of desk own a) asked ∙ ap (λ m. solving_trail_of desk m (read_question desk (words_in q))) e ∙ room-used (room / 2) (read_question desk (words_in q))
      ∙ sym (lent-long n (solving_trail_of desk (room / 2) (read_question desk (words_in q))) h)

  -- ---- a replay

  pub replay-lent : (trail : List ℕ) (n : ℕ) → 2 * desk.room ≤ n
      → replaying desk desk.room desk.room (half_word trail) (words_of trail) ws ≡ replaying_bytes desk n trail q
  unfolding replaying_bytes replaying
  replay-lent trail n h =
      ap (replaying_of desk (half_word trail) (words_of trail)) asked ∙ sym (lent-long n (replaying_of desk (half_word trail) (words_of trail) (read_question desk (words_in q))) h)

-- ---- an example

module _ (old half : Bool) (line : ℕ) (trail : List ℕ) where
  refused-showing : (room : ℕ) (ws : List ℕ) → read_question desk ws ≡ refuses QuestionLength → showing_trail desk old desk.room desk.room room line half trail ws ≡ denied QuestionLength
  unfolding showing_trail replaying
  refused-showing room ws e = ap (λ (a : Asked). showing_of desk old (counts_of ws) room line (replaying_of desk half trail a)) e

  fitting-showing : (room : ℕ) (ws : List ℕ)
      → showing_trail desk old desk.room desk.room (used desk.filling room) line half trail (fitting desk.question ws) ≡ showing_trail desk old desk.room desk.room room line half trail ws
  unfolding fitting showing_trail
  fitting-showing room ws = go (leb (length ws) desk.question) refl
    where
      go : (b : Bool) → leb (length ws) desk.question ≡ b
          → showing_trail desk old desk.room desk.room (used desk.filling room) line half trail (pick b ws []) ≡ showing_trail desk old desk.room desk.room room line half trail ws
      go true e = showing-used old (counts_of ws) room line (replaying desk desk.room desk.room half trail ws)
      go false e = refused-showing _ [] no-question ∙ sym (refused-showing room ws (long-question ws (leb-false _ _ e)))

pub example-lent : (q ws trail : List ℕ) (line old room n : ℕ) (flag : Bool) → flag ≡ asks_old old → ws ≡ fitting desk.question (words_in q) → room ≡ used desk.filling (n / 2)
    → showing_trail desk flag desk.room desk.room room line (half_word trail) (words_of trail) ws ≡ showing_trail_bytes desk n line old trail q
unfolding showing_trail_bytes
example-lent q ws trail line old room n flag ef ew er = rw (ef, ew, er) (fitting-showing (asks_old old) (half_word trail) line (words_of trail) (n / 2) (words_in q))
