-- What the returns of desk_solve cite: by the refusal's number, how the answer's bytes are left.
use Prim.Native.Nat.{ℕ, ◌*◌, ◌/◌, ◌≤◌, ◌<◌}
use mathlib.Core.Path.{◌≡◌, refl, ap, ◌∙◌, sym}
use mathlib.Core.Bool.{Bool, true, false}
use mathlib.Core.List.{List, ◌++◌}
use native.Mathlib.Omega.{arith}
use lib.ListN.{length, drop}
use lib.Seq.{sets}
use borrow.Author.Tests.{lt-ltb, le-ltb}
use Rattle.language.specs.declared.Refusal.TheVariants.{ShortSlice}
use Rattle.language.specs.Limits.{desk}
use Rattle.language.specs.Question.{read_question}
use Rattle.rules.specs.Answer.{Solving, answered, unread, given-up, solving_of, solving, answer_words, zeros}
use Rattle.word_bytes.specs.Bytes.{bytes_of, words_in, fitting}
use Rattle.host.specs.Host.{solving_bytes, solve_number, solve_leaves}
use Rattle.word_bytes.proofs.Pairs.{written}
use Rattle.day.proofs.Fitting.{fitting-solving}
use Rattle.handing.specs.Handed.{keeps_bytes, answer_out}
use Rattle.handing.proofs.Handed.{keeps-none, keeps-early, keeps-late, answer-kept, answer-put}
use Rattle.host.proofs.Refusals.{InOrder}

abbrev unless-short : Solving → Bool → Solving
unless-short s b = elim b [ true ↦ unread ShortSlice | false ↦ s ]

-- "an answer under 16,384 bytes is 1"
pub short-answer : (q : List ℕ) (n : ℕ) → n < 2 * desk.room → solving_bytes desk n q ≡ unread ShortSlice
unfolding solving_bytes solving
short-answer q n h = ap (unless-short (solving_of desk (read_question desk (words_in q)))) (lt-ltb (n / 2) desk.room (omega arith))

pub long-answer : (q : List ℕ) (n : ℕ) → 2 * desk.room ≤ n → solving_bytes desk n q ≡ solving_of desk (read_question desk (words_in q))
unfolding solving_bytes solving
long-answer q n h = ap (unless-short (solving_of desk (read_question desk (words_in q)))) (le-ltb (n / 2) desk.room (omega arith))

-- the desk's own answer slice, where the question was read
abbrev pub Own : Solving → List ℕ → Type 0
Own (answered ls n) own = own ≡ answer_words desk ls
Own (unread r) own = Unit {0}
Own (given-up r) own = own ≡ zeros desk

module _ (q a : List ℕ) where
  pub too_short : length a < 2 * desk.room → (1 ≡ solve_number (solving_bytes desk (length a) q)) × (a ≡ solve_leaves desk (solving_bytes desk (length a) q) a)
  unfolding solve_number solve_leaves
  too_short h = rw (short-answer q (length a) h) (refl, refl)

  -- the words lent to the solver come to what the bytes come to
  pub same : 2 * desk.room ≤ length a → solving desk desk.room desk.room (fitting desk.question (words_in q)) ≡ solving_bytes desk (length a) q
  unfolding solving
  same room = fitting-solving desk.room desk.room (words_in q) ∙ sym (long-answer q (length a) room)

module _ (a own : List ℕ) (room : 2 * desk.room ≤ length a) (long : length own ≡ desk.room) where
  pub bytes_left : sets a 0 (bytes_of own) ≡ bytes_of own ++ drop (2 * desk.room) a
  bytes_left = written a own (omega arith) ∙ ap (λ (m : ℕ). bytes_of own ++ drop (2 * m) a) long

  put : (k : ℕ) (ws : List ℕ) → keeps_bytes k ≡ false → own ≡ ws → answer_out k own a ≡ bytes_of ws ++ drop (2 * desk.room) a
  put k ws h e = answer-put k own a h ∙ bytes_left ∙ ap (λ (us : List ℕ). bytes_of us ++ drop (2 * desk.room) a) e

  pub answer-told : (s : Solving) → InOrder s → (k : ℕ) → k ≡ solve_number s → Own s own → answer_out k own a ≡ solve_leaves desk s a
  unfolding solve_number solve_leaves
  answer-told (answered ls n) o k e f = put k _ (keeps-none k e) f
  answer-told (unread r) o k e f = answer-kept k own a (keeps-early k (λ z. omega arith) (omega arith))
  answer-told (given-up r) o k e f = put k _ (keeps-late k (omega arith)) f
