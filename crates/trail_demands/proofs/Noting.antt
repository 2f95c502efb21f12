-- What is shown of any call of desk_solve_trail that came back: it solves as desk_solve does, and its trail is accepted.
use Prim.Native.Nat.{ℕ, ◌+◌, ◌*◌, ◌/◌}
use mathlib.Core.Path.{◌≡◌, refl, sym, ap, ◌∙◌}
use mathlib.Core.Bool.{false}
use mathlib.Core.List.{List, ◌++◌}
use native.Mathlib.Omega.{arith}
use lib.ListN.{length, take, drop}
use lib.Seq.{take_at}
use Rattle.language.specs.declared.Refusal.{Refusal}
use Rattle.language.specs.Limits.{desk}
use Rattle.language.specs.Numbers.{number_of}
use Rattle.language.specs.Question.{read_question}
use Rattle.language.proofs.Numbering.{each_number}
use Rattle.rules.specs.Run.{Numbered}
use Rattle.rules.specs.Answer.{Solving, answered, unread, given-up, solving, answer_words}
use Rattle.word_bytes.specs.Bytes.{words_of, words_in, half_word, bytes_of}
use Rattle.word_bytes.proofs.Pairs.{length-bytes_of, words-of-bytes, none-half}
use Rattle.host.specs.Host as host
use Rattle.replay.specs.Calls.{solving_trail, trail_of, replaying}
use Rattle.replay.proofs.Told.{untrailed, own-trail-accepted}
use Rattle.trail_host.specs.Host.{trailing_bytes, trail_number, trail_bytes, replaying_bytes}
use Rattle.demands.specs.HostCalls.{DeskSolve}
use Rattle.trail_demands.specs.Calls.{DeskSolveTrail, DeskReplay}

-- 100 and a number is no refusal
pub not-refused : {A : Type 0} (r : Refusal) (k n : ℕ) → k ≡ 100 + n → k ≡ number_of r → A
not-refused r k n e d = absurd (let b = each_number r in omega arith)

module _ (t : DeskSolveTrail) (n : ℕ) (z : t.number ≡ 100 + n) where
  abbrev asked : List ℕ
  asked = words_in t.question

  abbrev comes : Solving
  comes = solving_trail desk desk.room (length t.answer / 2) (length t.trail / 2) asked

  record Notes : Type 0 where
    ls : List Numbered
    noted : comes ≡ answered ls n
    left : t.answer_left ≡ bytes_of (answer_words desk ls) ++ drop (2 * desk.room) t.answer
    trail : t.trail_left ≡ bytes_of (trail_of desk (read_question desk asked)) ++ drop (2 * length (trail_of desk (read_question desk asked))) t.trail

  notes : Notes
  unfolding trailing_bytes trail_number host.solve_leaves trail_bytes
  notes = by comes refl t.said.0 t.said.1.0 t.said.1.1
    where
      by : (v : Solving) → comes ≡ v → t.number ≡ trail_number v → t.answer_left ≡ host.solve_leaves desk v t.answer
          → t.trail_left ≡ trail_bytes v (trail_of desk (read_question desk asked)) t.trail → Notes
      by (answered ls m) d e f g = let same : m ≡ n = omega arith in record { ls = ls; noted = d ∙ ap (answered ls) same; left = f; trail = g }
      by (unread r) d e f g = not-refused r t.number n z e
      by (given-up r) d e f g = not-refused r t.number n z e

  -- as desk_solve
  pub as-solved : (c : DeskSolve) → c.question ≡ t.question → c.answer ≡ t.answer → (c.number ≡ 0) × (c.answer_left ≡ t.answer_left)
  unfolding host.solving_bytes host.solve_number host.solve_leaves
  as-solved c same lent =
      let s = notes in
      let u = (untrailed desk desk.room (length t.answer / 2) (length t.trail / 2) asked s.ls n s.noted).0 in
      let d : solving desk desk.room (length c.answer / 2) (words_in c.question) ≡ answered s.ls n =
      ap (λ q. solving desk desk.room (length c.answer / 2) (words_in q)) same ∙ ap (λ a. solving desk desk.room (length a / 2) asked) lent ∙ u in
      (c.said.0 ∙ ap host.solve_number d, c.said.1 ∙ ap (λ v. host.solve_leaves desk v c.answer) d ∙ ap (λ a. bytes_of (answer_words desk s.ls) ++ drop (2 * desk.room) a) lent ∙ sym s.left)

  -- the bytes of the trail
  trail_is : (s : Notes) → take (2 * (3 * n)) t.trail_left ≡ bytes_of (trail_of desk (read_question desk asked))
  trail_is s =
      let w = trail_of desk (read_question desk asked) in
      let size = (untrailed desk desk.room (length t.answer / 2) (length t.trail / 2) asked s.ls n s.noted).2 in
      let l : length (bytes_of w) ≡ 2 * (3 * n) = length-bytes_of w ∙ ap (λ m. 2 * m) size in
      ap (take (2 * (3 * n))) s.trail ∙ take_at (bytes_of w) (drop (2 * length w) t.trail) (2 * (3 * n)) l

  -- its own trail is accepted, with the same answer
  pub own-accepted : (c : DeskReplay) → c.question ≡ t.question → c.trail ≡ take (2 * (3 * n)) t.trail_left → c.answer ≡ t.answer → (c.number ≡ 0) × (c.answer_left ≡ t.answer_left)
  unfolding replaying_bytes host.solve_number host.solve_leaves
  own-accepted c same taken lent =
      let s = notes in
      let w = trail_of desk (read_question desk asked) in
      let u = (untrailed desk desk.room (length t.answer / 2) (length t.trail / 2) asked s.ls n s.noted).0 in
      let bytes : c.trail ≡ bytes_of w = taken ∙ trail_is s in
      let even : half_word (bytes_of w) ≡ false = none-half (bytes_of w) (length w) (length-bytes_of w) in
      let d : replaying desk desk.room (length c.answer / 2) (half_word c.trail) (words_of c.trail) (words_in c.question) ≡ answered s.ls n =
      ap (λ b. replaying desk desk.room (length c.answer / 2) (half_word b) (words_of b) (words_in c.question)) bytes
      ∙ ap (λ h. replaying desk desk.room (length c.answer / 2) h (words_of (bytes_of w)) (words_in c.question)) even
      ∙ ap (λ ws. replaying desk desk.room (length c.answer / 2) false ws (words_in c.question)) (words-of-bytes w)
      ∙ ap (λ q. replaying desk desk.room (length c.answer / 2) false w (words_in q)) same ∙ ap (λ a. replaying desk desk.room (length a / 2) false w asked) lent
      ∙ own-trail-accepted desk desk.room (length t.answer / 2) asked s.ls n u in
      (c.said.0 ∙ ap host.solve_number d, c.said.1 ∙ ap (λ v. host.solve_leaves desk v c.answer) d ∙ ap (λ a. bytes_of (answer_words desk s.ls) ++ drop (2 * desk.room) a) lent ∙ sym s.left)
