-- What a run comes to on each course, before it and after it, and what the room for a trail then holds.
use Prim.Native.Nat.{ℕ, ◌*◌}
use mathlib.Core.Path.{◌≡◌, refl, sym, ap, ◌∙◌, subst}
use mathlib.Core.List.{List, [], ◌++◌}
use lib.ListN.{length, drop, replicate}
use Rattle.std.specs.Prelude.{Result, Err}
use Rattle.language.specs.declared.Refusal.{Refusal}
use Rattle.language.specs.Limits.{desk}
use Rattle.language.specs.Trees.{Question}
use Rattle.language.specs.Question.{Asked, asks, refuses, read_question}
use Rattle.rules.specs.Step.{Spot}
use Rattle.rules.specs.Run.{numbered, Outcome, run_by, run}
use Rattle.rules.specs.Answer.{Solving, unread, ran, solving_of, solving}
use Rattle.reader.proofs.Answers.{question-asked}
use Rattle.replay.specs.Trail.{trail, trail_words, run_trail}
use Rattle.replay.specs.Replay.{replay}
use Rattle.replay.specs.Calls.{solving_trail_of, solving_trail, trail_of, trail_leaves, replaying_of, replaying}
use Rattle.noting.proofs.Laws.{spot-length}
use Rattle.word_bytes.specs.Bytes.{words_of, half_word}
use Rattle.courses.specs.declared.Course.{Course}
use Rattle.courses.specs.declared.Course.TheVariants.{First, Noted, Told}
use Rattle.around.specs.declared.Ran.{Ran}
use Rattle.running.specs.Courses.{left}
use Rattle.running.specs.Turning.{guide, TrailEnds, Ends, ended, given-up, signature_of, conjunctions_of}
use Rattle.around.specs.Ready.{readied}
use Rattle.around.specs.Rooms.{Settles}
use Rattle.running.specs.Calling.{calling, notes}
use Rattle.running.proofs.Ending.{Readied, ready-goes, not-ready}

-- what a course comes to for a question that was read, or not
abbrev of : Course → List ℕ → ℕ → Asked → Solving
of First told room = solving_of desk
of Noted told room = solving_trail_of desk room
of Told told room = replaying_of desk (half_word told) (words_of told)

of-refused : (course : Course) (told : List ℕ) (room : ℕ) (r : Refusal) → of course told room (refuses r) ≡ unread r
of-refused First told room r = refl
of-refused Noted told room r = refl
of-refused Told told room r = refl

of-asked : (course : Course) (told : List ℕ) (room : ℕ) (q : Question)
    → of course told room (asks q) ≡ ran (left course told room (signature_of (asks q)) 0 [] (numbered 0 (conjunctions_of (asks q))))
unfolding run run_by run_trail replay
of-asked First told room q = refl
of-asked Noted told room q = refl
of-asked Told told room q = refl

module _ (told : List ℕ) (work answer room : ℕ) (ws : List ℕ) where
  abbrev asked : Asked
  asked = read_question desk ws

  pub calls-unread : (course : Course) (x : Refusal) → Err x ≡ readied work answer asked → calling course told work answer room ws ≡ unread x
  unfolding solving solving_trail replaying
  calls-unread First x e = not-ready work answer asked x e (of First told room) (of-refused First told room)
  calls-unread Noted x e = not-ready work answer asked x e (of Noted told room) (of-refused Noted told room)
  calls-unread Told x e = not-ready work answer asked x e (of Told told room) (of-refused Told told room)

  module _ (p : Readied work answer asked) where
    asked-ran : (course : Course) → of course told room asked ≡ ran (left course told room (signature_of asked) 0 [] (numbered 0 (conjunctions_of asked)))
    asked-ran course = go (question-asked ws p.fine)
      where
        go : (q : Question) × (asked ≡ asks q) → of course told room asked ≡ ran (left course told room (signature_of asked) 0 [] (numbered 0 (conjunctions_of asked)))
        go (q, d) = ap (of course told room) d ∙ of-asked course told room q ∙ sym (ap (λ a. ran (left course told room (signature_of a) 0 [] (numbered 0 (conjunctions_of a)))) d)

    pub calls-ran : (course : Course) → calling course told work answer room ws ≡ ran (left course told room (signature_of asked) 0 [] (numbered 0 (conjunctions_of asked)))
    unfolding solving solving_trail replaying
    calls-ran First = ready-goes work answer asked p (of First told room asked) ∙ asked-ran First
    calls-ran Noted = ready-goes work answer asked p (of Noted told room asked) ∙ asked-ran Noted
    calls-ran Told = ready-goes work answer asked p (of Told told room asked) ∙ asked-ran Told

    -- the trail's words by the question
    pub trail-of : trail_of desk asked ≡ trail_words (trail desk (signature_of asked) (conjunctions_of asked))
    trail-of = go (question-asked ws p.fine)
      where
        go : (q : Question) × (asked ≡ asks q) → trail_of desk asked ≡ trail_words (trail desk (signature_of asked) (conjunctions_of asked))
        go (q, d) = ap (trail_of desk) d ∙ sym (ap (λ a. trail_words (trail desk (signature_of a) (conjunctions_of a))) d)

-- ---- the room

-- after a run that was not stopped
room-done : (course : Course) (whole : List Spot) (old : List ℕ) (n : ℕ) (out : List ℕ) → TrailEnds course whole old n out
    → out ≡ notes course (trail_words whole) ++ drop (length (notes course (trail_words whole))) old
room-done First whole old n out p = p
room-done Told whole old n out p = p
room-done Noted whole old n out (words, count) = words ∙ ap (λ i. trail_words whole ++ drop i old) (sym (spot-length whole ∙ ap (λ i. 3 * i) count))

module _ (course : Course) (told old : List ℕ) (whole : List Spot) (o : Outcome) (old_work old_answer : List ℕ) (r : Result Ran Refusal) (work answer out : List ℕ) where
  pub room-told : Ends (guide course told old whole) o old_work old_answer r work answer out → length out ≡ length old → (new : List ℕ) → Settles r out new
      → new ≡ trail_leaves (ran o) (notes course (trail_words whole)) old
  room-told (ended n ls d f l k p) e new s =
      let z : new ≡ out = subst (λ r. Settles r out new) d s in
      z ∙ room-done course whole old n.steps out p ∙ sym (ap (λ v. trail_leaves v (notes course (trail_words whole)) old) (ap ran f))
  room-told (given-up x d f k l) e new s =
      let z : new ≡ replicate (length out) 0 = subst (λ r. Settles r out new) d s in
      z ∙ ap (λ n. replicate n 0) e ∙ sym (ap (λ v. trail_leaves v (notes course (trail_words whole)) old) (ap ran f))

pub room-unread : (v : Solving) (x : Refusal) (t old : List ℕ) → v ≡ unread x → old ≡ trail_leaves v t old
room-unread v x t old e = sym (ap (λ v. trail_leaves v t old) e)

pub room_as : (course : Course) (v u : Solving) (t s old : List ℕ) → v ≡ u → t ≡ s → {new : List ℕ} → new ≡ trail_leaves u (notes course s) old → new ≡ trail_leaves v (notes course t) old
room_as course v u t s old e d f = f ∙ sym (ap (λ v. trail_leaves v (notes course t) old) e ∙ ap (λ t. trail_leaves u (notes course t) old) d)
