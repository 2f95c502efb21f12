-- The example of a question whose trail is replayed is what `told_trail_exhibits` says.
use Prim.Native.Nat.{ℕ}
use mathlib.Core.Path.{◌≡◌}
use mathlib.Core.Bool.{Bool}
use mathlib.Core.List.{List, [], ◌∷◌}
use types.Run.{OneOf}
use denote.Enum.Declared.{tag_of}
use lib.ListN.{length}
use Rattle.std.specs.Prelude.{Result, Err}
use Rattle.language.specs.declared.Refusal.{Refusal}
use Rattle.language.specs.Limits.{desk}
use Rattle.rules.specs.Answer.{Solving}
use Rattle.outcomes.specs.declared.Outcome.TheVariants.{Refused}
use Rattle.outcomes.specs.declared.Solved.{Solved}
use Rattle.outcomes.specs.Numbers.{solved_numbers, shown_numbers}
use Rattle.outcomes.specs.contracts.Outcome.{the_type}
use Rattle.running.specs.Leaves.{told_leaves}
use Rattle.answer_example.specs.Answers.{Answered, Ranged, AnswerShown}
use Rattle.example.proofs.Exhibits.{shown-refused, ready, shown-answer}
use Rattle.word_bytes.specs.Bytes.{words_of, half_word}
use Rattle.replay.specs.Calls.{replaying, showing_trail}
use Rattle.trail_example.specs.Exhibits.{told_trail_exhibits}
use Rattle.trail_example.proofs.Finished.{retraced-end}

module _ (trail question work answer : List ℕ) (s : Solved) {w a : List ℕ}
    (solved : (solved_numbers s, w, a) ≡ told_leaves (replaying desk (length work) (length answer) (half_word trail) (words_of trail) question) work answer)
  where
    abbrev comes : Solving
    comes = replaying desk (length work) (length answer) (half_word trail) (words_of trail) question

    pub retraced-refused : (room : List ℕ) (line : ℕ) (old_sheets : Bool) {r : Refusal} → s.outcome ≡ Refused r → (shown_numbers (Err r), w, a, room) ≡ told_trail_exhibits line old_sheets trail question work answer room
    unfolding told_trail_exhibits showing_trail
    retraced-refused room line old_sheets d = shown-refused comes question work answer (retraced-end (length work) (length answer) (half_word trail) (words_of trail) question) s solved room line old_sheets d

    module _ (m : OneOf (1 ∷ 2 ∷ 3 ∷ []) (tag_of the_type s.outcome)) where
      pub retraced-ready : Ranged question × Answered a
      retraced-ready = ready comes question work answer (retraced-end (length work) (length answer) (half_word trail) (words_of trail) question) s solved m

      pub retraced-shown : (room : List ℕ) (line : ℕ) (old_sheets : Bool) {new : List ℕ} {r : Result ℕ Refusal} → AnswerShown question line old_sheets a room new r → (shown_numbers r, w, a, new) ≡ told_trail_exhibits line old_sheets trail question work answer room
      unfolding told_trail_exhibits showing_trail
      retraced-shown room line old_sheets h = shown-answer comes question work answer (retraced-end (length work) (length answer) (half_word trail) (words_of trail) question) s solved m room line old_sheets h
