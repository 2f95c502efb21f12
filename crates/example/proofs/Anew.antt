-- The example of a question that is solved is what `told_exhibits` says.
use Prim.Native.Nat.{ℕ}
use mathlib.Core.Path.{◌≡◌}
use mathlib.Core.Bool.{Bool}
use mathlib.Core.List.{List, [], ◌∷◌}
use types.Run.{OneOf}
use denote.Enum.Declared.{tag_of}
use lib.ListN.{length}
use Rattle.std.specs.Prelude.{Result, Err}
use Rattle.language.specs.declared.Refusal.{Refusal}
use Rattle.language.specs.Limits.{desk}
use Rattle.rules.specs.Answer.{Solving, solving}
use Rattle.rules.specs.Calls.{showing}
use Rattle.outcomes.specs.declared.Outcome.TheVariants.{Refused}
use Rattle.outcomes.specs.declared.Solved.{Solved}
use Rattle.outcomes.specs.Numbers.{solved_numbers, shown_numbers}
use Rattle.outcomes.specs.contracts.Outcome.{the_type}
use Rattle.solver.specs.Leaves.{told_leaves}
use Rattle.answer_example.specs.Answers.{Answered, Ranged, AnswerShown}
use Rattle.example.specs.Exhibits.{told_exhibits}
use Rattle.example.proofs.Finished.{lines_end}
use Rattle.example.proofs.Exhibits.{shown-refused, ready, shown-answer}

module _ (question work answer : List ℕ) (s : Solved) {w a : List ℕ} (solved : (solved_numbers s, w, a) ≡ told_leaves (solving desk (length work) (length answer) question) work answer) where
  abbrev comes : Solving
  comes = solving desk (length work) (length answer) question

  pub solved-refused : (room : List ℕ) (line : ℕ) (old_sheets : Bool) {r : Refusal} → s.outcome ≡ Refused r → (shown_numbers (Err r), w, a, room) ≡ told_exhibits line old_sheets question work answer room
  unfolding told_exhibits showing
  solved-refused room line old_sheets d = shown-refused comes question work answer (lines_end (length work) (length answer) question) s solved room line old_sheets d

  module _ (m : OneOf (1 ∷ 2 ∷ 3 ∷ []) (tag_of the_type s.outcome)) where
    pub solved-ready : Ranged question × Answered a
    solved-ready = ready comes question work answer (lines_end (length work) (length answer) question) s solved m

    pub solved-shown : (room : List ℕ) (line : ℕ) (old_sheets : Bool) {new : List ℕ} {r : Result ℕ Refusal} → AnswerShown question line old_sheets a room new r → (shown_numbers r, w, a, new) ≡ told_exhibits line old_sheets question work answer room
    unfolding told_exhibits showing
    solved-shown room line old_sheets h = shown-answer comes question work answer (lines_end (length work) (length answer) question) s solved m room line old_sheets h
