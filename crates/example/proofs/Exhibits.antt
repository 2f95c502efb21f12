-- An example by what a run came to: after a refusal nothing is shown, and else the line of the answer is.
use Prim.Native.Nat.{ℕ}
use mathlib.Core.Path.{◌≡◌, refl, sym, ap, ◌∙◌}
use mathlib.Core.Bool.{Bool}
use mathlib.Core.List.{List, [], ◌∷◌}
use native.Mathlib.Omega.{arith}
use types.Run.{OneOf, miss}
use denote.Enum.Declared.{tag_of}
use lib.ListN.{length, drop}
use Rattle.std.specs.Prelude.{Result, Err}
use Rattle.language.specs.declared.Refusal.{Refusal}
use Rattle.language.specs.Limits.{desk}
use Rattle.language.specs.Question.{counts_of}
use Rattle.rules.specs.Run.{Numbered}
use Rattle.rules.specs.Answer.{Verdict, no_line, all_solved, some_open, verdict_of, Solving, answered, unread, given-up}
use Rattle.rules.specs.Calls.{shown, line_at}
use Rattle.outcomes.specs.declared.Outcome.{Outcome}
use Rattle.outcomes.specs.declared.Outcome.TheVariants.{Refused, NoLine, AllSolved, SomeOpen}
use Rattle.outcomes.specs.declared.Solved.{Solved}
use Rattle.outcomes.specs.Numbers.{solved_numbers, shown_numbers}
use Rattle.solver.specs.Leaves.{verdict, leaves, told_leaves}
use Rattle.solver.proofs.Told.{leaves-told}
use Rattle.outcomes.specs.contracts.Outcome.{the_type}
use Rattle.line_example.specs.Shown.{result_of, room_of}
use Rattle.answer_example.specs.Answers.{Answer, Answered, Ranged, AnswerShown}
use Rattle.example.specs.Exhibits.{exhibited, told_exhibited}
use Rattle.example.proofs.Told.{told-exhibited}
use Rattle.example.proofs.Finished.{Ends}

-- the tags of the outcomes that are no refusal
not-refused : (o : Outcome) → OneOf (1 ∷ 2 ∷ 3 ∷ []) (tag_of the_type o) → (r : Refusal) → o ≡ Refused r → ⊥
not-refused (Refused q) m r e = miss (1 ∷ 2 ∷ 3 ∷ []) 0 tt m
not-refused NoLine m r e = let z : ◌≡◌ {A = ℕ} 0 1 = cc in omega arith
not-refused AllSolved m r e = let z : ◌≡◌ {A = ℕ} 0 1 = cc in omega arith
not-refused SomeOpen m r e = let z : ◌≡◌ {A = ℕ} 0 1 = cc in omega arith

-- an answered question is not refused
no-refusal : (v : Verdict) (r : Refusal) → verdict v ≡ Refused r → ⊥
no-refusal no_line r e = let z : ◌≡◌ {A = ℕ} 0 1 = cc in omega arith
no-refusal all_solved r e = let z : ◌≡◌ {A = ℕ} 0 1 = cc in omega arith
no-refusal some_open r e = let z : ◌≡◌ {A = ℕ} 0 1 = cc in omega arith

same-refusal : {q r : Refusal} → Refused q ≡ Refused r → q ≡ r
same-refusal e = cc

abbrev Left : Type 0
Left = Solved × List ℕ × List ℕ

-- after a refusal nothing is shown
refused-by : (question work answer room : List ℕ) (line : ℕ) (old_sheets : Bool) (v : Solving) (l : Left) (r : Refusal) → l ≡ leaves v work answer → l.0.outcome ≡ Refused r
    → (Err r, l.1, l.2, room) ≡ exhibited v line old_sheets question work answer room
refused-by question work answer room line old_sheets (answered ls n) l r e d = absurd (no-refusal (verdict_of ls) r (sym (ap (λ (x : Left). x.0.outcome) e) ∙ d))
refused-by question work answer room line old_sheets (unread q) l r e d =
    let z = same-refusal (sym (ap (λ (x : Left). x.0.outcome) e) ∙ d) in
    ap (λ (x : Left). (Err r, x.1, x.2, room)) e ∙ ap (λ t. (Err t, work, answer, room)) (sym z)
refused-by question work answer room line old_sheets (given-up q) l r e d =
    let z = same-refusal (sym (ap (λ (x : Left). x.0.outcome) e) ∙ d) in
    ap (λ (x : Left). (Err r, x.1, x.2, room)) e ∙ ap (λ t. (Err t, (leaves (given-up q) work answer).1, (leaves (given-up q) work answer).2, room)) (sym z)

-- an answer stands in the slice
Answers : Solving → List ℕ → Type 0
Answers v new = (ls : List Numbered) × (n : ℕ) × (v ≡ answered ls n) × Answer new ls

-- what a run came to whose lines are those of an answered question, and what it left
module _ (v : Solving) (question work answer : List ℕ) (ends : (ls : List Numbered) (n : ℕ) → v ≡ answered ls n → Ends question ls)
    (s : Solved) {w a : List ℕ} (solved : (solved_numbers s, w, a) ≡ told_leaves v work answer)
  where
    left : ◌≡◌ {A = Left} (s, w, a) (leaves v work answer)
    left = leaves-told (s, w, a) v work answer solved

    pub shown-refused : (room : List ℕ) (line : ℕ) (old_sheets : Bool) {r : Refusal} → s.outcome ≡ Refused r → (shown_numbers (Err r), w, a, room) ≡ told_exhibited v line old_sheets question work answer room
    shown-refused room line old_sheets {r} d =
        told-exhibited v (Err r, w, a, room) line old_sheets question work answer room (refused-by question work answer room line old_sheets v (s, w, a) r left d)

    answers : ((r : Refusal) → s.outcome ≡ Refused r → ⊥) → Answers v a
    unfolding Answers
    answers not = by v refl left
      where
        by : (u : Solving) → v ≡ u → ◌≡◌ {A = Left} (s, w, a) (leaves u work answer) → (ls : List Numbered) × (n : ℕ) × (v ≡ answered ls n) × Answer a ls
        by (answered ls n) d f =
            let g = ends ls n d in
            (ls, n, d, record { few = g.few; size = g.size; rest = drop desk.room answer; words = ap (λ (x : Left). x.2) f; lines = g.lines })
        by (unread q) d f = absurd (not q (ap (λ (x : Left). x.0.outcome) f))
        by (given-up q) d f = absurd (not q (ap (λ (x : Left). x.0.outcome) f))

    module _ (m : OneOf (1 ∷ 2 ∷ 3 ∷ []) (tag_of the_type s.outcome)) where
      pub ready : Ranged question × Answered a
      unfolding Answers
      ready = let (ls, n, d, g) = answers (not-refused s.outcome m) in ((ends ls n d).ranged, record { ls = ls; is = g })

      pub shown-answer : (room : List ℕ) (line : ℕ) (old_sheets : Bool) {new : List ℕ} {r : Result ℕ Refusal} → AnswerShown question line old_sheets a room new r → (shown_numbers r, w, a, new) ≡ told_exhibited v line old_sheets question work answer room
      unfolding Answers
      shown-answer room line old_sheets {new} {r} h =
          let (ls, n, d, g) = answers (not-refused s.outcome m) in
          let x = h.result ls g in
          let y = h.room ls g in
          told-exhibited v (r, w, a, new) line old_sheets question work answer room
          (ap (λ z. (z, w, a, new)) x ∙ ap (λ z. (result_of (shown desk old_sheets (counts_of question) (length room) (line_at line ls)), w, a, z)) y
          ∙ ap (λ (z : Left). (result_of (shown desk old_sheets (counts_of question) (length room) (line_at line ls)), z.1, z.2, room_of (shown desk old_sheets (counts_of question) (length room) (line_at line ls)) room)) (left ∙ ap (λ u. leaves u work answer) d)
          ∙ ap (λ u. exhibited u line old_sheets question work answer room) (sym d))
