-- What solving returns and leaves in the two lent slices: in the paper's numbers, as the contract says it, and as the answer that has these numbers.
use Rattle.std.specs.Prelude.{ℕ, List, length}
use Rattle.language.specs.declared.Refusal.{Refusal}
use Rattle.language.specs.Limits.{desk}
use Rattle.language.specs.Numbers.{number_of, place_of}
use Rattle.rules.specs.Answer.{count_open, answer_words, zeros, overwritten, Verdict, no_line, all_solved, some_open, verdict_of, Solving, answered, unread, given-up}
use Rattle.outcomes.specs.declared.Outcome.{Outcome}
use Rattle.outcomes.specs.declared.Outcome.TheVariants.{NoLine, AllSolved, SomeOpen}
use Rattle.outcomes.specs.declared.Solved.{Solved}
use Rattle.outcomes.specs.Numbers.{SolveNumbers}
use Rattle.around.specs.Told.{refused_by}

-- ---- in numbers

-- none, all solved, some open
abbrev pub verdict_value : Verdict → ℕ
verdict_value no_line = 0
verdict_value all_solved = 1
verdict_value some_open = 2

-- "a refusal reports 0 for all three"
abbrev pub refused_numbers : Refusal → SolveNumbers
refused_numbers r = record { number = number_of r; place = place_of r; value = 0; lines = 0; opened = 0; steps = 0 }

-- the numbers that come back, and the work and the answer slice, which held `work` and `answer`
abbrev pub told_leaves : Solving → List ℕ → List ℕ → SolveNumbers × List ℕ × List ℕ
told_leaves (answered ls n) work answer =
    (record { number = 0; place = 0; value = verdict_value (verdict_of ls); lines = length ls; opened = count_open ls; steps = n }, overwritten desk (zeros desk) work, overwritten desk (answer_words desk ls) answer)
told_leaves (unread r) work answer = (refused_numbers r, work, answer)
told_leaves (given-up r) work answer = (refused_numbers r, overwritten desk (zeros desk) work, overwritten desk (zeros desk) answer)

-- ---- the answer that has these numbers

abbrev pub verdict : Verdict → Outcome
verdict no_line = NoLine
verdict all_solved = AllSolved
verdict some_open = SomeOpen

abbrev pub leaves : Solving → List ℕ → List ℕ → Solved × List ℕ × List ℕ
leaves (answered ls n) work answer =
    (record { outcome = verdict (verdict_of ls); lines = length ls; «open» = count_open ls; steps = n }, overwritten desk (zeros desk) work, overwritten desk (answer_words desk ls) answer)
leaves (unread r) work answer = (refused_by r, work, answer)
leaves (given-up r) work answer = (refused_by r, overwritten desk (zeros desk) work, overwritten desk (zeros desk) answer)
