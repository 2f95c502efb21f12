-- What is told of a run that came to this.
use Rattle.std.specs.Prelude.{ℕ, List, eqb, ltb, Result, Ok, Err}
use Rattle.language.specs.Kinds.{pick}
use Rattle.language.specs.declared.Refusal.{Refusal}
use Rattle.language.specs.Limits.{desk}
use Rattle.rules.specs.Answer.{zeros, overwritten}
use Rattle.outcomes.specs.declared.Outcome.{Outcome}
use Rattle.outcomes.specs.declared.Outcome.TheVariants.{Refused, NoLine, AllSolved, SomeOpen}
use Rattle.outcomes.specs.declared.Solved.{Solved}
use Rattle.around.specs.declared.Ran.{Ran}

-- the verdict on so many lines, of which so many are open
abbrev pub verdict_for : ℕ → ℕ → Outcome
verdict_for lines opens = pick (eqb lines 0) NoLine (pick (ltb 0 opens) SomeOpen AllSolved)

abbrev pub refused_by : Refusal → Solved
refused_by r = record { outcome = Refused r; lines = 0; «open» = 0; steps = 0 }

-- what comes back, and the two slices: the work slice is cleared, and after a refusal the answer slice too
unfoldable pub told_by : Result Ran Refusal → List ℕ → List ℕ → Solved × List ℕ × List ℕ
told_by (Ok r) work answer =
    (record { outcome = verdict_for r.tally.lines r.tally.«open»; lines = r.tally.lines; «open» = r.tally.«open»; steps = r.steps }, overwritten desk (zeros desk) work, answer)
told_by (Err e) work answer = (refused_by e, overwritten desk (zeros desk) work, overwritten desk (zeros desk) answer)
