-- This paper's number and values for each case of what a call answers with: the number of the table, 0 where nothing is refused, the value, 0 of
-- a refusal, and the place of the mistake, 0 where there is none. Together they tell the cases of an answer apart (`proofs/Apart.antt`).
use Rattle.std.specs.Prelude.{ℕ, Result, Ok, Err, Bool, true, false}
use Rattle.language.specs.declared.Refusal.{Refusal}
use Rattle.language.specs.Numbers.{number_of, place_of}
use Rattle.outcomes.specs.declared.Outcome.{Outcome}
use Rattle.outcomes.specs.declared.Outcome.TheVariants.{Refused, NoLine, AllSolved, SomeOpen}
use Rattle.outcomes.specs.declared.Solved.{Solved}

-- ---- reading: it has no value

abbrev pub checked_number : Result (Unit {0}) Refusal → ℕ
checked_number (Ok u) = 0
checked_number (Err r) = number_of r

abbrev pub checked_place : Result (Unit {0}) Refusal → ℕ
checked_place (Ok u) = 0
checked_place (Err r) = place_of r

abbrev pub checked_numbers : Result (Unit {0}) Refusal → ℕ × ℕ
checked_numbers c = (checked_number c, checked_place c)

-- ---- solving: "the refusal or (none, all solved, some open), lines, open lines and steps"

abbrev pub outcome_number : Outcome → ℕ
outcome_number (Refused r) = number_of r
outcome_number NoLine = 0
outcome_number AllSolved = 0
outcome_number SomeOpen = 0

-- 0 for no line, and else as the marks of lines are: 1 solved, 2 open
abbrev pub outcome_value : Outcome → ℕ
outcome_value (Refused r) = 0
outcome_value NoLine = 0
outcome_value AllSolved = 1
outcome_value SomeOpen = 2

abbrev pub outcome_place : Outcome → ℕ
outcome_place (Refused r) = place_of r
outcome_place NoLine = 0
outcome_place AllSolved = 0
outcome_place SomeOpen = 0

pub record SolveNumbers : Type 0 where
  pub number : ℕ
  pub place : ℕ
  pub value : ℕ
  pub lines : ℕ
  pub opened : ℕ
  pub steps : ℕ

abbrev pub solved_numbers : Solved → SolveNumbers
solved_numbers s = record {
  number = outcome_number s.outcome;
  place = outcome_place s.outcome;
  value = outcome_value s.outcome;
  lines = s.lines;
  opened = s.«open»;
  steps = s.steps;
}

-- ---- trying a filling: 1 is yes, 0 is no

abbrev pub tried_number : Result Bool Refusal → ℕ
tried_number (Ok true) = 0
tried_number (Ok false) = 0
tried_number (Err r) = number_of r

abbrev pub tried_value : Result Bool Refusal → ℕ
tried_value (Ok true) = 1
tried_value (Ok false) = 0
tried_value (Err r) = 0

abbrev pub tried_place : Result Bool Refusal → ℕ
tried_place (Ok true) = 0
tried_place (Ok false) = 0
tried_place (Err r) = place_of r

abbrev pub tried_numbers : Result Bool Refusal → ℕ × ℕ × ℕ
tried_numbers t = (tried_number t, tried_place t, tried_value t)

-- ---- the example of a line: the filling's length

abbrev pub shown_number : Result ℕ Refusal → ℕ
shown_number (Ok n) = 0
shown_number (Err r) = number_of r

abbrev pub shown_length : Result ℕ Refusal → ℕ
shown_length (Ok n) = n
shown_length (Err r) = 0

abbrev pub shown_place : Result ℕ Refusal → ℕ
shown_place (Ok n) = 0
shown_place (Err r) = place_of r

abbrev pub shown_numbers : Result ℕ Refusal → ℕ × ℕ × ℕ
shown_numbers s = (shown_number s, shown_place s, shown_length s)
