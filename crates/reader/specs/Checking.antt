-- What the checks of a question answer, in terms of the definition of a question.
use Rattle.std.specs.Prelude.{ℕ, Result, Ok, Err}
use Rattle.language.specs.declared.Refusal.{Refusal}
use Rattle.language.specs.Numbers.{number_of}
use Rattle.language.specs.Question.{Asked, asks, refuses, asked_place}

-- a question that is not refused is fine
unfoldable pub checked : Asked → Result (Unit {0}) Refusal
checked (asks q) = Ok tt
checked (refuses r) = Err r

-- the same in numbers: the number of the table, 0 for a question that is not refused, and the place of the mistake
abbrev pub asked_number : Asked → ℕ
asked_number (asks q) = 0
asked_number (refuses r) = number_of r

unfoldable pub asked_numbers : Asked → ℕ × ℕ
asked_numbers a = (asked_number a, asked_place a)
