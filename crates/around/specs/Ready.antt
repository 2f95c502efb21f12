-- Before a run: two lent slices of so many words, and a question.
use Rattle.std.specs.Prelude.{ℕ, true, false, ltb, Result, Err}
use Rattle.language.specs.declared.Refusal.{Refusal}
use Rattle.language.specs.declared.Refusal.TheVariants.{ShortSlice}
use Rattle.language.specs.Limits.{desk}
use Rattle.language.specs.Question.{Asked}
use Rattle.reader.specs.Checking.{checked}

-- 1 before 2 to 6
unfoldable pub readied : ℕ → ℕ → Asked → Result (Unit {0}) Refusal
readied work answer a =
    elim (ltb work desk.room) [
      | true ↦ Err ShortSlice
      | false ↦ elim (ltb answer desk.room) [ true ↦ Err ShortSlice | false ↦ checked a ]
    ]
