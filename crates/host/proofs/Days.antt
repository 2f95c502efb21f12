-- What answering a day with slices of the desk's own ensures, told of the bytes.
use Prim.Native.Nat.{ℕ, ◌/◌}
use mathlib.Core.Path.{◌≡◌, ap, ap₂, ◌∙◌}
use mathlib.Core.List.{List}
use lib.ListN.{length}
use Rattle.language.specs.Limits.{desk}
use Rattle.word_bytes.specs.Bytes.{words_in}
use Rattle.sheets.specs.Day.{Day, day}
use Rattle.day.specs.Leaves.{day_number, day_numbers, room_leaves}
use Rattle.host.specs.Host.{day_bytes}

module _ (sheet room work answer : List ℕ) (w : length work ≡ desk.room) (a : length answer ≡ desk.room) where
  abbrev lent : Day
  lent = day desk (length work) (length answer) (length room / 2) (words_in sheet)

  comes-to : lent ≡ day_bytes desk (length room) sheet
  unfolding day_bytes
  comes-to = ap₂ (λ (x y : ℕ). day desk x y (length room / 2) (words_in sheet)) w a

  pub told-day : (numbers : ℕ × ℕ) (number : ℕ) (left : List ℕ) → numbers ≡ day_numbers lent → number ≡ numbers.0 → left ≡ room_leaves lent room
      → (number ≡ day_number (day_bytes desk (length room) sheet)) × (left ≡ room_leaves (day_bytes desk (length room) sheet) room)
  told-day numbers number left e d f =
      (d ∙ ap (λ (n : ℕ × ℕ). n.0) e ∙ ap day_number comes-to, f ∙ ap (λ (x : Day). room_leaves x room) comes-to)
