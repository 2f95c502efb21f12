-- Question by question: the answers placed so far, one more, or no room for it.
use Prim.Native.Nat.{ℕ, suc, ◌+◌, ◌*◌, ◌/◌, ◌<◌, ◌≤◌}
use mathlib.Core.Path.{◌≡◌, sym, ap, ap₂, ◌∙◌}
use mathlib.Core.Bool.{Bool, true, false}
use mathlib.Core.List.{List, [], ◌∷◌}
use native.Mathlib.Omega.{arith}
use lib.ListN.{length, take, get_or}
use lib.Seq.{sets, length-take-le}
use Rattle.language.specs.Limits.{desk}
use Rattle.rules.specs.Answer.{solving}
use Rattle.word_bytes.specs.Bytes.{words_in, words_of, bytes_of}
use Rattle.sheets.specs.Layout.{doubled, parts_at, count_of, sheet_laid, sheet_parts}
use Rattle.sheets.specs.Day.{answer_part, answers_of}
use Rattle.day.specs.Written.{written, Placed, Ended}
use Rattle.day.proofs.Cuts.{held}
use Rattle.day.proofs.Rooms.{length-written, begun-again, answers-count, answer-of, placed-none, placed-long, placed-more, placed-full, placed-all, none-placed, ended-begun}

-- how many questions there are
pub counted : (bs : List ℕ) → sheet_laid desk (words_in bs) ≡ true → (n : ℕ) → n ≡ get_or (words_of bs) 0 0 → n ≡ count_of (words_in bs)
counted bs l n e = e ∙ ap count_of (sym (held bs l))

-- a room that was begun is as long as it was, and may be begun again
pub begun-there : (n : ℕ) (old new : List ℕ) → new ≡ written n old [] → (length new ≡ length old) × (new ≡ written n new [])
begun-there n old new e = (ap length e ∙ length-written n old [], e ∙ sym (begun-again n old) ∙ ap (λ l. written n l []) (sym e))

module _ (bs : List ℕ) (n : ℕ) (is : n ≡ count_of (words_in bs)) (w a : ℕ) (old : List ℕ) where
  abbrev parts : List (List ℕ)
  parts = answers_of desk w a (sheet_parts (words_in bs))

  size : length (answers_of desk w a (sheet_parts (words_in bs))) ≡ n
  size = answers-count w a (words_in bs) ∙ sym is

  pub none_yet : 2 * parts_at n ≤ length old → old ≡ written n old [] → (at : ℕ) → at ≡ parts_at n → Placed n parts old 0 at old
  none_yet = placed-none n parts size old

  pub room-kept : (i at : ℕ) (room : List ℕ) → Placed n parts old i at room → length room ≡ length old
  room-kept = placed-long n parts size old

  pub all_there : (i at : ℕ) (room : List ℕ) → Placed n parts old i at room → i ≡ n → Ended parts old true room
  all_there = placed-all n parts size old

  pub no_table : length old / 2 < parts_at n → Ended parts old false old
  no_table = none-placed n parts size old

  pub from-begun : 2 * parts_at n ≤ length old → (mid new : List ℕ) (r : Bool) → mid ≡ written n old [] → Ended parts mid r new → Ended parts old r new
  from-begun = ended-begun n parts size old

  module _ (i at : ℕ) (room : List ℕ) (h : Placed n parts old i at room) (below : i < n) where
    behind-table : 2 * i + 5 ≤ at
    behind-table = omega (arith, h.end)

    module _ (w' a' : ℕ) (kw : w' ≡ w) (ka : a' ≡ a) (number len : ℕ) (answer : List ℕ) (short : len ≤ desk.room) (inside : len ≤ length answer)
        (said : number ∷ take len answer ≡ answer_part desk (solving desk w' a' (get_or (sheet_parts (words_in bs)) i []))) where
      part-is : number ∷ take len answer ≡ get_or (answers_of desk w a (sheet_parts (words_in bs))) i []
      part-is =
          said ∙ ap₂ (λ (x y : ℕ). answer_part desk (solving desk x y (get_or (sheet_parts (words_in bs)) i []))) kw ka
          ∙ answer-of w a (words_in bs) i (omega arith)

      part_length : length (number ∷ take len answer) ≡ suc len
      part_length = ap suc (length-take-le len answer inside)

      pub place-fits : n ≤ desk.sheets → (next : ℕ) → next ≡ at + 1 + len → next ≤ length room / 2
          → (2 * (at + 1 + length (take len answer)) ≤ length room) × (at + 1 + length (take len answer) < 4294967296) × (2 * i + 5 ≤ at) × (i ≤ 65535)
      place-fits few next e f =
          let low = h.low in
          let size = length-take-le len answer inside in
          (omega arith, omega arith, behind-table, omega arith)

      pub no_room : (next : ℕ) → next ≡ at + 1 + len → length room / 2 < next → Ended parts old false room
      no_room next e f =
          placed-full n parts size old i at room h below (number ∷ take len answer) part-is (omega (arith, part_length)) next (omega (arith, part_length))
          (omega (arith, room-kept i at room h))

      pub one_more : (next : ℕ) → next ≡ at + 1 + len → next ≤ length room / 2 → (new : List ℕ)
          → new ≡ sets (sets room (2 * at) (bytes_of (number ∷ take len answer))) (2 * (2 * (i + 1) + 1)) (bytes_of (doubled ((at + length (number ∷ take len answer)) ∷ [])))
          → Placed n parts old (i + 1) next new
      one_more next e f new d =
          let z : at + length (number ∷ take len answer) ≡ next = omega (arith, part_length) in
          placed-more n parts size old i at room h below (number ∷ take len answer) part-is (omega (arith, part_length)) next (sym z) (omega (arith, room-kept i at room h)) new
          (d ∙ ap (λ m. sets (sets room (2 * at) (bytes_of (number ∷ take len answer))) (2 * (2 * (i + 1) + 1)) (bytes_of (doubled (m ∷ [])))) z)
