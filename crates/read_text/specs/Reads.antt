-- What comes back from reading a text into a room of words, and what the room holds then.
use Rattle.std.specs.Prelude.{ℕ, zero, suc, ◌+◌, ◌*◌, min, Bool, ◌||◌, List, [], ◌∷◌, Result, Ok, Err, ltb, length, get_or}
use Rattle.std.proofs.lemmas.List.Edits.{sets}
use Rattle.language.specs.declared.Refusal.{Refusal}
use Rattle.language.specs.Limits.{Limits}
use Rattle.texts.specs.Outcomes.{Outcome, gives, denies}
use Rattle.text_names.specs.Shelves.{width}

abbrev pub reading_of : Outcome → Result ℕ Refusal
reading_of (gives ws) = Ok (length ws)
reading_of (denies r) = Err r

-- "each leaves the room untouched"
abbrev pub left_by : Outcome → List ℕ → List ℕ
left_by (gives ws) room = sets room 0 ws
left_by (denies r) room = room

-- more names of a class, or more lines, than a header can count
unfoldable pub many_of : Limits → List ℕ → ℕ → Bool
many_of L names many =
    ltb L.each (get_or names 0 0)
    || (ltb L.each (get_or names (width L) 0)
    || (ltb L.each (get_or names (2 * width L) 0)
    || (ltb L.each (get_or names (3 * width L) 0) || ltb L.alternatives many)))

abbrev pub one_at_least : ℕ → ℕ
one_at_least zero = 1
one_at_least (suc n) = suc n

-- where the words of the conjunctions begin
abbrev pub first_of : Limits → ℕ → ℕ
first_of L many = 6 + min L.alternatives many

-- the five counts, and the first offset
abbrev pub header_of : Limits → List ℕ → ℕ → List ℕ
header_of L names many = one_at_least (get_or names (2 * width L) 0) ∷ get_or names 0 0 ∷ get_or names (width L) 0 ∷ get_or names (3 * width L) 0 ∷ many ∷ (6 + many) ∷ []
