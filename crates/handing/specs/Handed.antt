-- The numbers that the host gets and the bytes that it finds, from the number and the value of what comes back from the calls on words.
use Rattle.std.specs.Prelude.{ℕ, ◌+◌, ◌*◌, ◌/◌, Bool, false, List, ◌++◌, eqb, leb, length, take, drop, replicate}
use Rattle.std.proofs.lemmas.List.Edits.{sets}
use Rattle.language.specs.Kinds.{pick}
use Rattle.word_bytes.specs.Bytes.{bytes_of}

-- of so many words lent, as many as are ever used
unfoldable pub used : ℕ → ℕ → ℕ
used most lent = pick (leb lent most) lent most

-- the refusal's number, or 100 and the value
unfoldable pub number_or : ℕ → ℕ → ℕ
number_or number value = pick (eqb number 0) (100 + value) number

-- the bytes of a room's words; an odd last byte is none of them
abbrev pub word_bytes : List ℕ → ℕ
word_bytes bytes = 2 * (length bytes / 2)

-- "1 to 6 ..: unchanged"
unfoldable pub keeps_bytes : ℕ → Bool
keeps_bytes number = pick (eqb number 0) false (leb number 6)

-- the answer's bytes, from the desk's own answer slice
unfoldable pub answer_out : ℕ → List ℕ → List ℕ → List ℕ
answer_out number own answer = pick (keeps_bytes number) answer (sets answer 0 (bytes_of own))

-- the bytes of the trail's room, from the desk's own trail of so many steps: zeros after a refusal that changes bytes
unfoldable pub trail_out : ℕ → ℕ → List ℕ → List ℕ → List ℕ
trail_out number steps own trail =
    pick (keeps_bytes number) trail (pick (eqb number 0) (sets trail 0 (bytes_of (take (3 * steps) own))) (replicate (word_bytes trail) 0 ++ drop (word_bytes trail) trail))
