-- What comes back from writing a question as a text into a room of bytes, and what the room holds then.
use Rattle.std.specs.Prelude.{ℕ, List, Result, Ok, Err, length}
use Rattle.std.proofs.lemmas.List.Edits.{sets}
use Rattle.language.specs.declared.Refusal.{Refusal}
use Rattle.texts.specs.Outcomes.{Outcome, gives, denies}

abbrev pub written_by : Outcome → Result ℕ Refusal
written_by (gives bs) = Ok (length bs)
written_by (denies r) = Err r

-- "each leaves the room untouched"
abbrev pub left_by : Outcome → List ℕ → List ℕ
left_by (gives bs) room = sets room 0 bs
left_by (denies r) room = room
