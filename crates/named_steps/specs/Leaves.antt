-- What a named step returns and leaves in the lent slice: its results in frames at the end of the room, behind zeros.
use Rattle.std.specs.Prelude.{ℕ, ◌+◌, ◌-◌, ◌≡◌, List, ◌++◌, map, length, replicate, Result, Ok, Err}
use Rattle.std.proofs.lemmas.List.Edits.{sets}
use Rattle.language.specs.declared.Refusal.{Refusal}
use Rattle.language.specs.Limits.{desk}
use Rattle.language.specs.Trees.{Conj}
use Rattle.language.specs.Writing.{conj_words}
use Rattle.rules.specs.Answer.{zeros, overwritten}
use Rattle.frames.specs.Frames.{in_frames}
use Rattle.named_steps.specs.Naming.{Naming, made, unread, given-up}

-- the results in words, each with its length and the number before it
abbrev pub result_words : ℕ → List Conj → List ℕ
result_words number ks = in_frames number (map conj_words ks)

-- where they begin, so that they end with the room
abbrev pub begins : List ℕ → ℕ
begins ws = desk.room - length ws

-- the room: zeros, and then the results
abbrev pub room_of : List ℕ → List ℕ
room_of ws = replicate (begins ws) 0 ++ ws

-- what comes back, and the work slice, which held `work`
abbrev pub leaves : ℕ → Naming → List ℕ → Result ℕ Refusal × List ℕ
leaves number (made ks) work = (Ok (begins (result_words number ks)), overwritten desk (room_of (result_words number ks)) work)
leaves number (unread r) work = (Err r, work)
leaves number (given-up r) work = (Err r, overwritten desk (zeros desk) work)

-- the same of a step in a slice whatever it holds: nothing is written, or the results alone
pub data Leaves (number : ℕ) (v : Naming) (old : List ℕ) (r : Result ℕ Refusal) (new : List ℕ) : Type 0 where
  refuses : (x : Refusal) → r ≡ Err x → v ≡ given-up x → new ≡ old → Leaves number v old r new
  makes : (ks : List Conj) (at : ℕ) → r ≡ Ok at → v ≡ made ks → at + length (result_words number ks) ≡ desk.room → new ≡ sets old at (result_words number ks)
      → Leaves number v old r new
