-- The room of a trail after a run.
use Rattle.std.specs.Prelude.{ℕ, ◌≡◌, List, length, replicate, Result, Ok, Err}
use Rattle.language.specs.declared.Refusal.{Refusal}
use Rattle.around.specs.declared.Ran.{Ran}

abbrev pub Settles : Result Ran Refusal → List ℕ → List ℕ → Type 0
Settles (Ok r) old new = new ≡ old
Settles (Err e) old new = new ≡ replicate (length old) 0
