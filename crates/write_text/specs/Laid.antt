-- Bytes written into a lent slice from a place on, as long as the place is below `stop`.
use Rattle.std.specs.Prelude.{ℕ, ◌+◌, ◌-◌, ◌<◌, ◌≡◌, List, length}
use Rattle.std.proofs.lemmas.List.Edits.{sets}

-- e is the place after them, or `stop` where that is beyond it; and where it is not, they stand in `new` as far as it reaches
pub record Laid (stop : ℕ) (old : List ℕ) (at : ℕ) (bs : List ℕ) (new : List ℕ) (e : ℕ) : Type 0 where
  pub end : e ≡ at + (length bs - (at + length bs - stop))
  pub list : at + length bs < stop → new ≡ sets old at bs
