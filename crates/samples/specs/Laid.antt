-- Words written into a lent slice from a place on.
use Rattle.std.specs.Prelude.{ℕ, ◌+◌, ◌-◌, ◌≡◌, List, length}
use Rattle.std.proofs.lemmas.List.Edits.{sets}

-- those of ws that have room stand in `new` from `at` up to e, and the rest is as in `old`
pub record Laid (old : List ℕ) (at : ℕ) (ws : List ℕ) (new : List ℕ) (e : ℕ) : Type 0 where
  pub end : e ≡ at + (length ws - (at + length ws - length old))
  pub list : new ≡ sets old at ws
