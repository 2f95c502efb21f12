-- The flag for old training sheets, as the host hands it over.
use Rattle.std.specs.Prelude.{ℕ, Bool, not, eqb}

-- a number that is not 0 asks for old training sheets
abbrev pub asks_old : ℕ → Bool
asks_old n = not (eqb n 0)
