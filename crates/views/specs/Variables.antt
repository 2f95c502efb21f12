-- The word of a variable.
use Rattle.std.specs.Prelude.{ℕ, ◌+◌, ◌<◌}
use Rattle.language.specs.Limits.{Limits}
use Rattle.language.specs.Trees.{Var, tv, hv, fv}

abbrev pub variable_word : Var → ℕ
variable_word (tv x) = 1000 + x.0
variable_word (hv p) = 2000 + p.0
variable_word (fv X) = 4000 + X.0

abbrev pub fine_var : Limits → Var → Type 0
fine_var L (tv x) = x.0 < L.each
fine_var L (hv p) = p.0 < L.each
fine_var L (fv X) = X.0 < L.each
