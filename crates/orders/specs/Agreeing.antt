-- Lists that begin alike: what an array of eight places has to say of fewer.
use Rattle.std.specs.Prelude.{ℕ, ◌<◌, ◌≡◌, List, get_or}

abbrev pub Agree : ℕ → List ℕ → List ℕ → Type 0
Agree n a b = (i : ℕ) → i < n → get_or a i 0 ≡ get_or b i 0
