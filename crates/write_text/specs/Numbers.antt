-- The numbers of a class in the words, and how many are counted as long as each is an old one or the next.
use Rattle.std.specs.Prelude.{ℕ, ◌+◌, ◌-◌, Bool, false, ◌&&◌, List, [], ◌∷◌, leb, ltb, eqb}
use Rattle.std.proofs.Math.Option.{Option, none, some}
use Rattle.language.specs.Kinds.{pick}

-- a word of the class that begins at `base`
abbrev pub is_in : ℕ → ℕ → Bool
is_in base x = leb base x && ltb x (base + 1000)

unfoldable pub numbers_in : ℕ → List ℕ → List ℕ
numbers_in base [] = []
numbers_in base (x ∷ ws) = pick (is_in base x) ((x - base) ∷ numbers_in base ws) (numbers_in base ws)

-- the count after a number: the same, one more, or 1,001 where it is out of order
abbrev pub count_after : ℕ → ℕ → ℕ
count_after n m = pick (ltb m n) n (pick (eqb m n) (n + 1) 1001)

abbrev pub step_of : ℕ → ℕ → ℕ → ℕ
step_of base n x = pick (is_in base x) (count_after n (x - base)) n

-- counted so many as declared, at least `least`
unfoldable pub counted_as : ℕ → ℕ → Option ℕ → Bool
counted_as least d none = false
counted_as least d (some n) = eqb (pick (ltb n least) least n) d
