-- Literals that stand twice in a conjunction, and their places in its words.
use Rattle.std.specs.Prelude.{ℕ, ◌+◌, Bool, false, ◌||◌, ◌≡◌, [], ◌∷◌, ◌++◌, length}
use Rattle.language.specs.Kinds.{pick}
use Rattle.language.specs.Trees.{Literal, Conj, same_literal}
use Rattle.language.specs.Writing.{literal_words}

-- whether one of the literals has the same words as l
abbrev pub again : Literal → Conj → Bool
again l [] = false
again l (m ∷ k) = same_literal l m || again l k

-- how many words stand before the first of them that has; all words, where none has
abbrev pub until_same : Literal → Conj → ℕ
until_same l [] = 0
until_same l (m ∷ k) = pick (same_literal l m) 0 (length (literal_words m) + until_same l k)

-- how many words stand before the earliest literal that stands there again; all words, where none does
abbrev pub first_twice : Conj → ℕ
first_twice [] = 0
first_twice (l ∷ k) = pick (again l k) 0 (length (literal_words l) + first_twice k)

-- none of the literals `mid` stands there again, among those behind it in `mid` or in `rest`
abbrev pub Once : Conj → Conj → Type 0
Once [] rest = Unit {0}
Once (l ∷ mid) rest = (again l (mid ++ rest) ≡ false) × Once mid rest
