-- The place of a literal of a conjunction in its words.
use Rattle.std.specs.Prelude.{ℕ, ◌+◌, [], ◌∷◌, length}
use Rattle.language.specs.Trees.{Conj}
use Rattle.language.specs.Writing.{literal_words}

-- how many words stand before the literal of that number, from 0; all words, where there is none
abbrev pub words_before : ℕ → Conj → ℕ
words_before i [] = 0
words_before i (l ∷ c) = elim i [ ℕ.zero ↦ 0 | ℕ.suc j ↦ length (literal_words l) + words_before j c ]
