-- Words as bytes, the low byte first.
use Rattle.std.specs.Prelude.{ℕ, ◌+◌, ◌*◌, ◌/◌, ◌%◌, Bool, List, [], ◌∷◌, eqb, leb, length}
use Rattle.language.specs.Kinds.{pick}

-- the word of two bytes
abbrev pub word_of : ℕ → ℕ → ℕ
word_of low high = low + 256 * high

-- the words of pairs of bytes; a last byte alone makes none
unfoldable pub words_of : List ℕ → List ℕ
words_of [] = []
words_of (low ∷ []) = []
words_of (low ∷ (high ∷ bs)) = word_of low high ∷ words_of bs

-- whether a last byte stands alone, half of a word
unfoldable pub half_word : List ℕ → Bool
half_word bs = eqb (length bs % 2) 1

-- the bytes of words
unfoldable pub bytes_of : List ℕ → List ℕ
bytes_of [] = []
bytes_of (w ∷ ws) = (w % 256) ∷ ((w / 256) ∷ bytes_of ws)

-- The words that bytes from outside hold: an odd count holds none, so that what was to be read there is refused for its length.
unfoldable pub words_in : List ℕ → List ℕ
words_in bs = pick (eqb (length bs % 2) 0) (words_of bs) []

-- words that fit a room of so many, and else none
unfoldable pub fitting : ℕ → List ℕ → List ℕ
fitting room ws = pick (leb (length ws) room) ws []
