-- The frame of a waiting conjunction: its length and the number of its alternative, before its words. It is why each costs its length plus two.
use Rattle.std.specs.Prelude.{ℕ, ◌+◌, List, [], ◌∷◌, ◌++◌, map, length, get_or}

-- how many words a frame has
abbrev pub frame : ℕ
frame = 2

-- the frame of n words, with the number of their alternative
abbrev pub frame_of : ℕ → ℕ → List ℕ
frame_of n number = n ∷ number ∷ []

-- words with their frame before them
abbrev pub in_frame : ℕ → List ℕ → List ℕ
in_frame number w = frame_of (length w) number ++ w

-- the words of a conjunction, and the number of the alternative that it descends from
pub record Block : Type 0 where
  pub number : ℕ
  pub words : List ℕ

-- several, one after the other
abbrev pub framed : List Block → List ℕ
framed [] = []
framed (b ∷ bs) = in_frame b.number b.words ++ framed bs

-- several of one alternative
abbrev pub all_with : ℕ → List (List ℕ) → List Block
all_with number ws = map (λ w. record { number = number; words = w }) ws

abbrev pub in_frames : ℕ → List (List ℕ) → List ℕ
in_frames number ws = framed (all_with number ws)

-- how many words follow the frame at a place, and the number that it has
abbrev pub framed_length : List ℕ → ℕ → ℕ
framed_length ws at = get_or ws at 0

abbrev pub framed_number : List ℕ → ℕ → ℕ
framed_number ws at = get_or ws (at + 1) 0
