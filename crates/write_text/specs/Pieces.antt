-- The pieces that a text is written in: what a word gives, by what stands before it. A byte that is 0 is none.
use Rattle.std.specs.Prelude.{ℕ, ◌+◌, ◌/◌, ◌%◌, Bool, false, ◌&&◌, ◌||◌, not, List, [], ◌∷◌, ◌++◌, eqb, ltb}
use Rattle.language.specs.Kinds.{pick}
use Rattle.language.specs.Trees.{Hedge, ε, tvar, hvar, node, Expr, eps, cat, alt, star, over, Literal, eqn, mem, Conj}
use Rattle.language.specs.Writing.{functor_word}
use Rattle.texts.specs.Writer.{digits, is_empty}

unfoldable pub given : ℕ → List ℕ
given x = pick (eqb x 0) [] (x ∷ [])

unfoldable pub four : ℕ → ℕ → ℕ → ℕ → List ℕ
four a b c d = given a ++ (given b ++ (given c ++ given d))

-- ---- a number's digits

abbrev pub hundreds_of : ℕ → ℕ
hundreds_of n = pick (ltb n 100) 0 (48 + n / 10 / 10)

abbrev pub tens_of : ℕ → ℕ
tens_of n = pick (ltb n 10) 0 (48 + n / 10 % 10)

-- ---- a word of a hedge, by what stands before it: 0 nothing, 1 a functor, whose bracket is still to be opened, 2 an element

abbrev pub first_of : ℕ → ℕ
first_of s = pick (eqb s 0) 0 (pick (eqb s 1) 40 44)

abbrev pub second_of : ℕ → ℕ
second_of s = pick (eqb s 2) 32 0

abbrev pub closing_of : ℕ → ℕ
closing_of s = pick (eqb s 1) 0 41

-- ? * and %
abbrev pub mark_of : ℕ → ℕ
mark_of x = pick (ltb x 2000) 63 (pick (ltb x 3000) 42 (pick (ltb x 4000) 0 37))

-- x p a X
abbrev pub letter_in : ℕ → ℕ
letter_in x = pick (ltb x 2000) 120 (pick (ltb x 3000) 112 (pick (ltb x 4000) 97 88))

unfoldable pub word_text : ℕ → ℕ → List ℕ
word_text s x = pick (eqb x 0) (given (closing_of s)) (four (first_of s) (second_of s) (mark_of x) (letter_in x) ++ digits (x % 1000))

abbrev pub after_of : ℕ → ℕ
after_of x = pick (ltb x 3000) 2 1

unfoldable pub flat : ℕ → List ℕ → List ℕ
flat s [] = []
flat s (x ∷ ws) = word_text s x ++ flat (after_of x) ws

-- ---- a hedge's elements, and a side

-- what stands before what follows a hedge
abbrev pub behind : ℕ → Hedge → ℕ
behind s ε = s
behind s (tvar x r) = 2
behind s (hvar p r) = 2
behind s (node f c r) = 2

abbrev pub elements : ℕ → Hedge → List ℕ
elements s ε = []
elements s (tvar x r) = word_text s (1000 + x.0) ++ elements 2 r
elements s (hvar p r) = word_text s (2000 + p.0) ++ elements 2 r
elements s (node f c r) = word_text s (functor_word f) ++ ((elements 1 c ++ given (closing_of (behind 1 c))) ++ elements 2 r)

abbrev pub is_one : Hedge → Bool
is_one ε = false
is_one (tvar x r) = is_empty r
is_one (hvar p r) = is_empty r
is_one (node f c r) = is_empty r

-- brackets unless it is one element
abbrev pub unless : Bool → ℕ → ℕ
unless b x = pick b 0 x

abbrev pub side_piece : Hedge → List ℕ
side_piece h = given (unless (is_one h) 40) ++ (elements 0 h ++ given (unless (is_one h) 41))

-- ---- an expression, by where it stands: 0 before a star, 1 in a choice, 2 in a list, 3 under a symbol

abbrev pub opens : ℕ → ℕ → Bool
opens t x = eqb t 3 || ((eqb x 7001 && not (eqb t 2)) || (eqb x 7002 && eqb t 0))

abbrev pub brace_of : ℕ → ℕ → ℕ → ℕ
brace_of t x b = pick (opens t x) b 0

abbrev pub head_piece : ℕ → ℕ → List ℕ
head_piece t x = given (brace_of t x 40) ++ pick (ltb x 7000) (word_text 0 x) []

abbrev pub first_in : ℕ → ℕ
first_in x = pick (ltb x 7000) 3 (pick (eqb x 7001) 1 0)

abbrev pub second_in : ℕ → ℕ
second_in x = pick (eqb x 7001) 2 1

abbrev pub between_piece : ℕ → List ℕ
between_piece x = pick (eqb x 7001) (four 44 32 0 0) (four 32 43 32 0)

abbrev pub star_of : ℕ → ℕ
star_of x = pick (eqb x 7003) 42 0

abbrev pub tail_piece : ℕ → ℕ → List ℕ
tail_piece t x = four (star_of x) (brace_of t x 41) 0 0

abbrev pub is_two : ℕ → Bool
is_two x = eqb x 7001 || eqb x 7002

-- nothing under a symbol
abbrev pub elsewhere : ℕ → ℕ → ℕ
elsewhere t x = pick (eqb t 3) 0 x

abbrev pub shape : ℕ → Expr → List ℕ
shape t eps = four (elsewhere t 40) (elsewhere t 41) 0 0
shape t (cat a b) = head_piece t 7001 ++ (shape 1 a ++ (between_piece 7001 ++ (shape 2 b ++ given (brace_of t 7001 41))))
shape t (alt a b) = head_piece t 7002 ++ (shape 0 a ++ (between_piece 7002 ++ (shape 1 b ++ given (brace_of t 7002 41))))
shape t (star a) = head_piece t 7003 ++ (shape 0 a ++ tail_piece t 7003)
shape t (over f a) = head_piece t (3000 + f.0) ++ (shape 3 a ++ tail_piece t (3000 + f.0))

-- ---- literals and lines

abbrev pub literal_piece : Literal → List ℕ
literal_piece (eqn l r) = side_piece l ++ (four 32 61 32 0 ++ side_piece r)
literal_piece (mem h R) = side_piece h ++ (four 32 105 110 32 ++ shape 1 R)

abbrev pub literals_piece : ℕ → Conj → List ℕ
literals_piece s [] = []
literals_piece s (l ∷ ls) = four (first_of s) (second_of s) 0 0 ++ (literal_piece l ++ literals_piece 2 ls)
