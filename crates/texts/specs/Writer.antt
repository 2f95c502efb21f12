-- The writer: the text of conjunctions. "The writer names each by a letter of its kind and its number": a7, ?x7, *p7, %X7.
-- Every function puts its text before `k`, what stands behind it.
use Rattle.std.specs.Prelude.{ℕ, ◌+◌, ◌/◌, ◌%◌, Bool, true, false, List, [], ◌∷◌, ◌++◌, ltb}
use Rattle.language.specs.Kinds.{pick}
use Rattle.language.specs.Trees.{Functor, symbol, fvar, Hedge, ε, tvar, hvar, node, Expr, eps, cat, alt, star, over, Literal, eqn, mem, Conj}
use Rattle.grammar.specs.Tokens.{name_of}
use Rattle.texts.specs.Numbering.{Class, symbols, terms, hedges, functions, Naming}

-- ---- names

-- a number below 1,000 in decimal
unfoldable pub digits : ℕ → List ℕ
digits n =
    pick (ltb n 10) ((48 + n) ∷ [])
    (pick (ltb n 100) ((48 + n / 10) ∷ (48 + n % 10) ∷ [])
    ((48 + n / 10 / 10) ∷ (48 + n / 10 % 10) ∷ (48 + n % 10) ∷ []))

-- a, x, p, X
abbrev pub letter_of : Class → ℕ
letter_of symbols = 97
letter_of terms = 120
letter_of hedges = 112
letter_of functions = 88

abbrev pub name_text : Class → ℕ → List ℕ
name_text c n = letter_of c ∷ digits n

-- the numbers that these names are
abbrev pub plain : Naming
plain c n = name_of (name_text c n)

-- ---- hedges

abbrev pub functor_text : Functor → List ℕ → List ℕ
functor_text (symbol f) k = name_text symbols f.0 ++ k
functor_text (fvar X) k = 37 ∷ (name_text functions X.0 ++ k)

-- between brackets: a comma and a space before what follows an element
abbrev pub sep_text : Hedge → List ℕ → List ℕ
sep_text ε k = k
sep_text (tvar x r) k = 44 ∷ 32 ∷ k
sep_text (hvar p r) k = 44 ∷ 32 ∷ k
sep_text (node f c r) k = 44 ∷ 32 ∷ k

-- no brackets where there are no children
abbrev pub child_text : Hedge → List ℕ → List ℕ → List ℕ
child_text ε inner k = k
child_text (tvar x r) inner k = 40 ∷ inner
child_text (hvar p r) inner k = 40 ∷ inner
child_text (node f c r) inner k = 40 ∷ inner

-- the elements, and the bracket that closes
abbrev pub inside_text : Hedge → List ℕ → List ℕ
inside_text ε k = 41 ∷ k
inside_text (tvar x r) k = 63 ∷ (name_text terms x.0 ++ sep_text r (inside_text r k))
inside_text (hvar p r) k = 42 ∷ (name_text hedges p.0 ++ sep_text r (inside_text r k))
inside_text (node f c r) k = functor_text f (child_text c (inside_text c (sep_text r (inside_text r k))) (sep_text r (inside_text r k)))

-- one element stands by itself, anything else in brackets
abbrev pub is_empty : Hedge → Bool
is_empty ε = true
is_empty (tvar x r) = false
is_empty (hvar p r) = false
is_empty (node f c r) = false

abbrev pub side_text : Hedge → List ℕ → List ℕ
side_text ε k = 40 ∷ 41 ∷ k
side_text (tvar x r) k = pick (is_empty r) (63 ∷ (name_text terms x.0 ++ k)) (40 ∷ inside_text (tvar x r) k)
side_text (hvar p r) k = pick (is_empty r) (42 ∷ (name_text hedges p.0 ++ k)) (40 ∷ inside_text (hvar p r) k)
side_text (node f c r) k = pick (is_empty r) (functor_text f (child_text c (inside_text c k) k)) (40 ∷ inside_text (node f c r) k)

-- ---- expressions: before a star, in a choice, in a list

pub data Tight : Type 0 where
  starred : Tight
  chosen : Tight
  listed : Tight

abbrev pub inner_text : Expr → List ℕ → List ℕ → List ℕ
inner_text eps inner k = k
inner_text (cat a b) inner k = 40 ∷ inner
inner_text (alt a b) inner k = 40 ∷ inner
inner_text (star a) inner k = 40 ∷ inner
inner_text (over f a) inner k = 40 ∷ inner

abbrev pub expr_text : Expr → Tight → List ℕ → List ℕ
expr_text eps t k = 40 ∷ 41 ∷ k
expr_text (over f a) t k = name_text symbols f.0 ++ inner_text a (expr_text a listed (41 ∷ k)) k
expr_text (star a) t k = expr_text a starred (42 ∷ k)
expr_text (alt a b) starred k = 40 ∷ expr_text a starred (32 ∷ 43 ∷ 32 ∷ expr_text b chosen (41 ∷ k))
expr_text (alt a b) chosen k = expr_text a starred (32 ∷ 43 ∷ 32 ∷ expr_text b chosen k)
expr_text (alt a b) listed k = expr_text a starred (32 ∷ 43 ∷ 32 ∷ expr_text b chosen k)
expr_text (cat a b) starred k = 40 ∷ expr_text a chosen (44 ∷ 32 ∷ expr_text b listed (41 ∷ k))
expr_text (cat a b) chosen k = 40 ∷ expr_text a chosen (44 ∷ 32 ∷ expr_text b listed (41 ∷ k))
expr_text (cat a b) listed k = expr_text a chosen (44 ∷ 32 ∷ expr_text b listed k)

-- ---- literals, lines

abbrev pub literal_text : Literal → List ℕ → List ℕ
literal_text (eqn l r) k = side_text l (32 ∷ 61 ∷ 32 ∷ side_text r k)
literal_text (mem h R) k = side_text h (32 ∷ 105 ∷ 110 ∷ 32 ∷ expr_text R chosen k)

abbrev pub more_text : Conj → List ℕ → List ℕ
more_text [] k = k
more_text (l ∷ ls) k = 44 ∷ 32 ∷ k

abbrev pub literals_text : Conj → List ℕ
literals_text [] = []
literals_text (l ∷ ls) = literal_text l (more_text ls (literals_text ls))

abbrev pub line_text : Conj → List ℕ
line_text [] = 40 ∷ 41 ∷ []
line_text (l ∷ ls) = literals_text (l ∷ ls)

-- each line with its newline
abbrev pub all_text : List Conj → List ℕ
all_text [] = []
all_text (k ∷ ks) = line_text k ++ (10 ∷ all_text ks)
