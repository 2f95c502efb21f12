-- The linear form with each rest laid open: a rest is a concatenation nested to the left, so its words are some 7001 and then the words of its
-- parts in a row. Every part stands in the expression already.
use Rattle.std.specs.Prelude.{ℕ, zero, suc, ◌+◌, List, [], ◌∷◌, ◌++◌}
use Rattle.language.specs.declared.Sym.{Sym}
use Rattle.language.specs.Kinds.{pick}
use Rattle.language.specs.Trees.{Expr, eps, cat, alt, star, over}
use Rattle.language.specs.Writing.{expr_words}
use Rattle.rules.specs.Looks.{is_eps}
use Rattle.rules.specs.Expressions.{nullable}

-- f(R1), how many parts its rest has, and their words in a row
pub record Loose : Type 0 where
  pub name : Sym
  pub inner : Expr
  pub parts : ℕ
  pub words : List ℕ

-- the monomials of R in order; from outside of R each rest gets n parts, whose words in a row are ws
abbrev pub met : Expr → ℕ → List ℕ → List Loose
met eps n ws = []
met (cat a b) n ws = met a (pick (is_eps b) n (suc n)) (pick (is_eps b) ws (expr_words b ++ ws)) ++ pick (nullable a) (met b n ws) []
met (alt a b) n ws = met a n ws ++ met b n ws
met (star a) n ws = met a (suc n) (expr_words (star a) ++ ws)
met (over f a) n ws = record { name = f; inner = a; parts = n; words = ws } ∷ []

-- n words of concatenations
abbrev pub joins : ℕ → List ℕ
joins zero = []
joins (suc n) = 7001 ∷ joins n

-- what stands before a rest's parts: as many 7001 as join them, or 7000 where there is none
abbrev pub opening : ℕ → List ℕ
opening zero = 7000 ∷ []
opening (suc n) = joins n

abbrev pub rest_words : Loose → List ℕ
rest_words m = opening m.parts ++ m.words

abbrev pub first_words : Loose → List ℕ
first_words m = (3000 + m.name.0) ∷ expr_words m.inner
