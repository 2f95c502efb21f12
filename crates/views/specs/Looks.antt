-- How a hedge and an expression begin, and a hedge's words without the 0 at its end.
use Rattle.std.specs.Prelude.{ℕ, ◌+◌, List, [], ◌∷◌, ◌++◌}
use Rattle.language.specs.declared.Name.{Name}
use Rattle.language.specs.declared.Name.TheVariants.{Symbol, Blank}
use Rattle.language.specs.declared.Kind.{Kind}
use Rattle.language.specs.declared.Kind.TheVariants as kind
use Rattle.language.specs.Trees.{Functor, symbol, fvar, Hedge, ε, tvar, hvar, node, Expr, eps, cat, alt, star, over}
use Rattle.language.specs.Writing.{functor_word, hedge_words}
use Rattle.rules.specs.Looks.{empty}
use Rattle.views.specs.declared.Look.{Look}
use Rattle.views.specs.declared.Look.TheVariants.{Empty, Term, Run, Node}

-- a functor, as the code holds it
abbrev pub name_of : Functor → Name
name_of (symbol f) = Symbol f
name_of (fvar X) = Blank X

abbrev pub look_of : Hedge → Look
look_of ε = Empty
look_of (tvar x r) = Term x (empty r)
look_of (hvar p r) = Run p (empty r)
look_of (node f c r) = Node (name_of f) (empty r) (empty c)

-- what the first word of an expression is
abbrev pub first_kind : Expr → Kind
first_kind eps = kind.Eps
first_kind (cat a b) = kind.Cat
first_kind (alt a b) = kind.Alt
first_kind (star a) = kind.Star
first_kind (over f a) = kind.Symbol f

-- the first element alone, and what follows it
abbrev pub head : Hedge → Hedge
head ε = ε
head (tvar x r) = tvar x ε
head (hvar p r) = hvar p ε
head (node f c r) = node f c ε

abbrev pub tail : Hedge → Hedge
tail ε = ε
tail (tvar x r) = r
tail (hvar p r) = r
tail (node f c r) = r

-- the words before the 0
abbrev pub body_words : Hedge → List ℕ
body_words ε = []
body_words (tvar x r) = (1000 + x.0) ∷ body_words r
body_words (hvar p r) = (2000 + p.0) ∷ body_words r
body_words (node f c r) = functor_word f ∷ (hedge_words c ++ body_words r)
