-- What a hedge's words become when its variables have values: each word by itself.
use Rattle.std.specs.Prelude.{ℕ, ◌+◌, ◌<◌, ◌≡◌, Bool, true, false, List, [], ◌∷◌, ◌++◌}
use Rattle.language.specs.declared.Kind.{Kind}
use Rattle.language.specs.declared.Kind.TheVariants.{End, Term, Run, Symbol, Function, Equation, Membership, Eps, Cat, Alt, Star, Other}
use Rattle.language.specs.Kinds.{kind_of}
use Rattle.language.specs.Limits.{desk}
use Rattle.language.specs.Trees.{Var, tv, hv, fv}
use Rattle.meaning.specs.Values.{root_of}
use Rattle.rules.specs.Example.{Values}
use Rattle.samples.specs.Bodies.{body}
use Rattle.values.specs.Lines.{Word}

-- a term or a hedge variable becomes its value without the 0, a function variable its symbol, any other word stays
abbrev pub becomes_by : Values → ℕ → Kind → List ℕ
becomes_by β x (Term y) = body (β (tv y))
becomes_by β x (Run p) = body (β (hv p))
becomes_by β x (Function X) = (3000 + (root_of (β (fv X))).0) ∷ []
becomes_by β x End = x ∷ []
becomes_by β x (Symbol f) = x ∷ []
becomes_by β x Equation = x ∷ []
becomes_by β x Membership = x ∷ []
becomes_by β x Eps = x ∷ []
becomes_by β x Cat = x ∷ []
becomes_by β x Alt = x ∷ []
becomes_by β x Star = x ∷ []
becomes_by β x Other = x ∷ []

unfoldable pub becomes : Values → ℕ → List ℕ
becomes β x = becomes_by β x (kind_of desk x)

abbrev pub spelled : (ℕ → List ℕ) → List ℕ → List ℕ
spelled f [] = []
spelled f (x ∷ ws) = f x ++ spelled f ws

-- a word of a hedge
pub data HedgeWord (x : ℕ) : Type 0 where
  ends : x ≡ 0 → HedgeWord x
  varies : (v : Var) → Word v x → HedgeWord x
  names : (f : ℕ) → f < desk.each → x ≡ 3000 + f → HedgeWord x

abbrev pub HedgeWords : List ℕ → Type 0
HedgeWords [] = Unit {0}
HedgeWords (x ∷ ws) = HedgeWord x × HedgeWords ws

-- a hedge variable
abbrev pub runs : Var → Bool
runs (tv x) = false
runs (hv p) = true
runs (fv X) = false
