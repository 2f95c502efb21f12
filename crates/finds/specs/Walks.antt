-- What a walk along the elements of a hedge finds.
use Rattle.std.specs.Prelude.{ℕ, suc, ◌+◌, ◌≡◌, Bool, true, false, length, Option, Some, None}
use Rattle.std.proofs.Math.Option as maybe
use Rattle.std.proofs.Math.Option.{none, some}
use Rattle.language.specs.declared.HedgeVar.{HedgeVar}
use Rattle.language.specs.declared.Kind.{Kind}
use Rattle.language.specs.declared.Kind.TheVariants.{End, Term, Run, Symbol, Function, Equation, Membership, Eps, Cat, Alt, Star, Other}
use Rattle.language.specs.Limits.{desk}
use Rattle.language.specs.Kinds.{kind_of}
use Rattle.language.specs.Trees.{Hedge, ε, tvar, hvar, node}
use Rattle.rules.specs.Looks.{all_terms, up_to, inside}
use Rattle.views.specs.Looks.{body_words}
use Rattle.finds.specs.declared.Terms.{Terms}

-- a word that begins a term, and one that is a hedge variable's
abbrev pub begins_by : Kind → Bool
begins_by End = false
begins_by (Term x) = true
begins_by (Run p) = false
begins_by (Symbol f) = true
begins_by (Function X) = true
begins_by Equation = false
begins_by Membership = false
begins_by Eps = false
begins_by Cat = false
begins_by Alt = false
begins_by Star = false
begins_by Other = false

unfoldable pub term_word : ℕ → Bool
term_word x = begins_by (kind_of desk x)

abbrev pub runs_by : Kind → Bool
runs_by End = false
runs_by (Term x) = false
runs_by (Run p) = true
runs_by (Symbol f) = false
runs_by (Function X) = false
runs_by Equation = false
runs_by Membership = false
runs_by Eps = false
runs_by Cat = false
runs_by Alt = false
runs_by Star = false
runs_by Other = false

unfoldable pub run_word : ℕ → Bool
run_word x = runs_by (kind_of desk x)

-- the number of elements
abbrev pub size : Hedge → ℕ
size ε = 0
size (tvar x r) = suc (size r)
size (hvar p r) = suc (size r)
size (node f c r) = suc (size r)

-- whether h is terms alone, and how many
pub record Counted (t : Terms) (h : Hedge) : Type 0 where
  pub all : t.all ≡ all_terms h
  pub count : t.all ≡ true → t.count ≡ size h

-- how many elements stand before what was found
abbrev pub size_before : maybe.Option (Hedge × Hedge) → Option ℕ
size_before none = None
size_before (some a) = Some (size a.0)

-- how many terms stand before the first that holds p, where there is one
pub record Ahead (p : HedgeVar) (t : Option ℕ) (h : Hedge) : Type 0 where
  pub is : t ≡ size_before (up_to p h)

-- the place of what was found in a hedge that stands at `at`
abbrev pub place_from : ℕ → maybe.Option (Hedge × Hedge) → Option ℕ
place_from at none = None
place_from at (some a) = Some (at + length (body_words a.0))

-- the place of the first p at the top behind another element in a hedge that stands at `at`, where there is one
pub record Spotted (p : HedgeVar) (at : ℕ) (t : Option ℕ) (h : Hedge) : Type 0 where
  pub is : t ≡ place_from at (inside p h)
