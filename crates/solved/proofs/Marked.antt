-- Whether a literal is solved, and with it the line, literal by literal.
use Prim.Native.Nat.{ℕ}
use native.Mathlib.Omega.{arith}
use mathlib.Core.Path.{◌≡◌, refl, ap, ◌∙◌}
use mathlib.Core.Bool.{Bool, true, false, ◌&&◌}
use mathlib.Core.List.{[], ◌∷◌, ◌++◌}
use mathlib.Core.Option.{Option, none, some}
use Rattle.language.specs.Trees.{Hedge, Literal, eqn, Conj}
use Rattle.rules.specs.Solved.{or_else, variable, alone, is_some, solved_literal, solved_from, solved}

or_some : {A : Type 0} (m : Option A) (g : Unit {0} → Option A) → true ≡ is_some m → true ≡ is_some (or_else m g)
or_some none g e = absurd (let z : ◌≡◌ {A = ℕ} 0 1 = cc in omega arith)
or_some (some a) g e = refl

or-none : {A : Type 0} (m : Option A) (g : Unit {0} → Option A) → false ≡ is_some m → is_some (g tt) ≡ is_some (or_else m g)
or-none none g e = refl
or-none (some a) g e = absurd (let z : ◌≡◌ {A = ℕ} 0 1 = cc in omega arith)

module _ (K : Conj) (l r : Hedge) where
  pub written-solves : true ≡ is_some (alone K r (variable l r)) → true ≡ solved_literal K (eqn l r)
  written-solves e = or_some (alone K r (variable l r)) _ e

  pub other-solves : false ≡ is_some (alone K r (variable l r)) → (t : Bool) → t ≡ is_some (alone K l (variable r l)) → t ≡ solved_literal K (eqn l r)
  other-solves e t d = d ∙ or-none (alone K r (variable l r)) (λ _. alone K l (variable r l)) e

-- ---- the line

module _ (c : Conj) where
  -- what is known of the literals passed: the rest decide
  abbrev pub Decides : Conj → Conj → Type 0
  Decides done rest = solved_from done rest ≡ solved c

  pub decides-starts : Decides [] c
  unfolding solved
  decides-starts = refl

  pub decides-on : (done : Conj) (l : Literal) (rest : Conj) → true ≡ solved_literal (done ++ rest) l → Decides done (l ∷ rest) → Decides (done ++ (l ∷ [])) rest
  decides-on done l rest t d = ap (λ b. b && solved_from (done ++ (l ∷ [])) rest) t ∙ d

  pub decides_not : (done : Conj) (l : Literal) (rest : Conj) → false ≡ solved_literal (done ++ rest) l → Decides done (l ∷ rest) → false ≡ solved c
  decides_not done l rest t d = ap (λ b. b && solved_from (done ++ (l ∷ [])) rest) t ∙ d
