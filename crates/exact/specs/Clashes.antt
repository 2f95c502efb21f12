-- What lies in both of two expressions; and what the clash says of a test of a variable, alone, and of the literals behind it.
use Rattle.std.specs.Prelude.{ℕ, ◌≡◌, false, List, [], ◌∷◌, ◌++◌}
use Rattle.std.proofs.Math.Option.{some}
use Rattle.language.specs.declared.Sym.{Sym}
use Rattle.language.specs.declared.Signature.{Signature}
use Rattle.language.specs.declared.Refusal.TheVariants.{LongWalk}
use Rattle.language.specs.Trees.{Hedge, Expr, Literal, eqn, mem, Conj, is_unordered, Var, tv, hv, fv}
use Rattle.meaning.specs.Complete.{Complete, nil, tree}
use Rattle.meaning.specs.Meaning.{Member}
use Rattle.rules.specs.Each.{Each}
use Rattle.rules.specs.Reply.{Reply, nothing, results, stops}
use Rattle.rules.specs.Solved.{lone_var}
use Rattle.rules.specs.Clash.{mentions}
use Rattle.walk.specs.Reach.{ReachesMore}

-- some term lies in both, or some hedge, "for a hedge variable"
abbrev pub InBoth : Signature → Var → Expr → Expr → Type 0
InBoth σ (tv x) R S = (f : Sym) × (c : Complete) × Member σ R (tree f c nil) × Member σ S (tree f c nil)
InBoth σ (hv p) R S = (g : Complete) × Member σ R g × Member σ S g
InBoth σ (fv X) R S = Unit {0}

-- ---- v in R, and a literal behind it

module _ (limit : ℕ) (σ : Signature) (v : Var) (R : Expr) where
  -- it is v in S, v alone, neither expression mentions an unordered symbol, and P of S
  abbrev pub Beside : (Expr → Type 0) → Literal → Type 0
  Beside P (eqn l r) = ⊥
  Beside P (mem h S) = (lone_var h ≡ some v) × (mentions (is_unordered σ) R ≡ false) × (mentions (is_unordered σ) S ≡ false) × P S

  -- "a walk reaches more than" so many "different pairs"
  abbrev pub TooLong : Literal → Type 0
  TooLong = Beside (λ S. ReachesMore limit R S)

  -- "no term (or hedge ..) lies in both"
  abbrev pub Clashing : Literal → Type 0
  Clashing = Beside (λ S. ¬ ReachesMore limit R S × ¬ InBoth σ v R S)

  -- where it is such a test, its walk is short and something lies in both
  abbrev pub Passed : Literal → Type 0
  Passed (eqn l r) = Unit {0}
  Passed (mem h S) = lone_var h ≡ some v → mentions (is_unordered σ) R ≡ false → mentions (is_unordered σ) S ≡ false → ¬ ReachesMore limit R S × InBoth σ v R S

  -- "in the order of their literals, until one clashes": a literal is as Q says, and each before it was passed
  pub data First (Q : Literal → Type 0) : Conj → Type 0 where
    here : {l : Literal} {k : Conj} → Q l → First Q (l ∷ k)
    later : {l : Literal} {k : Conj} → Passed l → First Q k → First Q (l ∷ k)

  -- what it says of the literals behind that the rule comes to this
  abbrev pub Says : Conj → Reply (List Conj) → Type 0
  Says behind nothing = Each Passed behind
  Says behind (results ks) = (ks ≡ []) × First Clashing behind
  Says behind (stops r) = (r ≡ LongWalk) × First TooLong behind

-- ---- a line

-- two tests of one variable, alone, in a conjunction, that mention no unordered symbol: something lies in both
abbrev pub Together : Signature → Var → Expr → Literal → Type 0
Together σ v R (eqn l r) = Unit {0}
Together σ v R (mem h S) = lone_var h ≡ some v → mentions (is_unordered σ) R ≡ false → mentions (is_unordered σ) S ≡ false → InBoth σ v R S

abbrev pub Agreed : Signature → Conj → Type 0
Agreed σ k = (before : Conj) (h : Hedge) (R : Expr) (behind : Conj) (v : Var) → k ≡ before ++ (mem h R ∷ behind) → lone_var h ≡ some v → Each (Together σ v R) behind
