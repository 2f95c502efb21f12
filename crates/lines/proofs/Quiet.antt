-- What it says that no rule applies to a line: none applies to any of its literals among the others.
use mathlib.Core.Path.{◌≡◌, refl}
use mathlib.Core.Bool.{true, false}
use mathlib.Core.List.{◌∷◌, ◌++◌}
use mathlib.Core.Option.{none, some}
use Prim.Native.Nat.{ℕ}
use native.Mathlib.Omega.{arith}
use Rattle.language.specs.declared.Signature.{Signature}
use Rattle.language.specs.Trees.{Hedge, Expr, Literal, eqn, mem, Conj}
use Rattle.rules.specs.Reply.{nothing}
use Rattle.rules.specs.Rules.{Answer, Rule, on_eqn, on_mem, on_pair, rules, R1, R2, F1, F2, F3, F4, F5, F6, F7, Del2, D1, D2, D0, E1, E2, E3, E5, E6, M2, M4, M5, M6, M11, M12}
use Rattle.rules.specs.Step.{placed, step}
use Rattle.rules.specs.Each.{Each}
use Rattle.rules.specs.Sides.{Idle}
use Rattle.rules.proofs.Each.{each-imp}
use Rattle.rules.proofs.Steps.{step-none}

-- the rule does not apply to l among K, neither for an equation's written side nor swapped
abbrev pub Silent : Conj → Literal → Rule → Type 0
Silent K (eqn l r) (on_eqn rule) = (rule K l r ≡ none) × (rule K r l ≡ none)
Silent K (mem h R) (on_eqn rule) = Unit {0}
Silent K (eqn l r) (on_mem rule) = Unit {0}
Silent K (mem h R) (on_mem rule) = rule K h R ≡ none
Silent K l (on_pair rule) = Unit {0}

-- none of the rules applies to l among K
abbrev pub NoRule : Signature → Conj → Literal → Type 0
NoRule σ K l = Each (Silent K l) (rules σ)

placed-nothing : (before behind : Conj) (w : Answer) → placed before behind w ≡ nothing → w ≡ none
placed-nothing before behind none e = refl
placed-nothing before behind (some bs) e = let z : ◌≡◌ {A = ℕ} 0 1 = cc in absurd (omega arith)

idle-silent : (before behind : Conj) (l : Literal) (rule : Rule) → Idle (before ++ (l ∷ behind)) rule → Silent (before ++ behind) l rule
idle-silent before behind (eqn l r) (on_eqn rule) i =
    (placed-nothing before behind (rule (before ++ behind) l r) (i false before (eqn l r) behind refl), placed-nothing before behind (rule (before ++ behind) r l) (i true before (eqn l r) behind refl))
idle-silent before behind (mem h R) (on_eqn rule) i = tt
idle-silent before behind (eqn l r) (on_mem rule) i = tt
idle-silent before behind (mem h R) (on_mem rule) i = placed-nothing before behind (rule (before ++ behind) h R) (i false before (mem h R) behind refl)
idle-silent before behind (eqn l r) (on_pair rule) i = tt
idle-silent before behind (mem h R) (on_pair rule) i = tt

pub at_literal : (σ : Signature) (before behind : Conj) (l : Literal) → step σ (before ++ (l ∷ behind)) ≡ nothing → NoRule σ (before ++ behind) l
at_literal σ before behind l e =
    each-imp (Idle (before ++ (l ∷ behind))) (Silent (before ++ behind) l) (idle-silent before behind l) (rules σ) (step-none σ (before ++ (l ∷ behind)) e)

-- ---- by the rules' names

-- no rule applies to the equation, with l looked at first
pub record QuietEqn (σ : Signature) (K : Conj) (l r : Hedge) : Type 0 where
  pub r1 : R1 K l r ≡ none
  pub f1 : F1 K l r ≡ none
  pub f2 : F2 K l r ≡ none
  pub f3 : F3 K l r ≡ none
  pub f4 : F4 K l r ≡ none
  pub del2 : Del2 σ K l r ≡ none
  pub d1 : D1 σ K l r ≡ none
  pub d2 : D2 K l r ≡ none
  pub d0 : D0 σ K l r ≡ none
  pub e1 : E1 K l r ≡ none
  pub e2 : E2 K l r ≡ none
  pub e3 : E3 K l r ≡ none
  pub e5 : E5 K l r ≡ none
  pub e6 : E6 K l r ≡ none

pub record QuietMem (σ : Signature) (K : Conj) (h : Hedge) (R : Expr) : Type 0 where
  pub r2 : R2 K h R ≡ none
  pub f5 : F5 K h R ≡ none
  pub f6 : F6 K h R ≡ none
  pub f7 : F7 K h R ≡ none
  pub m2 : M2 K h R ≡ none
  pub m4 : M4 K h R ≡ none
  pub m5 : M5 K h R ≡ none
  pub m6 : M6 K h R ≡ none
  pub m11 : M11 σ K h R ≡ none
  pub m12 : M12 σ K h R ≡ none

pub quiet-eqn : (σ : Signature) (K : Conj) (l r : Hedge) → NoRule σ K (eqn l r) → QuietEqn σ K l r × QuietEqn σ K r l
quiet-eqn σ K l r q =
    let (r1, (_, (_, (f1, (f2, (f3, (f4, (_, (_, (_, (_, (del2, (_, (d1, (d2, (d0, (e1, (e2, (e3, (_, (e5, (e6, _)))))))))))))))))))))) = q in (
      record { r1 = r1.0; f1 = f1.0; f2 = f2.0; f3 = f3.0; f4 = f4.0; del2 = del2.0; d1 = d1.0; d2 = d2.0; d0 = d0.0; e1 = e1.0; e2 = e2.0; e3 = e3.0; e5 = e5.0; e6 = e6.0 },
      record { r1 = r1.1; f1 = f1.1; f2 = f2.1; f3 = f3.1; f4 = f4.1; del2 = del2.1; d1 = d1.1; d2 = d2.1; d0 = d0.1; e1 = e1.1; e2 = e2.1; e3 = e3.1; e5 = e5.1; e6 = e6.1 },
    )

pub quiet-mem : (σ : Signature) (K : Conj) (h : Hedge) (R : Expr) → NoRule σ K (mem h R) → QuietMem σ K h R
quiet-mem σ K h R q =
    let (_, (r2, (_, (_, (_, (_, (_, (f5, (f6, (f7, (_, (_, (_, (_, (_, (_, (_, (_, (_, (_, (_, (_, (_, (_, (m2, (_, (m4, (m5, (m6, (_, (_, (m11, (m12, _))))))))))))))))))))))))))))))))) = q in
    record { r2 = r2; f5 = f5; f6 = f6; f7 = f7; m2 = m2; m4 = m4; m5 = m5; m6 = m6; m11 = m11; m12 = m12 }
