-- Of a solved line to which no rule applies: a term variable's expression is a symbol's, and a function variable has none.
use Prim.Native.Nat.{ℕ, ◌+◌}
use mathlib.Core.Path.{◌≡◌, refl, ap, ◌∙◌}
use mathlib.Core.Bool.{Bool, true, false}
use mathlib.Core.List.{[], ◌∷◌, ◌++◌, append_assoc}
use mathlib.Core.Option.{Option, none, some}
use native.Mathlib.Omega.{arith}
use Rattle.language.specs.declared.TermVar.{TermVar}
use Rattle.language.specs.declared.FunVar.{FunVar}
use Rattle.language.specs.declared.Sym.{Sym}
use Rattle.language.specs.declared.Signature.{Signature}
use Rattle.language.specs.Kinds.{pick}
use Rattle.language.specs.Trees.{Hedge, ε, tvar, hvar, node, Expr, over, eqn, mem, Conj, Var, tv, hv, fv, holds}
use Rattle.language.proofs.Bools.{both_true}
use Rattle.rules.specs.Reply.{nothing}
use Rattle.rules.specs.Step.{step}
use Rattle.rules.specs.Looks.{empty}
use Rattle.rules.specs.Solved.{given, lone_var, only_member, solved_literal, solved_from, solved}
use Rattle.rules.specs.Example.{expression_of}
use Rattle.lines.proofs.Quiet.{quiet-mem, at_literal}
use Rattle.lines.proofs.Example.{over-only}
use Rattle.values.specs.Values.{Settled}

-- ---- a membership

nothing-after : (K : Conj) (r : Hedge) (v : Var) → only_member K (given (empty r) v) ≡ true → r ≡ ε
nothing-after K ε v e = refl
nothing-after K (tvar x r) v e = absurd (let z : ◌≡◌ {A = ℕ} 0 1 = cc in omega arith)
nothing-after K (hvar p r) v e = absurd (let z : ◌≡◌ {A = ℕ} 0 1 = cc in omega arith)
nothing-after K (node f c r) v e = absurd (let z : ◌≡◌ {A = ℕ} 0 1 = cc in omega arith)

-- the hedge of a solved membership that holds a term variable is that variable alone
holds-term : (K : Conj) (h : Hedge) (x : TermVar) → only_member K (lone_var h) ≡ true → holds (tv x) h ≡ true → (y : TermVar) × (h ≡ tvar y ε)
holds-term K ε x e t = absurd (let z : ◌≡◌ {A = ℕ} 0 1 = cc in omega arith)
holds-term K (tvar y r) x e t = (y, ap (tvar y) (nothing-after K r (tv y) e))
holds-term K (hvar p r) x e t = absurd (let r-is = nothing-after K r (hv p) e in let u : holds (tv x) (hvar p ε) ≡ true = rw r-is at t in let z : ◌≡◌ {A = ℕ} 0 1 = cc in omega arith)
holds-term K (node f c r) x e t = absurd (let z : ◌≡◌ {A = ℕ} 0 1 = cc in omega arith)

-- and holds no function variable
holds-name : (K : Conj) (h : Hedge) (X : FunVar) → only_member K (lone_var h) ≡ true → holds (fv X) h ≡ false
holds-name K ε X e = refl
holds-name K (tvar y r) X e = rw (nothing-after K r (tv y) e) refl
holds-name K (hvar p r) X e = rw (nothing-after K r (hv p) e) refl
holds-name K (node f c r) X e = absurd (let z : ◌≡◌ {A = ℕ} 0 1 = cc in omega arith)

-- ---- the line

-- by whether the variable stands in the first membership
by-held : (b : Bool) (R S : Expr) (m : Option Expr) (P : Expr → Type 0) → pick b (some R) m ≡ some S → (b ≡ true → P R) → (m ≡ some S → P S) → P S
by-held true R S m P e f g = let z : R ≡ S = cc in rw z at (f refl)
by-held false R S m P e f g = g e

abbrev Over : Expr → Type 0
Over R = (f : Sym) × (S : Expr) × (R ≡ over f S)

terms-from : (σ : Signature) (x : TermVar) (before behind : Conj) → solved_from before behind ≡ true → step σ (before ++ behind) ≡ nothing → (R : Expr) → expression_of (tv x) behind ≡ some R → Over R
terms-from σ x before [] t q R e = absurd (let z : ◌≡◌ {A = ℕ} 0 1 = cc in omega arith)
terms-from σ x before (eqn l r ∷ behind) t q R e =
    let s = both_true (solved_literal (before ++ behind) (eqn l r)) (solved_from (before ++ (eqn l r ∷ [])) behind) t in
    terms-from σ x (before ++ (eqn l r ∷ [])) behind s.1 (ap (step σ) (append_assoc before (eqn l r ∷ []) behind) ∙ q) R e
terms-from σ x before (mem h S ∷ behind) t q R e =
    let s = both_true (solved_literal (before ++ behind) (mem h S)) (solved_from (before ++ (mem h S ∷ [])) behind) t in
    by-held (holds (tv x) h) S R (expression_of (tv x) behind) Over e
    (λ u. first (holds-term (before ++ behind) h x s.0 u))
    (λ d. terms-from σ x (before ++ (mem h S ∷ [])) behind s.1 (ap (step σ) (append_assoc before (mem h S ∷ []) behind) ∙ q) R d)
  where
    first : (y : TermVar) × (h ≡ tvar y ε) → Over S
    first (y, d) = over-only σ (before ++ behind) y S (rw d at (quiet-mem σ (before ++ behind) h S (at_literal σ before behind (mem h S) q)))

names-from : (X : FunVar) (before behind : Conj) → solved_from before behind ≡ true → expression_of (fv X) behind ≡ none
names-from X before [] t = refl
names-from X before (eqn l r ∷ behind) t =
    let s = both_true (solved_literal (before ++ behind) (eqn l r)) (solved_from (before ++ (eqn l r ∷ [])) behind) t in
    names-from X (before ++ (eqn l r ∷ [])) behind s.1
names-from X before (mem h S ∷ behind) t =
    let s = both_true (solved_literal (before ++ behind) (mem h S)) (solved_from (before ++ (mem h S ∷ [])) behind) t in
    ap (λ b. pick b (some S) (expression_of (fv X) behind)) (holds-name (before ++ behind) h X s.0) ∙ names-from X (before ++ (mem h S ∷ [])) behind s.1

pub settled-line : (σ : Signature) (c : Conj) → step σ c ≡ nothing → solved c ≡ true → Settled c
unfolding solved
settled-line σ c q t = record { terms = λ x R e. terms-from σ x [] c t q R e; names = λ X. names-from X [] c t }
