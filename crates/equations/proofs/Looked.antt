-- What a look says of the hedge, for a fact about every hedge that looks so.
use Prim.Native.Nat.{ℕ}
use native.Mathlib.Omega.{arith}
use mathlib.Core.Path.{◌≡◌, ap, ◌∙◌, subst}
use mathlib.Core.Bool.{Bool, ◌&&◌}
use Rattle.language.specs.declared.TermVar.{TermVar}
use Rattle.language.specs.declared.HedgeVar.{HedgeVar}
use Rattle.language.specs.declared.FunVar.{FunVar}
use Rattle.language.specs.declared.Sym.{Sym}
use Rattle.language.specs.declared.Name.{Name}
use Rattle.language.specs.declared.Name.TheVariants.{Symbol, Blank}
use Rattle.language.specs.Trees.{Functor, symbol, fvar, Hedge, ε, tvar, hvar, node}
use Rattle.rules.specs.Looks.{empty}
use Rattle.views.specs.declared.Look.TheVariants.{Empty, Term, Run, Node}
use Rattle.views.specs.Looks.{name_of, look_of}

-- two tests at once
pub both : {a b x y t : Bool} → t ≡ (a && b) → a ≡ x → b ≡ y → t ≡ (x && y)
both {a} {b} {x} {y} {t} r p q = r ∙ ap (λ (z : Bool). z && b) p ∙ ap (λ (z : Bool). x && z) q

-- what holds of every hedge that begins so holds of h
pub at-term : (P : Hedge → Type 0) (h : Hedge) {x : TermVar} {lone : Bool} → Term x lone ≡ look_of h → ((r : Hedge) → lone ≡ empty r → P (tvar x r)) → P h
at-term P ε e k = absurd (let z : ◌≡◌ {A = ℕ} 0 1 = cc in omega arith)
at-term P (tvar y r) {x} e k = let i : x ≡ y = cc in subst (λ y. P (tvar y r)) i (k r cc)
at-term P (hvar p r) e k = absurd (let z : ◌≡◌ {A = ℕ} 0 1 = cc in omega arith)
at-term P (node f c r) e k = absurd (let z : ◌≡◌ {A = ℕ} 0 1 = cc in omega arith)

pub at-run : (P : Hedge → Type 0) (h : Hedge) {p : HedgeVar} {lone : Bool} → Run p lone ≡ look_of h → ((r : Hedge) → lone ≡ empty r → P (hvar p r)) → P h
at-run P ε e k = absurd (let z : ◌≡◌ {A = ℕ} 0 1 = cc in omega arith)
at-run P (tvar x r) e k = absurd (let z : ◌≡◌ {A = ℕ} 0 1 = cc in omega arith)
at-run P (hvar q r) {p} e k = let i : p ≡ q = cc in subst (λ q. P (hvar q r)) i (k r cc)
at-run P (node f c r) e k = absurd (let z : ◌≡◌ {A = ℕ} 0 1 = cc in omega arith)

pub at-node : (P : Hedge → Type 0) (h : Hedge) {f : Name} {lone bare : Bool} → Node f lone bare ≡ look_of h
    → ((F : Functor) (c r : Hedge) → f ≡ name_of F → lone ≡ empty r → bare ≡ empty c → P (node F c r)) → P h
at-node P ε e k = absurd (let z : ◌≡◌ {A = ℕ} 0 1 = cc in omega arith)
at-node P (tvar x r) e k = absurd (let z : ◌≡◌ {A = ℕ} 0 1 = cc in omega arith)
at-node P (hvar p r) e k = absurd (let z : ◌≡◌ {A = ℕ} 0 1 = cc in omega arith)
at-node P (node F c r) e k = k F c r (cc) (cc) (cc)

-- and of every functor of that name
pub at_symbol : (P : Functor → Type 0) (F : Functor) {f : Sym} → Symbol f ≡ name_of F → P (symbol f) → P F
at_symbol P (symbol g) {f} e k = let i : f ≡ g = cc in subst (λ g. P (symbol g)) i k
at_symbol P (fvar X) e k = absurd (let z : ◌≡◌ {A = ℕ} 0 1 = cc in omega arith)

pub at-blank : (P : Functor → Type 0) (F : Functor) {X : FunVar} → Blank X ≡ name_of F → P (fvar X) → P F
at-blank P (symbol g) e k = absurd (let z : ◌≡◌ {A = ℕ} 0 1 = cc in omega arith)
at-blank P (fvar Y) {X} e k = let i : X ≡ Y = cc in subst (λ Y. P (fvar Y)) i k

pub at-empty : (P : Hedge → Type 0) (h : Hedge) → Empty ≡ look_of h → P ε → P h
at-empty P ε e k = k
at-empty P (tvar x r) e k = absurd (let z : ◌≡◌ {A = ℕ} 0 1 = cc in omega arith)
at-empty P (hvar p r) e k = absurd (let z : ◌≡◌ {A = ℕ} 0 1 = cc in omega arith)
at-empty P (node f c r) e k = absurd (let z : ◌≡◌ {A = ℕ} 0 1 = cc in omega arith)

-- a test beside another
pub both-on : {a x t : Bool} (u : Bool) → t ≡ (a && u) → a ≡ x → t ≡ (x && u)
both-on {a} {x} {t} u r p = r ∙ ap (λ (z : Bool). z && u) p
