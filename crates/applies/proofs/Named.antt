-- A question by the place of a rule: the test of that place answers it, and at a place without a test no rule does.
use Prim.Native.Nat.{ℕ, zero, suc, ◌+◌}
use native.Mathlib.Omega.{arith}
use mathlib.Core.Path.{◌≡◌, refl, sym, ap, ◌∙◌}
use mathlib.Core.Bool.{Bool, true, false}
use mathlib.Core.List.{List, [], ◌∷◌, ◌++◌}
use Rattle.language.specs.declared.Signature.{Signature}
use Rattle.language.specs.Trees.{Hedge, Expr, Conj}
use Rattle.rules.specs.Rules.{Answer, Rule, on_eqn, on_mem, on_pair, rules}
use Rattle.rules.specs.Solved.{is_some}
use Rattle.rules.specs.Ranks.{at_eqn, at_mem, answer_at, eqn_answer, mem_answer}
use Rattle.views.specs.declared.View.{View}
use Rattle.views.specs.declared.Shape.{Shape}
use Rattle.views.specs.Views.{Sees, Shows}
use Rattle.applies.specs.Tests.{EqTest, Asks, InTest, AsksIn}

-- ---- a place that is known: what the test of its rule says of the trees that stand there

pub asks : (σ : Signature) {n : ℕ} {k : List ℕ} {v : View} {b : Bool} (m : ℕ) (test : EqTest) → ((K : Conj) (l r : Hedge) → is_some (eqn_answer σ m K l r) ≡ test K l r) → n ≡ m → Asks test k v b
    → (before behind : Conj) (l r : Hedge) → Sees k v before l r behind → b ≡ is_some (eqn_answer σ n (before ++ behind) l r)
asks σ m test law e d before behind l r w = d before behind l r w ∙ sym (law (before ++ behind) l r) ∙ ap (λ i. is_some (eqn_answer σ i (before ++ behind) l r)) (sym e)

pub asks-in : (σ : Signature) {n : ℕ} {k : List ℕ} {s : Shape} {b : Bool} (m : ℕ) (test : InTest) → ((K : Conj) (h : Hedge) (R : Expr) → is_some (mem_answer σ m K h R) ≡ test h R) → n ≡ m → AsksIn test k s b
    → (before : Conj) (h : Hedge) (R : Expr) (behind : Conj) → Shows k s before h R behind → b ≡ is_some (mem_answer σ n (before ++ behind) h R)
asks-in σ m test law e d before h R behind w = d before h R behind w ∙ sym (law (before ++ behind) h R) ∙ ap (λ i. is_some (mem_answer σ i (before ++ behind) h R)) (sym e)

-- ---- a place that is none of the rules asked for

abbrev pub of_eqn : Rule → Bool
of_eqn (on_eqn rule) = true
of_eqn (on_mem rule) = false
of_eqn (on_pair rule) = false

abbrev pub of_mem : Rule → Bool
of_mem (on_eqn rule) = false
of_mem (on_mem rule) = true
of_mem (on_pair rule) = false

abbrev pub only : Bool → Type 0 → Type 0 → Type 0
only true A B = A × B
only false A B = B

-- n is not the place of one that is asked for among these, which begin at i
abbrev pub Away : (Rule → Bool) → List Rule → ℕ → ℕ → Type 0
Away asked [] n i = Unit {0}
Away asked (rule ∷ rs) n i = only (asked rule) (n ≡ i → ⊥) (Away asked rs n (suc i))

first : (A B : Type 0) (b : Bool) {t : Bool} → (b ≡ false → t ≡ false) → A → only b (A → ⊥) B → t ≡ false
first A B true q a o = absurd (o.0 a)
first A B false q a o = q refl

others : (A B : Type 0) (b : Bool) → only b A B → B
others A B true o = o.1
others A B false o = o

silent : (asked : Rule → Bool) (at : Rule → Answer) → ((rule : Rule) → asked rule ≡ false → is_some (at rule) ≡ false) → (rs : List Rule) (n i m : ℕ) → n ≡ i + m → Away asked rs n i → is_some (answer_at at rs m) ≡ false
silent asked at q [] n i m e a = refl
silent asked at q (rule ∷ rs) n i zero e a = first (n ≡ i) (Away asked rs n (suc i)) (asked rule) (q rule) (omega arith) a
silent asked at q (rule ∷ rs) n i (suc m) e a = silent asked at q rs n (suc i) m (omega arith) (others (n ≡ i → ⊥) (Away asked rs n (suc i)) (asked rule) a)

not-true : {A : Type 0} → true ≡ false → A
not-true e = absurd (let z : ◌≡◌ {A = ℕ} 0 1 = cc in omega arith)

quiet-eqn : (K : Conj) (l r : Hedge) (rule : Rule) → of_eqn rule ≡ false → is_some (at_eqn rule K l r) ≡ false
quiet-eqn K l r (on_eqn rule) e = not-true e
quiet-eqn K l r (on_mem rule) e = refl
quiet-eqn K l r (on_pair rule) e = refl

quiet-mem : (K : Conj) (h : Hedge) (R : Expr) (rule : Rule) → of_mem rule ≡ false → is_some (at_mem rule K h R) ≡ false
quiet-mem K h R (on_eqn rule) e = refl
quiet-mem K h R (on_mem rule) e = not-true e
quiet-mem K h R (on_pair rule) e = refl

pub no-equation : (σ : Signature) (K : Conj) (l r : Hedge) (n : ℕ) → Away of_eqn (rules σ) n 0 → false ≡ is_some (eqn_answer σ n K l r)
unfolding eqn_answer
no-equation σ K l r n a = sym (silent of_eqn (λ rule. at_eqn rule K l r) (quiet-eqn K l r) (rules σ) n 0 n (omega arith) a)

pub no-membership : (σ : Signature) (K : Conj) (h : Hedge) (R : Expr) (n : ℕ) → Away of_mem (rules σ) n 0 → false ≡ is_some (mem_answer σ n K h R)
unfolding mem_answer
no-membership σ K h R n a = sym (silent of_mem (λ rule. at_mem rule K h R) (quiet-mem K h R) (rules σ) n 0 n (omega arith) a)
