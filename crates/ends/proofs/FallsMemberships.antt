-- Each rule of memberships, wherever it applies.
use Prim.Native.Nat.{ℕ, zero, suc, ◌+◌, ◌<◌}
use mathlib.Core.Path.{◌≡◌, refl, ap, ◌∙◌}
use mathlib.Core.Logic.{inl, inr}
use mathlib.Core.Bool.{Bool, true, false}
use native.Mathlib.Omega.{arith}
use Rattle.language.specs.declared.Signature.{Signature}
use Rattle.language.specs.Trees.{symbol, fvar, Hedge, ε, tvar, hvar, node, Expr, cat, alt, star, mem, Conj, ◌⧺◌, Var, fv, holds}
use Rattle.rules.specs.Looks.{empty, first_term, first_run, lone_term, lone_node, as_symbol, as_blank, as_cat, as_alt, as_star, as_over}
use Rattle.rules.specs.Elements.{orders}
use Rattle.rules.specs.Expressions.{Monomial, linear}
use Rattle.rules.specs.Rules.{vanish, monomial_result, order_member}
use Rattle.rules.specs.Rules as rules
use Rattle.rules.proofs.Each.{each_map, each_all}
use Rattle.rules.proofs.Answers.{look, test, answers}
use Rattle.rules.proofs.Looks.{lone_node-is, first_run-is, as_symbol-is, as_blank-is, as_cat-is, as_alt-is, as_star-is, as_over-is}
use Rattle.ends.specs.Measure.{one, occ, places, odd, hedges}
use Rattle.ends.proofs.Sums.{places-⧺, odd-on, odd-apart, expr-weighs, holds-counted, places-some}
use Rattle.ends.proofs.Putting.{emptied-leaves, emptied-lighter}
use Rattle.ends.proofs.Falls.{LeftAlone, Falls, FallsMem, orders-places}
use Rattle.ends.proofs.FallsEquations.{not-true, first-is}
use Rattle.ends.proofs.FallsEliminations.{term_is, self, other, settles-name, minds-name}

-- no variable is a side of a membership
free : (K : Conj) (h : Hedge) (R : Expr) → LeftAlone K (mem h R)
free K h R v = inl refl

pub R2-falls : FallsMem rules.R2
R2-falls K h R = test _ λ _ _. test _ λ _ _. answers ((free K h R, inr (omega arith, expr-weighs R)), tt)

vanish-equations : (h : Hedge) → hedges (vanish h) ≡ 0
vanish-equations ε = refl
vanish-equations (tvar x r) = vanish-equations r
vanish-equations (hvar p r) = let z = vanish-equations r in omega arith
vanish-equations (node f c r) = vanish-equations r

odd-some : (n : ℕ) → 0 < n → 0 < odd n
odd-some zero h = omega arith
odd-some (suc n) h = omega arith

pub M1-falls : FallsMem rules.M1
M1-falls K h R = test _ λ _ n. test _ λ _ _. test _ λ _ _. answers (
  (
    free K h R,
    (λ v e. emptied-leaves v h (not_there v e), λ y. refl),
    inr (record {
      equations = vanish-equations h;
      nothing-else = refl;
      weighed = odd-some (places h) (places-some h (not-true (empty h) n));
      shorter = emptied-lighter h;
    }),
  ),
  tt,
)
  where
    not_there : (v : Var) → occ v h ≡ 0 → holds v h ≡ false
    not_there v e = go (holds v h) refl
      where
        go : (b : Bool) → holds v h ≡ b → b ≡ false
        go true d = absurd (let z = holds-counted v h in let y = ap one d in omega arith)
        go false d = refl

pub M2-falls : FallsMem rules.M2
M2-falls K h R =
    look (first_term h) (first-is h) λ a p. test _ λ _ n. test _ λ _ _.
    answers (each_map (λ (m : Monomial). Unit {0}) (Falls K (mem h R)) (monomial_result a.0 a.1)
    (λ m _. (
      free K h R,
      inl (
          let z = odd-apart (places a.0) (places a.1) p.3 (places-some a.1 (not-true _ n)) in
          let y = ap odd (ap places p.0 ∙ places-⧺ a.0 a.1) in
          omega arith),
    ))
    (linear R) (each_all (λ (m : Monomial). Unit {0}) (λ m. tt) (linear R)))

pub M3-falls : FallsMem rules.M3
M3-falls K h R =
    look (first_run h) (first_run-is h) λ a d. test _ λ _ n. look (as_over R) (as_over-is R) λ g e.
    rw d
    (let w = places-some a.1 (not-true _ n) in
    let y = odd-on 1 (suc (places a.1)) (omega arith) in
    let z = odd-on (places a.1) (suc (places a.1)) (omega arith) in
    answers ((free K (hvar a.0 a.1) R, inl (omega arith)), ((free K (hvar a.0 a.1) R, inl (omega arith)), tt)))

pub M4-falls : FallsMem rules.M4
M4-falls K h R = look (lone_term h) (term_is h) λ t d. look (as_star R) (as_star-is R) λ S e.
    rw (d.0, e) (answers ((free K t (star S), inr (omega arith, omega arith)), tt))

pub M5-falls : FallsMem rules.M5
M5-falls K h R = look (lone_term h) (term_is h) λ t d. look (as_cat R) (as_cat-is R) λ S e.
    rw (d.0, e) (answers ((free K t (cat S.0 S.1), inr (omega arith, omega arith)), ((free K t (cat S.0 S.1), inr (omega arith, omega arith)), tt)))

pub M6-falls : FallsMem rules.M6
M6-falls K h R = look (lone_term h) (term_is h) λ t d. look (as_alt R) (as_alt-is R) λ S e.
    rw (d.0, e) (let x = expr-weighs S.0 in let y = expr-weighs S.1 in
    answers ((free K t (alt S.0 S.1), inr (omega arith, omega arith)), ((free K t (alt S.0 S.1), inr (omega arith, omega arith)), tt)))

pub M7-falls : FallsMem rules.M7
M7-falls K h R = look (first_run h) (first_run-is h) λ a d. look (as_alt R) (as_alt-is R) λ S e.
    rw e (let x = expr-weighs S.0 in let y = expr-weighs S.1 in
    answers ((free K h (alt S.0 S.1), inr (omega arith, omega arith)), ((free K h (alt S.0 S.1), inr (omega arith, omega arith)), tt)))

pub M10-falls : FallsMem rules.M10
M10-falls K h R =
    look (lone_node h) (lone_node-is h) λ a d. look (as_blank a.0) (as_blank-is a.0) λ X s. look (as_over R) (as_over-is R) λ g e.
    rw (d, s) (answers (
      (
        free K (node (fvar X) a.1 ε) R,
        minds-name (mem (node (fvar X) a.1 ε) R) X (symbol g.0) (λ v z. other v (fv X) 0 (omega arith)),
        inl (settles-name K (mem (node (fvar X) a.1 ε) R) X (symbol g.0) refl (let z = self (fv X) in omega arith) (inl (let z = self (fv X) in omega arith))),
      ),
      tt,
    ))

pub M11-falls : (σ : Signature) → FallsMem (rules.M11 σ)
M11-falls σ K h R =
    look (lone_node h) (lone_node-is h) λ a d. look (as_symbol a.0) (as_symbol-is a.0) λ f s. look (as_over R) (as_over-is R) λ g e.
    test _ λ _ _. test _ λ _ _.
    rw d (answers ((free K (node a.0 a.1 ε) R, inl (let z = odd-on (places a.1) (suc (places a.1 + 0)) (omega arith) in omega arith)), tt))

pub M12-falls : (σ : Signature) → FallsMem (rules.M12 σ)
M12-falls σ K h R =
    look (lone_node h) (lone_node-is h) λ a d. look (as_symbol a.0) (as_symbol-is a.0) λ f s. look (as_over R) (as_over-is R) λ g e.
    test _ λ _ _. test _ λ _ _. test _ λ _ _.
    rw d (answers (each_map (λ k. places k ≡ places a.1) (Falls K (mem (node a.0 a.1 ε) R)) (order_member g.1)
    (λ k w. (free K (node a.0 a.1 ε) R, inl (let z = odd-on (places k) (suc (places a.1 + 0)) (omega arith) in omega arith))) (orders a.1) (orders-places a.1)))
