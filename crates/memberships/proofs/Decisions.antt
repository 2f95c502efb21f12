-- The tree of decisions finds the first rule at a membership.
use Rattle.rules.specs.Rules.{◌>>=◌}
use mathlib.Core.Path.{◌≡◌, refl}
use mathlib.Core.Bool.{Bool, true, false, not, ◌&&◌, and-true, and-false}
use Rattle.language.specs.declared.Signature.{Signature}
use Rattle.language.specs.Kinds.{pick}
use Rattle.language.specs.Trees.{symbol, fvar, Hedge, ε, tvar, hvar, node, Expr, eps, cat, alt, star, over, Conj, is_unordered, eq_s}
use Rattle.rules.specs.Looks.{empty, has_term, all_terms}
use Rattle.rules.specs.Expressions.{nullable}
use Rattle.rules.specs.Places.{at_r2, at_f5, at_f6, at_f7, at_m1, at_m2, at_m3, at_m4, at_m5, at_m6, at_m10, at_m11, at_m12, no_rule}
use Rattle.rules.specs.Ranks.{mem_rank}
use Rattle.plans.proofs.Ranking.{check-on, lone-on, runs-terms, pick-suc, pick-not, pick-else, pick_other}
use Rattle.memberships.specs.Rank.{rank_in}

-- F5, M2, M11, M12 in the rules' order and in the tree's, whatever is picked
symbol-order : {A : Type 0} (clash more same shuffle rest : A) (e q u a : Bool)
    → pick (e && not q) clash (pick (not e) more (pick (e && (q && not u)) same (pick (e && (q && (u && a))) shuffle rest))) ≡ pick e (pick q (pick u (pick a shuffle rest) same) clash) more
symbol-order clash more same shuffle rest true true true true = refl
symbol-order clash more same shuffle rest true true true false = refl
symbol-order clash more same shuffle rest true true false a = refl
symbol-order clash more same shuffle rest true false u a = refl
symbol-order clash more same shuffle rest false q u a = refl

pub rank-law : (σ : Signature) (K : Conj) (h : Hedge) (R : Expr) → mem_rank σ K h R ≡ rank_in σ h R
unfolding mem_rank ◌>>=◌
rank-law σ K ε R = simp (check-on, lone-on, and-true, and-false, pick-suc) (pick-else (nullable R) at_r2 at_f6 no_rule)
rank-law σ K (tvar x r) eps = simp (check-on, lone-on, and-true, and-false, pick-suc)
rank-law σ K (tvar x r) (cat a b) = simp (check-on, lone-on, and-true, and-false, pick-suc) (pick_other (empty r) at_m2 at_m5 no_rule)
rank-law σ K (tvar x r) (alt a b) = simp (check-on, lone-on, and-true, and-false, pick-suc) (pick_other (empty r) at_m2 at_m6 no_rule)
rank-law σ K (tvar x r) (star a) = simp (check-on, lone-on, and-true, and-false, pick-suc) (pick_other (empty r) at_m2 at_m4 no_rule)
rank-law σ K (tvar x r) (over g a) = simp (check-on, lone-on, and-true, and-false, pick-suc) (pick-not (empty r) at_m2 no_rule)
rank-law σ K (hvar p r) eps = simp (check-on, lone-on, and-true, and-false, pick-suc, runs-terms) (pick-else (has_term r) at_f7 at_m1 no_rule)
rank-law σ K (hvar p r) (cat a b) = simp (check-on, lone-on, and-true, and-false, pick-suc)
rank-law σ K (hvar p r) (alt a b) = simp (check-on, lone-on, and-true, and-false, pick-suc)
rank-law σ K (hvar p r) (star a) = simp (check-on, lone-on, and-true, and-false, pick-suc)
rank-law σ K (hvar p r) (over g a) = simp (check-on, lone-on, and-true, and-false, pick-suc) (pick-not (empty r) at_m3 no_rule)
rank-law σ K (node (symbol f) c r) eps = simp (check-on, lone-on, and-true, and-false, pick-suc)
rank-law σ K (node (fvar X) c r) eps = simp (check-on, lone-on, and-true, and-false, pick-suc)
rank-law σ K (node (symbol f) c r) (cat a b) = simp (check-on, lone-on, and-true, and-false, pick-suc) (pick_other (empty r) at_m2 at_m5 no_rule)
rank-law σ K (node (fvar X) c r) (cat a b) = simp (check-on, lone-on, and-true, and-false, pick-suc) (pick_other (empty r) at_m2 at_m5 no_rule)
rank-law σ K (node (symbol f) c r) (alt a b) = simp (check-on, lone-on, and-true, and-false, pick-suc) (pick_other (empty r) at_m2 at_m6 no_rule)
rank-law σ K (node (fvar X) c r) (alt a b) = simp (check-on, lone-on, and-true, and-false, pick-suc) (pick_other (empty r) at_m2 at_m6 no_rule)
rank-law σ K (node (symbol f) c r) (star a) = simp (check-on, lone-on, and-true, and-false, pick-suc) (pick_other (empty r) at_m2 at_m4 no_rule)
rank-law σ K (node (fvar X) c r) (star a) = simp (check-on, lone-on, and-true, and-false, pick-suc) (pick_other (empty r) at_m2 at_m4 no_rule)
rank-law σ K (node (symbol f) c r) (over g a) = simp (check-on, lone-on, and-true, and-false, pick-suc) (symbol-order at_f5 at_m2 at_m11 at_m12 no_rule (empty r) (eq_s f g) (is_unordered σ f) (all_terms c))
rank-law σ K (node (fvar X) c r) (over g a) = simp (check-on, lone-on, and-true, and-false, pick-suc) (pick_other (empty r) at_m2 at_m10 no_rule)
