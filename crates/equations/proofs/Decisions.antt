-- The tree of decisions finds the first rule at an equation.
use Prim.Native.Nat.{ℕ}
use mathlib.Core.Path.{◌≡◌, refl, ap}
use native.Mathlib.Omega.{arith}
use mathlib.Core.Bool.{Bool, true, false, not, ◌&&◌, ◌||◌, and-true, and-false}
use mathlib.Core.Option.{Option, none, some}
use Rattle.language.specs.declared.Signature.{Signature}
use Rattle.language.specs.Kinds.{pick}
use Rattle.language.specs.Trees.{symbol, fvar, Hedge, ε, tvar, hvar, node, Conj, is_unordered, any_unordered, eq_t, eq_h, eq_s, eq_x, same_words, tv, hv, fv, holds, in_conj}
use Rattle.language.specs.declared.HedgeVar.{HedgeVar}
use Rattle.rules.specs.Looks.{empty, has_term, all_terms, under, onto, around, inside, up_to, lone}
use Rattle.rules.specs.Elements.{struck}
use Rattle.rules.specs.Rules.{◌>>=◌, too}
use Rattle.rules.specs.Solved.{is_some}
use Rattle.rules.specs.Places.{at_r1, at_f1, at_f2, at_f3, at_del1, at_del2, at_del3, at_d1, at_d2, at_d0, at_e1, at_e2, at_e3, at_e4, at_e5, at_e6, at_e7, no_rule}
use Rattle.rules.specs.Ranks.{eqn_rank}
use Rattle.plans.proofs.Ranking.{check-on, lone-on, none-on, bind-on, pick-suc, pick-not}
use Rattle.equations.specs.Rank.{rank_of}

-- what stands inside is held
onto-on : (q : Hedge → Hedge) (m : Option (Hedge × Hedge)) → is_some (onto q m) ≡ is_some m
onto-on q none = refl
onto-on q (some a) = refl

abbrev Held : Bool → Bool → Type 0
Held i h = i ≡ h && i

-- a larger test holds too
more : (a b i : Bool) → Held i b → Held i (a || b)
more true b i e = refl
more false b i e = e

pick-on : {A : Type 0} (a : Bool) (x : A) (o : Option A) → is_some (pick a (some x) o) ≡ a || is_some o
pick-on true x o = refl
pick-on false x o = refl

or-held : (a b i : Bool) → Held i b → Held (a || i) (a || b)
or-held true b i e = refl
or-held false b i e = e

around-held : (p : HedgeVar) (r : Hedge) → Held (is_some (around p r)) (holds (hv p) r)
around-held p ε = refl
around-held p (tvar y t) = rw (onto-on (tvar y) (around p t)) (around-held p t)
around-held p (hvar q t) = rw (pick-on (eq_h p q) (ε, t) (onto (hvar q) (around p t)), onto-on (hvar q) (around p t)) (or-held (eq_h p q) (holds (hv p) t) (is_some (around p t)) (around-held p t))
around-held p (node (symbol g) d t) = rw (onto-on (node (symbol g) d) (around p t)) (more (holds (hv p) d) (holds (hv p) t) (is_some (around p t)) (around-held p t))
around-held p (node (fvar Y) d t) = rw (onto-on (node (fvar Y) d) (around p t)) (more (holds (hv p) d) (holds (hv p) t) (is_some (around p t)) (around-held p t))

inside-held : (p : HedgeVar) (r : Hedge) → Held (is_some (inside p r)) (holds (hv p) r)
inside-held p ε = refl
inside-held p (tvar y t) = rw (onto-on (tvar y) (around p t)) (around-held p t)
inside-held p (hvar q t) = rw (onto-on (hvar q) (around p t)) (more (eq_h p q) (holds (hv p) t) (is_some (around p t)) (around-held p t))
inside-held p (node (symbol g) d t) = rw (onto-on (node (symbol g) d) (around p t)) (more (holds (hv p) d) (holds (hv p) t) (is_some (around p t)) (around-held p t))
inside-held p (node (fvar Y) d t) = rw (onto-on (node (fvar Y) d) (around p t)) (more (holds (hv p) d) (holds (hv p) t) (is_some (around p t)) (around-held p t))

-- ---- the tests in the rules' order and in the tree's, whatever is picked

var-order : {A : Type 0} (part bind rest : A) (e t q k : Bool) → pick (not (e && t)) part (pick (e && (t && (not (q || false) && k))) bind rest) ≡ pick (e && t) (pick (not q && k) bind rest) part
var-order part bind rest true true true k = refl
var-order part bind rest true true false k = refl
var-order part bind rest true false q k = refl
var-order part bind rest false t q k = refl

node-order : {A : Type 0} (fails part bind rest : A) (e t h u k : Bool)
    → pick (e && (h || u)) fails (pick (not (e && t)) part (pick (e && (t && (not (h || false) && k))) bind rest)) ≡ pick (e && (h || u)) fails (pick (e && t) (pick k bind rest) part)
node-order fails part bind rest true true true u k = refl
node-order fails part bind rest true true false u k = refl
node-order fails part bind rest true false true u k = refl
node-order fails part bind rest true false false u k = refl
node-order fails part bind rest false t h u k = refl

empty-order : {A : Type 0} (bind cut rest : A) (e k : Bool) → pick (e && k) bind (pick (not e) cut rest) ≡ pick e (pick k bind rest) cut
empty-order bind cut rest true k = refl
empty-order bind cut rest false k = refl

-- a run against a hedge that begins with a term
run-order : {A : Type 0} (fails strike bind cut upto rest : A) (e h i k a u : Bool) → Held i h
    → pick (e && h) fails (pick (e && i) strike (pick (e && (not h && k)) bind (pick (not e && (a && not h)) cut (pick (not e && u) upto rest))))
    ≡ pick e (pick h fails (pick k bind rest)) (pick (a && not h) cut (pick u upto rest))
run-order fails strike bind cut upto rest true true i k a u d = refl
run-order fails strike bind cut upto rest true false i k a u d = rw d
run-order fails strike bind cut upto rest false h i k a u d = refl

-- a run against a hedge that begins with a run
runs-order : {A : Type 0} (fails strike same next bind rest : A) (q w e m h i k : Bool) → Held i (q || h)
    → pick (q && w) same (pick (e && (m && (q || h))) fails (pick q next (pick (e && i) strike (pick (e && (not (q || h) && k)) bind rest))))
    ≡ pick q (pick w same (pick (e && m) fails next)) (pick e (pick (q || h) (pick m fails (pick i strike rest)) (pick k bind rest)) rest)
runs-order fails strike same next bind rest true w e m h i k d = ap (λ x. pick w same (pick (e && x) fails next)) (and-true m)
runs-order fails strike same next bind rest false w true m true i k d = ap (λ x. pick x fails (pick i strike rest)) (and-true m)
runs-order fails strike same next bind rest false w true m false i k d = rw (d, and-false m)
runs-order fails strike same next bind rest false w false m h i k d = refl

-- an equal symbol: m where something is shared, a where there are terms alone
symbols-order : {A : Type 0} (clash strike shuffle part same rest : A) (e t q u m a : Bool)
    → pick (e && (t && not q)) clash (pick (e && (t && (q && (u && m)))) strike (pick (e && (t && (q && (u && (a && not m))))) shuffle (pick (not (e && t)) part (pick (e && (t && (q && not u))) same rest))))
    ≡ pick (e && t) (pick q (pick u (pick m strike (pick a shuffle rest)) same) clash) part
symbols-order clash strike shuffle part same rest true true true true true a = refl
symbols-order clash strike shuffle part same rest true true true true false true = refl
symbols-order clash strike shuffle part same rest true true true true false false = refl
symbols-order clash strike shuffle part same rest true true true false m a = refl
symbols-order clash strike shuffle part same rest true true false u m a = refl
symbols-order clash strike shuffle part same rest true false q u m a = refl
symbols-order clash strike shuffle part same rest false t q u m a = refl

blank-order : {A : Type 0} (part next bind rest : A) (e t c d k : Bool)
    → pick (not (e && t)) part (pick (e && (t && (c && (d && k)))) bind (pick (e && (t && not (c && d))) next rest)) ≡ pick (e && t) (pick (c && d) (pick k bind rest) next) part
blank-order part next bind rest true true true true k = refl
blank-order part next bind rest true true true false k = refl
blank-order part next bind rest true true false d k = refl
blank-order part next bind rest true false c d k = refl
blank-order part next bind rest false t c d k = refl

-- w where the children have the same words, m where what follows has; where nothing follows, that has
blanks-order : {A : Type 0} (removed part same next bind every rest : A) (e t c d q k w m u : Bool) → Held (e && t) m
    → pick (q && w && m) removed (pick (not (e && t)) part (pick (e && (t && (q && not u))) same (pick (e && (t && (c && (d && (not q && k))))) bind (pick (e && (t && (not (c && d) && not q))) next (pick (e && (t && (q && (not w && u)))) every rest)))))
    ≡ pick (q && w && m) removed (pick (e && t) (pick q (pick u every same) (pick (c && d) (pick k bind rest) next)) part)
blanks-order removed part same next bind every rest true true c d true k true true u h = refl
blanks-order removed part same next bind every rest true true c d true k true false u h = absurd (let z : ◌≡◌ {A = ℕ} 0 1 = cc in omega arith)
blanks-order removed part same next bind every rest true true true true true k false m true h = refl
blanks-order removed part same next bind every rest true true true true true k false m false h = refl
blanks-order removed part same next bind every rest true true true false true k false m true h = refl
blanks-order removed part same next bind every rest true true true false true k false m false h = refl
blanks-order removed part same next bind every rest true true false d true k false m true h = refl
blanks-order removed part same next bind every rest true true false d true k false m false h = refl
blanks-order removed part same next bind every rest true true true true false k w m u h = refl
blanks-order removed part same next bind every rest true true true false false k w m u h = refl
blanks-order removed part same next bind every rest true true false d false k w m u h = refl
blanks-order removed part same next bind every rest true false c d q k w m u h = refl
blanks-order removed part same next bind every rest false t c d q k w m u h = refl

-- nothing is the same as nothing
never : (b : Bool) → Held false b
never true = refl
never false = refl

ends_same : (s t : Hedge) → Held (empty s && empty t) (same_words s t)
ends_same ε ε = refl
ends_same ε (tvar y t) = refl
ends_same ε (hvar q t) = refl
ends_same ε (node g d t) = refl
ends_same (tvar x s) t = never (same_words (tvar x s) t)
ends_same (hvar p s) t = never (same_words (hvar p s) t)
ends_same (node f c s) t = never (same_words (node f c s) t)

pub rank-law : (σ : Signature) (K : Conj) (l r : Hedge) → eqn_rank σ K l r ≡ rank_of σ K l r
unfolding eqn_rank ◌>>=◌
rank-law σ K ε ε = simp (check-on, lone-on, bind-on, and-true, and-false, pick-suc)
rank-law σ K ε (tvar y t) = simp (check-on, lone-on, bind-on, and-true, and-false, pick-suc)
rank-law σ K ε (hvar q t) = simp (check-on, lone-on, bind-on, and-true, and-false, pick-suc)
rank-law σ K ε (node (symbol g) d t) = simp (check-on, lone-on, bind-on, and-true, and-false, pick-suc)
rank-law σ K ε (node (fvar Y) d t) = simp (check-on, lone-on, bind-on, and-true, and-false, pick-suc)
rank-law σ K (tvar x s) ε = simp (check-on, lone-on, bind-on, and-true, and-false, pick-suc)
rank-law σ K (tvar x s) (tvar y t) = simp (check-on, lone-on, bind-on, and-true, and-false, pick-suc) (ap (λ z. pick (eq_t x y && same_words s t) at_r1 (pick (empty s && under (tv x) t) at_f1 z)) (var-order at_d2 at_e1 no_rule (empty s) (empty t) (eq_t x y) (in_conj (tv x) K && in_conj (tv y) K)))
rank-law σ K (tvar x s) (hvar q t) = simp (check-on, lone-on, bind-on, and-true, and-false, pick-suc)
rank-law σ K (tvar x s) (node (symbol g) d t) = simp (check-on, lone-on, bind-on, and-true, and-false, pick-suc) (node-order at_f1 at_d2 at_e1 no_rule (empty s) (empty t) (holds (tv x) d) (under (tv x) t) (in_conj (tv x) K))
rank-law σ K (tvar x s) (node (fvar Y) d t) = simp (check-on, lone-on, bind-on, and-true, and-false, pick-suc) (node-order at_f1 at_d2 at_e1 no_rule (empty s) (empty t) (holds (tv x) d) (under (tv x) t) (in_conj (tv x) K))
rank-law σ K (hvar p s) ε = simp (check-on, lone-on, bind-on, and-true, and-false, pick-suc) (empty-order at_e2 at_e3 no_rule (empty s) (in_conj (hv p) K))
rank-law σ K (hvar p s) (tvar y t) = simp (check-on, lone-on, bind-on, and-true, and-false, pick-suc) (run-order at_f2 at_del3 at_e2 at_e3 at_e4 no_rule (empty s) (holds (hv p) (tvar y t)) (is_some (inside p (tvar y t))) (in_conj (hv p) K) (all_terms t) (is_some (up_to p (tvar y t))) (inside-held p (tvar y t)))
rank-law σ K (hvar p s) (hvar q t) = simp (check-on, lone-on, bind-on, and-true, and-false, pick-suc) (runs-order at_f2 at_del3 at_r1 at_del1 at_e2 no_rule (eq_h p q) (same_words s t) (empty s) (has_term t) (holds (hv p) t) (is_some (inside p (hvar q t))) (in_conj (hv p) K && too hv (lone q t) K) (inside-held p (hvar q t)))
rank-law σ K (hvar p s) (node (symbol g) d t) = simp (check-on, lone-on, bind-on, and-true, and-false, pick-suc) (run-order at_f2 at_del3 at_e2 at_e3 at_e4 no_rule (empty s) (holds (hv p) (node (symbol g) d t)) (is_some (inside p (node (symbol g) d t))) (in_conj (hv p) K) (all_terms t) (is_some (up_to p (node (symbol g) d t))) (inside-held p (node (symbol g) d t)))
rank-law σ K (hvar p s) (node (fvar Y) d t) = simp (check-on, lone-on, bind-on, and-true, and-false, pick-suc) (run-order at_f2 at_del3 at_e2 at_e3 at_e4 no_rule (empty s) (holds (hv p) (node (fvar Y) d t)) (is_some (inside p (node (fvar Y) d t))) (in_conj (hv p) K) (all_terms t) (is_some (up_to p (node (fvar Y) d t))) (inside-held p (node (fvar Y) d t)))
rank-law σ K (node (symbol f) c s) ε = simp (check-on, lone-on, bind-on, and-true, and-false, pick-suc)
rank-law σ K (node (symbol f) c s) (tvar y t) = simp (check-on, lone-on, bind-on, and-true, and-false, pick-suc) (pick-not (empty s && empty t) at_d2 no_rule)
rank-law σ K (node (symbol f) c s) (hvar q t) = simp (check-on, lone-on, bind-on, and-true, and-false, pick-suc)
rank-law σ K (node (symbol f) c s) (node (symbol g) d t) = simp (check-on, lone-on, bind-on, none-on, and-true, and-false, pick-suc) (ap (λ z. pick (eq_s f g && same_words c d && same_words s t) at_r1 z) (symbols-order at_f3 at_del2 at_d1 at_d2 at_d0 no_rule (empty s) (empty t) (eq_s f g) (is_unordered σ f) (is_some (struck c d)) (all_terms d)))
rank-law σ K (node (symbol f) c s) (node (fvar Y) d t) = simp (check-on, lone-on, bind-on, and-true, and-false, pick-suc) (pick-not (empty s && empty t) at_d2 no_rule)
rank-law σ K (node (fvar X) c s) ε = simp (check-on, lone-on, bind-on, and-true, and-false, pick-suc)
rank-law σ K (node (fvar X) c s) (tvar y t) = simp (check-on, lone-on, bind-on, and-true, and-false, pick-suc) (pick-not (empty s && empty t) at_d2 no_rule)
rank-law σ K (node (fvar X) c s) (hvar q t) = simp (check-on, lone-on, bind-on, and-true, and-false, pick-suc)
rank-law σ K (node (fvar X) c s) (node (symbol g) d t) = simp (check-on, lone-on, bind-on, and-true, and-false, pick-suc) (blank-order at_d2 at_e6 at_e5 no_rule (empty s) (empty t) (empty c) (empty d) (in_conj (fv X) K))
rank-law σ K (node (fvar X) c s) (node (fvar Y) d t) = simp (check-on, lone-on, bind-on, and-true, and-false, pick-suc) (blanks-order at_r1 at_d2 at_d0 at_e6 at_e5 at_e7 no_rule (empty s) (empty t) (empty c) (empty d) (eq_x X Y) (in_conj (fv X) K && in_conj (fv Y) K) (same_words c d) (same_words s t) (any_unordered σ) (ends_same s t))
