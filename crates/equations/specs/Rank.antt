-- The first rule at an equation, seen from the side l, as a tree of decisions: by how the two sides begin, and then by single tests.
-- The answer is the rule's place in the list, or `no_rule`.
use Rattle.std.specs.Prelude.{ℕ, not, ◌&&◌, ◌||◌}
use Rattle.language.specs.declared.HedgeVar.{HedgeVar}
use Rattle.language.specs.declared.Signature.{Signature}
use Rattle.language.specs.Kinds.{pick}
use Rattle.language.specs.Trees.{Functor, symbol, fvar, Hedge, ε, tvar, hvar, node, Conj, is_unordered, any_unordered, eq_t, eq_h, eq_s, eq_x, eq_f, same_words, tv, hv, fv, holds, in_conj}
use Rattle.rules.specs.Looks.{empty, has_term, all_terms, under, inside, up_to, lone_h}
use Rattle.rules.specs.Elements.{struck}
use Rattle.rules.specs.Rules.{too}
use Rattle.rules.specs.Solved.{is_some}
use Rattle.rules.specs.Places.{at_r1, at_f1, at_f2, at_f3, at_f4, at_del1, at_del2, at_del3, at_d1, at_d2, at_d0, at_e1, at_e2, at_e3, at_e4, at_e5, at_e6, at_e7, no_rule}

-- terms in front of s and t: D2 where something follows one of them, and else `single`
abbrev pub terms : Hedge → Hedge → ℕ → ℕ
terms s t single = pick (empty s && empty t) single at_d2

-- the children c and d of one unordered symbol: Del2, D1
abbrev pub shuffled : Hedge → Hedge → ℕ
shuffled c d = pick (is_some (struck c d)) at_del2 (pick (all_terms d) at_d1 no_rule)

-- single terms f(c) and g(d) with other words: F3, Del2, D1, D0, E5, E6, E7
abbrev pub functors : Signature → Conj → Functor → Hedge → Functor → Hedge → ℕ
functors σ K (symbol f) c (symbol g) d = pick (eq_s f g) (pick (is_unordered σ f) (shuffled c d) at_d0) at_f3
functors σ K (symbol f) c (fvar Y) d = no_rule
functors σ K (fvar X) c (symbol g) d = pick (empty c && empty d) (pick (in_conj (fv X) K) at_e5 no_rule) at_e6
functors σ K (fvar X) c (fvar Y) d =
    pick (eq_x X Y) (pick (any_unordered σ) at_e7 at_d0)
    (pick (empty c && empty d) (pick (in_conj (fv X) K && in_conj (fv Y) K) at_e5 no_rule) at_e6)

-- a lone p against r, which does not begin with p: F2, Del3, E2
abbrev pub lonely : Conj → HedgeVar → Hedge → ℕ
lonely K p r = pick (holds (hv p) r) (pick (has_term r) at_f2 (pick (is_some (inside p r)) at_del3 no_rule)) (pick (in_conj (hv p) K && too hv (lone_h r) K) at_e2 no_rule)

-- p with something behind it against r, which begins with a term: E3, E4
abbrev pub leading : HedgeVar → Hedge → ℕ
leading p r = pick (all_terms r && not (holds (hv p) r)) at_e3 (pick (is_some (up_to p r)) at_e4 no_rule)

abbrev pub rank_of : Signature → Conj → Hedge → Hedge → ℕ
rank_of σ K ε ε = at_r1
rank_of σ K ε (tvar y t) = at_f4
rank_of σ K ε (hvar q t) = pick (has_term t) at_f4 no_rule
rank_of σ K ε (node g d t) = at_f4
rank_of σ K (tvar x s) ε = no_rule
rank_of σ K (tvar x s) (tvar y t) =
    pick (eq_t x y && same_words s t) at_r1
    (pick (empty s && under (tv x) t) at_f1
    (terms s t (pick (not (eq_t x y) && (in_conj (tv x) K && in_conj (tv y) K)) at_e1 no_rule)))
rank_of σ K (tvar x s) (hvar q t) = pick (empty s && under (tv x) t) at_f1 no_rule
rank_of σ K (tvar x s) (node g d t) =
    pick (empty s && (holds (tv x) d || under (tv x) t)) at_f1
    (terms s t (pick (in_conj (tv x) K) at_e1 no_rule))
rank_of σ K (hvar p s) ε = pick (empty s) (pick (in_conj (hv p) K) at_e2 no_rule) at_e3
rank_of σ K (hvar p s) (tvar y t) = pick (empty s) (lonely K p (tvar y t)) (leading p (tvar y t))
rank_of σ K (hvar p s) (hvar q t) =
    pick (eq_h p q)
    (pick (same_words s t) at_r1 (pick (empty s && has_term t) at_f2 at_del1))
    (pick (empty s) (lonely K p (hvar q t)) no_rule)
rank_of σ K (hvar p s) (node g d t) = pick (empty s) (lonely K p (node g d t)) (leading p (node g d t))
rank_of σ K (node f c s) ε = no_rule
rank_of σ K (node f c s) (tvar y t) = terms s t no_rule
rank_of σ K (node f c s) (hvar q t) = no_rule
rank_of σ K (node f c s) (node g d t) =
    pick (eq_f f g && same_words c d && same_words s t) at_r1
    (terms s t (functors σ K f c g d))
