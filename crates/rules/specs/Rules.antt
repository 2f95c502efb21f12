-- The rules R1 to M12, the fold and the clash, each a definition of its own, and their order. A rule says, of one literal among others, what stands for it; or, of a
-- literal and those behind it, what stands for all of these.
use Rattle.std.specs.Prelude.{ℕ, Bool, true, false, not, ◌&&◌, List, [], ◌∷◌, map}
use Rattle.std.proofs.Math.Option
use Rattle.std.proofs.Math.Option.{Option, none, some}
use Rattle.language.specs.declared.HedgeVar.{HedgeVar}
use Rattle.language.specs.declared.FunVar.{FunVar}
use Rattle.language.specs.Limits.{walked_pairs}
use Rattle.language.specs.declared.Sym.{Sym}
use Rattle.language.specs.Kinds.{pick}
use Rattle.language.specs.declared.Signature.{Signature}
use Rattle.language.specs.Trees.{Functor, symbol, fvar, Hedge, ε, tvar, hvar, node, Expr, over, Literal, eqn, mem, Conj, is_unordered, any_unordered, ◌⧺◌, eq_h, eq_x, eq_s, eq_f, same_words, same_literal, Var, tv, hv, fv, holds, in_conj}
use Rattle.meaning.specs.Values.{numbers}
use Rattle.rules.specs.Substitution.{Subst, set_t, set_h, set_f, emptied}
use Rattle.rules.specs.Looks.{empty, first_term, first_run, lone_term, lone_t, lone_h, lone_node, as_symbol, as_blank, has_term, all_terms, all_runs, under, inside, up_to, cuts, is_eps, as_cat, as_alt, as_star, as_over}
use Rattle.rules.specs.Elements.{struck, disjoint, orders}
use Rattle.rules.specs.Expressions.{nullable, Monomial, linear}
use Rattle.rules.specs.Reply.{Reply, nothing, results, PairRule}
use Rattle.rules.specs.Clash.{ClashBy}

-- ---- what a rule answers

-- One result: the literals that stand in the place of the old one. In `elims es ls s` the equations es eliminate and stay as they are,
-- and the substitution s is made in ls and in all other literals.
pub data Branch : Type 0 where
  plain : Conj → Branch
  elims : Conj → Conj → Subst → Branch

-- the results in order, or none where the rule does not apply
abbrev pub Answer : Type 0
Answer = Option (List Branch)

infixl 1 ◌>>=◌
unfoldable pub ◌>>=◌ : {A : Type 0} → Option A → (A → Answer) → Answer
none >>= f = none
some a >>= f = f a

unfoldable pub check : Bool → Option (Unit {0})
check true = some tt
check false = none

-- the conjunction is dropped
abbrev pub drop : Answer
drop = some []

-- one result
abbrev pub into : Conj → Answer
into ls = some (plain ls ∷ [])

-- two results
abbrev pub either : Conj → Conj → Answer
either ls ms = some (plain ls ∷ plain ms ∷ [])

-- one result that eliminates
abbrev pub eliminate : Literal → Conj → Subst → Answer
eliminate e ls s = some (elims (e ∷ []) ls s ∷ [])

-- ---- the rules of equations: K the other literals, l the side that is looked at first

abbrev pub EqRule : Type 0
EqRule = Conj → Hedge → Hedge → Answer

-- ---- the rules of memberships

abbrev pub InRule : Type 0
InRule = Conj → Hedge → Expr → Answer

-- R1: H = H, same words: removed.
abbrev pub R1 : EqRule
R1 K l r = do
  _ ← check (same_words l r)
  into []

-- R2: ε in R, where ε is in the language: removed.
abbrev pub R2 : InRule
R2 K h R = do
  _ ← check (empty h)
  _ ← check (nullable R)
  into []

-- the literals without the first that has the same words as l
abbrev pub strike : Literal → Conj → Option Conj
strike l [] = none
strike l (m ∷ k) = pick (same_literal l m) (some k) (Option.map (λ (c : Conj). m ∷ c) (strike l k))

abbrev pub folded : Literal → Option Conj → Reply (List Conj)
folded l none = nothing
folded l (some k) = results ((l ∷ k) ∷ [])

-- Fold: of two literals with the same words the later is removed.
abbrev pub Fold : PairRule
Fold l behind = folded l (strike l behind)

-- F1: x = hedge with a top-level F(H) holding x.
abbrev pub F1 : EqRule
F1 K l r = do
  x ← lone_t l
  _ ← check (under (tv x) r)
  drop

-- F2: a lone hedge variable = hedge that has a top-level term and holds it.
abbrev pub F2 : EqRule
F2 K l r = do
  p ← lone_h l
  _ ← check (has_term r)
  _ ← check (holds (hv p) r)
  drop

-- F3: single terms with different symbols.
abbrev pub F3 : EqRule
F3 K l r = do
  a ← lone_node l
  b ← lone_node r
  f ← as_symbol a.0
  g ← as_symbol b.0
  _ ← check (not (eq_s f g))
  drop

-- F4: ε = hedge with a top-level term.
abbrev pub F4 : EqRule
F4 K l r = do
  _ ← check (empty l)
  _ ← check (has_term r)
  drop

-- F5: f(H) in g(R), f not g.
abbrev pub F5 : InRule
F5 K h R = do
  a ← lone_node h
  f ← as_symbol a.0
  g ← as_over R
  _ ← check (not (eq_s f g.0))
  drop

-- F6: ε in R, not a member.
abbrev pub F6 : InRule
F6 K h R = do
  _ ← check (empty h)
  _ ← check (not (nullable R))
  drop

-- F7: hedge with a top-level term, in eps.
abbrev pub F7 : InRule
F7 K h R = do
  _ ← check (has_term h)
  _ ← check (is_eps R)
  drop

-- Del1: both sides start with the same hedge variable: strike it.
abbrev pub Del1 : EqRule
Del1 K l r = do
  a ← first_run l
  b ← first_run r
  _ ← check (eq_h a.0 b.0)
  into (eqn a.1 b.1 ∷ [])

-- Del2: f(H1,h,H2) = f(H3,h,H4), f unordered, for the first shared element h: f(H1,H2) = f(H3,H4).
abbrev pub Del2 : Signature → EqRule
Del2 σ K l r = do
  a ← lone_node l
  b ← lone_node r
  f ← as_symbol a.0
  g ← as_symbol b.0
  _ ← check (eq_s f g)
  _ ← check (is_unordered σ f)
  c ← struck a.1 b.1
  into (eqn (node (symbol f) c.0 ε) (node (symbol f) c.1 ε) ∷ [])

-- Del3: lone p = (H1, p, H2), H1 not empty, first such p: H1 = ε, H2 = ε.
abbrev pub Del3 : EqRule
Del3 K l r = do
  p ← lone_h l
  a ← inside p r
  into (eqn a.0 ε ∷ eqn a.1 ε ∷ [])

-- H = T'
abbrev pub order_result : Hedge → Hedge → Branch
order_result h t = plain (eqn h t ∷ [])

-- D1: f(H) = f(T), f unordered, H and T disjoint: for each permutation T' of T, H = T'.
abbrev pub D1 : Signature → EqRule
D1 σ K l r = do
  a ← lone_node l
  b ← lone_node r
  f ← as_symbol a.0
  g ← as_symbol b.0
  _ ← check (eq_s f g)
  _ ← check (is_unordered σ f)
  _ ← check (all_terms b.1)
  _ ← check (disjoint a.1 b.1)
  some (map (order_result a.1) (orders b.1))

-- D2: (t1,H1) = (t2,H2), not both rests empty: t1 = t2, H1 = H2.
abbrev pub D2 : EqRule
D2 K l r = do
  a ← first_term l
  b ← first_term r
  _ ← check (not (empty a.1 && empty b.1))
  into (eqn a.0 b.0 ∷ eqn a.1 b.1 ∷ [])

-- "The same-functor rule remains for ordered symbols, and for a function variable where u is 0"
abbrev pub keeps_order : Signature → Functor → Bool
keeps_order σ (symbol f) = not (is_unordered σ f)
keeps_order σ (fvar X) = not (any_unordered σ)

-- D0: single terms with the same functor, one that keeps its children in order: children are equal.
abbrev pub D0 : Signature → EqRule
D0 σ K l r = do
  a ← lone_node l
  b ← lone_node r
  _ ← check (eq_f a.0 b.0)
  _ ← check (keeps_order σ a.0)
  into (eqn a.1 b.1 ∷ [])

-- where there is a variable, it is in K
abbrev pub too : {A : Type 0} → (A → Var) → Option A → Conj → Bool
too var none K = true
too var (some v) K = in_conj (var v) K

-- E1: x = t, x not in t, x in K; if t is a term variable, it too in K.
abbrev pub E1 : EqRule
E1 K l r = do
  x ← lone_t l
  t ← lone_term r
  _ ← check (not (holds (tv x) t))
  _ ← check (in_conj (tv x) K)
  _ ← check (too tv (lone_t t) K)
  eliminate (eqn (tvar x ε) t) [] (set_t x t)

-- E2: lone p = H, likewise (H one hedge variable: it too in K).
abbrev pub E2 : EqRule
E2 K l r = do
  p ← lone_h l
  _ ← check (not (holds (hv p) r))
  _ ← check (in_conj (hv p) K)
  _ ← check (too hv (lone_h r) K)
  eliminate (eqn (hvar p ε) r) [] (set_h p r)

-- p = T1, h = (T2, rest) for a cut
abbrev pub cut_result : HedgeVar → Hedge → Hedge → Hedge × Hedge → Branch
cut_result p h rest c = elims (eqn (hvar p ε) c.0 ∷ []) (eqn h (c.1 ⧺ rest) ∷ []) (set_h p c.0)

-- E3: (p,H) = T, H not empty, p not in T: one result for each cut of T into T1, T2, T1 growing: p = T1, H = T2.
abbrev pub E3 : EqRule
E3 K l r = do
  a ← first_run l
  _ ← check (not (empty a.1))
  _ ← check (all_terms r)
  _ ← check (not (holds (hv a.0) r))
  some (map (cut_result a.0 a.1 ε) (cuts r))

-- E4: (p,H) = (T,t,H2), H not empty, p in t and not in T: cuts of T alone; p = T1, H = (T2,t,H2).
abbrev pub E4 : EqRule
E4 K l r = do
  a ← first_run l
  _ ← check (not (empty a.1))
  b ← up_to a.0 r
  some (map (cut_result a.0 a.1 b.1) (cuts b.0))

-- E5: X() = F(), X not F, X in K; a variable F too in K.
abbrev pub E5 : EqRule
E5 K l r = do
  a ← lone_node l
  X ← as_blank a.0
  b ← lone_node r
  _ ← check (empty a.1)
  _ ← check (empty b.1)
  _ ← check (not (eq_f (fvar X) b.0))
  _ ← check (in_conj (fv X) K)
  _ ← check (too fv (as_blank b.0) K)
  eliminate (eqn (node (fvar X) ε ε) (node b.0 ε ε)) [] (set_f X b.0)

-- E6: X(H1) = F(H2), X not F, children not both empty: X() = F(), F(H1) = F(H2).
abbrev pub E6 : EqRule
E6 K l r = do
  a ← lone_node l
  X ← as_blank a.0
  b ← lone_node r
  _ ← check (not (empty a.1 && empty b.1))
  _ ← check (not (eq_f (fvar X) b.0))
  eliminate (eqn (node (fvar X) ε ε) (node b.0 ε ε)) (eqn (node b.0 a.1 ε) (node b.0 b.1 ε) ∷ []) (set_f X b.0)

-- the declared symbols in order
abbrev pub every_symbol : Signature → List Sym
every_symbol σ = map (λ (n : ℕ). record { 0 = n }) (numbers 0 σ.symbols)

-- X() = f(), f(H1) = f(H2)
abbrev pub named_result : FunVar → Hedge → Hedge → Sym → Branch
named_result X h k f =
    elims (eqn (node (fvar X) ε ε) (node (symbol f) ε ε) ∷ []) (eqn (node (symbol f) h ε) (node (symbol f) k ε) ∷ []) (set_f X (symbol f))

-- E7: X(H1) = X(H2), H1 not H2, where u is not 0: for each symbol f, "all symbols in order", X() = f(), f(H1) = f(H2).
abbrev pub E7 : Signature → EqRule
E7 σ K l r = do
  a ← lone_node l
  X ← as_blank a.0
  b ← lone_node r
  Y ← as_blank b.0
  _ ← check (eq_x X Y)
  _ ← check (not (same_words a.1 b.1))
  _ ← check (any_unordered σ)
  some (map (named_result X a.1 b.1) (every_symbol σ))

-- p = ε for each place of a hedge variable
abbrev pub vanish : Hedge → Conj
vanish ε = []
vanish (tvar x r) = vanish r
vanish (hvar p r) = eqn (hvar p ε) ε ∷ vanish r
vanish (node f c r) = vanish r

-- M1: (p1, .., pn) in eps, n > 0: p1 = ε, .., pn = ε, "in the hedge's order, a repeated variable once for each place".
abbrev pub M1 : InRule
M1 K h R = do
  _ ← check (not (empty h))
  _ ← check (all_runs h)
  _ ← check (is_eps R)
  some (elims (vanish h) [] (emptied h) ∷ [])

-- t in f(R1), H in R2
abbrev pub monomial_result : Hedge → Hedge → Monomial → Branch
monomial_result t h m = plain (mem t (over m.name m.inner) ∷ mem h m.rest ∷ [])

-- M2: (t,H) in R, H not empty, R not eps: for each monomial (f(R1), R2) of R's linear form t in f(R1), H in R2.
abbrev pub M2 : InRule
M2 K h R = do
  a ← first_term h
  _ ← check (not (empty a.1))
  _ ← check (not (is_eps R))
  some (map (monomial_result a.0 a.1) (linear R))

-- M3: (p,H) in f(R), H not empty: p in f(R), H = ε; or p = ε, H in f(R).
abbrev pub M3 : InRule
M3 K h R = do
  a ← first_run h
  _ ← check (not (empty a.1))
  _ ← as_over R
  either (mem (hvar a.0 ε) R ∷ eqn a.1 ε ∷ []) (eqn (hvar a.0 ε) ε ∷ mem a.1 R ∷ [])

-- M4: t in R*: t in R.
abbrev pub M4 : InRule
M4 K h R = do
  t ← lone_term h
  S ← as_star R
  into (mem t S ∷ [])

-- M5: t in R1-as-R2: t in R1, ε in R2; or ε in R1, t in R2.
abbrev pub M5 : InRule
M5 K h R = do
  t ← lone_term h
  S ← as_cat R
  either (mem t S.0 ∷ mem ε S.1 ∷ []) (mem ε S.0 ∷ mem t S.1 ∷ [])

-- M6: t in R1+R2: t in R1; or t in R2.
abbrev pub M6 : InRule
M6 K h R = do
  t ← lone_term h
  S ← as_alt R
  either (mem t S.0 ∷ []) (mem t S.1 ∷ [])

-- M7: (p,H) in R1+R2: (p,H) in R1; or (p,H) in R2.
abbrev pub M7 : InRule
M7 K h R = do
  _ ← first_run h
  S ← as_alt R
  either (mem h S.0 ∷ []) (mem h S.1 ∷ [])

-- M10: X(H) in f(R): X() = f(), f(H) in f(R).
abbrev pub M10 : InRule
M10 K h R = do
  a ← lone_node h
  X ← as_blank a.0
  g ← as_over R
  eliminate (eqn (node (fvar X) ε ε) (node (symbol g.0) ε ε)) (mem (node (symbol g.0) a.1 ε) R ∷ []) (set_f X (symbol g.0))

-- M11: f(H) in f(R), f ordered: H in R.
abbrev pub M11 : Signature → InRule
M11 σ K h R = do
  a ← lone_node h
  f ← as_symbol a.0
  g ← as_over R
  _ ← check (eq_s f g.0)
  _ ← check (not (is_unordered σ f))
  into (mem a.1 g.1 ∷ [])

-- T' in R
abbrev pub order_member : Expr → Hedge → Branch
order_member R t = plain (mem t R ∷ [])

-- M12: f(T) in f(R), f unordered: for each permutation T' of T, T' in R.
abbrev pub M12 : Signature → InRule
M12 σ K h R = do
  a ← lone_node h
  f ← as_symbol a.0
  g ← as_over R
  _ ← check (eq_s f g.0)
  _ ← check (is_unordered σ f)
  _ ← check (all_terms a.1)
  some (map (order_member g.1) (orders a.1))

-- Clash: a lone variable is in R and, by a later literal, in S, neither mentions an unordered symbol, and no term (or hedge) lies in both.
abbrev pub Clash : Signature → PairRule
Clash σ = ClashBy walked_pairs (is_unordered σ)

-- ---- the order

pub data Rule : Type 0 where
  on_eqn : EqRule → Rule
  on_mem : InRule → Rule
  on_pair : PairRule → Rule

-- the rules, for these symbols
abbrev pub rules : Signature → List Rule
rules σ =
    on_eqn R1 ∷ on_mem R2 ∷ on_pair Fold
    ∷ on_eqn F1 ∷ on_eqn F2 ∷ on_eqn F3 ∷ on_eqn F4 ∷ on_mem F5 ∷ on_mem F6 ∷ on_mem F7
    ∷ on_eqn Del1 ∷ on_eqn (Del2 σ) ∷ on_eqn Del3
    ∷ on_eqn (D1 σ) ∷ on_eqn D2 ∷ on_eqn (D0 σ)
    ∷ on_eqn E1 ∷ on_eqn E2 ∷ on_eqn E3 ∷ on_eqn E4 ∷ on_eqn E5 ∷ on_eqn E6 ∷ on_eqn (E7 σ)
    ∷ on_mem M1 ∷ on_mem M2 ∷ on_mem M3 ∷ on_mem M4 ∷ on_mem M5 ∷ on_mem M6 ∷ on_mem M7 ∷ on_mem M10 ∷ on_mem (M11 σ) ∷ on_mem (M12 σ)
    ∷ on_pair (Clash σ)
    ∷ []
