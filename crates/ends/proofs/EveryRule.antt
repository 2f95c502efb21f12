-- All rules of the list, with the clash that walks as far as it has to: each, wherever it applies, leaves conjunctions that are below.
use mathlib.Core.Path.{◌≡◌, refl}
use mathlib.Core.Bool.{Bool, true, false, ◌||◌}
use mathlib.Core.List.{List, [], ◌∷◌, ◌++◌, map}
use mathlib.Core.Option.{Option, none, some}
use Rattle.language.specs.declared.Signature.{Signature}
use Rattle.language.specs.Trees.{Expr, Literal, eqn, mem, Conj, is_unordered, Var}
use Rattle.rules.specs.Looks.{lone_t, lone_h, lone_node, as_symbol, as_over}
use Rattle.rules.specs.Solved.{lone_var}
use Rattle.rules.specs.Clash.{Unordered, mentions, agree, is_lone}
use Rattle.rules.specs.Reply.{Reply, nothing, results, stops, or_next}
use Rattle.rules.specs.Rules.{Rule, on_eqn, on_mem, on_pair}
use Rattle.rules.specs.Rules as rules
use Rattle.rules.specs.Each.{Each}
use Rattle.rules.specs.Sides.{AtSides}
use Rattle.rules.proofs.Each.{◌also◌, each-imp}
use Rattle.rules.proofs.Answers.{look, test, answers}
use Rattle.rules.proofs.Looks.{lone_t-is, lone_h-is, lone_node-is, as_symbol-is, as_over-is}
use Rattle.rules.proofs.Steps.{Gives, gives-each, kept-at-sides, Kept}
use Rattle.rules.proofs.Folding.{fold_is}
use Rattle.exact.specs.Made.{Name, MadeC}
use Rattle.exact.proofs.MadeByRules.{Known, RuleMakes, each_makes, each-rule-makes}
use Rattle.ends.specs.Unlimited.{walk_pair, walk_behind, FreeClash, ending_in, free_rules}
use Rattle.ends.proofs.Putting.{Apart}
use Rattle.ends.proofs.Falls.{FallsEqn, FallsMem}
use Rattle.ends.proofs.FallsEquations.{R1-falls, Del1-falls, Del2-falls, Del3-falls, D1-falls, D2-falls, D0-falls}
use Rattle.ends.proofs.FallsEliminations.{E1-falls, E2-falls, E3-falls, E4-falls, E5-falls, E6-falls, E7-falls}
use Rattle.ends.proofs.FallsMemberships.{R2-falls, M1-falls, M2-falls, M3-falls, M4-falls, M5-falls, M6-falls, M7-falls, M10-falls, M11-falls, M12-falls}
use Rattle.ends.proofs.AtPlaces.{fold-below, FallsPair, RuleFalls, Falling, rule-falls}

-- ---- the rules without results

F1-falls : FallsEqn rules.F1
F1-falls K l r = look (lone_t l) (lone_t-is l) λ _ _. test _ λ _ _. answers tt

F2-falls : FallsEqn rules.F2
F2-falls K l r = look (lone_h l) (lone_h-is l) λ _ _. test _ λ _ _. test _ λ _ _. answers tt

F3-falls : FallsEqn rules.F3
F3-falls K l r =
    look (lone_node l) (lone_node-is l) λ a _. look (lone_node r) (lone_node-is r) λ b _.
    look (as_symbol a.0) (as_symbol-is a.0) λ _ _. look (as_symbol b.0) (as_symbol-is b.0) λ _ _. test _ λ _ _. answers tt

F4-falls : FallsEqn rules.F4
F4-falls K l r = test _ λ _ _. test _ λ _ _. answers tt

F5-falls : FallsMem rules.F5
F5-falls K h R =
    look (lone_node h) (lone_node-is h) λ a _. look (as_symbol a.0) (as_symbol-is a.0) λ _ _. look (as_over R) (as_over-is R) λ _ _. test _ λ _ _. answers tt

F6-falls : FallsMem rules.F6
F6-falls K h R = test _ λ _ _. test _ λ _ _. answers tt

F7-falls : FallsMem rules.F7
F7-falls K h R = test _ λ _ _. test _ λ _ _. answers tt

-- ---- the clash leaves nothing, and stops nothing

-- it does not apply, or nothing is left
abbrev pub Drops : Reply (List Conj) → Type 0
Drops nothing = Unit {0}
Drops (results ks) = ks ≡ []
Drops (stops r) = ⊥

drops-next : (m : Reply (List Conj)) (k : Unit {0} → Reply (List Conj)) → Drops m → Drops (k tt) → Drops (or_next m k)
drops-next nothing k d e = e
drops-next (results ks) k d e = d
drops-next (stops r) k d e = d

pair-drops : (u : Unordered) (v : Var) (R S : Expr) → Drops (walk_pair u v R S)
pair-drops u v R S = go (mentions u R || mentions u S) (agree v R S)
  where
    go : (a b : Bool) → Drops (elim a [ true ↦ nothing | false ↦ elim b [ true ↦ nothing | false ↦ results [] ] ])
    go true b = tt
    go false true = tt
    go false false = refl

behind-drops : (u : Unordered) (v : Var) (R : Expr) (k : Conj) → Drops (walk_behind u v R k)
behind-drops u v R [] = tt
behind-drops u v R (eqn l r ∷ k) = behind-drops u v R k
behind-drops u v R (mem h S ∷ k) = go (is_lone v h) (behind-drops u v R k)
  where
    go : (b : Bool) → Drops (walk_behind u v R k) → Drops (elim b [ true ↦ or_next (walk_pair u v R S) (λ _. walk_behind u v R k) | false ↦ walk_behind u v R k ])
    go true d = drops-next (walk_pair u v R S) _ (pair-drops u v R S) d
    go false d = d

pub free-drops : (σ : Signature) (l : Literal) (behind : Conj) → Drops (FreeClash σ l behind)
free-drops σ (eqn l r) behind = tt
free-drops σ (mem h R) behind = go (lone_var h)
  where
    go : (w : Option Var) → Drops (elim w [ none ↦ nothing | some v ↦ walk_behind (is_unordered σ) v R behind ])
    go none = tt
    go (some v) = behind-drops (is_unordered σ) v R behind

gives_none : (P : List Conj → Type 0) (m : Reply (List Conj)) → P [] → Drops m → Gives P m
gives_none P nothing p d = tt
gives_none P (results ks) p d = rw d p
gives_none P (stops r) p d = tt

-- ---- all of them

each-ending : (P : Rule → Type 0) (last : Rule) → P last → (rs : List Rule) → Each P rs → Each P (ending_in last rs)
each-ending P last p [] q = tt
each-ending P last p (rule ∷ []) q = (p, tt)
each-ending P last p (rule ∷ next ∷ rs) q = (q.0, each-ending P last p (next ∷ rs) q.1)

module _ (σ : Signature) (vs : List Var) where
  -- what is shown of each rule alone
  abbrev Alone : Rule → Type 0
  Alone (on_eqn rule) = FallsEqn rule
  Alone (on_mem rule) = FallsMem rule
  Alone (on_pair rule) = FallsPair σ vs rule

  Fold-falls : FallsPair σ vs rules.Fold
  Fold-falls before l behind = fold_is _ l behind λ k s. (fold-below vs before l behind k s, tt)

  Free-falls : FallsPair σ vs (FreeClash σ)
  Free-falls before l behind = gives_none _ (FreeClash σ l behind) tt (free-drops σ l behind)

  together : (rule : Rule) → Alone rule → ((v : Var) → RuleMakes σ (Apart v) (λ _ _ _. tt) rule) → RuleFalls σ vs rule
  together (on_eqn rule) p q = (p, q)
  together (on_mem rule) p q = (p, q)
  together (on_pair rule) p q = p

  each-together : (rs : List Rule) → Each Alone rs → ((v : Var) → Each (RuleMakes σ (Apart v) (λ _ _ _. tt)) rs) → Each (RuleFalls σ vs) rs
  each-together [] p q = tt
  each-together (rule ∷ rs) p q = (together rule p.0 (λ v. (q v).0), each-together rs p.1 (λ v. (q v).1))

  each-alone : Each Alone (free_rules σ)
  each-alone =
      R1-falls also R2-falls also Fold-falls
      also F1-falls also F2-falls also F3-falls also F4-falls also F5-falls also F6-falls also F7-falls
      also Del1-falls also Del2-falls σ also Del3-falls
      also D1-falls σ also D2-falls also D0-falls σ
      also E1-falls also E2-falls also E3-falls also E4-falls also E5-falls also E6-falls also E7-falls σ
      also M1-falls also M2-falls also M3-falls also M4-falls also M5-falls also M6-falls also M7-falls also M10-falls also M11-falls σ also M12-falls σ
      also Free-falls
      also tt

  free-makes : (v : Var) → RuleMakes σ (Apart v) (λ _ _ _. tt) (on_pair (FreeClash σ))
  free-makes v l behind m n = gives_none (Each (MadeC (Apart v))) (FreeClash σ l behind) tt (free-drops σ l behind)

  -- Every rule, wherever it applies, first or not, leaves what is below.
  pub every-rule-falls : Each (AtSides (Falling σ vs)) (free_rules σ)
  every-rule-falls =
      each-imp (RuleFalls σ vs) (AtSides (Falling σ vs)) (rule-falls σ vs) (free_rules σ)
      (each-together (free_rules σ) each-alone (λ v. each-ending (RuleMakes σ (Apart v) (λ _ _ _. tt)) (on_pair (FreeClash σ)) (free-makes v) (rules.rules σ) (each_makes σ (Apart v) (λ _ _ _. tt))))

-- And nothing that was not there stands in it.
pub every-rule-makes : (σ : Signature) (A : Name → Type 0) (known : Known σ A) → Each (AtSides (Kept (MadeC A))) (free_rules σ)
every-rule-makes σ A known =
    each-ending (AtSides (Kept (MadeC A))) (on_pair (FreeClash σ))
    (kept-at-sides (MadeC A) (on_pair (FreeClash σ)) λ before l behind m.
    gives-each (Each (MadeC A)) (map (λ (k : Conj). before ++ k)) (FreeClash σ l behind) (gives_none _ (FreeClash σ l behind) tt (free-drops σ l behind)))
    (rules.rules σ) (each-rule-makes σ A known)
