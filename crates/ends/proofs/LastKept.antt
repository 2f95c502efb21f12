-- Hedge variables last, no unordered symbol, no membership: every rule, wherever it applies, leaves such conjunctions.
use Prim.Native.Nat.{ℕ}
use mathlib.Core.Path.{◌≡◌, refl, sym, ap, subst}
use mathlib.Core.Bool.{Bool, true, false, ◌&&◌, not}
use mathlib.Core.List.{List, [], ◌∷◌, ◌++◌}
use mathlib.Core.Option.{none, some}
use native.Mathlib.Omega.{arith}
use lib.Dec.{T}
use Rattle.language.specs.declared.TermVar.{TermVar}
use Rattle.language.specs.declared.HedgeVar.{HedgeVar}
use Rattle.language.specs.declared.FunVar.{FunVar}
use Rattle.language.specs.declared.Signature.{Signature}
use Rattle.language.specs.Limits.{walked_pairs}
use Rattle.language.specs.Trees.{Functor, Hedge, ε, tvar, hvar, node, Literal, eqn, mem, Conj, is_unordered, any_unordered, ◌⧺◌, eq_t, eq_h}
use Rattle.meaning.proofs.Same.{none-unordered, any-unordered-none}
use Rattle.rules.specs.Looks.{empty, first_term, first_run, lone_term, lone_t, lone_h, lone_node, as_symbol, as_blank, inside}
use Rattle.rules.specs.Solved.{is_term}
use Rattle.rules.specs.Substitution.{Subst, set_f, put, put_c}
use Rattle.rules.specs.Reply.{results}
use Rattle.rules.specs.Rules.{Branch, plain, elims, Answer, EqRule, Rule, on_eqn, on_mem, on_pair}
use Rattle.rules.specs.Rules as rules
use Rattle.rules.specs.Step.{place, placed, step}
use Rattle.rules.specs.Each.{Each}
use Rattle.rules.specs.Sides.{AtSides}
use Rattle.rules.proofs.Each.{◌also◌, each_map, each-imp}
use Rattle.rules.proofs.Answers.{Answers, look, test, answers}
use Rattle.rules.proofs.Looks.{empty-is, lone_t-is, lone_h-is, lone_node-is, first_term-is, first_run-is, as_symbol-is, as_blank-is, inside_is}
use Rattle.rules.proofs.Steps.{Gives, OnSides, Kept, kept-at-sides, gives-behind, step-at-sides}
use Rattle.rules.proofs.Folding.{Struck, here, further, fold_is}
use Rattle.rules.proofs.Clashing.{drops-gives, clash-drops}
use Rattle.rules.proofs.Tests.{and_parts, and_both, picks}
use Rattle.ends.specs.Last.{last, last_literal, last_runs}
use Rattle.ends.proofs.FallsEliminations.{term_is}

-- ---- in a row

last-parts : (h k : Hedge) → T (last (h ⧺ k)) → T (last h) × T (last k)
last-parts ε k t = (tt, t)
last-parts (tvar x r) k t = last-parts r k t
last-parts (hvar p r) k t = go r k t
  where
    go : (r k : Hedge) → T (empty (r ⧺ k)) → T (empty r) × T (last k)
    go ε ε t = (tt, tt)
    go ε (tvar x r) t = absurd t
    go ε (hvar p r) t = absurd t
    go ε (node f c r) t = absurd t
    go (tvar x r) k t = absurd t
    go (hvar p r) k t = absurd t
    go (node f c r) k t = absurd t
last-parts (node f c r) k t =
    let (a, b) = and_parts (last c) (last (r ⧺ k)) t in let (x, y) = last-parts r k b in (and_both (last c) (last r) a x, y)

⧺-ε : (h : Hedge) → h ⧺ ε ≡ h
⧺-ε ε = refl
⧺-ε (tvar x r) = ap (tvar x) (⧺-ε r)
⧺-ε (hvar p r) = ap (hvar p) (⧺-ε r)
⧺-ε (node f c r) = ap (node f c) (⧺-ε r)

-- a term before what is so
term-before : (t r : Hedge) → is_term t ≡ true → T (last t) → T (last r) → T (last (t ⧺ r))
term-before ε r e a b = b
term-before (tvar x s) r e a b = go s e
  where
    go : (s : Hedge) → empty s ≡ true → T (last (s ⧺ r))
    go ε e = b
    go (tvar x s) e = absurd (let z : ◌≡◌ {A = ℕ} 0 1 = cc in omega arith)
    go (hvar p s) e = absurd (let z : ◌≡◌ {A = ℕ} 0 1 = cc in omega arith)
    go (node f c s) e = absurd (let z : ◌≡◌ {A = ℕ} 0 1 = cc in omega arith)
term-before (hvar p s) r e a b = absurd (let z : ◌≡◌ {A = ℕ} 0 1 = cc in omega arith)
term-before (node f c s) r e a b = and_both (last c) (last (s ⧺ r)) (and_parts (last c) (last s) a).0 (go s e)
  where
    go : (s : Hedge) → empty s ≡ true → T (last (s ⧺ r))
    go ε e = b
    go (tvar x s) e = absurd (let z : ◌≡◌ {A = ℕ} 0 1 = cc in omega arith)
    go (hvar p s) e = absurd (let z : ◌≡◌ {A = ℕ} 0 1 = cc in omega arith)
    go (node f c s) e = absurd (let z : ◌≡◌ {A = ℕ} 0 1 = cc in omega arith)

-- ---- substitutions

pub record PutsLast (s : Subst) : Type 0 where
  pub term : (x : TermVar) → (is_term (s.term x) ≡ true) × T (last (s.term x))
  pub hedge : (p : HedgeVar) → T (last (s.hedge p))

module _ (s : Subst) (q : PutsLast s) where
  put_last : (h : Hedge) → T (last h) → T (last (put s h))
  put_last ε t = tt
  put_last (tvar x r) t = term-before (s.term x) (put s r) (q.term x).0 (q.term x).1 (put_last r t)
  put_last (hvar p r) t = rw (empty-is r t) (subst (λ h. T (last h)) (sym (⧺-ε (s.hedge p))) (q.hedge p))
  put_last (node f c r) t = let (a, b) = and_parts (last c) (last r) t in and_both (last (put s c)) (last (put s r)) (put_last c a) (put_last r b)

  put-runs : (k : Conj) → T (last_runs k) → T (last_runs (put_c s k))
  put-runs [] t = tt
  put-runs (eqn l r ∷ k) t =
      let (a, b) = and_parts (last l && last r) (last_runs k) t in let (c, d) = and_parts (last l) (last r) a in
      and_both (last (put s l) && last (put s r)) (last_runs (put_c s k)) (and_both (last (put s l)) (last (put s r)) (put_last l c) (put_last r d)) (put-runs k b)
  put-runs (mem h R ∷ k) t = absurd t

-- ---- what a rule answers

abbrev LastBranch : Branch → Type 0
LastBranch (plain ls) = T (last_runs ls)
LastBranch (elims es ls s) = T (last_runs es) × T (last_runs ls) × PutsLast s

abbrev KeepsEqn : EqRule → Type 0
KeepsEqn rule = (K : Conj) (l r : Hedge) → T (last l) → T (last r) → Answers (Each LastBranch) (rule K l r)

-- one equation
one : (l r : Hedge) → T (last l) → T (last r) → T (last_runs (eqn l r ∷ []))
one l r a b = and_both (last l && last r) true (and_both (last l) (last r) a b) tt

two : (l r h k : Hedge) → T (last l) → T (last r) → T (last h) → T (last k) → T (last_runs (eqn l r ∷ eqn h k ∷ []))
two l r h k a b c d = and_both (last l && last r) (last_runs (eqn h k ∷ [])) (and_both (last l) (last r) a b) (one h k c d)

-- what is not the last among its siblings is no hedge variable
empty-last : (h : Hedge) → T (empty h) → T (last h)
empty-last h t = rw (empty-is h t) tt

children : (f : Functor) (c : Hedge) → T (last (node f c ε)) → T (last c)
children f c t = (and_parts (last c) true t).0

over-children : (f : Functor) (c : Hedge) → T (last c) → T (last (node f c ε))
over-children f c t = and_both (last c) true t tt

both-no : (b : Bool) → T b → ¬ T (not b)
both-no true t n = n
both-no false t n = t

R1-keeps : KeepsEqn rules.R1
R1-keeps K l r a b = test _ λ _ _. answers (tt, tt)

F1-keeps : KeepsEqn rules.F1
F1-keeps K l r a b = look (lone_t l) (lone_t-is l) λ _ _. test _ λ _ _. answers tt

F2-keeps : KeepsEqn rules.F2
F2-keeps K l r a b = look (lone_h l) (lone_h-is l) λ _ _. test _ λ _ _. test _ λ _ _. answers tt

F3-keeps : KeepsEqn rules.F3
F3-keeps K l r a b =
    look (lone_node l) (lone_node-is l) λ c _. look (lone_node r) (lone_node-is r) λ d _.
    look (as_symbol c.0) (as_symbol-is c.0) λ _ _. look (as_symbol d.0) (as_symbol-is d.0) λ _ _. test _ λ _ _. answers tt

F4-keeps : KeepsEqn rules.F4
F4-keeps K l r a b = test _ λ _ _. test _ λ _ _. answers tt

Del1-keeps : KeepsEqn rules.Del1
Del1-keeps K l r a b =
    look (first_run l) (first_run-is l) λ c p. look (first_run r) (first_run-is r) λ d q. test _ λ _ _.
    answers (one c.1 d.1 (empty-last c.1 (rw p at a)) (empty-last d.1 (rw q at b)), tt)

Del3-keeps : KeepsEqn rules.Del3
Del3-keeps K l r a b =
    look (lone_h l) (lone_h-is l) λ p _. look (inside p r) (inside_is p r) λ c e.
    let (m, n) = last-parts c.0 (hvar p c.1) (rw e at b) in
    answers (two c.0 ε c.1 ε m tt (empty-last c.1 n) tt, tt)

D2-keeps : KeepsEqn rules.D2
D2-keeps K l r a b =
    look (first_term l) (first_term-is l) λ c p. look (first_term r) (first_term-is r) λ d q. test _ λ _ _.
    let (m, n) = last-parts c.0 c.1 (rw p.0 at a) in let (x, y) = last-parts d.0 d.1 (rw q.0 at b) in
    answers (two c.0 d.0 c.1 d.1 m x n y, tt)

D0-keeps : (σ : Signature) → KeepsEqn (rules.D0 σ)
D0-keeps σ K l r a b =
    look (lone_node l) (lone_node-is l) λ c p. look (lone_node r) (lone_node-is r) λ d q. test _ λ _ _. test _ λ _ _.
    answers (one c.1 d.1 (children c.0 c.1 (rw p at a)) (children d.0 d.1 (rw q at b)), tt)

E1-keeps : KeepsEqn rules.E1
E1-keeps K l r a b =
    look (lone_t l) (lone_t-is l) λ x _. look (lone_term r) (term_is r) λ t e.
    test _ λ _ _. test _ λ _ _. test _ λ _ _.
    let m = rw e.0 at b in
    answers (
      (
        one (tvar x ε) t tt m,
        tt,
        record {
          term = λ y. (picks (λ h. is_term h ≡ true) (eq_t x y) (λ _. e.1) refl, picks (λ h. T (last h)) (eq_t x y) (λ _. m) tt);
          hedge = λ p. tt;
        },
      ),
      tt,
    )

E2-keeps : KeepsEqn rules.E2
E2-keeps K l r a b =
    look (lone_h l) (lone_h-is l) λ p _.
    test _ λ _ _. test _ λ _ _. test _ λ _ _.
    answers ((one (hvar p ε) r tt b, tt, record { term = λ y. (refl, tt); hedge = λ o. picks (λ h. T (last h)) (eq_h p o) (λ _. b) tt }), tt)

-- a run beside something else is not last
E3-keeps : KeepsEqn rules.E3
E3-keeps K l r a b = look (first_run l) (first_run-is l) λ c p. test _ λ _ n. absurd (both-no (empty c.1) (rw p at a) n)

E4-keeps : KeepsEqn rules.E4
E4-keeps K l r a b = look (first_run l) (first_run-is l) λ c p. test _ λ _ n. absurd (both-no (empty c.1) (rw p at a) n)

names-last : (X : FunVar) (f : Functor) → PutsLast (set_f X f)
names-last X f = record { term = λ y. (refl, tt); hedge = λ p. tt }

E5-keeps : KeepsEqn rules.E5
E5-keeps K l r a b =
    look (lone_node l) (lone_node-is l) λ c p. look (as_blank c.0) (as_blank-is c.0) λ X s. look (lone_node r) (lone_node-is r) λ d q.
    test _ λ _ _. test _ λ _ _. test _ λ _ _. test _ λ _ _. test _ λ _ _.
    answers ((tt, tt, names-last X d.0), tt)

E6-keeps : KeepsEqn rules.E6
E6-keeps K l r a b =
    look (lone_node l) (lone_node-is l) λ c p. look (as_blank c.0) (as_blank-is c.0) λ X s. look (lone_node r) (lone_node-is r) λ d q.
    test _ λ _ _. test _ λ _ _.
    answers (
      (
        tt,
        one (node d.0 c.1 ε) (node d.0 d.1 ε) (over-children d.0 c.1 (children c.0 c.1 (rw p at a))) (over-children d.0 d.1 (children d.0 d.1 (rw q at b))),
        names-last X d.0,
      ),
      tt,
    )

-- ---- the rules of unordered symbols

module _ (σ : Signature) (ordered : σ.unordered ≡ 0) where
  none-there : {A : Type 0} (b : Bool) → b ≡ false → T b → A
  none-there b e t = absurd (subst T e t)

  Del2-keeps : KeepsEqn (rules.Del2 σ)
  Del2-keeps K l r a b =
      look (lone_node l) (lone_node-is l) λ c p. look (lone_node r) (lone_node-is r) λ d q.
      look (as_symbol c.0) (as_symbol-is c.0) λ f s. look (as_symbol d.0) (as_symbol-is d.0) λ g t.
      test _ λ _ _. test _ λ _ u. none-there (is_unordered σ f) (none-unordered σ ordered f) u

  D1-keeps : KeepsEqn (rules.D1 σ)
  D1-keeps K l r a b =
      look (lone_node l) (lone_node-is l) λ c p. look (lone_node r) (lone_node-is r) λ d q.
      look (as_symbol c.0) (as_symbol-is c.0) λ f s. look (as_symbol d.0) (as_symbol-is d.0) λ g t.
      test _ λ _ _. test _ λ _ u. none-there (is_unordered σ f) (none-unordered σ ordered f) u

  E7-keeps : KeepsEqn (rules.E7 σ)
  E7-keeps K l r a b =
      look (lone_node l) (lone_node-is l) λ c p. look (as_blank c.0) (as_blank-is c.0) λ X s.
      look (lone_node r) (lone_node-is r) λ d q. look (as_blank d.0) (as_blank-is d.0) λ Y t.
      test _ λ _ _. test _ λ _ _. test _ λ _ u. none-there (any_unordered σ) (any-unordered-none σ ordered) u

  -- ---- at a place

  runs-++ : (c d : Conj) → T (last_runs (c ++ d)) → T (last_runs c) × T (last_runs d)
  runs-++ [] d t = (tt, t)
  runs-++ (l ∷ c) d t = let (a, b) = and_parts (last_literal l) (last_runs (c ++ d)) t in let (x, y) = runs-++ c d b in (and_both (last_literal l) (last_runs c) a x, y)

  ++-runs : (c d : Conj) → T (last_runs c) → T (last_runs d) → T (last_runs (c ++ d))
  ++-runs [] d a b = b
  ++-runs (l ∷ c) d a b = let (x, y) = and_parts (last_literal l) (last_runs c) a in and_both (last_literal l) (last_runs (c ++ d)) x (++-runs c d y b)

  abbrev Runs : Conj → Type 0
  Runs k = T (last_runs k)

  place-keeps : (before behind : Conj) (b : Branch) → Runs before → Runs behind → LastBranch b → Runs (place before behind b)
  place-keeps before behind (plain ls) m n p = ++-runs before (ls ++ behind) m (++-runs ls behind p n)
  place-keeps before behind (elims es ls s) m n p =
      ++-runs (put_c s before) (es ++ (put_c s ls ++ put_c s behind)) (put-runs s p.2 before m)
      (++-runs es (put_c s ls ++ put_c s behind) p.0 (++-runs (put_c s ls) (put_c s behind) (put-runs s p.2 ls p.1) (put-runs s p.2 behind n)))

  answer_keeps : (before behind : Conj) (w : Answer) → Runs before → Runs behind → Answers (Each LastBranch) w → Gives (Each Runs) (placed before behind w)
  answer_keeps before behind none m n p = tt
  answer_keeps before behind (some bs) m n p = each_map LastBranch Runs (place before behind) (λ b q. place-keeps before behind b m n q) bs p.given

  abbrev RuleKeeps : Rule → Type 0
  RuleKeeps (on_eqn rule) = KeepsEqn rule
  RuleKeeps (on_mem rule) = Unit {0}
  RuleKeeps (on_pair rule) = (l : Literal) (behind : Conj) → Runs (l ∷ behind) → Gives (Each Runs) (rule l behind)

  sides-keep : (rule : Rule) → RuleKeeps rule → (before : Conj) (l : Literal) (behind : Conj) → Runs (before ++ (l ∷ behind)) → OnSides (Each Runs) before behind rule l
  sides-keep (on_eqn rule) p before (eqn l r) behind t =
      let (m, n) = runs-++ before (eqn l r ∷ behind) t in
      let (a, b) = and_parts (last l && last r) (last_runs behind) n in let (x, y) = and_parts (last l) (last r) a in (
        answer_keeps before behind (rule (before ++ behind) l r) m b (p (before ++ behind) l r x y),
        answer_keeps before behind (rule (before ++ behind) r l) m b (p (before ++ behind) r l y x),
      )
  sides-keep (on_eqn rule) p before (mem h R) behind t = tt
  sides-keep (on_mem rule) p before (eqn l r) behind t = tt
  sides-keep (on_mem rule) p before (mem h R) behind t = absurd (runs-++ before (mem h R ∷ behind) t).1
  sides-keep (on_pair rule) p before l behind t =
      let (m, n) = runs-++ before (l ∷ behind) t in gives-behind Runs Runs before (rule l behind) (λ k q. ++-runs before k m q) (p l behind n)

  struck-keeps : {l : Literal} {k j : Conj} → Struck l k j → Runs k → Runs j
  struck-keeps {l} (here {k = k}) t = (and_parts (last_literal l) (last_runs k) t).1
  struck-keeps (further {m = m} {k = k} {j = j} s) t = let (a, b) = and_parts (last_literal m) (last_runs k) t in and_both (last_literal m) (last_runs j) a (struck-keeps s b)

  Fold-keeps : RuleKeeps (on_pair rules.Fold)
  Fold-keeps l behind t = fold_is (Each Runs) l behind λ k s. let (a, b) = and_parts (last_literal l) (last_runs behind) t in (and_both (last_literal l) (last_runs k) a (struck-keeps s b), tt)

  Clash-keeps : RuleKeeps (on_pair (rules.Clash σ))
  Clash-keeps l behind t = drops-gives (Each Runs) (rules.Clash σ l behind) tt (clash-drops walked_pairs (is_unordered σ) l behind)

  pub each_keeps : Each (AtSides (Kept Runs)) (rules.rules σ)
  each_keeps =
      each-imp RuleKeeps (AtSides (Kept Runs)) (λ rule p. kept-at-sides Runs rule (sides-keep rule p)) (rules.rules σ)
      (R1-keeps also tt also Fold-keeps
      also F1-keeps also F2-keeps also F3-keeps also F4-keeps also tt also tt also tt
      also Del1-keeps also Del2-keeps also Del3-keeps
      also D1-keeps also D2-keeps also D0-keeps σ
      also E1-keeps also E2-keeps also E3-keeps also E4-keeps also E5-keeps also E6-keeps also E7-keeps
      also tt also tt also tt also tt also tt also tt also tt also tt also tt also tt
      also Clash-keeps
      also tt)

  pub step_keeps : (k : Conj) (ks : List Conj) → step σ k ≡ results ks → Runs k → Each Runs ks
  step_keeps k ks e t = step-at-sides σ (Kept Runs) each_keeps k ks e t
