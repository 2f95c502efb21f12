-- The rules make no new names: what stands for a literal is made of what the literal is made of.
use Prim.Native.Nat.{◌<◌}
use mathlib.Core.Path.{◌≡◌}
use mathlib.Core.List.{List, ◌∷◌, ◌++◌, map}
use mathlib.Core.Option.{none, some}
use lib.Dec.{T}
use Rattle.language.specs.declared.HedgeVar.{HedgeVar}
use Rattle.language.specs.Limits.{walked_pairs}
use Rattle.language.specs.declared.Sym.{Sym}
use Rattle.language.specs.declared.Signature.{Signature}
use Rattle.language.specs.Trees.{symbol, Hedge, ε, tvar, hvar, node, Expr, Literal, eqn, mem, Conj, is_unordered, any_unordered, hv}
use Rattle.rules.specs.Looks.{first_term, first_run, lone_term, lone_t, lone_h, lone_node, as_symbol, as_blank, inside, up_to, cuts, as_cat, as_alt, as_star, as_over}
use Rattle.rules.specs.Elements.{struck, orders}
use Rattle.rules.specs.Substitution.{put_c}
use Rattle.rules.specs.Expressions.{linear}
use Rattle.rules.specs.Reply.{results, PairRule}
use Rattle.rules.specs.Rules.{Branch, plain, elims, Answer, EqRule, InRule, Rule, on_eqn, on_mem, on_pair, cut_result, order_result, every_symbol, named_result, vanish, monomial_result, order_member}
use Rattle.rules.specs.Rules as rules
use Rattle.rules.specs.Step.{place, placed, step}
use Rattle.rules.specs.Each.{Each}
use Rattle.rules.specs.Sides.{AtSides}
use Rattle.rules.proofs.Each.{◌also◌, each_map, each-imp}
use Rattle.rules.proofs.Answers.{Answers, look, test, answers}
use Rattle.rules.proofs.Looks.{lone_t-is, lone_h-is, lone_node-is, lone_term-is, first_term-is, first_run-is, as_symbol-is, as_blank-is, inside_is, up_to-is, as_cat-is, as_alt-is, as_star-is, as_over-is, CutOf, cuts-join}
use Rattle.rules.proofs.Elements.{struck-is, without-keeps, orders-keep}
use Rattle.rules.proofs.Symbols.{each-symbol}
use Rattle.rules.proofs.Steps.{Gives, OnSides, Kept, kept-at-sides, gives-behind, step-at-sides}
use Rattle.rules.proofs.Folding.{Struck, here, further, fold_is}
use Rattle.rules.proofs.Clashing.{drops-gives, clash-drops}
use Rattle.exact.specs.Made.{Name, a_symbol, a_variable, Made, MadeE, MadeL, MadeC}
use Rattle.exact.proofs.Made.{made-⧺, made-++, Puts, put_c-made, set_t-made, set_h-made, set_f-made, emptied-made, MadeMonomial, linear-made}

-- E7 writes declared symbols, whether they were there before or not: where some symbol is unordered, each declared one is as A says
abbrev pub Known : Signature → (Name → Type 0) → Type 0
Known σ A = T (any_unordered σ) → (f : Sym) → f.0 < σ.symbols → A (a_symbol f)

module _ (σ : Signature) (A : Name → Type 0) (known : Known σ A) where
  abbrev pub MadeBranch : Branch → Type 0
  MadeBranch (plain ls) = MadeC A ls
  MadeBranch (elims es ls s) = MadeC A es × MadeC A ls × Puts A s

  abbrev pub MadeAnswer : Answer → Type 0
  MadeAnswer w = Answers (Each MadeBranch) w

  abbrev pub MakesEqn : EqRule → Type 0
  MakesEqn rule = (K : Conj) (l r : Hedge) → Made A l → Made A r → MadeAnswer (rule K l r)

  abbrev pub MakesMem : InRule → Type 0
  MakesMem rule = (K : Conj) (h : Hedge) (R : Expr) → Made A h → MadeE A R → MadeAnswer (rule K h R)

  abbrev pub MakesPair : PairRule → Type 0
  MakesPair rule = (l : Literal) (behind : Conj) → MadeL A l → MadeC A behind → Gives (Each (MadeC A)) (rule l behind)

  -- ---- equations

  R1-makes : MakesEqn rules.R1
  R1-makes K l r a b = test _ λ _ _. answers (tt, tt)

  F1-makes : MakesEqn rules.F1
  F1-makes K l r a b = look (lone_t l) (lone_t-is l) λ x p. test _ λ _ _. answers tt

  F2-makes : MakesEqn rules.F2
  F2-makes K l r a b = look (lone_h l) (lone_h-is l) λ p e. test _ λ _ _. test _ λ _ _. answers tt

  F3-makes : MakesEqn rules.F3
  F3-makes K l r a b =
      look (lone_node l) (lone_node-is l) λ c p. look (lone_node r) (lone_node-is r) λ d q.
      look (as_symbol c.0) (as_symbol-is c.0) λ f s. look (as_symbol d.0) (as_symbol-is d.0) λ g t. test _ λ _ _. answers tt

  F4-makes : MakesEqn rules.F4
  F4-makes K l r a b = test _ λ _ _. test _ λ _ _. answers tt

  Del1-makes : MakesEqn rules.Del1
  Del1-makes K l r a b =
      look (first_run l) (first_run-is l) λ c p. look (first_run r) (first_run-is r) λ d q.
      test _ λ _ _. let m = rw p at a in let n = rw q at b in answers (((m.1, n.1), tt), tt)

  Del3-makes : MakesEqn rules.Del3
  Del3-makes K l r a b =
      look (lone_h l) (lone_h-is l) λ p d. look (inside p r) (inside_is p r) λ c e.
      let (m, n) = (made-⧺ A c.0 (hvar p c.1)).0 (rw e at b) in
      answers (((m, tt), ((n.1, tt), tt)), tt)

  D2-makes : MakesEqn rules.D2
  D2-makes K l r a b =
      look (first_term l) (first_term-is l) λ c p. look (first_term r) (first_term-is r) λ d q.
      test _ λ _ _.
      let m = (made-⧺ A c.0 c.1).0 (rw p.0 at a) in
      let n = (made-⧺ A d.0 d.1).0 (rw q.0 at b) in
      answers (((m.0, n.0), ((m.1, n.1), tt)), tt)

  D0-makes : MakesEqn (rules.D0 σ)
  D0-makes K l r a b =
      look (lone_node l) (lone_node-is l) λ c p. look (lone_node r) (lone_node-is r) λ d q.
      test _ λ _ _. test _ λ _ _. let m = rw p at a in let n = rw q at b in answers (((m.1, n.1), tt), tt)

  Del2-makes : MakesEqn (rules.Del2 σ)
  Del2-makes K l r a b =
      look (lone_node l) (lone_node-is l) λ c p. look (lone_node r) (lone_node-is r) λ d q.
      look (as_symbol c.0) (as_symbol-is c.0) λ f s. look (as_symbol d.0) (as_symbol-is d.0) λ g t.
      test _ λ _ _. test _ λ _ _.
      look (struck c.1 d.1) (struck-is c.1 d.1) λ k w.
      let m = rw (p, s) at a in let n = rw q at b in
      let x = (without-keeps (Made A) (λ h j y z. (made-⧺ A h j).1 (y, z)) (λ h j y. (made-⧺ A h j).0 y) w.shared c.1 k.0 w.left m.1).1 in
      let y = (without-keeps (Made A) (λ h j y z. (made-⧺ A h j).1 (y, z)) (λ h j y. (made-⧺ A h j).0 y) w.shared d.1 k.1 w.right n.1).1 in
      answers ((((m.0, x, tt), (m.0, y, tt)), tt), tt)

  orders-made : (h : Hedge) → Made A h → Each (Made A) (orders h)
  orders-made = orders-keep (Made A) (λ h j y z. (made-⧺ A h j).1 (y, z)) (λ h j y. (made-⧺ A h j).0 y) tt

  D1-makes : MakesEqn (rules.D1 σ)
  D1-makes K l r a b =
      look (lone_node l) (lone_node-is l) λ c p. look (lone_node r) (lone_node-is r) λ d q.
      look (as_symbol c.0) (as_symbol-is c.0) λ f s. look (as_symbol d.0) (as_symbol-is d.0) λ g t.
      test _ λ _ _. test _ λ _ _. test _ λ _ _. test _ λ _ _.
      let m = rw p at a in let n = rw q at b in
      answers (each_map (Made A) MadeBranch (order_result c.1) (λ e k. ((m.1, k), tt)) (orders d.1) (orders-made d.1 n.1))

  E1-makes : MakesEqn rules.E1
  E1-makes K l r a b =
      look (lone_t l) (lone_t-is l) λ x p. look (lone_term r) (lone_term-is r) λ t q.
      test _ λ _ _. test _ λ _ _. test _ λ _ _.
      let m = rw p at a in let n = rw q.0 at b in
      answers ((((m, n), tt), tt, set_t-made A x t n), tt)

  E2-makes : MakesEqn rules.E2
  E2-makes K l r a b =
      look (lone_h l) (lone_h-is l) λ p e.
      test _ λ _ _. test _ λ _ _. test _ λ _ _.
      let m = rw e at a in answers ((((m, b), tt), tt, set_h-made A p r b), tt)

  cuts-made : (p : HedgeVar) (h rest t : Hedge) → A (a_variable (hv p)) → Made A h → Made A rest → Made A t → Each MadeBranch (map (cut_result p h rest) (cuts t))
  cuts-made p h rest t a b c d = each_map (CutOf t) MadeBranch (cut_result p h rest) one (cuts t) (cuts-join t)
    where
      one : (k : Hedge × Hedge) → CutOf t k → MadeBranch (cut_result p h rest k)
      one k e =
          let (m, n) = (made-⧺ A k.0 k.1).0 (rw e d) in
          ((((a, tt), m), tt), ((b, (made-⧺ A k.1 rest).1 (n, c)), tt), set_h-made A p k.0 m)

  E3-makes : MakesEqn rules.E3
  E3-makes K l r a b =
      look (first_run l) (first_run-is l) λ c e.
      test _ λ _ _. test _ λ _ _. test _ λ _ _.
      let m = rw e at a in answers (cuts-made c.0 c.1 ε r m.0 m.1 tt b)

  E4-makes : MakesEqn rules.E4
  E4-makes K l r a b =
      look (first_run l) (first_run-is l) λ c e.
      test _ λ _ _.
      look (up_to c.0 r) (up_to-is c.0 r) λ d u.
      let m = rw e at a in
      let n = (made-⧺ A d.0 d.1).0 (rw u.whole at b) in
      answers (cuts-made c.0 c.1 d.1 d.0 m.0 m.1 n.1 n.0)

  E5-makes : MakesEqn rules.E5
  E5-makes K l r a b =
      look (lone_node l) (lone_node-is l) λ c p. look (as_blank c.0) (as_blank-is c.0) λ X s. look (lone_node r) (lone_node-is r) λ d q.
      test _ λ _ _. test _ λ _ _. test _ λ _ _. test _ λ _ _. test _ λ _ _.
      let m = rw (p, s) at a in let n = rw q at b in
      answers (((((m.0, tt, tt), (n.0, tt, tt)), tt), tt, set_f-made A X d.0 n.0), tt)

  E6-makes : MakesEqn rules.E6
  E6-makes K l r a b =
      look (lone_node l) (lone_node-is l) λ c p. look (as_blank c.0) (as_blank-is c.0) λ X s. look (lone_node r) (lone_node-is r) λ d q.
      test _ λ _ _. test _ λ _ _.
      let m = rw (p, s) at a in let n = rw q at b in
      answers (((((m.0, tt, tt), (n.0, tt, tt)), tt), (((n.0, m.1, tt), (n.0, n.1, tt)), tt), set_f-made A X d.0 n.0), tt)

  E7-makes : MakesEqn (rules.E7 σ)
  E7-makes K l r a b =
      look (lone_node l) (lone_node-is l) λ c p. look (as_blank c.0) (as_blank-is c.0) λ X s.
      look (lone_node r) (lone_node-is r) λ d q. look (as_blank d.0) (as_blank-is d.0) λ Y t.
      test _ λ _ _. test _ λ _ _. test _ λ _ u.
      let m = rw (p, s) at a in let n = rw q at b in
      answers (each_map (λ f. A (a_symbol f)) MadeBranch (named_result X c.1 d.1)
      (λ f k. ((((m.0, tt, tt), (k, tt, tt)), tt), (((k, m.1, tt), (k, n.1, tt)), tt), set_f-made A X (symbol f) k)) (every_symbol σ)
      (each-symbol σ (λ f. A (a_symbol f)) (known u)))

  -- ---- memberships

  R2-makes : MakesMem rules.R2
  R2-makes K h R a b = test _ λ _ _. test _ λ _ _. answers (tt, tt)

  F5-makes : MakesMem rules.F5
  F5-makes K h R a b =
      look (lone_node h) (lone_node-is h) λ c p. look (as_symbol c.0) (as_symbol-is c.0) λ f s. look (as_over R) (as_over-is R) λ g q.
      test _ λ _ _. answers tt

  F6-makes : MakesMem rules.F6
  F6-makes K h R a b = test _ λ _ _. test _ λ _ _. answers tt

  F7-makes : MakesMem rules.F7
  F7-makes K h R a b = test _ λ _ _. test _ λ _ _. answers tt

  vanish-made : (h : Hedge) → Made A h → MadeC A (vanish h)
  vanish-made ε m = tt
  vanish-made (tvar x r) m = vanish-made r m.1
  vanish-made (hvar p r) m = (((m.0, tt), tt), vanish-made r m.1)
  vanish-made (node f c r) m = vanish-made r m.2

  M1-makes : MakesMem rules.M1
  M1-makes K h R a b = test _ λ _ _. test _ λ _ _. test _ λ _ _. answers ((vanish-made h a, tt, emptied-made A h), tt)

  M2-makes : MakesMem rules.M2
  M2-makes K h R a b =
      look (first_term h) (first_term-is h) λ c p.
      test _ λ _ _. test _ λ _ _.
      let n = (made-⧺ A c.0 c.1).0 (rw p.0 at a) in
      answers (each_map (MadeMonomial A) MadeBranch (monomial_result c.0 c.1) (λ m k. ((n.0, (k.0, k.1)), ((n.1, k.2), tt))) (linear R) (linear-made A R b))

  M3-makes : MakesMem rules.M3
  M3-makes K h R a b =
      look (first_run h) (first_run-is h) λ c e.
      test _ λ _ _.
      look (as_over R) (as_over-is R) λ g q.
      let m = rw e at a in
      answers (((((m.0, tt), b), ((m.1, tt), tt))), (((((m.0, tt), tt), ((m.1, b), tt))), tt))

  M4-makes : MakesMem rules.M4
  M4-makes K h R a b =
      look (lone_term h) (lone_term-is h) λ t p. look (as_star R) (as_star-is R) λ S q.
      let m = rw p.0 at a in let n = rw q at b in answers (((m, n), tt), tt)

  M5-makes : MakesMem rules.M5
  M5-makes K h R a b =
      look (lone_term h) (lone_term-is h) λ t p. look (as_cat R) (as_cat-is R) λ S q.
      let m = rw p.0 at a in let n = rw q at b in answers (((m, n.0), ((tt, n.1), tt)), (((tt, n.0), ((m, n.1), tt)), tt))

  M6-makes : MakesMem rules.M6
  M6-makes K h R a b =
      look (lone_term h) (lone_term-is h) λ t p. look (as_alt R) (as_alt-is R) λ S q.
      let m = rw p.0 at a in let n = rw q at b in answers (((m, n.0), tt), (((m, n.1), tt), tt))

  M7-makes : MakesMem rules.M7
  M7-makes K h R a b =
      look (first_run h) (first_run-is h) λ c e. look (as_alt R) (as_alt-is R) λ S q.
      let n = rw q at b in answers (((a, n.0), tt), (((a, n.1), tt), tt))

  M10-makes : MakesMem rules.M10
  M10-makes K h R a b =
      look (lone_node h) (lone_node-is h) λ c p. look (as_blank c.0) (as_blank-is c.0) λ X s. look (as_over R) (as_over-is R) λ g q.
      let m = rw (p, s) at a in let n = rw q at b in
      answers (((((m.0, tt, tt), (n.0, tt, tt)), tt), (((n.0, m.1, tt), b), tt), set_f-made A X (symbol g.0) n.0), tt)

  M11-makes : MakesMem (rules.M11 σ)
  M11-makes K h R a b =
      look (lone_node h) (lone_node-is h) λ c p. look (as_symbol c.0) (as_symbol-is c.0) λ f s. look (as_over R) (as_over-is R) λ g q.
      test _ λ _ _. test _ λ _ _. let m = rw p at a in let n = rw q at b in answers (((m.1, n.1), tt), tt)

  M12-makes : MakesMem (rules.M12 σ)
  M12-makes K h R a b =
      look (lone_node h) (lone_node-is h) λ c p. look (as_symbol c.0) (as_symbol-is c.0) λ f s. look (as_over R) (as_over-is R) λ g q.
      test _ λ _ _. test _ λ _ _. test _ λ _ _.
      let m = rw p at a in let n = rw q at b in
      answers (each_map (Made A) MadeBranch (order_member g.1) (λ e k. ((k, n.1), tt)) (orders c.1) (orders-made c.1 m.1))

  -- ---- two literals

  struck-made : {l : Literal} {k j : Conj} → Struck l k j → MadeC A k → MadeC A j
  struck-made here m = m.1
  struck-made (further s) m = (m.0, struck-made s m.1)

  Fold-makes : MakesPair rules.Fold
  Fold-makes l behind m n = fold_is (Each (MadeC A)) l behind λ k s. ((m, struck-made s n), tt)

  Clash-makes : MakesPair (rules.Clash σ)
  Clash-makes l behind m n = drops-gives (Each (MadeC A)) (rules.Clash σ l behind) tt (clash-drops walked_pairs (is_unordered σ) l behind)

  -- ---- at a place

  place-made : (before behind : Conj) (b : Branch) → MadeC A before → MadeC A behind → MadeBranch b → MadeC A (place before behind b)
  place-made before behind (plain ls) m n p = (made-++ A before _).1 (m, (made-++ A ls behind).1 (p, n))
  place-made before behind (elims es ls s) m n p =
      (made-++ A (put_c s before) _).1
      (put_c-made A s p.2 before m, (made-++ A es _).1 (p.0, (made-++ A (put_c s ls) _).1 (put_c-made A s p.2 ls p.1, put_c-made A s p.2 behind n)))

  abbrev pub RuleMakes : Rule → Type 0
  RuleMakes (on_eqn rule) = MakesEqn rule
  RuleMakes (on_mem rule) = MakesMem rule
  RuleMakes (on_pair rule) = MakesPair rule

  at-literal-made : (before behind : Conj) (w : Answer) → MadeC A before → MadeC A behind → MadeAnswer w → Gives (Each (MadeC A)) (placed before behind w)
  at-literal-made before behind none m n p = tt
  at-literal-made before behind (some bs) m n p = each_map MadeBranch (MadeC A) (place before behind) (λ b q. place-made before behind b m n q) bs p.given

  sides-make : (rule : Rule) → RuleMakes rule → (before : Conj) (l : Literal) (behind : Conj) → MadeC A before → MadeL A l → MadeC A behind
      → OnSides (Each (MadeC A)) before behind rule l
  sides-make (on_eqn rule) p before (eqn l r) behind m (n, o) k = (
    at-literal-made before behind (rule (before ++ behind) l r) m k (p (before ++ behind) l r n o),
    at-literal-made before behind (rule (before ++ behind) r l) m k (p (before ++ behind) r l o n),
  )
  sides-make (on_eqn rule) p before (mem h R) behind m n k = tt
  sides-make (on_mem rule) p before (eqn l r) behind m n k = tt
  sides-make (on_mem rule) p before (mem h R) behind m n k = at-literal-made before behind (rule (before ++ behind) h R) m k (p (before ++ behind) h R n.0 n.1)
  sides-make (on_pair rule) p before l behind m n k =
      gives-behind (MadeC A) (MadeC A) before (rule l behind) (λ j q. (made-++ A before j).1 (m, q)) (p l behind n k)

  rule-makes : (rule : Rule) → RuleMakes rule → AtSides (Kept (MadeC A)) rule
  rule-makes rule p = kept-at-sides (MadeC A) rule λ before l behind m.
      let (x, y) = (made-++ A before (l ∷ behind)).0 m in sides-make rule p before l behind x y.0 y.1

  -- What a rule answers is made of what its literal is made of.
  pub each_makes : Each RuleMakes (rules.rules σ)
  each_makes =
      R1-makes also R2-makes also Fold-makes
      also F1-makes also F2-makes also F3-makes also F4-makes also F5-makes also F6-makes also F7-makes
      also Del1-makes also Del2-makes also Del3-makes
      also D1-makes also D2-makes also D0-makes
      also E1-makes also E2-makes also E3-makes also E4-makes also E5-makes also E6-makes also E7-makes
      also M1-makes also M2-makes also M3-makes also M4-makes also M5-makes also M6-makes also M7-makes also M10-makes also M11-makes also M12-makes
      also Clash-makes
      also tt

  -- Its results, wherever it applies, are made of what the conjunction is made of.
  pub each-rule-makes : Each (AtSides (Kept (MadeC A))) (rules.rules σ)
  each-rule-makes = each-imp RuleMakes (AtSides (Kept (MadeC A))) rule-makes (rules.rules σ) each_makes

  pub step-made : (k : Conj) (ks : List Conj) → step σ k ≡ results ks → MadeC A k → Each (MadeC A) ks
  step-made k ks e m = step-at-sides σ (Kept (MadeC A)) each-rule-makes k ks e m
