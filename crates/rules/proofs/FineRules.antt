-- Each rule's results are fine where the literal is.
use Prim.Native.Nat.{◌<◌, ◌≤◌}
use mathlib.Core.Path.{◌≡◌, subst}
use native.Mathlib.Omega.{arith}
use Rattle.language.specs.declared.Sym.{Sym}
use Rattle.language.specs.Limits.{Limits, walked_pairs}
use Rattle.language.specs.declared.Signature.{Signature}
use Rattle.language.specs.Trees.{Functor, symbol, Hedge, ε, hvar, Expr, Literal, Conj, is_unordered}
use Rattle.language.specs.Fine.{fine_functor, fine_hedge, fine_expr, fine_literal, fine_conj}
use Rattle.rules.specs.Looks.{first_term, first_run, lone_term, lone_t, lone_h, lone_node, as_symbol, as_blank, inside, up_to, cuts, as_cat, as_alt, as_star, as_over}
use Rattle.rules.specs.Elements.{struck, orders}
use Rattle.rules.specs.Expressions.{linear}
use Rattle.rules.specs.Reply.{PairRule}
use Rattle.rules.specs.Rules.{Branch, plain, elims, Answer, EqRule, InRule, Rule, on_eqn, on_mem, on_pair, rules, R1, R2, Fold, F1, F2, F3, F4, F5, F6, F7, Del1, Del2, Del3, D1, D2, D0, E1, E2, E3, E4, E5, E6, E7, M1, M2, M3, M4, M5, M6, M7, M10, M11, M12, Clash, order_result, order_member, every_symbol, named_result, cut_result, monomial_result}
use Rattle.rules.specs.Each.{Each}
use Rattle.rules.proofs.Each.{◌also◌, each_map}
use Rattle.rules.proofs.Answers.{Answers, look, test, answers}
use Rattle.rules.proofs.Looks.{lone_t-is, lone_h-is, lone_node-is, lone_term-is, first_term-is, first_run-is, as_symbol-is, as_blank-is, inside_is, up_to-is, as_cat-is, as_alt-is, as_star-is, as_over-is}
use Rattle.rules.proofs.Elements.{struck-is, without-keeps, orders-keep}
use Rattle.rules.proofs.Symbols.{each-symbol}
use Rattle.rules.proofs.Steps.{Gives}
use Rattle.rules.proofs.Folding.{Struck, here, further, fold_is}
use Rattle.rules.proofs.Clashing.{drops-gives, clash-drops}
use Rattle.rules.proofs.FineParts.{FineSubst, fine-join, fine-both, FinePair, fine-cuts, fine-vanish, FineMonomial, fine-linear, fine-set_t, fine-set_h, fine-set_f, fine-emptied}

module _ (L : Limits) where
  abbrev pub FineBranch : Branch → Type 0
  FineBranch (plain ls) = fine_conj L ls
  FineBranch (elims es ls s) = fine_conj L es × fine_conj L ls × FineSubst L s

  abbrev pub FineAnswer : Answer → Type 0
  FineAnswer w = Answers (Each FineBranch) w

  abbrev FineEqn : EqRule → Type 0
  FineEqn rule = (K : Conj) (l r : Hedge) → fine_hedge L l → fine_hedge L r → FineAnswer (rule K l r)

  abbrev FineMem : InRule → Type 0
  FineMem rule = (K : Conj) (h : Hedge) (R : Expr) → fine_hedge L h → fine_expr L R → FineAnswer (rule K h R)

  abbrev FineBehind : PairRule → Type 0
  FineBehind rule = (l : Literal) (behind : Conj) → fine_literal L l → fine_conj L behind → Gives (Each (fine_conj L)) (rule l behind)

  -- what a look finds is as fine as where it looks
  like : {h k : Hedge} → h ≡ k → fine_hedge L h → fine_hedge L k
  like e p = subst (fine_hedge L) e p

  of : {R S : Expr} → R ≡ S → fine_expr L R → fine_expr L S
  of e p = subst (fine_expr L) e p

  named : {f g : Functor} → f ≡ g → fine_functor L f → fine_functor L g
  named e p = subst (fine_functor L) e p

  -- ---- equations

  R1-fine : FineEqn R1
  R1-fine K l r p q = test _ λ _ _. answers (tt, tt)

  F1-fine : FineEqn F1
  F1-fine K l r p q = look (lone_t l) (lone_t-is l) λ _ _. test _ λ _ _. answers tt

  F2-fine : FineEqn F2
  F2-fine K l r p q = look (lone_h l) (lone_h-is l) λ _ _. test _ λ _ _. test _ λ _ _. answers tt

  F3-fine : FineEqn F3
  F3-fine K l r p q =
      look (lone_node l) (lone_node-is l) λ a _. look (lone_node r) (lone_node-is r) λ b _.
      look (as_symbol a.0) (as_symbol-is a.0) λ _ _. look (as_symbol b.0) (as_symbol-is b.0) λ _ _. test _ λ _ _. answers tt

  F4-fine : FineEqn F4
  F4-fine K l r p q = test _ λ _ _. test _ λ _ _. answers tt

  Del1-fine : FineEqn Del1
  Del1-fine K l r p q =
      look (first_run l) (first_run-is l) λ a e. look (first_run r) (first_run-is r) λ b d. test _ λ _ _.
      answers ((((like e p).1, (like d q).1), tt), tt)

  Del2-fine : (σ : Signature) → FineEqn (Del2 σ)
  Del2-fine σ K l r p q =
      look (lone_node l) (lone_node-is l) λ a e. look (lone_node r) (lone_node-is r) λ b d.
      look (as_symbol a.0) (as_symbol-is a.0) λ f s. look (as_symbol b.0) (as_symbol-is b.0) λ _ _. test _ λ _ _. test _ λ _ _.
      look (struck a.1 b.1) (struck-is a.1 b.1) λ c w.
      let g = named s (like e p).0 in
      let x = (without-keeps (fine_hedge L) (fine-join L) (fine-both L) w.shared a.1 c.0 w.left (like e p).1).1 in
      let y = (without-keeps (fine_hedge L) (fine-join L) (fine-both L) w.shared b.1 c.1 w.right (like d q).1).1 in
      answers ((((g, x, tt), (g, y, tt)), tt), tt)

  Del3-fine : FineEqn Del3
  Del3-fine K l r p q =
      look (lone_h l) (lone_h-is l) λ v _. look (inside v r) (inside_is v r) λ a e.
      let i = fine-both L a.0 (hvar v a.1) (like e q) in answers (((i.0, tt), ((i.1.1, tt), tt)), tt)

  orders-fine : (h : Hedge) → fine_hedge L h → Each (fine_hedge L) (orders h)
  orders-fine = orders-keep (fine_hedge L) (fine-join L) (fine-both L) tt

  D1-fine : (σ : Signature) → FineEqn (D1 σ)
  D1-fine σ K l r p q =
      look (lone_node l) (lone_node-is l) λ a e. look (lone_node r) (lone_node-is r) λ b d.
      look (as_symbol a.0) (as_symbol-is a.0) λ _ _. look (as_symbol b.0) (as_symbol-is b.0) λ _ _. test _ λ _ _. test _ λ _ _. test _ λ _ _. test _ λ _ _.
      answers (each_map (fine_hedge L) FineBranch (order_result a.1) (λ t f. (((like e p).1, f), tt)) (orders b.1) (orders-fine b.1 (like d q).1))

  D2-fine : FineEqn D2
  D2-fine K l r p q =
      look (first_term l) (first_term-is l) λ a e. look (first_term r) (first_term-is r) λ b d. test _ λ _ _.
      let i = fine-both L a.0 a.1 (like e.0 p) in
      let j = fine-both L b.0 b.1 (like d.0 q) in
      answers (((i.0, j.0), ((i.1, j.1), tt)), tt)

  D0-fine : (σ : Signature) → FineEqn (D0 σ)
  D0-fine σ K l r p q =
      look (lone_node l) (lone_node-is l) λ a e. look (lone_node r) (lone_node-is r) λ b d. test _ λ _ _. test _ λ _ _.
      answers ((((like e p).1, (like d q).1), tt), tt)

  E1-fine : FineEqn E1
  E1-fine K l r p q =
      look (lone_t l) (lone_t-is l) λ x e. look (lone_term r) (lone_term-is r) λ t d. test _ λ _ _. test _ λ _ _. test _ λ _ _.
      let f = like d.0 q in answers ((((like e p, f), tt), tt, fine-set_t L x t f), tt)

  E2-fine : FineEqn E2
  E2-fine K l r p q =
      look (lone_h l) (lone_h-is l) λ x e. test _ λ _ _. test _ λ _ _. test _ λ _ _.
      answers ((((like e p, q), tt), tt, fine-set_h L x r q), tt)

  E3-fine : FineEqn E3
  E3-fine K l r p q =
      look (first_run l) (first_run-is l) λ a e. test _ λ _ _. test _ λ _ _. test _ λ _ _.
      answers (each_map (FinePair L) FineBranch (cut_result a.0 a.1 ε)
      (λ c d. (((((like e p).0, tt), d.0), tt), (((like e p).1, fine-join L c.1 ε d.1 tt), tt), fine-set_h L a.0 c.0 d.0)) (cuts r) (fine-cuts L r q))

  E4-fine : FineEqn E4
  E4-fine K l r p q =
      look (first_run l) (first_run-is l) λ a e. test _ λ _ _. look (up_to a.0 r) (up_to-is a.0 r) λ b u.
      let i = fine-both L b.0 b.1 (like u.whole q) in
      answers (each_map (FinePair L) FineBranch (cut_result a.0 a.1 b.1)
      (λ c d. (((((like e p).0, tt), d.0), tt), (((like e p).1, fine-join L c.1 b.1 d.1 i.1), tt), fine-set_h L a.0 c.0 d.0)) (cuts b.0) (fine-cuts L b.0 i.0))

  E5-fine : FineEqn E5
  E5-fine K l r p q =
      look (lone_node l) (lone_node-is l) λ a e. look (as_blank a.0) (as_blank-is a.0) λ X g. look (lone_node r) (lone_node-is r) λ b d.
      test _ λ _ _. test _ λ _ _. test _ λ _ _. test _ λ _ _. test _ λ _ _.
      let f = (like d q).0 in
      answers (((((named g (like e p).0, tt, tt), (f, tt, tt)), tt), tt, fine-set_f L X b.0 f), tt)

  E6-fine : FineEqn E6
  E6-fine K l r p q =
      look (lone_node l) (lone_node-is l) λ a e. look (as_blank a.0) (as_blank-is a.0) λ X g. look (lone_node r) (lone_node-is r) λ b d.
      test _ λ _ _. test _ λ _ _.
      let f = (like d q).0 in
      answers (((((named g (like e p).0, tt, tt), (f, tt, tt)), tt), (((f, (like e p).1, tt), (f, (like d q).1, tt)), tt), fine-set_f L X b.0 f), tt)

  -- a symbol that it tries is fine where the declared symbols are
  E7-fine : (σ : Signature) → σ.symbols ≤ L.each → FineEqn (E7 σ)
  E7-fine σ few K l r p q =
      look (lone_node l) (lone_node-is l) λ a e. look (as_blank a.0) (as_blank-is a.0) λ X g.
      look (lone_node r) (lone_node-is r) λ b d. look (as_blank b.0) (as_blank-is b.0) λ _ _. test _ λ _ _. test _ λ _ _. test _ λ _ _.
      answers (each_map Fine FineBranch (named_result X a.1 b.1)
      (λ f i. ((((named g (like e p).0, tt, tt), (i, tt, tt)), tt), (((i, (like e p).1, tt), (i, (like d q).1, tt)), tt), fine-set_f L X (symbol f) i))
      (every_symbol σ) (each-symbol σ Fine (λ f i. omega (arith, i, few))))
    where
      Fine : Sym → Type 0
      Fine f = f.0 < L.each

  -- ---- memberships

  R2-fine : FineMem R2
  R2-fine K h R p q = test _ λ _ _. test _ λ _ _. answers (tt, tt)

  F5-fine : FineMem F5
  F5-fine K h R p q =
      look (lone_node h) (lone_node-is h) λ a _. look (as_symbol a.0) (as_symbol-is a.0) λ _ _. look (as_over R) (as_over-is R) λ _ _.
      test _ λ _ _. answers tt

  F6-fine : FineMem F6
  F6-fine K h R p q = test _ λ _ _. test _ λ _ _. answers tt

  F7-fine : FineMem F7
  F7-fine K h R p q = test _ λ _ _. test _ λ _ _. answers tt

  M1-fine : FineMem M1
  M1-fine K h R p q = test _ λ _ _. test _ λ _ _. test _ λ _ _. answers ((fine-vanish L h p, tt, fine-emptied L h), tt)

  M2-fine : FineMem M2
  M2-fine K h R p q =
      look (first_term h) (first_term-is h) λ a e. test _ λ _ _. test _ λ _ _.
      let i = fine-both L a.0 a.1 (like e.0 p) in
      answers (each_map (FineMonomial L) FineBranch (monomial_result a.0 a.1) (λ m d. ((i.0, (d.0, d.1)), ((i.1, d.2), tt))) (linear R) (fine-linear L R q))

  M3-fine : FineMem M3
  M3-fine K h R p q =
      look (first_run h) (first_run-is h) λ a e. test _ λ _ _. look (as_over R) (as_over-is R) λ _ _.
      let f = like e p in
      answers ((((f.0, tt), q), ((f.1, tt), tt)), (((((f.0, tt), tt), ((f.1, q), tt))), tt))

  M4-fine : FineMem M4
  M4-fine K h R p q = look (lone_term h) (lone_term-is h) λ t e. look (as_star R) (as_star-is R) λ S d. answers (((like e.0 p, of d q), tt), tt)

  M5-fine : FineMem M5
  M5-fine K h R p q =
      look (lone_term h) (lone_term-is h) λ t e. look (as_cat R) (as_cat-is R) λ S d.
      let f = like e.0 p in
      let g = of d q in
      answers (((f, g.0), ((tt, g.1), tt)), (((tt, g.0), ((f, g.1), tt)), tt))

  M6-fine : FineMem M6
  M6-fine K h R p q =
      look (lone_term h) (lone_term-is h) λ t e. look (as_alt R) (as_alt-is R) λ S d.
      let f = like e.0 p in
      let g = of d q in
      answers (((f, g.0), tt), (((f, g.1), tt), tt))

  M7-fine : FineMem M7
  M7-fine K h R p q =
      look (first_run h) (first_run-is h) λ _ _. look (as_alt R) (as_alt-is R) λ S d.
      let g = of d q in
      answers (((p, g.0), tt), (((p, g.1), tt), tt))

  M10-fine : FineMem M10
  M10-fine K h R p q =
      look (lone_node h) (lone_node-is h) λ a e. look (as_blank a.0) (as_blank-is a.0) λ X n. look (as_over R) (as_over-is R) λ g d.
      let f = (of d q).0 in
      answers (((((named n (like e p).0, tt, tt), (f, tt, tt)), tt), (((f, (like e p).1, tt), q), tt), fine-set_f L X (symbol g.0) f), tt)

  M11-fine : (σ : Signature) → FineMem (M11 σ)
  M11-fine σ K h R p q =
      look (lone_node h) (lone_node-is h) λ a e. look (as_symbol a.0) (as_symbol-is a.0) λ _ _. look (as_over R) (as_over-is R) λ g d. test _ λ _ _. test _ λ _ _.
      answers ((((like e p).1, (of d q).1), tt), tt)

  M12-fine : (σ : Signature) → FineMem (M12 σ)
  M12-fine σ K h R p q =
      look (lone_node h) (lone_node-is h) λ a e. look (as_symbol a.0) (as_symbol-is a.0) λ _ _. look (as_over R) (as_over-is R) λ g d.
      test _ λ _ _. test _ λ _ _. test _ λ _ _.
      answers (each_map (fine_hedge L) FineBranch (order_member g.1) (λ t f. ((f, (of d q).1), tt)) (orders a.1) (orders-fine a.1 (like e p).1))

  -- ---- two literals

  struck-fine : {l : Literal} {k j : Conj} → Struck l k j → fine_conj L k → fine_conj L j
  struck-fine here f = f.1
  struck-fine (further s) f = (f.0, struck-fine s f.1)

  Fold-fine : FineBehind Fold
  Fold-fine l behind p q = fold_is (Each (fine_conj L)) l behind λ k s. ((p, struck-fine s q), tt)

  Clash-fine : (σ : Signature) → FineBehind (Clash σ)
  Clash-fine σ l behind p q = drops-gives (Each (fine_conj L)) (Clash σ l behind) tt (clash-drops walked_pairs (is_unordered σ) l behind)

  -- ---- in their order

  abbrev pub RuleFine : Rule → Type 0
  RuleFine (on_eqn rule) = FineEqn rule
  RuleFine (on_mem rule) = FineMem rule
  RuleFine (on_pair rule) = FineBehind rule

  pub each-rule-fine : (σ : Signature) → σ.symbols ≤ L.each → Each RuleFine (rules σ)
  each-rule-fine σ few =
      R1-fine also R2-fine also Fold-fine
      also F1-fine also F2-fine also F3-fine also F4-fine also F5-fine also F6-fine also F7-fine
      also Del1-fine also Del2-fine σ also Del3-fine
      also D1-fine σ also D2-fine also D0-fine σ
      also E1-fine also E2-fine also E3-fine also E4-fine also E5-fine also E6-fine also E7-fine σ few
      also M1-fine also M2-fine also M3-fine also M4-fine also M5-fine also M6-fine also M7-fine also M10-fine also M11-fine σ also M12-fine σ
      also Clash-fine σ
      also tt
