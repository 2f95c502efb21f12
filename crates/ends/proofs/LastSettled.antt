-- Hedge variables last, no unordered symbol, no membership: a conjunction to which no rule applies is solved.
use mathlib.Core.Path.{◌≡◌, refl, sym, ap, subst}
use mathlib.Core.Logic.{◌⊎◌, inl, inr}
use mathlib.Core.Bool.{Bool, true, false, ◌&&◌, ◌||◌, not}
use mathlib.Core.List.{[], ◌∷◌, ◌++◌, append_assoc}
use mathlib.Core.Option.{Option, none, some, some-ne-none}
use lib.Dec.{T}
use Rattle.language.specs.declared.TermVar.{TermVar}
use Rattle.language.specs.declared.HedgeVar.{HedgeVar}
use Rattle.language.specs.declared.FunVar.{FunVar}
use Rattle.language.specs.declared.Sym.{Sym}
use Rattle.language.specs.declared.Signature.{Signature}
use Rattle.language.specs.Trees.{Functor, symbol, fvar, Hedge, ε, tvar, hvar, node, eqn, mem, Conj, eq_t, eq_h, eq_x, eq_s, eq_f, Var, tv, hv, fv, in_functor, holds, in_conj}
use Rattle.meaning.proofs.Same.{none-unordered, any-unordered-none}
use Rattle.rules.specs.Reply.{nothing}
use Rattle.rules.specs.Step.{step}
use Rattle.rules.specs.Looks.{empty, has_term, lone_h}
use Rattle.rules.specs.Solved.{is_some, or_else, variable, alone, solved_literal, solved_from, solved}
use Rattle.rules.specs.Rules.{keeps_order}
use Rattle.rules.proofs.Looks.{empty-is}
use Rattle.rules.proofs.Names.{eq_t-is, eq_h-is, eq_x-is, eq_v-self}
use Rattle.rules.proofs.Tests.{or_left, and_parts, and_both, test-true}
use Rattle.lines.proofs.Quiet.{at_literal, QuietEqn, quiet-eqn}
use Rattle.lines.proofs.Settled.{found, passes, must, both-alone, given-alone}
use Rattle.ends.specs.Last.{last, last_runs}

-- one of the two sides is a variable that stands nowhere else
abbrev Either : Conj → Hedge → Hedge → Type 0
Either K l r = T (is_some (alone K r (variable l r))) ⊎ T (is_some (alone K l (variable r l)))

either-swapped : (K : Conj) (l r : Hedge) → Either K r l → Either K l r
either-swapped K l r (inl t) = inr t
either-swapped K l r (inr t) = inl t

dec : (b : Bool) {A : Type 0} → (T b → A) → ((¬ T b) → A) → A
dec true f g = f tt
dec false f g = g (λ t. t)

no : (b : Bool) → ¬ T b → T (not b)
no true n = absurd (n tt)
no false n = tt

or-none : (b : Bool) → ¬ T b → ¬ T (b || false)
or-none true n t = n tt
or-none false n t = t

or-of : (b : Bool) → T (b || false) → T b
or-of true t = tt
or-of false t = t

never : {A : Type 0} {x : A} → ◌≡◌ {A = Option A} (some x) none → ⊥
never e = some-ne-none _ e

-- the side is v, which stands neither in the other nor elsewhere
solves : (K : Conj) (l r : Hedge) (v : Var) → variable l r ≡ some v → ¬ T (holds v r) → ¬ T (in_conj v K) → T (is_some (alone K r (variable l r)))
solves K l r v e n m = rw e (given-alone (holds v r) (in_conj v K) (v, r) n m)

module _ (σ : Signature) (ordered : σ.unordered ≡ 0) (K : Conj) where
  -- ---- a hedge variable

  -- against what begins with a term, or is nothing: F2, or E2
  run-term : (p : HedgeVar) (r : Hedge) → (T (holds (hv p) r) → T (has_term r)) → lone_h r ≡ none → QuietEqn σ K (hvar p ε) r → Either K (hvar p ε) r
  run-term p r h e q =
      dec (holds (hv p) r)
      (λ t. absurd (never (passes _ _ (passes _ _ (found _ _ q.f2) (h t)) t)))
      (λ n. inl (solves K (hvar p ε) r (hv p) refl n λ t. never (passes _ _ (passes _ _ (passes _ _ (found _ _ q.e2) (no (holds (hv p) r) n)) t) (rw e tt))))

  run-run : (p o : HedgeVar) → QuietEqn σ K (hvar p ε) (hvar o ε) → Either K (hvar p ε) (hvar o ε)
  run-run p o q =
      dec (eq_h p o)
      (λ t. absurd (never (passes _ _ q.r1 (and_both (eq_h p o) true t tt))))
      (λ n.
      dec (in_conj (hv p) K)
      (λ t.
      inr (solves K (hvar o ε) (hvar p ε) (hv o) refl (or-none (eq_h o p) (λ d. n (subst (λ x. T (eq_h p x)) (sym (eq_h-is o p d)) (self-H p))))
      λ d. never (passes _ _ (passes _ _ (passes _ _ (found _ _ q.e2) (no (eq_h p o || false) (or-none (eq_h p o) n))) t) d)))
      (λ m. inl (solves K (hvar p ε) (hvar o ε) (hv p) refl (or-none (eq_h p o) n) m)))
    where
      self-H : (p : HedgeVar) → T (eq_h p p)
      self-H p = eq_v-self (hv p)

  run-any : (p : HedgeVar) (r : Hedge) → T (last r) → QuietEqn σ K (hvar p ε) r → Either K (hvar p ε) r
  run-any p ε t q = run-term p ε (λ z. z) refl q
  run-any p (tvar x r) t q = run-term p (tvar x r) (λ z. tt) refl q
  run-any p (hvar o r) t q = rw (empty-is r t) (run-run p o (rw (empty-is r t) at q))
  run-any p (node f c r) t q = run-term p (node f c r) (λ z. tt) refl q

  -- ---- a term variable

  term-term : (x y : TermVar) → QuietEqn σ K (tvar x ε) (tvar y ε) → Either K (tvar x ε) (tvar y ε)
  term-term x y q =
      dec (eq_t x y)
      (λ t. absurd (never (passes _ _ q.r1 (and_both (eq_t x y) true t tt))))
      (λ n.
      dec (in_conj (tv x) K)
      (λ t.
      inr (solves K (tvar y ε) (tvar x ε) (tv y) refl (or-none (eq_t y x) (λ d. n (subst (λ z. T (eq_t x z)) (sym (eq_t-is y x d)) (eq_v-self (tv x)))))
      λ d. never (passes _ _ (passes _ _ (passes _ _ (found _ _ (found _ _ q.e1)) (no (eq_t x y || false) (or-none (eq_t x y) n))) t) d)))
      (λ m. inl (solves K (tvar x ε) (tvar y ε) (tv x) refl (or-none (eq_t x y) n) m)))

  no-functor : (x : TermVar) (f : Functor) → in_functor (tv x) f ≡ false
  no-functor x (symbol f) = refl
  no-functor x (fvar X) = refl

  term-node : (x : TermVar) (f : Functor) (c : Hedge) → QuietEqn σ K (tvar x ε) (node f c ε) → Either K (tvar x ε) (node f c ε)
  term-node x f c q =
      dec (holds (tv x) c)
      (λ t. absurd (never (passes _ _ (found _ _ q.f1) (or_left (holds (tv x) c) false t))))
      (λ n.
      let m : ¬ T (holds (tv x) (node f c ε)) = λ t. n (or-of (holds (tv x) c) (subst T (ap (λ b. b || holds (tv x) c || false) (no-functor x f)) t)) in
      inl (solves K (tvar x ε) (node f c ε) (tv x) refl m λ t. never (passes _ _ (passes _ _ (passes _ _ (found _ _ (found _ _ q.e1)) (no (holds (tv x) (node f c ε)) m)) t) tt)))

  -- ---- two functors

  keeps : (f : Functor) → T (keeps_order σ f)
  keeps (symbol f) = subst T (sym (ap not (none-unordered σ ordered f))) tt
  keeps (fvar X) = subst T (sym (ap not (any-unordered-none σ ordered))) tt

  -- D0 does not apply: they differ
  differ : (f g : Functor) (c d : Hedge) → QuietEqn σ K (node f c ε) (node g d ε) → ¬ T (eq_f f g)
  differ f g c d q t = never (passes _ _ (passes _ _ (found _ _ (found _ _ q.d0)) t) (keeps f))

  -- E6 does not apply: no children
  no-children : (X : FunVar) (g : Functor) (c d : Hedge) → ¬ T (eq_f (fvar X) g) → QuietEqn σ K (node (fvar X) c ε) (node g d ε) → (c ≡ ε) × (d ≡ ε)
  no-children X g c d n q =
      let (a, b) = and_parts (empty c) (empty d) (must (empty c && empty d) λ m. never (passes _ _ (passes _ _ (found _ _ (found _ _ (found _ _ q.e6))) m) (no (eq_f (fvar X) g) n))) in
      (empty-is c a, empty-is d b)

  name-symbol : (X : FunVar) (g : Sym) → QuietEqn σ K (node (fvar X) ε ε) (node (symbol g) ε ε) → Either K (node (fvar X) ε ε) (node (symbol g) ε ε)
  name-symbol X g q = inl (solves K (node (fvar X) ε ε) (node (symbol g) ε ε) (fv X) refl (λ t. t)
      λ t. never (passes _ _ (passes _ _ (passes _ _ (passes _ _ (passes _ _ (found _ _ (found _ _ (found _ _ q.e5))) tt) tt) tt) t) tt))

  name-name : (X Y : FunVar) → ¬ T (eq_x X Y) → QuietEqn σ K (node (fvar X) ε ε) (node (fvar Y) ε ε) → Either K (node (fvar X) ε ε) (node (fvar Y) ε ε)
  name-name X Y n q =
      dec (in_conj (fv X) K)
      (λ t.
      inr (solves K (node (fvar Y) ε ε) (node (fvar X) ε ε) (fv Y) refl
      (λ d. n (subst (λ z. T (eq_x X z)) (sym (eq_x-is Y X (or-of (eq_x Y X) (or-of (eq_x Y X || false) d)))) (eq_v-self (fv X))))
      λ d. never (passes _ _ (passes _ _ (passes _ _ (passes _ _ (passes _ _ (found _ _ (found _ _ (found _ _ q.e5))) tt) tt) (no (eq_x X Y) n)) t) d)))
      (λ m. inl (solves K (node (fvar X) ε ε) (node (fvar Y) ε ε) (fv X) refl (λ d. n (or-of (eq_x X Y) (or-of (eq_x X Y || false) d))) m))

  node-node : (f g : Functor) (c d : Hedge) → QuietEqn σ K (node f c ε) (node g d ε) → QuietEqn σ K (node g d ε) (node f c ε) → Either K (node f c ε) (node g d ε)
  node-node (symbol f) (symbol g) c d q q' =
      absurd (never (passes _ _ (found _ _ (found _ _ (found _ _ (found _ _ q.f3)))) (no (eq_s f g) (differ (symbol f) (symbol g) c d q))))
  node-node (fvar X) (symbol g) c d q q' =
      let (a, b) = no-children X (symbol g) c d (λ t. t) q in rw (a, b) (name-symbol X g (rw (a, b) at q))
  node-node (symbol f) (fvar Y) c d q q' =
      let (a, b) = no-children Y (symbol f) d c (λ t. t) q' in rw (a, b) (either-swapped K (node (symbol f) ε ε) (node (fvar Y) ε ε) (name-symbol Y f (rw (a, b) at q')))
  node-node (fvar X) (fvar Y) c d q q' =
      let n = differ (fvar X) (fvar Y) c d q in
      let (a, b) = no-children X (fvar Y) c d n q in rw (a, b) (name-name X Y n (rw (a, b) at q))

  -- ---- any two sides

  -- of what nothing follows
  moved : (f g : Hedge → Hedge) {l r : Hedge} → l ≡ ε → r ≡ ε → Either K (f ε) (g ε) → Either K (f l) (g r)
  moved f g {l} {r} a b e = subst (λ x. Either K (f x) (g r)) (sym a) (subst (λ y. Either K (f ε) (g y)) (sym b) e)

  either : (l r : Hedge) → T (last l) → T (last r) → QuietEqn σ K l r → QuietEqn σ K r l → Either K l r
  either (hvar p s) r t u q q' = rw (empty-is s t) (run-any p r u (rw (empty-is s t) at q))
  either ε (hvar p s) t u q q' = either-swapped K ε (hvar p s) (rw (empty-is s u) (run-any p ε t (rw (empty-is s u) at q')))
  either (tvar x l) (hvar p s) t u q q' = either-swapped K (tvar x l) (hvar p s) (rw (empty-is s u) (run-any p (tvar x l) t (rw (empty-is s u) at q')))
  either (node f c l) (hvar p s) t u q q' = either-swapped K (node f c l) (hvar p s) (rw (empty-is s u) (run-any p (node f c l) t (rw (empty-is s u) at q')))
  either ε ε t u q q' = absurd (never (passes _ _ q.r1 tt))
  either ε (tvar y r) t u q q' = absurd (never (passes _ _ (passes _ _ q.f4 tt) tt))
  either ε (node g d r) t u q q' = absurd (never (passes _ _ (passes _ _ q.f4 tt) tt))
  either (tvar x l) ε t u q q' = absurd (never (passes _ _ (passes _ _ q'.f4 tt) tt))
  either (node f c l) ε t u q q' = absurd (never (passes _ _ (passes _ _ q'.f4 tt) tt))
  either (tvar x l) (tvar y r) t u q q' =
      let (a, b) = both-alone K (tvar x l) (tvar y r) (tvar x ε, l) (tvar y ε, r) refl refl q.d2 in rw (a, b) (term-term x y (rw (a, b) at q))
  either (tvar x l) (node g d r) t u q q' =
      let (a, b) = both-alone K (tvar x l) (node g d r) (tvar x ε, l) (node g d ε, r) refl refl q.d2 in
      moved (tvar x) (node g d) a b (term-node x g d (rw (a, b) at q))
  either (node f c l) (tvar y r) t u q q' =
      let (a, b) = both-alone K (node f c l) (tvar y r) (node f c ε, l) (tvar y ε, r) refl refl q.d2 in
      moved (node f c) (tvar y) a b (either-swapped K (node f c ε) (tvar y ε) (term-node y f c (rw (a, b) at q')))
  either (node f c l) (node g d r) t u q q' =
      let (a, b) = both-alone K (node f c l) (node g d r) (node f c ε, l) (node g d ε, r) refl refl q.d2 in
      moved (node f c) (node g d) a b (node-node f g c d (rw (a, b) at q) (rw (a, b) at q'))

-- ---- the line

or-else : {A : Type 0} (m : Option A) (k : Unit {0} → Option A) → T (is_some m) ⊎ T (is_some (k tt)) → T (is_some (or_else m k))
or-else none k (inl t) = absurd t
or-else none k (inr t) = t
or-else (some a) k o = tt

module _ (σ : Signature) (ordered : σ.unordered ≡ 0) where
  solved-from : (before behind : Conj) → T (last_runs behind) → step σ (before ++ behind) ≡ nothing → T (solved_from before behind)
  solved-from before [] t e = tt
  solved-from before (eqn l r ∷ behind) t e =
      let (a, b) = and_parts (last l && last r) (last_runs behind) t in
      let (c, d) = and_parts (last l) (last r) a in
      let (q, q') = quiet-eqn σ (before ++ behind) l r (at_literal σ before behind (eqn l r) e) in
      and_both (solved_literal (before ++ behind) (eqn l r)) (solved_from (before ++ (eqn l r ∷ [])) behind)
      (or-else (alone (before ++ behind) r (variable l r)) (λ _. alone (before ++ behind) l (variable r l)) (either σ ordered (before ++ behind) l r c d q q'))
      (solved-from (before ++ (eqn l r ∷ [])) behind b (rw append_assoc e))
  solved-from before (mem h R ∷ behind) t e = absurd t

  pub last-solved : (k : Conj) → T (last_runs k) → step σ k ≡ nothing → solved k ≡ true
  unfolding solved
  last-solved k t e = (test-true (solved_from [] k)).0 (solved-from [] k t e)
