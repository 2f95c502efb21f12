-- There is no way on for ever, whatever rule is chosen; so the run without limits reaches its lines.
use Prim.Native.Nat.{ℕ, zero, suc, ◌+◌, ◌<◌}
use mathlib.Core.Path.{◌≡◌, refl, sym, ap, ◌∙◌, subst}
use mathlib.Core.Logic.{inl, inr}
use mathlib.Core.List.{List, [], ◌∷◌, ◌++◌, append_assoc, append-nil, Memᴰ}
use native.Mathlib.Omega.{arith}
use Rattle.language.specs.declared.Signature.{Signature}
use Rattle.language.specs.Trees.{Functor, symbol, fvar, Hedge, ε, tvar, hvar, node, Expr, eps, cat, alt, star, over, Literal, eqn, mem, Conj, Var, tv, hv, fv}
use Rattle.rules.specs.Reply.{Reply, nothing, results, stops}
use Rattle.rules.specs.Step.{Spot, rule_at, each, Found, first}
use Rattle.rules.specs.Each.{Each}
use Rattle.rules.specs.Run.{Numbered, all_of}
use Rattle.rules.proofs.Each.{each_in}
use Rattle.rules.proofs.Steps.{gives-results, Kept, rule_at-is, first-named}
use Rattle.rules.proofs.Stopping.{StopsBy, by-each, at_first, Fold-stops}
use Rattle.exact.specs.Made.{Name, MadeF, Made, MadeE, MadeC}
use Rattle.ends.specs.Measure.{unsettled, hedges, rest, Below}
use Rattle.ends.specs.Unlimited.{FreeClash, free_rules, free_step_at, free_step, Goes, done, line, made, Ends, ends}
use Rattle.ends.proofs.Counting.{In}
use Rattle.ends.proofs.AtPlaces.{Falling}
use Rattle.ends.proofs.EveryRule.{Drops, free-drops, every-rule-falls, every-rule-makes}

-- ---- the variables of a conjunction

abbrev names_f : Functor → List Var
names_f (symbol f) = []
names_f (fvar X) = fv X ∷ []

abbrev names : Hedge → List Var
names ε = []
names (tvar x r) = tv x ∷ names r
names (hvar p r) = hv p ∷ names r
names (node f c r) = names_f f ++ (names c ++ names r)

abbrev names_c : Conj → List Var
names_c [] = []
names_c (eqn l r ∷ k) = names l ++ (names r ++ names_c k)
names_c (mem h R ∷ k) = names h ++ names_c k

left_in : {A : Type 0} {x : A} (xs ys : List A) → Memᴰ x xs → Memᴰ x (xs ++ ys)
left_in (y ∷ xs) ys (Memᴰ.head e) = Memᴰ.head e
left_in (y ∷ xs) ys (Memᴰ.tail m) = Memᴰ.tail (left_in xs ys m)
left_in {A = A} [] ys x'' = elim x'' [ ]

right-in : {A : Type 0} {x : A} (xs ys : List A) → Memᴰ x ys → Memᴰ x (xs ++ ys)
right-in [] ys m = m
right-in (y ∷ xs) ys m = Memᴰ.tail (right-in xs ys m)

-- more variables may be among them
abbrev Within : List Var → List Var → Type 0
Within us vs = (v : Var) → Memᴰ v us → Memᴰ v vs

in-expr : (vs : List Var) (R : Expr) → MadeE (In vs) R
in-expr vs eps = tt
in-expr vs (cat a b) = (in-expr vs a, in-expr vs b)
in-expr vs (alt a b) = (in-expr vs a, in-expr vs b)
in-expr vs (star a) = in-expr vs a
in-expr vs (over f a) = (tt, in-expr vs a)

module _ (vs : List Var) where
  names-functor : (f : Functor) → Within (names_f f) vs → MadeF (In vs) f
  names-functor (symbol f) h = tt
  names-functor (fvar X) h = h (fv X) (Memᴰ.head refl)

  names-hedge : (h : Hedge) → Within (names h) vs → Made (In vs) h
  names-hedge ε h = tt
  names-hedge (tvar x r) h = (h (tv x) (Memᴰ.head refl), names-hedge r (λ v m. h v (Memᴰ.tail m)))
  names-hedge (hvar p r) h = (h (hv p) (Memᴰ.head refl), names-hedge r (λ v m. h v (Memᴰ.tail m)))
  names-hedge (node f c r) h = (
    names-functor f (λ v m. h v (left_in (names_f f) (names c ++ names r) m)),
    names-hedge c (λ v m. h v (right-in (names_f f) (names c ++ names r) (left_in (names c) (names r) m))),
    names-hedge r (λ v m. h v (right-in (names_f f) (names c ++ names r) (right-in (names c) (names r) m))),
  )

  names-all : (k : Conj) → Within (names_c k) vs → MadeC (In vs) k
  names-all [] h = tt
  names-all (eqn l r ∷ k) h = (
    (names-hedge l (λ v m. h v (left_in (names l) (names r ++ names_c k) m)), names-hedge r (λ v m. h v (right-in (names l) (names r ++ names_c k) (left_in (names r) (names_c k) m)))),
    names-all k (λ v m. h v (right-in (names l) (names r ++ names_c k) (right-in (names r) (names_c k) m))),
  )
  names-all (mem h R ∷ k) n = ((names-hedge h (λ v m. n v (left_in (names h) (names_c k) m)), in-expr vs R), names-all k (λ v m. n v (right-in (names h) (names_c k) m)))

-- ---- no way on for ever

module _ (σ : Signature) (vs : List Var) where
  known : (v : Name) → Type 0
  known = In vs

  -- a step, wherever it is made
  falls : (s : Spot) (k : Conj) (ks : List Conj) → free_step_at σ s k ≡ results ks → Falling σ vs k ks
  unfolding free_step_at
  falls s k ks e =
      gives-results (Falling σ vs k) _ ks (rule_at-is (Falling σ vs) s.swapped s.literal s.rule (free_rules σ) (every-rule-falls σ vs) k) e

  keeps : (s : Spot) (k : Conj) (ks : List Conj) → free_step_at σ s k ≡ results ks → Kept (MadeC (In vs)) k ks
  unfolding free_step_at
  keeps s k ks e =
      gives-results (Kept (MadeC (In vs)) k) _ ks
      (rule_at-is (Kept (MadeC (In vs))) s.swapped s.literal s.rule (free_rules σ) (every-rule-makes σ (In vs) (λ _ _ _. tt)) k) e

  abbrev All : Conj → Type 0
  All = MadeC (In vs)

  by-rest : (n a : ℕ) → ((k : Conj) → All k → unsettled vs k < n → Ends σ k) → ((k : Conj) → All k → unsettled vs k < suc n → hedges k < a → Ends σ k)
      → (d : ℕ) (k : Conj) → All k → unsettled vs k < suc n → hedges k < suc a → rest k < d → Ends σ k
  by-rest n a ih jh zero k m p q r = absurd (omega arith)
  by-rest n a ih jh (suc d) k m p q r = ends λ s ks e j i.
      let f = each_in (λ c. Below vs c k) (falls s k ks e m) i in
      let o = each_in All (keeps s k ks e m) i in
      elim f [
        | inl x ↦ ih j o (omega arith)
        | inr x ↦ elim x.1 [
          | inl y ↦ jh j o (let z = x.0 in omega arith) (omega arith)
          | inr y ↦ by-rest n a ih jh d j o (let z = x.0 in omega arith) (let z = y.0 in omega arith) (let z = y.1 in omega arith)
        ]
      ]

  by-hedges : (n : ℕ) → ((k : Conj) → All k → unsettled vs k < n → Ends σ k) → (a : ℕ) (k : Conj) → All k → unsettled vs k < suc n → hedges k < a → Ends σ k
  by-hedges n ih zero k m p q = absurd (omega arith)
  by-hedges n ih (suc a) k m p q = by-rest n a ih (by-hedges n ih a) (suc (rest k)) k m p q (omega arith)

  by-unsettled : (n : ℕ) (k : Conj) → All k → unsettled vs k < n → Ends σ k
  by-unsettled zero k m p = absurd (omega arith)
  by-unsettled (suc n) k m p = by-hedges n (by-unsettled n) (suc (hedges k)) k m p (omega arith)

-- Whatever rule is chosen wherever it applies, and whatever is chosen after it, there is no way on for ever.
pub every-way-ends : (σ : Signature) (k : Conj) → Ends σ k
every-way-ends σ k = by-unsettled σ (names_c k) (suc (unsettled (names_c k) k)) k (names-all (names_c k) k (λ v m. m)) (omega arith)

-- ---- the run without limits

never-stops : (σ : Signature) (k : Conj) → StopsBy (λ _. ⊥) (free_step σ k)
unfolding free_step
never-stops σ k = by-each (λ _. ⊥) _ (first 0 (free_rules σ) k) (at_first (λ _. ⊥) 0 (free_rules σ) (Fold-stops (λ _. ⊥), (free-stops, tt)) k)
  where
    free-stops : (l : Literal) (behind : Conj) → StopsBy (λ _. ⊥) (FreeClash σ l behind)
    free-stops l behind = go (FreeClash σ l behind) (free-drops σ l behind)
      where
        go : (m : Reply (List Conj)) → Drops m → StopsBy (λ _. ⊥) m
        go nothing d = tt
        go (results ks) d = tt
        go (stops r) d = d

-- a step is the step at some place
step-somewhere : (σ : Signature) (k : Conj) (ks : List Conj) → free_step σ k ≡ results ks → (s : Spot) × (free_step_at σ s k ≡ results ks)
unfolding free_step free_step_at
step-somewhere σ k ks e = named (first 0 (free_rules σ) k) refl e
  where
    same : {A : Type 0} {x y : A} → ◌≡◌ {A = Reply A} (results x) (results y) → x ≡ y
    same e = cc

    named : (m : Found) → first 0 (free_rules σ) k ≡ m → each (λ (f : Spot × List Conj). f.1) m ≡ results ks
        → (s : Spot) × (rule_at s.swapped s.literal s.rule (free_rules σ) k ≡ results ks)
    named nothing d e = let z : ◌≡◌ {A = ℕ} 0 1 = cc in absurd (omega arith)
    named (results f) d e = (f.0, first-named (free_rules σ) k f.0 ks (d ∙ ap (λ (c : List Conj). results (f.0, c)) (same e)))
    named (stops r) d e = let z : ◌≡◌ {A = ℕ} 0 1 = cc in absurd (omega arith)

steps-are : (σ : Signature) (w ls : List Numbered) (n m : ℕ) → n ≡ m → Goes σ w ls n → Goes σ w ls m
steps-are σ w ls n m e g = subst (Goes σ w ls) e g

waits-are : (σ : Signature) (w v ls : List Numbered) (n : ℕ) → w ≡ v → Goes σ w ls n → Goes σ v ls n
waits-are σ w v ls n e g = subst (λ x. Goes σ x ls n) e g

-- one after the other
pub goes-++ : (σ : Signature) {w ls : List Numbered} {n : ℕ} → Goes σ w ls n → (v ms : List Numbered) (m : ℕ) → Goes σ v ms m → Goes σ (w ++ v) (ls ++ ms) (n + m)
goes-++ σ done v ms m g = steps-are σ v ms m (0 + m) (omega arith) g
goes-++ σ (line k e f) v ms m g = line k e (goes-++ σ f v ms m g)
goes-++ σ {ls = ls} (made n k w ks e f) v ms m g =
    steps-are σ (k ∷ (w ++ v)) (ls ++ ms) (suc (n + m)) (suc n + m) (omega arith)
    (made (n + m) k (w ++ v) ks e (waits-are σ ((all_of k.number ks ++ w) ++ v) (all_of k.number ks ++ (w ++ v)) (ls ++ ms) (n + m) (append_assoc (all_of k.number ks) w v) (goes-++ σ f v ms m g)))

-- somewhere
pub record Somewhere (σ : Signature) (w : List Numbered) : Type 0 where
  pub lines : List Numbered
  pub steps : ℕ
  pub goes : Goes σ w lines steps

all-somewhere : (σ : Signature) (n : ℕ) (ks : List Conj) → ((j : Conj) → Memᴰ j ks → Somewhere σ (record { number = n; literals = j } ∷ [])) → Somewhere σ (all_of n ks)
all-somewhere σ n [] h = record { lines = []; steps = 0; goes = done }
all-somewhere σ n (k ∷ ks) h =
    let a = h k (Memᴰ.head refl) in
    let b = all-somewhere σ n ks (λ j m. h j (Memᴰ.tail m)) in
    record { lines = a.lines ++ b.lines; steps = a.steps + b.steps; goes = goes-++ σ a.goes _ b.lines b.steps b.goes }

one-somewhere : (σ : Signature) (n : ℕ) {k : Conj} → Ends σ k → Somewhere σ (record { number = n; literals = k } ∷ [])
one-somewhere σ n {k} (ends f) = go (free_step σ k) refl (never-stops σ k) (λ s ks e j i. one-somewhere σ n (f s ks e j i))
  where
    go : (m : Reply (List Conj)) → free_step σ k ≡ m → StopsBy (λ _. ⊥) m
        → ((s : Spot) (ks : List Conj) → free_step_at σ s k ≡ results ks → (j : Conj) → Memᴰ j ks → Somewhere σ (record { number = n; literals = j } ∷ []))
        → Somewhere σ (record { number = n; literals = k } ∷ [])
    go nothing e p ih = record { lines = record { number = n; literals = k } ∷ []; steps = 0; goes = line (record { number = n; literals = k }) e done }
    go (results ks) e p ih =
        let (s, d) = step-somewhere σ k ks e in
        let a = all-somewhere σ n ks (ih s ks d) in
        record {
          lines = a.lines;
          steps = suc a.steps;
          goes = made a.steps (record { number = n; literals = k }) [] ks e (subst (λ x. Goes σ x a.lines a.steps) (sym (append-nil (all_of n ks))) a.goes);
        }
    go (stops r) e p ih = absurd p

-- "from any well-formed question the rules .. reach a state where none applies": whatever waits, the run without limits ends.
pub run_ends : (σ : Signature) (w : List Numbered) → Somewhere σ w
run_ends σ [] = record { lines = []; steps = 0; goes = done }
run_ends σ (k ∷ w) =
    let a = one-somewhere σ k.number (every-way-ends σ k.literals) in
    let b = run_ends σ w in
    record { lines = a.lines ++ b.lines; steps = a.steps + b.steps; goes = goes-++ σ a.goes _ b.lines b.steps b.goes }

-- ---- one outcome

same-results : {x y : List Conj} → ◌≡◌ {A = Reply (List Conj)} (results x) (results y) → x ≡ y
same-results e = cc

-- It has one outcome.
pub goes-once : (σ : Signature) {w ls ms : List Numbered} {n m : ℕ} → Goes σ w ls n → Goes σ w ms m → (ls ≡ ms) × (n ≡ m)
goes-once σ done done = (refl, refl)
goes-once σ (line k e f) (line j d g) = let (a, b) = goes-once σ f g in (ap (λ ls. k ∷ ls) a, b)
goes-once σ (line k e f) (made m j w ks d g) = absurd (let z : ◌≡◌ {A = ℕ} 0 1 = cc in omega arith)
goes-once σ (made n k w ks e f) (line j d g) = absurd (let z : ◌≡◌ {A = ℕ} 0 1 = cc in omega arith)
goes-once σ {ms = ms} (made p k w ks e f) (made q j v js d g) =
    let (a, b) = goes-once σ f (waits-are σ (all_of k.number js ++ w) (all_of k.number ks ++ w) ms q (ap (λ x. all_of k.number x ++ w) (same-results (sym d ∙ e))) g) in (a, ap suc b)

-- no rule applies to a line
pub goes-rest : (σ : Signature) {w ls : List Numbered} {n : ℕ} → Goes σ w ls n → Each (λ (k : Numbered). free_step σ k.literals ≡ nothing) ls
goes-rest σ done = tt
goes-rest σ (line k e f) = (e, goes-rest σ f)
goes-rest σ (made n k w ks e f) = goes-rest σ f
