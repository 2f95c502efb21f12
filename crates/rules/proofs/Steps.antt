-- What holds of every rule at every place and on every side holds of a step, named or found; and where no step is found, no rule applies at any place.
use Prim.Native.Nat.{ℕ, zero, suc, ◌+◌}
use mathlib.Core.Path.{◌≡◌, refl, ap, ◌∙◌}
use mathlib.Core.Bool.{Bool, true, false}
use mathlib.Core.List.{List, [], ◌∷◌, ◌++◌, map, append_assoc, append-nil}
use native.Mathlib.Nat.{zero-add, add-zero, add-suc, suc-add}
use native.Mathlib.Omega.{arith}
use Rattle.language.specs.declared.Signature.{Signature}
use Rattle.language.specs.Trees.{Literal, eqn, mem, Conj}
use Rattle.rules.specs.Reply.{Reply, nothing, results, stops}
use Rattle.rules.specs.Rules.{Rule, on_eqn, on_mem, on_pair, rules}
use Rattle.rules.specs.Step.{or_next, each, placed, results_at, Spot, literal_at, rule_at, step_at, Found, found, earliest, first, search, step}
use Rattle.rules.specs.Each.{Each}
use Rattle.rules.specs.Sides.{AtSides, Idle}
use Rattle.rules.proofs.Each.{each_map}

-- ---- what rules come to

-- P of the results
abbrev pub Gives : {A : Type 0} → (A → Type 0) → Reply A → Type 0
Gives P nothing = Unit {0}
Gives P (results a) = P a
Gives P (stops r) = Unit {0}

pub gives-results : {A : Type 0} (P : A → Type 0) (m : Reply A) (a : A) → Gives P m → m ≡ results a → P a
gives-results P m a p e = rw e at p

pub results-give : {A : Type 0} (P : A → Type 0) (m : Reply A) → ((a : A) → m ≡ results a → P a) → Gives P m
results-give P nothing h = tt
results-give P (results a) h = h a refl
results-give P (stops r) h = tt

pub gives-imp : {A : Type 0} (P Q : A → Type 0) (m : Reply A) → ((a : A) → P a → Q a) → Gives P m → Gives Q m
gives-imp P Q nothing h p = tt
gives-imp P Q (results a) h p = h a p
gives-imp P Q (stops r) h p = tt

pub gives-each : {A B : Type 0} (P : B → Type 0) (f : A → B) (m : Reply A) → Gives (λ a. P (f a)) m → Gives P (each f m)
gives-each P f nothing p = tt
gives-each P f (results a) p = p
gives-each P f (stops r) p = tt

pub gives-next : {A : Type 0} (P : A → Type 0) (m : Reply A) (k : Unit {0} → Reply A) → Gives P m → Gives P (k tt) → Gives P (or_next m k)
gives-next P nothing k p q = q
gives-next P (results a) k p q = p
gives-next P (stops r) k p q = tt

pub next-nothing : {A : Type 0} (m : Reply A) (k : Unit {0} → Reply A) → or_next m k ≡ nothing → (m ≡ nothing) × (k tt ≡ nothing)
next-nothing nothing k e = (refl, e)
next-nothing (results a) k e = let z : ◌≡◌ {A = ℕ} 0 1 = cc in absurd (omega arith)
next-nothing (stops r) k e = let z : ◌≡◌ {A = ℕ} 0 1 = cc in absurd (omega arith)

pub each-nothing : {A B : Type 0} (f : A → B) (m : Reply A) → each f m ≡ nothing → m ≡ nothing
each-nothing f nothing e = refl
each-nothing f (results a) e = let z : ◌≡◌ {A = ℕ} 0 1 = cc in absurd (omega arith)
each-nothing f (stops r) e = let z : ◌≡◌ {A = ℕ} 0 1 = cc in absurd (omega arith)

-- ---- a rule at a place, of whichever kind it is and whichever side it sees

module _ (P : List Conj → Type 0) (before behind : Conj) where
  -- what is to be shown of it at the literal
  abbrev pub OnSides : Rule → Literal → Type 0
  OnSides (on_eqn rule) (eqn l r) = Gives P (placed before behind (rule (before ++ behind) l r)) × Gives P (placed before behind (rule (before ++ behind) r l))
  OnSides (on_eqn rule) (mem h R) = Unit {0}
  OnSides (on_mem rule) (eqn l r) = Unit {0}
  OnSides (on_mem rule) (mem h R) = Gives P (placed before behind (rule (before ++ behind) h R))
  OnSides (on_pair rule) l = Gives P (each (map (λ (k : Conj). before ++ k)) (rule l behind))

  pub on_sides : (rule : Rule) (l : Literal) → OnSides rule l → (swap : Bool) → Gives P (results_at swap rule before l behind)
  on_sides (on_eqn rule) (eqn l r) p false = p.0
  on_sides (on_eqn rule) (eqn l r) p true = p.1
  on_sides (on_eqn rule) (mem h R) p false = tt
  on_sides (on_eqn rule) (mem h R) p true = tt
  on_sides (on_mem rule) (eqn l r) p false = tt
  on_sides (on_mem rule) (eqn l r) p true = tt
  on_sides (on_mem rule) (mem h R) p false = p
  on_sides (on_mem rule) (mem h R) p true = tt
  on_sides (on_pair rule) l p false = p
  on_sides (on_pair rule) l p true = tt

-- So what is shown of it at every literal holds of it on every side.
pub at-sides : (P : Conj → List Conj → Type 0) (rule : Rule)
    → ((before : Conj) (l : Literal) (behind : Conj) → OnSides (P (before ++ (l ∷ behind))) before behind rule l) → AtSides P rule
at-sides P rule p swap before l behind ks e =
    gives-results (P (before ++ (l ∷ behind))) (results_at swap rule before l behind) ks
    (on_sides (P (before ++ (l ∷ behind))) before behind rule l (p before l behind) swap) e

-- Q is kept: where a conjunction has it, so has each result
abbrev pub Kept : (Conj → Type 0) → Conj → List Conj → Type 0
Kept Q k ks = Q k → Each Q ks

pub kept-at-sides : (Q : Conj → Type 0) (rule : Rule)
    → ((before : Conj) (l : Literal) (behind : Conj) → Q (before ++ (l ∷ behind)) → OnSides (Each Q) before behind rule l) → AtSides (Kept Q) rule
kept-at-sides Q rule p swap before l behind ks e q =
    gives-results (Each Q) (results_at swap rule before l behind) ks (on_sides (Each Q) before behind rule l (p before l behind q) swap) e

-- what a rule of two literals makes, with those that stand before
pub gives-behind : (P Q : Conj → Type 0) (before : Conj) (m : Reply (List Conj)) → ((k : Conj) → P k → Q (before ++ k))
    → Gives (Each P) m → Gives (Each Q) (each (map (λ (k : Conj). before ++ k)) m)
gives-behind P Q before m f p =
    gives-each (Each Q) (map (λ (k : Conj). before ++ k)) m (gives-imp (Each P) _ m (λ ks q. each_map P Q (λ (k : Conj). before ++ k) f ks q) p)

-- ---- the step at a named place

module _ (P : Conj → List Conj → Type 0) where
  literal_at-is : (swap : Bool) (rule : Rule) → AtSides P rule → (i : ℕ) (before k : Conj) → Gives (P (before ++ k)) (literal_at swap rule i before k)
  literal_at-is swap rule p i before [] = tt
  literal_at-is swap rule p zero before (l ∷ k) = results-give (P (before ++ (l ∷ k))) (results_at swap rule before l k) (p swap before l k)
  literal_at-is swap rule p (suc i) before (l ∷ k) = rw append_assoc at (literal_at-is swap rule p i (before ++ (l ∷ [])) k)

  pub rule_at-is : (swap : Bool) (i n : ℕ) (rs : List Rule) → Each (AtSides P) rs → (k : Conj) → Gives (P k) (rule_at swap i n rs k)
  rule_at-is swap i n [] p k = tt
  rule_at-is swap i zero (rule ∷ rs) p k = literal_at-is swap rule p.0 i [] k
  rule_at-is swap i (suc n) (rule ∷ rs) p k = rule_at-is swap i n rs p.1 k

  pub named-at-sides : (σ : Signature) → Each (AtSides P) (rules σ) → (s : Spot) (k : Conj) (ks : List Conj) → step_at σ s k ≡ results ks → P k ks
  unfolding step_at
  named-at-sides σ p s k ks e =
      gives-results (P k) (rule_at s.swapped s.literal s.rule (rules σ) k) ks (rule_at-is s.swapped s.literal s.rule (rules σ) p k) e

-- ---- what is found is the step at the place where it is found

module _ (n : ℕ) (rule : Rule) (whole : Conj) where
  -- found at the rule's own place, and as the rule makes it at that literal
  abbrev AtLiteral : Spot × List Conj → Type 0
  AtLiteral f = (f.0.rule ≡ n) × (literal_at f.0.swapped rule f.0.literal [] whole ≡ results f.1)

  earliest-here : (i : ℕ) (before k : Conj) → ((j : ℕ) (swap : Bool) → literal_at swap rule (i + j) [] whole ≡ literal_at swap rule j before k)
      → Gives AtLiteral (earliest n rule i before k)
  earliest-here i before [] h = tt
  earliest-here i before (l ∷ k) h =
      gives-next AtLiteral (found n i false (results_at false rule before l k)) _ (one false)
      (gives-next AtLiteral (found n i true (results_at true rule before l k)) _ (one true)
      (earliest-here (suc i) (before ++ (l ∷ [])) k (λ j swap. rw (add-suc, ← suc-add) at (h (suc j) swap))))
    where
      one : (swap : Bool) → Gives AtLiteral (found n i swap (results_at swap rule before l k))
      one swap = gives-each AtLiteral _ (results_at swap rule before l k) (results-give _ (results_at swap rule before l k) (λ ks e. (refl, (rw add-zero at (h 0 swap)) ∙ e)))

module _ (all : List Rule) (k : Conj) where
  abbrev AtRule : Spot × List Conj → Type 0
  AtRule f = rule_at f.0.swapped f.0.literal f.0.rule all k ≡ results f.1

  first-here : (n : ℕ) (rs : List Rule) → ((m i : ℕ) (swap : Bool) → rule_at swap i (n + m) all k ≡ rule_at swap i m rs k) → Gives AtRule (first n rs k)
  first-here n [] h = tt
  first-here n (rule ∷ rs) h =
      gives-next AtRule (earliest n rule 0 [] k) _
      (gives-imp (AtLiteral n rule k) AtRule (earliest n rule 0 [] k) (λ f e. rw e.0 ((rw add-zero at (h 0 f.0.literal f.0.swapped)) ∙ e.1))
      (earliest-here n rule k 0 [] k (λ j swap. rw zero-add)))
      (first-here (suc n) rs (λ m i swap. rw (add-suc, ← suc-add) at (h (suc m) i swap)))

-- What is found first is the step at the place that it names, whatever the list of rules is;
pub first-named : (rs : List Rule) (k : Conj) (s : Spot) (ks : List Conj) → first 0 rs k ≡ results (s, ks) → rule_at s.swapped s.literal s.rule rs k ≡ results ks
first-named rs k s ks e = gives-results (AtRule rs k) (first 0 rs k) (s, ks) (first-here rs k 0 rs (λ m i swap. rw zero-add)) e

-- and so is what the search finds.
pub search-named : (σ : Signature) (k : Conj) (s : Spot) (ks : List Conj) → search σ k ≡ results (s, ks) → step_at σ s k ≡ results ks
unfolding search step_at
search-named σ k s ks e = first-named (rules σ) k s ks e

-- So a step is the step at some place.
pub step-named : (σ : Signature) (k : Conj) (ks : List Conj) → step σ k ≡ results ks → (s : Spot) × (step_at σ s k ≡ results ks)
unfolding step
step-named σ k ks e = named (search σ k) refl e
  where
    named : (m : Found) → search σ k ≡ m → each (λ (f : Spot × List Conj). f.1) m ≡ results ks → (s : Spot) × (step_at σ s k ≡ results ks)
    named nothing d e = let z : ◌≡◌ {A = ℕ} 0 1 = cc in absurd (omega arith)
    named (results f) d e = (f.0, search-named σ k f.0 ks (d ∙ ap (λ (c : List Conj). results (f.0, c)) (same e)))
      where
        same : {A : Type 0} {x y : A} → ◌≡◌ {A = Reply A} (results x) (results y) → x ≡ y
        same e = cc
    named (stops r) d e = let z : ◌≡◌ {A = ℕ} 0 1 = cc in absurd (omega arith)

-- What holds of every rule at every place holds of a step.
pub step-at-sides : (σ : Signature) (P : Conj → List Conj → Type 0) → Each (AtSides P) (rules σ) → (k : Conj) (ks : List Conj) → step σ k ≡ results ks → P k ks
step-at-sides σ P p k ks e = let (s, d) = step-named σ k ks e in named-at-sides P σ p s k ks d

-- ---- no step

earliest-none : (n : ℕ) (rule : Rule) (i : ℕ) (swap : Bool) (before middle : Conj) (l : Literal) (behind : Conj) → earliest n rule i before (middle ++ (l ∷ behind)) ≡ nothing
    → results_at swap rule (before ++ middle) l behind ≡ nothing
earliest-none n rule i false before [] l behind e =
    rw append-nil (each-nothing _ (results_at false rule before l behind) (next-nothing (found n i false (results_at false rule before l behind)) _ e).0)
earliest-none n rule i true before [] l behind e =
    rw append-nil (each-nothing _ (results_at true rule before l behind)
    (next-nothing (found n i true (results_at true rule before l behind)) _ (next-nothing (found n i false (results_at false rule before l behind)) _ e).1).0)
earliest-none n rule i swap before (m ∷ middle) l behind e =
    rw (append_assoc before (m ∷ []) middle) at
    (earliest-none n rule (suc i) swap (before ++ (m ∷ [])) middle l behind
    (next-nothing (found n i true (results_at true rule before m (middle ++ (l ∷ behind)))) _ (next-nothing (found n i false (results_at false rule before m (middle ++ (l ∷ behind)))) _ e).1).1)

pub first-none : (k : Conj) (n : ℕ) (rs : List Rule) → first n rs k ≡ nothing → Each (Idle k) rs
first-none k n [] e = tt
first-none k n (rule ∷ rs) e =
    let (a, b) = next-nothing (earliest n rule 0 [] k) (λ _. first (suc n) rs k) e in
    (λ swap before l behind d. earliest-none n rule 0 swap [] before l behind (rw d at a), first-none k (suc n) rs b)

-- no step is no rule at any place
pub step-none : (σ : Signature) (k : Conj) → step σ k ≡ nothing → Each (Idle k) (rules σ)
unfolding step search
step-none σ k e = first-none k 0 (rules σ) (each-nothing _ (first 0 (rules σ) k) e)
