-- With which refusals of its own a step can stop: those of the rules of two literals, of which the fold has none and the clash one. And with which a run
-- can: 7 to 10, and 21.
use Prim.Native.Nat.{ℕ, zero, suc}
use mathlib.Core.Path.{◌≡◌, sym, subst}
use mathlib.Core.Bool.{Bool, true, false}
use mathlib.Core.List.{List, [], ◌∷◌, ◌++◌, map}
use mathlib.Core.Option.{Option, none, some}
use lib.Dec.{ltb}
use Rattle.language.specs.declared.Refusal.{Refusal}
use Rattle.language.specs.declared.Refusal.TheVariants.{LongResult, LongWaiting, LineRoom, StepLimit, LongWalk}
use Rattle.language.specs.declared.Signature.{Signature}
use Rattle.language.specs.Limits.{Limits, walked_pairs}
use Rattle.language.specs.Trees.{Literal, eqn, mem, Conj, is_unordered}
use Rattle.rules.specs.Reply.{Reply, nothing, results, stops}
use Rattle.rules.specs.Rules.{Answer, Rule, on_eqn, on_mem, on_pair, strike, folded, Fold, Clash, rules}
use Rattle.rules.specs.Step.{or_next, each, placed, results_at, Spot, literal_at, rule_at, step_at, found, earliest, first, search, step}
use Rattle.rules.proofs.Clashing.{Drops, clash-drops}
use Rattle.rules.specs.Run.{Numbered, all_of, numbered, Outcome, finished, refused, turn, any_long, waiting_size, lines_fit, run_from, run_by, run, checked}

module _ (P : Refusal → Type 0) where
  -- P of the refusal, where there is one
  abbrev pub StopsBy : {A : Type 0} → Reply A → Type 0
  StopsBy nothing = Unit {0}
  StopsBy (results a) = Unit {0}
  StopsBy (stops r) = P r

  pub by-each : {A B : Type 0} (f : A → B) (m : Reply A) → StopsBy m → StopsBy (each f m)
  by-each f nothing p = tt
  by-each f (results a) p = tt
  by-each f (stops r) p = p

  by_next : {A : Type 0} (m : Reply A) (k : Unit {0} → Reply A) → StopsBy m → StopsBy (k tt) → StopsBy (or_next m k)
  by_next nothing k p q = q
  by_next (results a) k p q = tt
  by_next (stops r) k p q = p

  by-placed : (before behind : Conj) (w : Answer) → StopsBy (placed before behind w)
  by-placed before behind none = tt
  by-placed before behind (some bs) = tt

  -- P of the refusals of a rule, and of all rules
  abbrev pub RuleStopsBy : Rule → Type 0
  RuleStopsBy (on_eqn rule) = Unit {0}
  RuleStopsBy (on_mem rule) = Unit {0}
  RuleStopsBy (on_pair rule) = (l : Literal) (behind : Conj) → StopsBy (rule l behind)

  abbrev pub PairsStopBy : List Rule → Type 0
  PairsStopBy [] = Unit {0}
  PairsStopBy (on_eqn rule ∷ rs) = PairsStopBy rs
  PairsStopBy (on_mem rule ∷ rs) = PairsStopBy rs
  PairsStopBy (on_pair rule ∷ rs) = RuleStopsBy (on_pair rule) × PairsStopBy rs

  at_place : (rule : Rule) → RuleStopsBy rule → (swap : Bool) (before : Conj) (l : Literal) (behind : Conj) → StopsBy (results_at swap rule before l behind)
  at_place (on_eqn rule) p false before (eqn l r) behind = by-placed before behind (rule (before ++ behind) l r)
  at_place (on_eqn rule) p true before (eqn l r) behind = by-placed before behind (rule (before ++ behind) r l)
  at_place (on_eqn rule) p false before (mem h R) behind = tt
  at_place (on_eqn rule) p true before (mem h R) behind = tt
  at_place (on_mem rule) p false before (eqn l r) behind = tt
  at_place (on_mem rule) p true before (eqn l r) behind = tt
  at_place (on_mem rule) p false before (mem h R) behind = by-placed before behind (rule (before ++ behind) h R)
  at_place (on_mem rule) p true before (mem h R) behind = tt
  at_place (on_pair rule) p false before l behind = by-each (map (λ (k : Conj). before ++ k)) (rule l behind) (p l behind)
  at_place (on_pair rule) p true before l behind = tt

  -- at a named place
  at_literal : (swap : Bool) (rule : Rule) → RuleStopsBy rule → (i : ℕ) (before k : Conj) → StopsBy (literal_at swap rule i before k)
  at_literal swap rule p i before [] = tt
  at_literal swap rule p zero before (l ∷ k) = at_place rule p swap before l k
  at_literal swap rule p (suc i) before (l ∷ k) = at_literal swap rule p i (before ++ (l ∷ [])) k

  at-rule : (swap : Bool) (i n : ℕ) (rs : List Rule) → PairsStopBy rs → (k : Conj) → StopsBy (rule_at swap i n rs k)
  at-rule swap i n [] p k = tt
  at-rule swap i zero (on_eqn rule ∷ rs) p k = at_literal swap (on_eqn rule) tt i [] k
  at-rule swap i zero (on_mem rule ∷ rs) p k = at_literal swap (on_mem rule) tt i [] k
  at-rule swap i zero (on_pair rule ∷ rs) p k = at_literal swap (on_pair rule) p.0 i [] k
  at-rule swap i (suc n) (on_eqn rule ∷ rs) p k = at-rule swap i n rs p k
  at-rule swap i (suc n) (on_mem rule ∷ rs) p k = at-rule swap i n rs p k
  at-rule swap i (suc n) (on_pair rule ∷ rs) p k = at-rule swap i n rs p.1 k

  named-stops-by : (σ : Signature) → PairsStopBy (rules σ) → (s : Spot) (k : Conj) → StopsBy (step_at σ s k)
  unfolding step_at
  named-stops-by σ p s k = at-rule s.swapped s.literal s.rule (rules σ) p k

  at-earliest : (n : ℕ) (rule : Rule) → RuleStopsBy rule → (i : ℕ) (before k : Conj) → StopsBy (earliest n rule i before k)
  at-earliest n rule p i before [] = tt
  at-earliest n rule p i before (l ∷ k) =
      by_next (found n i false (results_at false rule before l k)) _ (by-each _ (results_at false rule before l k) (at_place rule p false before l k))
      (by_next (found n i true (results_at true rule before l k)) _ (by-each _ (results_at true rule before l k) (at_place rule p true before l k))
      (at-earliest n rule p (suc i) (before ++ (l ∷ [])) k))

  pub at_first : (n : ℕ) (rs : List Rule) → PairsStopBy rs → (k : Conj) → StopsBy (first n rs k)
  at_first n [] p k = tt
  at_first n (on_eqn rule ∷ rs) p k = by_next (earliest n (on_eqn rule) 0 [] k) _ (at-earliest n (on_eqn rule) tt 0 [] k) (at_first (suc n) rs p k)
  at_first n (on_mem rule ∷ rs) p k = by_next (earliest n (on_mem rule) 0 [] k) _ (at-earliest n (on_mem rule) tt 0 [] k) (at_first (suc n) rs p k)
  at_first n (on_pair rule ∷ rs) p k = by_next (earliest n (on_pair rule) 0 [] k) _ (at-earliest n (on_pair rule) p.0 0 [] k) (at_first (suc n) rs p.1 k)

  pub step-stops-by : (σ : Signature) → PairsStopBy (rules σ) → (k : Conj) → StopsBy (step σ k)
  unfolding step search
  step-stops-by σ p k = by-each _ (first 0 (rules σ) k) (at_first 0 (rules σ) p k)

  pub Fold-stops : RuleStopsBy (on_pair Fold)
  Fold-stops l behind = go (strike l behind)
    where
      go : (w : Option Conj) → StopsBy (folded l w)
      go none = tt
      go (some k) = tt

-- The one refusal of a step's own is 21.
abbrev pub IsLongWalk : Refusal → Type 0
IsLongWalk r = r ≡ LongWalk

Clash-stops : (σ : Signature) → RuleStopsBy IsLongWalk (on_pair (Clash σ))
Clash-stops σ l behind = go (Clash σ l behind) (clash-drops walked_pairs (is_unordered σ) l behind)
  where
    go : (m : Reply (List Conj)) → Drops m → StopsBy IsLongWalk m
    go nothing d = tt
    go (results ks) d = tt
    go (stops r) d = d

pub step-stops : (σ : Signature) (k : Conj) → StopsBy IsLongWalk (step σ k)
step-stops σ k = step-stops-by IsLongWalk σ (Fold-stops IsLongWalk, (Clash-stops σ, tt)) k

pub named-stops : (σ : Signature) (s : Spot) (k : Conj) → StopsBy IsLongWalk (step_at σ s k)
named-stops σ s k = named-stops-by IsLongWalk σ (Fold-stops IsLongWalk, (Clash-stops σ, tt)) s k

-- ---- the run

module _ (P : Refusal → Type 0) where
  -- P of the refusal of a run, where there is one
  abbrev pub RunStopsBy : Outcome → Type 0
  RunStopsBy (finished ls n) = Unit {0}
  RunStopsBy (refused r) = P r

  module _ (seven : P LongResult) (eight : P LongWaiting) (nine : P LineRoom) (ten : P StepLimit) (walk : P LongWalk) where
    by-lined : (b : Bool) (x : Outcome) → RunStopsBy x → RunStopsBy (elim b [ true ↦ x | false ↦ refused LineRoom ])
    by-lined true x h = h
    by-lined false x h = nine

    by_turned : (m : Reply (List Conj)) → StopsBy IsLongWalk m → (go : List Conj → Outcome) (x : Outcome) → ((ks : List Conj) → RunStopsBy (go ks)) → RunStopsBy x
        → RunStopsBy (elim m [ results ks ↦ go ks | nothing ↦ x | stops r ↦ refused r ])
    by_turned (results ks) s go x h e = h ks
    by_turned nothing s go x h e = e
    by_turned (stops r) s go x h e = subst P (sym s) walk

    by_turn : (σ : Signature) (L : Limits) (go : List Numbered → List Conj → List Numbered → Outcome)
        → ((ls : List Numbered) (ks : List Conj) (w : List Numbered) → RunStopsBy (go ls ks w)) → (n : ℕ) (ls w : List Numbered) → RunStopsBy (turn L (step σ) go n ls w)
    by_turn σ L go h n ls [] = tt
    by_turn σ L go h n ls (k ∷ w) =
        by_turned (step σ k.literals) (step-stops σ k.literals) (λ ks. go ls ks (all_of k.number ks ++ w)) _ (λ ks. h ls ks (all_of k.number ks ++ w))
        (by-lined (lines_fit L (ls ++ (k ∷ []))) _ (by_turn σ L go h n (ls ++ (k ∷ [])) w))

    by-tested : (b : Bool) (r : Refusal) (x : Outcome) → P r → RunStopsBy x → RunStopsBy (elim b [ true ↦ refused r | false ↦ x ])
    by-tested true r x h e = h
    by-tested false r x h e = e

    by-steps : (σ : Signature) (L : Limits) (d n : ℕ) (ls w : List Numbered) → RunStopsBy (run_from L (step σ) d n ls w)
    unfolding run_from
    by-steps σ L zero n ls w = by_turn σ L (λ ms ks v. refused StepLimit) (λ ms ks v. ten) n ls w
    by-steps σ L (suc d) n ls w =
        by_turn σ L (λ ms ks v. checked L ks v (run_from L (step σ) d (suc n) ms))
        (λ ms ks v. by-tested (any_long L ks) LongResult _ seven (by-tested (ltb L.room (waiting_size v)) LongWaiting _ eight (by-steps σ L d (suc n) ms v)))
        n ls w

    -- What holds of 7 to 10 and 21 holds of the refusal of a run.
    pub run-stops-by : (L : Limits) (σ : Signature) (w : List Conj) → RunStopsBy (run L σ w)
    unfolding run run_by
    run-stops-by L σ w = by-steps σ L L.steps 0 [] (numbered 0 w)
