-- The desk's run is the run without limits, wherever it is not refused: the same lines, the same steps.
use Prim.Native.Nat.{ℕ, zero, suc, ◌+◌}
use mathlib.Core.Path.{◌≡◌, refl, sym, ap, ◌∙◌, subst}
use mathlib.Core.Bool.{Bool, true, false, ◌||◌}
use mathlib.Core.List.{List, [], ◌∷◌, ◌++◌, append_assoc, append-nil}
use mathlib.Core.Option.{Option, none, some}
use native.Mathlib.Omega.{arith}
use lib.Dec.{ltb}
use Rattle.language.specs.declared.Refusal.{Refusal}
use Rattle.language.specs.declared.Refusal.TheVariants.{LongResult, LongWaiting, LineRoom, StepLimit, LongWalk}
use Rattle.language.specs.declared.Signature.{Signature}
use Rattle.language.specs.Limits.{Limits, walked_pairs}
use Rattle.language.specs.Trees.{Expr, Literal, eqn, mem, Conj, is_unordered, Var}
use Rattle.rules.specs.Solved.{lone_var}
use Rattle.rules.specs.Walk.{long_walk}
use Rattle.rules.specs.Clash.{Unordered, mentions, agree, is_lone, try_pair, try_behind}
use Rattle.rules.specs.Reply.{Reply, nothing, results, stops, or_next}
use Rattle.rules.specs.Rules.{Rule, on_pair, Clash, rules}
use Rattle.rules.specs.Step.{each, results_at, found, earliest, first, search, step}
use Rattle.rules.specs.Run.{Numbered, all_of, numbered, any_long, waiting_size, lines_fit, Outcome, finished, refused, checked, lined, turn, run_from, run_by, run}
use Rattle.ends.specs.Unlimited.{walk_pair, walk_behind, FreeClash, ending_in, free_rules, free_step, Goes, done, line, made}

-- ---- the same, but for a walk that is too long

abbrev Unstopped : {A : Type 0} → Reply A → Reply A → Type 0
Unstopped nothing m = m ≡ nothing
Unstopped (results a) m = m ≡ results a
Unstopped (stops r) m = Unit {0}

same : {A : Type 0} (m : Reply A) → Unstopped m m
same nothing = refl
same (results a) = refl
same (stops r) = tt

next : {A : Type 0} (m n : Reply A) (k j : Unit {0} → Reply A) → Unstopped m n → Unstopped (k tt) (j tt) → Unstopped (or_next m k) (or_next n j)
next nothing n k j e d = go (k tt) d
  where
    go : (x : Reply _) → Unstopped x (j tt) → Unstopped x (or_next n j)
    go nothing d = ap (λ a. or_next a j) e ∙ d
    go (results a) d = ap (λ a. or_next a j) e ∙ d
    go (stops r) d = tt
next (results a) n k j e d = ap (λ b. or_next b j) e
next (stops r) n k j e d = tt

mapped : {A B : Type 0} (f : A → B) (m n : Reply A) → Unstopped m n → Unstopped (each f m) (each f n)
mapped f nothing n e = ap (each f) e
mapped f (results a) n e = ap (each f) e
mapped f (stops r) n e = tt

pair_same : (limit : ℕ) (u : Unordered) (v : Var) (R S : Expr) → Unstopped (try_pair limit u v R S) (walk_pair u v R S)
pair_same limit u v R S = go (mentions u R || mentions u S) (long_walk limit R S) (agree v R S)
  where
    go : (a b c : Bool)
        → Unstopped {A = List Conj} (elim a [ true ↦ nothing | false ↦ elim b [ true ↦ stops LongWalk | false ↦ elim c [ true ↦ nothing | false ↦ results [] ] ] ])
        (elim a [ true ↦ nothing | false ↦ elim c [ true ↦ nothing | false ↦ results [] ] ])
    go true b c = refl
    go false true c = tt
    go false false true = refl
    go false false false = refl

behind-same : (limit : ℕ) (u : Unordered) (v : Var) (R : Expr) (k : Conj) → Unstopped (try_behind limit u v R k) (walk_behind u v R k)
behind-same limit u v R [] = refl
behind-same limit u v R (eqn l r ∷ k) = behind-same limit u v R k
behind-same limit u v R (mem h S ∷ k) = go (is_lone v h) (behind-same limit u v R k)
  where
    go : (b : Bool) → Unstopped (try_behind limit u v R k) (walk_behind u v R k)
        → Unstopped {A = List Conj} (elim b [ true ↦ or_next (try_pair limit u v R S) (λ _. try_behind limit u v R k) | false ↦ try_behind limit u v R k ])
        (elim b [ true ↦ or_next (walk_pair u v R S) (λ _. walk_behind u v R k) | false ↦ walk_behind u v R k ])
    go true e = next (try_pair limit u v R S) (walk_pair u v R S) _ _ (pair_same limit u v R S) e
    go false e = e

clash-same : (σ : Signature) (l : Literal) (behind : Conj) → Unstopped (Clash σ l behind) (FreeClash σ l behind)
clash-same σ (eqn l r) behind = refl
clash-same σ (mem h R) behind = go (lone_var h)
  where
    go : (w : Option Var)
        → Unstopped {A = List Conj} (elim w [ none ↦ nothing | some v ↦ try_behind walked_pairs (is_unordered σ) v R behind ]) (elim w [ none ↦ nothing | some v ↦ walk_behind (is_unordered σ) v R behind ])
    go none = refl
    go (some v) = behind-same walked_pairs (is_unordered σ) v R behind

-- ---- a step

abbrev SameRule : Rule → Rule → Type 0
SameRule rule free = (swap : Bool) (before : Conj) (l : Literal) (behind : Conj) → Unstopped (results_at swap rule before l behind) (results_at swap free before l behind)

earliest-same : (n : ℕ) (rule free : Rule) → SameRule rule free → (i : ℕ) (before k : Conj) → Unstopped (earliest n rule i before k) (earliest n free i before k)
earliest-same n rule free h i before [] = refl
earliest-same n rule free h i before (l ∷ k) =
    next (found n i false (results_at false rule before l k)) (found n i false (results_at false free before l k)) _ _ (mapped _ (results_at false rule before l k) _ (h false before l k))
    (next (found n i true (results_at true rule before l k)) (found n i true (results_at true free before l k)) _ _ (mapped _ (results_at true rule before l k) _ (h true before l k))
    (earliest-same n rule free h (suc i) (before ++ (l ∷ [])) k))

-- the last rule of a list is this one
abbrev LastIs : Rule → List Rule → Type 0
LastIs last [] = Unit {0}
LastIs last (rule ∷ []) = rule ≡ last
LastIs last (rule ∷ more ∷ rs) = LastIs last (more ∷ rs)

first-same : (last free : Rule) → SameRule last free → (rs : List Rule) → LastIs last rs → (n : ℕ) (k : Conj) → Unstopped (first n rs k) (first n (ending_in free rs) k)
first-same last free h [] e n k = refl
first-same last free h (rule ∷ []) e n k =
    next (earliest n rule 0 [] k) (earliest n free 0 [] k) _ _ (earliest-same n rule free (subst (λ r. SameRule r free) (sym e) h) 0 [] k) refl
first-same last free h (rule ∷ more ∷ rs) e n k =
    next (earliest n rule 0 [] k) (earliest n rule 0 [] k) _ _ (same (earliest n rule 0 [] k)) (first-same last free h (more ∷ rs) e (suc n) k)

pub step_same : (σ : Signature) (k : Conj) → Unstopped (step σ k) (free_step σ k)
unfolding step search free_step
step_same σ k =
    mapped _ (first 0 (rules σ) k) (first 0 (free_rules σ) k) (first-same (on_pair (Clash σ)) (on_pair (FreeClash σ)) clash-rule (rules σ) refl 0 k)
  where
    clash-rule : SameRule (on_pair (Clash σ)) (on_pair (FreeClash σ))
    clash-rule false before l behind = mapped _ (Clash σ l behind) (FreeClash σ l behind) (clash-same σ l behind)
    clash-rule true before l behind = refl

-- ---- the run

-- from so many lines and steps on to these
record Went (σ : Signature) (ls : List Numbered) (n : ℕ) (w ms : List Numbered) (m : ℕ) : Type 0 where
  more : List Numbered
  steps : ℕ
  lines_are : ms ≡ ls ++ more
  steps-are : m ≡ n + steps
  goes : Goes σ w more steps

module _ (σ : Signature) (L : Limits) where
  differ : {A : Type 0} {ls : List Numbered} {n : ℕ} {r : Refusal} → ◌≡◌ {A = Outcome} (refused r) (finished ls n) → A
  differ e = let z : ◌≡◌ {A = ℕ} 0 1 = cc in absurd (omega arith)

  turn-goes : (go : List Numbered → List Conj → List Numbered → Outcome) (n : ℕ)
      → ((ls : List Numbered) (ks : List Conj) (w ms : List Numbered) (m : ℕ) → go ls ks w ≡ finished ms m → Went σ ls (suc n) w ms m)
      → (w ls ms : List Numbered) (m : ℕ) → turn L (step σ) go n ls w ≡ finished ms m → Went σ ls n w ms m
  turn-goes go n ih [] ls ms m e =
      let a : ls ≡ ms = cc in let b : n ≡ m = cc in
      record { more = []; steps = 0; lines_are = sym a ∙ sym (append-nil ls); steps-are = omega arith; goes = done }
  turn-goes go n ih (k ∷ w) ls ms m e = stepped (step σ k.literals) (step_same σ k.literals) e (turn-goes go n ih w (ls ++ (k ∷ [])) ms m)
    where
      fitted : (b : Bool) {x : Outcome} → elim b [ true ↦ x | false ↦ refused LineRoom ] ≡ finished ms m → x ≡ finished ms m
      fitted true e = e
      fitted false e = differ e

      stepped : (r : Reply (List Conj)) → Unstopped r (free_step σ k.literals)
          → elim r [
            | results ks ↦ go ls ks (all_of k.number ks ++ w)
            | nothing ↦ lined L (ls ++ (k ∷ [])) (λ more. turn L (step σ) go n more w)
            | stops refusal ↦ refused refusal
          ] ≡ finished ms m
          → (turn L (step σ) go n (ls ++ (k ∷ [])) w ≡ finished ms m → Went σ (ls ++ (k ∷ [])) n w ms m) → Went σ ls n (k ∷ w) ms m
      stepped nothing u e h =
          let g = h (fitted (lines_fit L (ls ++ (k ∷ []))) e) in
          record { more = k ∷ g.more; steps = g.steps; lines_are = g.lines_are ∙ append_assoc ls (k ∷ []) g.more; steps-are = g.steps-are; goes = line k u g.goes }
      stepped (results ks) u e h =
          let g = ih ls ks (all_of k.number ks ++ w) ms m e in
          record { more = g.more; steps = suc g.steps; lines_are = g.lines_are; steps-are = let z = g.steps-are in omega arith; goes = made g.steps k w ks u g.goes }
      stepped (stops r) u e h = differ e

  passed : (go : List Numbered → Outcome) (ks : List Conj) (w ms : List Numbered) (m : ℕ) → checked L ks w go ≡ finished ms m → go w ≡ finished ms m
  passed go ks w ms m e = at (any_long L ks) (ltb L.room (waiting_size w)) e
    where
      at : (a b : Bool) → elim a [ true ↦ refused LongResult | false ↦ elim b [ true ↦ refused LongWaiting | false ↦ go w ] ] ≡ finished ms m → go w ≡ finished ms m
      at true b e = differ e
      at false true e = differ e
      at false false e = e

  run-from : (d n : ℕ) (w ls ms : List Numbered) (m : ℕ) → run_from L (step σ) d n ls w ≡ finished ms m → Went σ ls n w ms m
  unfolding run_from
  run-from zero n w ls ms m e = turn-goes (λ _ _ _. refused StepLimit) n (λ ls ks w ms m e. differ e) w ls ms m e
  run-from (suc d) n w ls ms m e =
      turn-goes (λ more ks wait. checked L ks wait (run_from L (step σ) d (suc n) more)) n (λ ls ks w ms m e. run-from d (suc n) w ls ms m (passed (run_from L (step σ) d (suc n) ls) ks w ms m e)) w ls ms m e

-- Where the desk's run finishes, under any limits, the run without limits goes to the same lines in the same steps.
pub run-goes : (σ : Signature) (L : Limits) (w : List Conj) (ls : List Numbered) (n : ℕ) → run L σ w ≡ finished ls n → Goes σ (numbered 0 w) ls n
unfolding run run_by
run-goes σ L w ls n e =
    let g = run-from σ L L.steps 0 (numbered 0 w) [] ls n e in
    subst (λ x. Goes σ (numbered 0 w) x n) (sym g.lines_are) (subst (Goes σ (numbered 0 w) g.more) (let z = g.steps-are in let y : g.steps ≡ n = omega arith in y) g.goes)
