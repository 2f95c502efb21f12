-- A run is refused exactly where something stops it: what is left of it at a state that it reaches comes to what the whole comes to.
use Prim.Native.Nat.{ℕ, zero, suc, ◌≤◌}
use mathlib.Core.Path.{◌≡◌, refl, sym, ap, ◌∙◌}
use mathlib.Core.Bool.{Bool, true, false}
use mathlib.Core.List.{List, [], ◌∷◌, ◌++◌}
use native.Mathlib.Omega.{arith}
use borrow.Author.Tests.{ltb-true, ltb-false, le-ltb, lt-ltb}
use lib.Dec.{ltb}
use Rattle.language.specs.declared.Refusal.{Refusal}
use Rattle.language.specs.declared.Refusal.TheVariants.{LongResult, LongWaiting, LineRoom, StepLimit, LongWalk}
use Rattle.language.specs.declared.Signature.{Signature}
use Rattle.language.specs.Limits.{Limits}
use Rattle.language.specs.Trees.{Conj}
use Rattle.rules.specs.Reply.{Reply, nothing, results, stops}
use Rattle.rules.specs.Step.{step}
use Rattle.rules.specs.Run.{Numbered, all_of, numbered, any_long, waiting_size, lines_fit, Outcome, refused, checked, lined, turn, run_from, run_by, run}
use Rattle.rules.proofs.Stopping.{StopsBy, IsLongWalk, step-stops}
use Rattle.demands.specs.Runs.{Reached, begins, rests, steps, Stops, long-result, long-waiting, no-line-fits, no-step-left, long-walk}

module _ (L : Limits) (σ : Signature) (alternatives : List Conj) where
  -- ---- what a state comes to

  turn-rests : (go : List Numbered → List Conj → List Numbered → Outcome) (made : ℕ) (ls : List Numbered) (k : Numbered) (w : List Numbered) → step σ k.literals ≡ nothing
      → turn L (step σ) go made ls (k ∷ w) ≡ lined L (ls ++ (k ∷ [])) (λ ms. turn L (step σ) go made ms w)
  turn-rests go made ls k w e = ap (λ m. elim m as (λ _. Outcome) [ results ks ↦ go ls ks (all_of k.number ks ++ w) | nothing ↦ lined L (ls ++ (k ∷ [])) (λ ms. turn L (step σ) go made ms w) | stops r ↦ refused r ]) e

  turn-steps : (go : List Numbered → List Conj → List Numbered → Outcome) (made : ℕ) (ls : List Numbered) (k : Numbered) (ks : List Conj) (w : List Numbered) → step σ k.literals ≡ results ks
      → turn L (step σ) go made ls (k ∷ w) ≡ go ls ks (all_of k.number ks ++ w)
  turn-steps go made ls k ks w e = ap (λ m. elim m as (λ _. Outcome) [ results ks ↦ go ls ks (all_of k.number ks ++ w) | nothing ↦ lined L (ls ++ (k ∷ [])) (λ ms. turn L (step σ) go made ms w) | stops r ↦ refused r ]) e

  turn-walk : (go : List Numbered → List Conj → List Numbered → Outcome) (made : ℕ) (ls : List Numbered) (k : Numbered) (w : List Numbered) → step σ k.literals ≡ stops LongWalk
      → turn L (step σ) go made ls (k ∷ w) ≡ refused LongWalk
  turn-walk go made ls k w e = ap (λ m. elim m as (λ _. Outcome) [ results ks ↦ go ls ks (all_of k.number ks ++ w) | nothing ↦ lined L (ls ++ (k ∷ [])) (λ ms. turn L (step σ) go made ms w) | stops r ↦ refused r ]) e

  turn-lined : (go : List Numbered → List Conj → List Numbered → Outcome) (made : ℕ) (ls : List Numbered) (k : Numbered) (w : List Numbered) → step σ k.literals ≡ nothing
      → (b : Bool) → lines_fit L (ls ++ (k ∷ [])) ≡ b → turn L (step σ) go made ls (k ∷ w) ≡ elim b [ true ↦ turn L (step σ) go made (ls ++ (k ∷ [])) w | false ↦ refused LineRoom ]
  turn-lined go made ls k w e b f =
      turn-rests go made ls k w e ∙ ap (λ t. elim t as (λ _. Outcome) [ true ↦ turn L (step σ) go made (ls ++ (k ∷ [])) w | false ↦ refused LineRoom ]) f

  from-rests : (left made : ℕ) (ls : List Numbered) (k : Numbered) (w : List Numbered) → step σ k.literals ≡ nothing → (b : Bool) → lines_fit L (ls ++ (k ∷ [])) ≡ b
      → run_from L (step σ) left made ls (k ∷ w) ≡ elim b [ true ↦ run_from L (step σ) left made (ls ++ (k ∷ [])) w | false ↦ refused LineRoom ]
  unfolding run_from
  from-rests zero made ls k w e b f = turn-lined (λ _ _ _. refused StepLimit) made ls k w e b f
  from-rests (suc left) made ls k w e b f = turn-lined (λ ms ks v. checked L ks v (run_from L (step σ) left (suc made) ms)) made ls k w e b f

  from-steps : (left made : ℕ) (ls : List Numbered) (k : Numbered) (ks : List Conj) (w : List Numbered) → step σ k.literals ≡ results ks
      → run_from L (step σ) (suc left) made ls (k ∷ w) ≡ checked L ks (all_of k.number ks ++ w) (run_from L (step σ) left (suc made) ls)
  unfolding run_from
  from-steps left made ls k ks w e = turn-steps (λ ms ks v. checked L ks v (run_from L (step σ) left (suc made) ms)) made ls k ks w e

  from-none-left : (made : ℕ) (ls : List Numbered) (k : Numbered) (ks : List Conj) (w : List Numbered) → step σ k.literals ≡ results ks → run_from L (step σ) 0 made ls (k ∷ w) ≡ refused StepLimit
  unfolding run_from
  from-none-left made ls k ks w e = turn-steps (λ _ _ _. refused StepLimit) made ls k ks w e

  from-walk : (left made : ℕ) (ls : List Numbered) (k : Numbered) (w : List Numbered) → step σ k.literals ≡ stops LongWalk → run_from L (step σ) left made ls (k ∷ w) ≡ refused LongWalk
  unfolding run_from
  from-walk zero made ls k w e = turn-walk (λ _ _ _. refused StepLimit) made ls k w e
  from-walk (suc left) made ls k w e = turn-walk (λ ms ks v. checked L ks v (run_from L (step σ) left (suc made) ms)) made ls k w e

  checks : (ks : List Conj) (w : List Numbered) (go : List Numbered → Outcome) (a b : Bool) → any_long L ks ≡ a → ltb L.room (waiting_size w) ≡ b
      → checked L ks w go ≡ elim a [ true ↦ refused LongResult | false ↦ elim b [ true ↦ refused LongWaiting | false ↦ go w ] ]
  checks ks w go a b e f =
      ap (λ t. elim t as (λ _. Outcome) [ true ↦ refused LongResult | false ↦ elim (ltb L.room (waiting_size w)) [ true ↦ refused LongWaiting | false ↦ go w ] ]) e
      ∙ ap (λ (t : Bool). elim a as (λ _. Outcome) [ true ↦ refused LongResult | false ↦ elim t as (λ _. Outcome) [ true ↦ refused LongWaiting | false ↦ go w ] ]) f

  reached-run : {made left : ℕ} {ls w : List Numbered} → Reached L σ alternatives made left ls w → run L σ alternatives ≡ run_from L (step σ) left made ls w
  unfolding run run_by
  reached-run begins = refl
  reached-run (rests {made = made} {left = left} {lines = ls} k w r e f) = reached-run r ∙ from-rests left made ls k w e true f
  reached-run (steps {made = made} {left = left} {lines = ls} k ks w r e f p) =
      reached-run r ∙ from-steps left made ls k ks w e ∙ checks ks (all_of k.number ks ++ w) (run_from L (step σ) left (suc made) ls) false false f (le-ltb L.room (waiting_size (all_of k.number ks ++ w)) p)

  -- ---- what stops it is what it is refused for

  pub stopped-run : {e : Refusal} → Stops L σ alternatives e → run L σ alternatives ≡ refused e
  stopped-run (long-result i {made = made} {left = left} {lines = ls} k ks w r s a) =
      reached-run r ∙ from-steps left made ls k ks w s ∙ checks ks (all_of k.number ks ++ w) (run_from L (step σ) left (suc made) ls) true (ltb L.room (waiting_size (all_of k.number ks ++ w))) a refl ∙ ap refused (sym i)
  stopped-run (long-waiting i {made = made} {left = left} {lines = ls} k ks w r s a p) =
      reached-run r ∙ from-steps left made ls k ks w s ∙ checks ks (all_of k.number ks ++ w) (run_from L (step σ) left (suc made) ls) false true a (lt-ltb L.room (waiting_size (all_of k.number ks ++ w)) p) ∙ ap refused (sym i)
  stopped-run (no-line-fits i {made = made} {left = left} {lines = ls} k w r s f) = reached-run r ∙ from-rests left made ls k w s false f ∙ ap refused (sym i)
  stopped-run (no-step-left i {made = made} {lines = ls} k ks w r s) = reached-run r ∙ from-none-left made ls k ks w s ∙ ap refused (sym i)
  stopped-run (long-walk i {made = made} {left = left} {lines = ls} k w r s) = reached-run r ∙ from-walk left made ls k w s ∙ ap refused (sym i)

  -- ---- and it is refused for nothing else

  module _ (e : Refusal) where
    abbrev Stopped : Type 0
    Stopped = Stops L σ alternatives e

    refused-is : {r : Refusal} → refused r ≡ refused e → e ≡ r
    refused-is d = cc

    turn-stops : (made left : ℕ) (go : List Numbered → List Conj → List Numbered → Outcome)
        → ((ls : List Numbered) (k : Numbered) (ks : List Conj) (w : List Numbered) → Reached L σ alternatives made left ls (k ∷ w) → step σ k.literals ≡ results ks → go ls ks (all_of k.number ks ++ w) ≡ refused e → Stopped)
        → (ls w : List Numbered) → Reached L σ alternatives made left ls w → turn L (step σ) go made ls w ≡ refused e → Stopped
    turn-stops made left go on ls [] r d = absurd (let z : ◌≡◌ {A = ℕ} 0 1 = cc in omega arith)
    turn-stops made left go on ls (k ∷ w) r d = taken (step σ k.literals) refl (step-stops σ k.literals) d (λ s f. turn-stops made left go on (ls ++ (k ∷ [])) w (rests k w r s f))
      where
        Rest : Type 0
        Rest = turn L (step σ) go made (ls ++ (k ∷ [])) w ≡ refused e → Stopped

        line : step σ k.literals ≡ nothing → (b : Bool) → lines_fit L (ls ++ (k ∷ [])) ≡ b → elim b [ true ↦ turn L (step σ) go made (ls ++ (k ∷ [])) w | false ↦ refused LineRoom ] ≡ refused e
            → (lines_fit L (ls ++ (k ∷ [])) ≡ true → Rest) → Stopped
        line s true f d more = more f d
        line s false f d more = no-line-fits (refused-is d) k w r s f

        taken : (m : Reply (List Conj)) → step σ k.literals ≡ m → StopsBy IsLongWalk m
            → elim m [ results ks ↦ go ls ks (all_of k.number ks ++ w) | nothing ↦ lined L (ls ++ (k ∷ [])) (λ ms. turn L (step σ) go made ms w) | stops r ↦ refused r ] ≡ refused e
            → (step σ k.literals ≡ nothing → lines_fit L (ls ++ (k ∷ [])) ≡ true → Rest) → Stopped
        taken (stops own) s is d more = long-walk (refused-is d ∙ is) k w r (s ∙ ap stops is)
        taken (results ks) s is d more = on ls k ks w r s d
        taken nothing s is d more = line s (lines_fit L (ls ++ (k ∷ []))) refl d (more s)

    from-stops : (left made : ℕ) (ls w : List Numbered) → Reached L σ alternatives made left ls w → run_from L (step σ) left made ls w ≡ refused e → Stopped
    unfolding run_from
    from-stops zero made ls w r d = turn-stops made 0 (λ _ _ _. refused StepLimit) (λ ls k ks w r s d. no-step-left (refused-is d) k ks w r s) ls w r d
    from-stops (suc left) made ls w r d =
        turn-stops made (suc left) (λ ms ks v. checked L ks v (run_from L (step σ) left (suc made) ms))
        (λ ls k ks w r s d. on_step ls k ks w r s (any_long L ks) refl (ltb L.room (waiting_size (all_of k.number ks ++ w))) refl d (λ a b. from-stops left (suc made) ls (all_of k.number ks ++ w) (steps k ks w r s a b)))
        ls w r d
      where
        on_step : (ls : List Numbered) (k : Numbered) (ks : List Conj) (w : List Numbered) → Reached L σ alternatives made (suc left) ls (k ∷ w) → step σ k.literals ≡ results ks
            → (a : Bool) → any_long L ks ≡ a → (b : Bool) → ltb L.room (waiting_size (all_of k.number ks ++ w)) ≡ b
            → elim a [ true ↦ refused LongResult | false ↦ elim b [ true ↦ refused LongWaiting | false ↦ run_from L (step σ) left (suc made) ls (all_of k.number ks ++ w) ] ] ≡ refused e
            → (any_long L ks ≡ false → waiting_size (all_of k.number ks ++ w) ≤ L.room → run_from L (step σ) left (suc made) ls (all_of k.number ks ++ w) ≡ refused e → Stopped) → Stopped
        on_step ls k ks w r s true p b q d more = long-result (refused-is d) k ks w r s p
        on_step ls k ks w r s false p true q d more = long-waiting (refused-is d) k ks w r s p (ltb-true L.room (waiting_size (all_of k.number ks ++ w)) q)
        on_step ls k ks w r s false p false q d more = more p (ltb-false L.room (waiting_size (all_of k.number ks ++ w)) q) d

    pub refused-stops : run L σ alternatives ≡ refused e → Stopped
    unfolding run run_by
    refused-stops d = from-stops L.steps 0 [] (numbered 0 alternatives) begins d
