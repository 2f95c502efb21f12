-- What holds all along a run. Whatever a step and a new line keep of the lines and the waiting conjunctions holds of the lines at the end:
-- every other theorem on whole runs is a case of this one.
use Prim.Native.Nat.{ℕ, zero, suc}
use mathlib.Core.Path.{◌≡◌, refl}
use mathlib.Core.Bool.{Bool, true, false}
use mathlib.Core.List.{List, [], ◌∷◌, ◌++◌}
use native.Mathlib.Omega.{arith}
use lib.Dec.{ltb}
use Rattle.language.specs.declared.Refusal.{Refusal}
use Rattle.language.specs.declared.Refusal.TheVariants.{ShortSlice, LongResult, LongWaiting, LineRoom, StepLimit}
use Rattle.language.specs.Limits.{Limits}
use Rattle.language.specs.declared.Signature.{Signature}
use Rattle.language.specs.Trees.{Conj, signature, Question}
use Rattle.language.specs.Question.{Asked, asks, refuses, read_question}
use Rattle.rules.specs.Reply.{Reply, nothing, results, stops}
use Rattle.rules.specs.Step.{Step, step}
use Rattle.rules.specs.Run.{Numbered, EachLine, all_of, numbered, any_long, waiting_size, lines_fit, Outcome, finished, refused, lined, turn, run_from, run_by, run}
use Rattle.rules.specs.Answer.{answered, unread, ran, solving_of, solving}
use Rattle.rules.specs.Each.{Each}
use Rattle.rules.proofs.Each.{each-++, each_map}

-- `I ls w`: lines ls are there, and w waits, in the run of a step
module _ (by : Step) (I : List Numbered → List Numbered → Type 0) where
  -- it holds when the run ends
  abbrev pub Ended : Outcome → Type 0
  Ended (finished ls n) = I ls []
  Ended (refused r) = Unit {0}

  module _
      (stepped : (ls : List Numbered) (k : Numbered) (w : List Numbered) (ks : List Conj) → I ls (k ∷ w) → by k.literals ≡ results ks → I ls (all_of k.number ks ++ w))
      (rests : (ls : List Numbered) (k : Numbered) (w : List Numbered) → I ls (k ∷ w) → by k.literals ≡ nothing → I (ls ++ (k ∷ [])) w)
    where
      -- a refusal, or the run goes on
      halts : (b : Bool) (r : Refusal) (o : Outcome) → Ended o → Ended (elim b [ true ↦ refused r | false ↦ o ])
      halts true r o p = tt
      halts false r o p = p

      goes : (b : Bool) (r : Refusal) (o : Outcome) → Ended o → Ended (elim b [ true ↦ o | false ↦ refused r ])
      goes true r o p = p
      goes false r o p = tt

      turn-ends : (L : Limits) (go : List Numbered → List Conj → List Numbered → Outcome)
          → ((ls : List Numbered) (ks : List Conj) (w : List Numbered) → I ls w → Ended (go ls ks w)) → (n : ℕ) (ls w : List Numbered) → I ls w → Ended (turn L by go n ls w)
      turn-ends L go on n ls [] p = p
      turn-ends L go on n ls (k ∷ w) p = taken (by k.literals) refl (λ q. goes (lines_fit L (ls ++ (k ∷ []))) LineRoom _ (turn-ends L go on n (ls ++ (k ∷ [])) w q))
        where
          taken : (m : Reply (List Conj)) → by k.literals ≡ m → (I (ls ++ (k ∷ [])) w → Ended (lined L (ls ++ (k ∷ [])) (λ ms. turn L by go n ms w)))
              → Ended (elim m [ results ks ↦ go ls ks (all_of k.number ks ++ w) | nothing ↦ lined L (ls ++ (k ∷ [])) (λ ms. turn L by go n ms w) | stops r ↦ refused r ])
          taken nothing e line = line (rests ls k w p e)
          taken (results ks) e line = on ls ks (all_of k.number ks ++ w) (stepped ls k w ks p e)
          taken (stops r) e line = tt

      from-ends : (L : Limits) (d n : ℕ) (ls w : List Numbered) → I ls w → Ended (run_from L by d n ls w)
      unfolding run_from
      from-ends L zero n ls w p = turn-ends L (λ _ _ _. refused StepLimit) (λ _ _ _ _. tt) n ls w p
      from-ends L (suc d) n ls w p =
          turn-ends L _ (λ ms ks v q. halts (any_long L ks) LongResult _ (halts (ltb L.room (waiting_size v)) LongWaiting _ (from-ends L d (suc n) ms v q))) n ls w p

      -- What a step and a new line keep holds of the lines of a finished run.
      pub along : (L : Limits) (w : List Conj) (ls : List Numbered) (n : ℕ) → run_by L by w ≡ finished ls n → I [] (numbered 0 w) → I ls []
      unfolding run_by
      along L w ls n e p = rw e at (from-ends L L.steps 0 [] (numbered 0 w) p)

pub each-numbered : (P : Conj → Type 0) (n : ℕ) (ks : List Conj) → Each P ks → EachLine P (numbered n ks)
each-numbered P n [] p = tt
each-numbered P n (k ∷ ks) p = (p.0, each-numbered P (suc n) ks p.1)

-- If P is kept by a step, and every waiting conjunction satisfies it, then every line does.
pub lines_keep : (σ : Signature) (P : Conj → Type 0) → ((k : Conj) (ks : List Conj) → P k → step σ k ≡ results ks → Each P ks)
    → (L : Limits) (w : List Conj) (ls : List Numbered) (n : ℕ) → run L σ w ≡ finished ls n → Each P w → EachLine P ls
unfolding run
lines_keep σ P kept L w ls n e p =
    (along (step σ) (λ ms v. EachLine P ms × EachLine P v)
    (λ ms k v ks q d. (q.0, each-++ _ (all_of k.number ks) v (each_map P _ _ (λ j r. r) ks (kept k.literals ks q.1.0 d)) q.1.1))
    (λ ms k v q d. (each-++ _ ms (k ∷ []) q.0 (q.1.0, tt), q.1.1))
    L w ls n e (tt, each-numbered P 0 w p)).0

-- To a line of a finished run no rule applies.
pub lines_rest : (σ : Signature) (L : Limits) (w : List Conj) (ls : List Numbered) (n : ℕ) → run L σ w ≡ finished ls n → EachLine (λ k. step σ k ≡ nothing) ls
unfolding run
lines_rest σ L w ls n e =
    along (step σ) (λ ms v. EachLine (λ k. step σ k ≡ nothing) ms) (λ ms k v ks q d. q)
    (λ ms k v q d. each-++ _ ms (k ∷ []) q (d, tt)) L w ls n e tt

-- ---- the question

ran-finished : (o : Outcome) (ls : List Numbered) (n : ℕ) → ran o ≡ answered ls n → o ≡ finished ls n
ran-finished (finished ms m) ls n e = cc
ran-finished (refused r) ls n e = let z : ◌≡◌ {A = ℕ} 0 1 = cc in absurd (omega arith)

of-asked : (L : Limits) (a : Asked) (ls : List Numbered) (n : ℕ) → solving_of L a ≡ answered ls n
    → (q : Question) × (a ≡ asks q) × (run L (signature q.counts) q.alternatives ≡ finished ls n)
of-asked L (asks q) ls n e = (q, refl, ran-finished (run L (signature q.counts) q.alternatives) ls n e)
of-asked L (refuses r) ls n e = let z : ◌≡◌ {A = ℕ} 0 1 = cc in absurd (omega arith)

-- an answer is of a question that was read, and of its run
pub answered-run : (L : Limits) (work answer : ℕ) (ws : List ℕ) (ls : List Numbered) (n : ℕ) → solving L work answer ws ≡ answered ls n
    → (q : Question) × (read_question L ws ≡ asks q) × (run L (signature q.counts) q.alternatives ≡ finished ls n)
unfolding solving
answered-run L work answer ws ls n e = long (ltb work L.room) (ltb answer L.room) e
  where
    long : (a b : Bool)
        → elim a [ true ↦ unread ShortSlice | false ↦ elim b [ true ↦ unread ShortSlice | false ↦ solving_of L (read_question L ws) ] ] ≡ answered ls n
        → (q : Question) × (read_question L ws ≡ asks q) × (run L (signature q.counts) q.alternatives ≡ finished ls n)
    long true b e = let z : ◌≡◌ {A = ℕ} 0 1 = cc in absurd (omega arith)
    long false true e = let z : ◌≡◌ {A = ℕ} 0 1 = cc in absurd (omega arith)
    long false false e = of-asked L (read_question L ws) ls n e
