-- What holds all along a replay, whoever wrote the trail: what a step at any named place and a new line keep holds of the lines at the end.
use Prim.Native.Nat.{ℕ, suc}
use mathlib.Core.Path.{◌≡◌, refl}
use mathlib.Core.Bool.{Bool, true, false, ◌||◌}
use mathlib.Core.List.{List, [], ◌∷◌, ◌++◌}
use mathlib.Core.Option.{Option, none, some}
use lib.Dec.{ltb}
use Rattle.language.specs.declared.Refusal.{Refusal}
use Rattle.language.specs.declared.Refusal.TheVariants.{LongResult, LongWaiting, LineRoom, BadStep, ShortTrail, LongTrail}
use Rattle.language.specs.declared.Signature.{Signature}
use Rattle.language.specs.Limits.{Limits}
use Rattle.language.specs.Kinds.{pick}
use Rattle.language.specs.Trees.{Conj}
use Rattle.rules.specs.Reply.{Reply, nothing, results, stops}
use Rattle.rules.specs.Step.{Spot, step_at, step}
use Rattle.rules.specs.Each.{Each}
use Rattle.rules.specs.Run.{Numbered, EachLine, all_of, numbered, any_long, waiting_size, lines_fit, Outcome, finished, refused, checked, lined}
use Rattle.rules.proofs.Each.{each-++, each_map}
use Rattle.rules.proofs.Invariant.{each-numbered}
use Rattle.replay.specs.Replay.{Triple, triples, left_over, spot_of, retraced, at, replay_from, replay}

module _ (σ : Signature) (I : List Numbered → List Numbered → Type 0) where
  abbrev Ended : Outcome → Type 0
  Ended (finished ls n) = I ls []
  Ended (refused r) = Unit {0}

  module _
      (stepped : (ls : List Numbered) (k : Numbered) (w : List Numbered) (s : Spot) (ks : List Conj) → I ls (k ∷ w) → step_at σ s k.literals ≡ results ks → I ls (all_of k.number ks ++ w))
      (rests : (ls : List Numbered) (k : Numbered) (w : List Numbered) → I ls (k ∷ w) → step σ k.literals ≡ nothing → I (ls ++ (k ∷ [])) w) (L : Limits)
    where
      halts : (b : Bool) (r : Refusal) (o : Outcome) → Ended o → Ended (elim b [ true ↦ refused r | false ↦ o ])
      halts true r o p = tt
      halts false r o p = p

      goes : (b : Bool) (r : Refusal) (o : Outcome) → Ended o → Ended (elim b [ true ↦ o | false ↦ refused r ])
      goes true r o p = p
      goes false r o p = tt

      retraces : (go : List Numbered → Numbered → List Numbered → Outcome) (end : List Numbered → Outcome)
          → ((ls : List Numbered) (k : Numbered) (w : List Numbered) → I ls (k ∷ w) → Ended (go ls k w)) → ((ls : List Numbered) → I ls [] → Ended (end ls))
          → (w ls : List Numbered) → I ls w → Ended (retraced L σ go end ls w)
      retraces go end on off [] ls p = off ls p
      retraces go end on off (k ∷ w) ls p = taken (step σ k.literals) refl (λ q. goes (lines_fit L (ls ++ (k ∷ []))) LineRoom _ (retraces go end on off w (ls ++ (k ∷ [])) q))
        where
          taken : (m : Reply (List Conj)) → step σ k.literals ≡ m → (I (ls ++ (k ∷ [])) w → Ended (lined L (ls ++ (k ∷ [])) (λ more. retraced L σ go end more w)))
              → Ended (elim m [ results ks ↦ go ls k w | nothing ↦ lined L (ls ++ (k ∷ [])) (λ more. retraced L σ go end more w) | stops r ↦ refused r ])
          taken nothing e line = line (rests ls k w p e)
          taken (results ks) e line = on ls k w p
          taken (stops r) e line = tt

      named : (o : Option Spot) (k : Numbered) (ls w : List Numbered) (go : List Numbered → Outcome) → I ls (k ∷ w)
          → ((v : List Numbered) → I ls v → Ended (go v)) → Ended (at L σ o k w go)
      named none k ls w go p on = tt
      named (some s) k ls w go p on = taken (step_at σ s k.literals) refl
        where
          taken : (m : Reply (List Conj)) → step_at σ s k.literals ≡ m
              → Ended (elim m [ results ks ↦ checked L ks (all_of k.number ks ++ w) go | nothing ↦ refused BadStep | stops r ↦ refused r ])
          taken nothing e = tt
          taken (results ks) e =
              halts (any_long L ks) LongResult _ (halts (ltb L.room (waiting_size (all_of k.number ks ++ w))) LongWaiting _ (on (all_of k.number ks ++ w) (stepped ls k w s ks p e)))
          taken (stops r) e = tt

      end_of : (over : Bool) (n : ℕ) (ls : List Numbered) → I ls [] → Ended (pick over (refused LongTrail) (finished ls n))
      end_of true n ls p = tt
      end_of false n ls p = p

      from-ends : (over : Bool) (ts : List Triple) (n : ℕ) (ls w : List Numbered) → I ls w → Ended (replay_from L σ over n ts ls w)
      unfolding replay_from
      from-ends over [] n ls w p = retraces (λ _ _ _. refused ShortTrail) _ (λ _ _ _ _. tt) (λ ms q. end_of over n ms q) w ls p
      from-ends over (t ∷ ts) n ls w p =
          retraces _ (λ _. refused LongTrail) (λ ms k v q. named (spot_of t) k ms v _ q (λ u r. from-ends over ts (suc n) ms u r)) (λ _ _. tt) w ls p

      pub along : (half : Bool) (trail : List ℕ) (w : List Conj) (ls : List Numbered) (n : ℕ) → replay L σ half trail w ≡ finished ls n → I [] (numbered 0 w) → I ls []
      unfolding replay
      along half trail w ls n e p = rw e at (from-ends (half || left_over trail) (triples trail) 0 [] (numbered 0 w) p)

-- What every step at a named place keeps and every waiting conjunction has, every line has.
pub replay-keeps : (σ : Signature) (P : Conj → Type 0) → ((s : Spot) (k : Conj) (ks : List Conj) → P k → step_at σ s k ≡ results ks → Each P ks)
    → (L : Limits) (half : Bool) (trail : List ℕ) (w : List Conj) (ls : List Numbered) (n : ℕ) → replay L σ half trail w ≡ finished ls n → Each P w → EachLine P ls
replay-keeps σ P kept L half trail w ls n e p =
    (along σ (λ ms v. EachLine P ms × EachLine P v)
    (λ ms k v s ks q d. (q.0, each-++ _ (all_of k.number ks) v (each_map P _ _ (λ j r. r) ks (kept s k.literals ks q.1.0 d)) q.1.1))
    (λ ms k v q d. (each-++ _ ms (k ∷ []) q.0 (q.1.0, tt), q.1.1))
    L half trail w ls n e (tt, each-numbered P 0 w p)).0
