-- The lines of a replay fit the answer: each was looked at when it was added.
use Prim.Native.Nat.{ℕ, suc}
use mathlib.Core.Path.{◌≡◌, refl}
use mathlib.Core.Bool.{Bool, true, false, ◌||◌}
use mathlib.Core.List.{List, [], ◌∷◌, ◌++◌}
use mathlib.Core.Option.{Option, none, some}
use lib.Dec.{ltb}
use Rattle.language.specs.declared.Refusal.{Refusal}
use Rattle.language.specs.declared.Refusal.TheVariants.{LongResult, LongWaiting, LineRoom, BadStep, ShortTrail, LongTrail}
use Rattle.language.specs.declared.Signature.{Signature}
use Rattle.language.specs.Limits.{Limits}
use Rattle.language.specs.Kinds.{pick}
use Rattle.language.specs.Trees.{Conj}
use Rattle.rules.specs.Reply.{Reply, nothing, results, stops}
use Rattle.rules.specs.Step.{Spot, step_at, step}
use Rattle.rules.specs.Run.{Numbered, all_of, numbered, any_long, waiting_size, lines_fit, Outcome, finished, refused, checked, lined}
use Rattle.replay.specs.Replay.{Triple, triples, left_over, spot_of, retraced, at, replay_from, replay}

module _ (L : Limits) (σ : Signature) where
  abbrev Fits : Outcome → Type 0
  Fits (finished ls n) = lines_fit L ls ≡ true
  Fits (refused r) = Unit {0}

  halts : (b : Bool) (r : Refusal) (o : Outcome) → Fits o → Fits (elim b [ true ↦ refused r | false ↦ o ])
  halts true r o p = tt
  halts false r o p = p

  fitted : (b : Bool) (o : Outcome) → (b ≡ true → Fits o) → Fits (elim b [ true ↦ o | false ↦ refused LineRoom ])
  fitted true o p = p refl
  fitted false o p = tt

  retraces : (go : List Numbered → Numbered → List Numbered → Outcome) (end : List Numbered → Outcome)
      → ((ls : List Numbered) (k : Numbered) (w : List Numbered) → lines_fit L ls ≡ true → Fits (go ls k w)) → ((ls : List Numbered) → lines_fit L ls ≡ true → Fits (end ls))
      → (w ls : List Numbered) → lines_fit L ls ≡ true → Fits (retraced L σ go end ls w)
  retraces go end on off [] ls p = off ls p
  retraces go end on off (k ∷ w) ls p = taken (step σ k.literals) (fitted (lines_fit L (ls ++ (k ∷ []))) _ (λ q. retraces go end on off w (ls ++ (k ∷ [])) q))
    where
      taken : (m : Reply (List Conj)) → Fits (lined L (ls ++ (k ∷ [])) (λ more. retraced L σ go end more w))
          → Fits (elim m [ results ks ↦ go ls k w | nothing ↦ lined L (ls ++ (k ∷ [])) (λ more. retraced L σ go end more w) | stops r ↦ refused r ])
      taken nothing line = line
      taken (results ks) line = on ls k w p
      taken (stops r) line = tt

  named : (o : Option Spot) (k : Numbered) (w : List Numbered) (go : List Numbered → Outcome) → ((v : List Numbered) → Fits (go v)) → Fits (at L σ o k w go)
  named none k w go on = tt
  named (some s) k w go on = taken (step_at σ s k.literals)
    where
      taken : (m : Reply (List Conj)) → Fits (elim m [ results ks ↦ checked L ks (all_of k.number ks ++ w) go | nothing ↦ refused BadStep | stops r ↦ refused r ])
      taken nothing = tt
      taken (results ks) = halts (any_long L ks) LongResult _ (halts (ltb L.room (waiting_size (all_of k.number ks ++ w))) LongWaiting _ (on (all_of k.number ks ++ w)))
      taken (stops r) = tt

  end_of : (over : Bool) (n : ℕ) (ls : List Numbered) → lines_fit L ls ≡ true → Fits (pick over (refused LongTrail) (finished ls n))
  end_of true n ls p = tt
  end_of false n ls p = p

  from-fits : (over : Bool) (ts : List Triple) (n : ℕ) (ls w : List Numbered) → lines_fit L ls ≡ true → Fits (replay_from L σ over n ts ls w)
  unfolding replay_from
  from-fits over [] n ls w p = retraces (λ _ _ _. refused ShortTrail) _ (λ _ _ _ _. tt) (λ ms q. end_of over n ms q) w ls p
  from-fits over (t ∷ ts) n ls w p =
      retraces _ (λ _. refused LongTrail) (λ ms k v q. named (spot_of t) k v _ (λ u. from-fits over ts (suc n) ms u q)) (λ _ _. tt) w ls p

  pub replay-fits : lines_fit L [] ≡ true → (half : Bool) (trail : List ℕ) (w : List Conj) (ls : List Numbered) (n : ℕ) → replay L σ half trail w ≡ finished ls n → lines_fit L ls ≡ true
  unfolding replay
  replay-fits t half trail w ls n e = rw e at (from-fits (half || left_over trail) (triples trail) 0 [] (numbered 0 w) t)
