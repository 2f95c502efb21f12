-- The replay's refusals: what comes before what, and which there are.
use Prim.Native.Nat.{ℕ, suc}
use mathlib.Core.Path.{◌≡◌, refl, sym, ap, ◌∙◌, subst}
use mathlib.Core.Bool.{Bool, true, false, ◌||◌}
use mathlib.Core.List.{List, [], ◌∷◌, ◌++◌}
use mathlib.Core.Option.{Option, none, some}
use lib.Dec.{ltb}
use Rattle.language.specs.declared.Refusal.{Refusal}
use Rattle.language.specs.declared.Refusal.TheVariants.{LongResult, LongWaiting, LineRoom, LongWalk, BadStep, ShortTrail, LongTrail}
use Rattle.language.specs.declared.Signature.{Signature}
use Rattle.language.specs.Limits.{Limits}
use Rattle.language.specs.Kinds.{pick}
use Rattle.language.specs.Trees.{Conj}
use Rattle.rules.specs.Reply.{Reply, nothing, results, stops}
use Rattle.rules.specs.Step.{Spot, step_at, step}
use Rattle.rules.specs.Run.{Numbered, all_of, numbered, any_long, waiting_size, lines_fit, Outcome, finished, refused, checked, lined}
use Rattle.rules.proofs.Stopping.{StopsBy, IsLongWalk, step-stops, named-stops, RunStopsBy}
use Rattle.replay.specs.Replay.{Triple, triples, left_over, spot_of, retraced, at, replay_from, replay}

-- ---- what comes before what

-- "Whether any rule applies is tested first, so 21 comes before these": a rule's own refusal, whatever the trail says.
module _ (L : Limits) (σ : Signature) (over : Bool) (n : ℕ) (k : Numbered) (ls w : List Numbered) where
  abbrev reply : (List Numbered → Numbered → List Numbered → Outcome) → (List Numbered → Outcome) → Reply (List Conj) → Outcome
  reply go end m = elim m [ results ks ↦ go ls k w | nothing ↦ lined L (ls ++ (k ∷ [])) (λ more. retraced L σ go end more w) | stops r ↦ refused r ]

  pub first-its-own : (ts : List Triple) (r : Refusal) → step σ k.literals ≡ stops r → replay_from L σ over n ts ls (k ∷ w) ≡ refused r
  unfolding replay_from
  first-its-own [] r e = ap (reply (λ _ _ _. refused ShortTrail) (λ more. pick over (refused LongTrail) (finished more n))) e
  first-its-own (t ∷ ts) r e = ap (reply (λ more j wait. at L σ (spot_of t) j wait (replay_from L σ over (suc n) ts more)) (λ _. refused LongTrail)) e

  -- "27 trail ends early or within a step": a rule applies, and there are no three words left.
  pub then-27 : (ks : List Conj) → step σ k.literals ≡ results ks → replay_from L σ over n [] ls (k ∷ w) ≡ refused ShortTrail
  unfolding replay_from
  then-27 ks e = ap (reply (λ _ _ _. refused ShortTrail) (λ more. pick over (refused LongTrail) (finished more n))) e

  -- A rule applies, and there are: the step that they name.
  pub a-step : (t : Triple) (ts : List Triple) (ks : List Conj) → step σ k.literals ≡ results ks
      → replay_from L σ over n (t ∷ ts) ls (k ∷ w) ≡ at L σ (spot_of t) k w (replay_from L σ over (suc n) ts ls)
  unfolding replay_from
  a-step t ts ks e = ap (reply (λ more j wait. at L σ (spot_of t) j wait (replay_from L σ over (suc n) ts more)) (λ _. refused LongTrail)) e

  -- "26 step doesn't apply, a third word that is neither 0 nor 1 .. included"; a named clash whose walk is too long is 21; then 7 and 8 (`checked`).
  pub of-no-side : (go : List Numbered → Outcome) (t : Triple) → spot_of t ≡ none → at L σ (spot_of t) k w go ≡ refused BadStep
  of-no-side go t e = ap (λ o. at L σ o k w go) e

  module _ (go : List Numbered → Outcome) (t : Triple) (s : Spot) (e : spot_of t ≡ some s) where
    abbrev named : Reply (List Conj) → Outcome
    named m = elim m [ results ks ↦ checked L ks (all_of k.number ks ++ w) go | nothing ↦ refused BadStep | stops r ↦ refused r ]

    pub then-26 : step_at σ s k.literals ≡ nothing → at L σ (spot_of t) k w go ≡ refused BadStep
    then-26 d = ap (λ o. at L σ o k w go) e ∙ ap named d

    pub or-21 : (r : Refusal) → step_at σ s k.literals ≡ stops r → at L σ (spot_of t) k w go ≡ refused r
    or-21 r d = ap (λ o. at L σ o k w go) e ∙ ap named d

    pub then-7-and-8 : (ks : List Conj) → step_at σ s k.literals ≡ results ks → at L σ (spot_of t) k w go ≡ checked L ks (all_of k.number ks ++ w) go
    then-7-and-8 ks d = ap (λ o. at L σ o k w go) e ∙ ap named d

-- "28 trail goes on after the end": nothing waits, and there is a step more, or a word, or half a word.
pub then-28 : (L : Limits) (σ : Signature) (over : Bool) (n : ℕ) (t : Triple) (ts : List Triple) (ls : List Numbered) → replay_from L σ over n (t ∷ ts) ls [] ≡ refused LongTrail
unfolding replay_from
then-28 L σ over n t ts ls = refl

pub then-28-within : (L : Limits) (σ : Signature) (n : ℕ) (ls : List Numbered) → replay_from L σ true n [] ls [] ≡ refused LongTrail
unfolding replay_from
then-28-within L σ n ls = refl

-- else it is accepted.
pub accepts : (L : Limits) (σ : Signature) (n : ℕ) (ls : List Numbered) → replay_from L σ false n [] ls [] ≡ finished ls n
unfolding replay_from
accepts L σ n ls = refl

-- ---- which there are

module _ (P : Refusal → Type 0) (seven : P LongResult) (eight : P LongWaiting) (nine : P LineRoom) (walk : P LongWalk) (bad : P BadStep) (early : P ShortTrail) (after : P LongTrail)
    (L : Limits) (σ : Signature)
  where
    tested : (b : Bool) (r : Refusal) (x : Outcome) → P r → RunStopsBy P x → RunStopsBy P (elim b [ true ↦ refused r | false ↦ x ])
    tested true r x p q = p
    tested false r x p q = q

    fitted : (b : Bool) (x : Outcome) → RunStopsBy P x → RunStopsBy P (elim b [ true ↦ x | false ↦ refused LineRoom ])
    fitted true x q = q
    fitted false x q = nine

    retraces : (go : List Numbered → Numbered → List Numbered → Outcome) (end : List Numbered → Outcome)
        → ((ls : List Numbered) (k : Numbered) (w : List Numbered) → RunStopsBy P (go ls k w)) → ((ls : List Numbered) → RunStopsBy P (end ls))
        → (w ls : List Numbered) → RunStopsBy P (retraced L σ go end ls w)
    retraces go end on off [] ls = off ls
    retraces go end on off (k ∷ w) ls = taken (step σ k.literals) (step-stops σ k.literals) (fitted (lines_fit L (ls ++ (k ∷ []))) _ (retraces go end on off w (ls ++ (k ∷ []))))
      where
        taken : (m : Reply (List Conj)) → StopsBy IsLongWalk m → RunStopsBy P (lined L (ls ++ (k ∷ [])) (λ more. retraced L σ go end more w))
            → RunStopsBy P (elim m [ results ks ↦ go ls k w | nothing ↦ lined L (ls ++ (k ∷ [])) (λ more. retraced L σ go end more w) | stops r ↦ refused r ])
        taken nothing s q = q
        taken (results ks) s q = on ls k w
        taken (stops r) s q = subst P (sym s) walk

    at_place : (o : Option Spot) (k : Numbered) (w : List Numbered) (go : List Numbered → Outcome) → ((v : List Numbered) → RunStopsBy P (go v)) → RunStopsBy P (at L σ o k w go)
    at_place none k w go on = bad
    at_place (some s) k w go on = taken (step_at σ s k.literals) (named-stops σ s k.literals)
      where
        taken : (m : Reply (List Conj)) → StopsBy IsLongWalk m
            → RunStopsBy P (elim m [ results ks ↦ checked L ks (all_of k.number ks ++ w) go | nothing ↦ refused BadStep | stops r ↦ refused r ])
        taken nothing s = bad
        taken (results ks) s =
            tested (any_long L ks) LongResult _ seven (tested (ltb L.room (waiting_size (all_of k.number ks ++ w))) LongWaiting _ eight (on (all_of k.number ks ++ w)))
        taken (stops r) s = subst P (sym s) walk

    end_of : (over : Bool) (n : ℕ) (ls : List Numbered) → RunStopsBy P (pick over (refused LongTrail) (finished ls n))
    end_of true n ls = after
    end_of false n ls = tt

    from-stops : (over : Bool) (ts : List Triple) (n : ℕ) (ls w : List Numbered) → RunStopsBy P (replay_from L σ over n ts ls w)
    unfolding replay_from
    from-stops over [] n ls w = retraces (λ _ _ _. refused ShortTrail) _ (λ _ _ _. early) (λ ms. end_of over n ms) w ls
    from-stops over (t ∷ ts) n ls w = retraces _ (λ _. refused LongTrail) (λ ms k v. at_place (spot_of t) k v _ (λ u. from-stops over ts (suc n) ms u)) (λ _. after) w ls

    -- What holds of 7, 8, 9, 21, 26, 27 and 28 holds of the refusal of a replay: there is no 10.
    pub replay-stops-by : (half : Bool) (trail : List ℕ) (w : List Conj) → RunStopsBy P (replay L σ half trail w)
    unfolding replay
    replay-stops-by half trail w = from-stops (half || left_over trail) (triples trail) 0 [] (numbered 0 w)
