-- The trail of every answered run is accepted and gives the same lines in the same steps.
use Prim.Native.Nat.{ℕ, zero, suc, ◌+◌, ◌*◌}
use mathlib.Core.Path.{◌≡◌, refl, ap, ◌∙◌}
use mathlib.Core.Bool.{Bool, true, false}
use mathlib.Core.List.{List, [], ◌∷◌, ◌++◌, map}
use mathlib.Core.Option.{some}
use native.Mathlib.Omega.{arith}
use lib.Dec.{ltb}
use lib.ListN.{length}
use Rattle.language.specs.declared.Refusal.{Refusal}
use Rattle.language.specs.declared.Refusal.TheVariants.{LongResult, LongWaiting, LineRoom, StepLimit, BadStep, LongTrail}
use Rattle.language.specs.declared.Signature.{Signature}
use Rattle.language.specs.Limits.{Limits}
use Rattle.language.specs.Kinds.{pick}
use Rattle.language.specs.Trees.{Conj}
use Rattle.rules.specs.Reply.{Reply, nothing, results, stops}
use Rattle.rules.specs.Step.{Spot, each, Found, search, step_at, step}
use Rattle.rules.specs.Run.{Numbered, all_of, numbered, any_long, waiting_size, lines_fit, Outcome, finished, refused, checked, lined, turn, run_from, run_by, run}
use Rattle.rules.proofs.Steps.{search-named}
use Rattle.replay.specs.Trail.{traced, trail_from, trail, trail_words}
use Rattle.replay.specs.Replay.{Triple, triples, left_over, spot_of, retraced, at, replay_from, replay}

-- ---- in words and back

abbrev triple_of : Spot → Triple
triple_of s = record { rule = s.rule; literal = s.literal; side = pick s.swapped 1 0 }

pub triples-back : (t : List Spot) → triples (trail_words t) ≡ map triple_of t
triples-back [] = refl
triples-back (s ∷ t) = ap (λ ts. triple_of s ∷ ts) (triples-back t)

pub none_over : (t : List Spot) → left_over (trail_words t) ≡ false
none_over [] = refl
none_over (s ∷ t) = none_over t

spot_back : (s : Spot) → spot_of (triple_of s) ≡ some s
spot_back s = go s.swapped refl
  where
    go : (b : Bool) → s.swapped ≡ b → spot_of (triple_of s) ≡ some s
    go true e = rw e refl
    go false e = rw e refl

-- ---- a step and a line

differ : {A : Type 0} {ls : List Numbered} {n : ℕ} {r : Refusal} → ◌≡◌ {A = Outcome} (refused r) (finished ls n) → A
differ e = let z : ◌≡◌ {A = ℕ} 0 1 = cc in absurd (omega arith)

module _ (σ : Signature) (L : Limits) where
  -- a conjunction to which no rule applies is passed, whatever the trail is
  retraced-line : (go : List Numbered → Numbered → List Numbered → Outcome) (end : List Numbered → Outcome) (k : Numbered) (ls w : List Numbered)
      → step σ k.literals ≡ nothing → lines_fit L (ls ++ (k ∷ [])) ≡ true → retraced L σ go end ls (k ∷ w) ≡ retraced L σ go end (ls ++ (k ∷ [])) w
  retraced-line go end k ls w e f =
      ap {B = Outcome} (λ m. elim m [ results ks ↦ go ls k w | nothing ↦ lined L (ls ++ (k ∷ [])) (λ more. retraced L σ go end more w) | stops r ↦ refused r ]) e
      ∙ ap {B = Outcome} (λ b. elim b [ true ↦ retraced L σ go end (ls ++ (k ∷ [])) w | false ↦ refused LineRoom ]) f

  pub replay-line : (over : Bool) (n : ℕ) (ts : List Triple) (k : Numbered) (ls w : List Numbered) → step σ k.literals ≡ nothing → lines_fit L (ls ++ (k ∷ [])) ≡ true
      → replay_from L σ over n ts ls (k ∷ w) ≡ replay_from L σ over n ts (ls ++ (k ∷ [])) w
  unfolding replay_from
  replay-line over n [] k ls w e f = retraced-line _ _ k ls w e f
  replay-line over n (t ∷ ts) k ls w e f = retraced-line _ _ k ls w e f

  pub replay-step : (over : Bool) (n : ℕ) (s : Spot) (ts : List Triple) (k : Numbered) (ls w : List Numbered) (ks : List Conj) → step σ k.literals ≡ results ks → step_at σ s k.literals ≡ results ks
      → replay_from L σ over n (triple_of s ∷ ts) ls (k ∷ w) ≡ checked L ks (all_of k.number ks ++ w) (replay_from L σ over (suc n) ts ls)
  unfolding replay_from
  replay-step over n s ts k ls w ks e d =
      ap {B = Outcome} (λ m. elim m [
        | results js ↦ at L σ (spot_of (triple_of s)) k w (replay_from L σ over (suc n) ts ls)
        | nothing ↦ lined L (ls ++ (k ∷ [])) (λ more. retraced L σ (λ more k wait. at L σ (spot_of (triple_of s)) k wait (replay_from L σ over (suc n) ts more)) (λ _. refused LongTrail) more w)
        | stops r ↦ refused r
      ]) e
      ∙ ap (λ o. at L σ o k w (replay_from L σ over (suc n) ts ls)) (spot_back s)
      ∙ ap {B = Outcome} (λ m. elim m [ results js ↦ checked L js (all_of k.number js ++ w) (replay_from L σ over (suc n) ts ls) | nothing ↦ refused BadStep | stops r ↦ refused r ]) d

  passed : (go go' : List Numbered → Outcome) (ks : List Conj) (w ms : List Numbered) (m : ℕ) → checked L ks w go ≡ finished ms m → (go w ≡ finished ms m → go' w ≡ finished ms m)
      → checked L ks w go' ≡ finished ms m
  passed go go' ks w ms m e h = at' (any_long L ks) (ltb L.room (waiting_size w)) e
    where
      at' : (a b : Bool) → elim a [ true ↦ refused LongResult | false ↦ elim b [ true ↦ refused LongWaiting | false ↦ go w ] ] ≡ finished ms m
          → elim a [ true ↦ refused LongResult | false ↦ elim b [ true ↦ refused LongWaiting | false ↦ go' w ] ] ≡ finished ms m
      at' true b e = differ e
      at' false true e = differ e
      at' false false e = h e

  fitted : (b : Bool) (x : Outcome) (ms : List Numbered) (m : ℕ) → elim b [ true ↦ x | false ↦ refused LineRoom ] ≡ finished ms m → (b ≡ true) × (x ≡ finished ms m)
  fitted true x ms m e = (refl, e)
  fitted false x ms m e = differ e

  -- what the search finds is what a step makes
  found-step : (k : Conj) (m : Found) → search σ k ≡ m → step σ k ≡ each (λ (f : Spot × List Conj). f.1) m
  unfolding step
  found-step k m e = ap (each (λ (f : Spot × List Conj). f.1)) e

  -- ---- the trail from anywhere

  -- with `left` steps left
  abbrev pub After : ℕ → Type 0
  After d = (n : ℕ) (ls w ms : List Numbered) (m : ℕ) → run_from L (step σ) d n ls w ≡ finished ms m
      → (replay_from L σ false n (map triple_of (trail_from σ d w)) ls w ≡ finished ms m) × (m ≡ n + length (trail_from σ d w))

  none_left : (n : ℕ) (w ls ms : List Numbered) (m : ℕ) → turn L (step σ) (λ _ _ _. refused StepLimit) n ls w ≡ finished ms m
      → (replay_from L σ false n [] ls w ≡ finished ms m) × (m ≡ n + 0)
  unfolding replay_from
  none_left n [] ls ms m e = (e, let z : n ≡ m = cc in omega arith)
  none_left n (k ∷ w) ls ms m e = go (step σ k.literals) refl e (none_left n w (ls ++ (k ∷ [])) ms m)
    where
      go : (r : Reply (List Conj)) → step σ k.literals ≡ r
          → elim r [ results ks ↦ refused StepLimit | nothing ↦ lined L (ls ++ (k ∷ [])) (λ more. turn L (step σ) (λ _ _ _. refused StepLimit) n more w) | stops r ↦ refused r ] ≡ finished ms m
          → (turn L (step σ) (λ _ _ _. refused StepLimit) n (ls ++ (k ∷ [])) w ≡ finished ms m → (replay_from L σ false n [] (ls ++ (k ∷ [])) w ≡ finished ms m) × (m ≡ n + 0))
          → (replay_from L σ false n [] ls (k ∷ w) ≡ finished ms m) × (m ≡ n + 0)
      go nothing d e h =
          let (f, g) = fitted (lines_fit L (ls ++ (k ∷ []))) _ ms m e in
          let (a, b) = h g in (replay-line false n [] k ls w d f ∙ a, b)
      go (results ks) d e h = differ e
      go (stops r) d e h = differ e

  unchecked : (go : List Numbered → Outcome) (ks : List Conj) (w ms : List Numbered) (m : ℕ) → checked L ks w go ≡ finished ms m → go w ≡ finished ms m
  unchecked go ks w ms m e = at' (any_long L ks) (ltb L.room (waiting_size w)) e
    where
      at' : (a b : Bool) → elim a [ true ↦ refused LongResult | false ↦ elim b [ true ↦ refused LongWaiting | false ↦ go w ] ] ≡ finished ms m → go w ≡ finished ms m
      at' true b e = differ e
      at' false true e = differ e
      at' false false e = e

  -- what a turn makes of what is found, and the places from there on
  abbrev Going : ℕ → ℕ → List Numbered → List Numbered → Outcome
  Going d n ls w = turn L (step σ) (λ more ks wait. checked L ks wait (run_from L (step σ) d (suc n) more)) n ls w

  abbrev Turned : ℕ → ℕ → List Numbered → Numbered → List Numbered → Reply (List Conj) → Outcome
  Turned d n ls k w r =
      elim r [
        | results ks ↦ checked L ks (all_of k.number ks ++ w) (run_from L (step σ) d (suc n) ls)
        | nothing ↦ lined L (ls ++ (k ∷ [])) (λ more. Going d n more w)
        | stops r ↦ refused r
      ]

  abbrev places : ℕ → Numbered → List Numbered → Found → List Spot
  places d k w f = elim f [ results s ↦ s.0 ∷ trail_from σ d (all_of k.number s.1 ++ w) | nothing ↦ traced σ (trail_from σ d) w | stops r ↦ [] ]

  abbrev Accepts : ℕ → List Spot → List Numbered → List Numbered → List Numbered → ℕ → Type 0
  Accepts n t ls w ms m = (replay_from L σ false n (map triple_of t) ls w ≡ finished ms m) × (m ≡ n + length t)

  one-turn : (d : ℕ) → After d → (n : ℕ) (k : Numbered) (w ls ms : List Numbered) (m : ℕ) (f : Found) → search σ k.literals ≡ f
      → Turned d n ls k w (each (λ (f : Spot × List Conj). f.1) f) ≡ finished ms m
      → (Going d n (ls ++ (k ∷ [])) w ≡ finished ms m → Accepts n (traced σ (trail_from σ d) w) (ls ++ (k ∷ [])) w ms m)
      → Accepts n (places d k w f) ls (k ∷ w) ms m
  one-turn d after n k w ls ms m nothing q e h =
      let (f, g) = fitted (lines_fit L (ls ++ (k ∷ []))) _ ms m e in
      let (a, b) = h g in (replay-line false n (map triple_of (traced σ (trail_from σ d) w)) k ls w (found-step k.literals nothing q) f ∙ a, b)
  one-turn d after n k w ls ms m (results (s, ks)) q e h =
      let v = all_of k.number ks ++ w in
      let (a, b) = after (suc n) ls v ms m (unchecked (run_from L (step σ) d (suc n) ls) ks v ms m e) in (
        replay-step false n s (map triple_of (trail_from σ d v)) k ls w ks (found-step k.literals (results (s, ks)) q) (search-named σ k.literals s ks q)
            ∙ passed (run_from L (step σ) d (suc n) ls) (replay_from L σ false (suc n) (map triple_of (trail_from σ d v)) ls) ks v ms m e (λ _. a),
        omega arith,
      )
  one-turn d after n k w ls ms m (stops r) q e h = differ e

  some_left : (d : ℕ) → After d → (n : ℕ) (w ls ms : List Numbered) (m : ℕ) → Going d n ls w ≡ finished ms m → Accepts n (traced σ (trail_from σ d) w) ls w ms m
  unfolding replay_from step
  some_left d after n [] ls ms m e = (e, let z : n ≡ m = cc in omega arith)
  some_left d after n (k ∷ w) ls ms m e = one-turn d after n k w ls ms m (search σ k.literals) refl e (some_left d after n w (ls ++ (k ∷ [])) ms m)

  pub from-anywhere : (d : ℕ) → After d
  unfolding run_from
  from-anywhere zero n ls w ms m e = none_left n w ls ms m e
  from-anywhere (suc d) n ls w ms m e = some_left d (from-anywhere d) n w ls ms m e

-- "The trail of every answered solve is accepted and gives the same lines",
pub trail-accepted : (L : Limits) (σ : Signature) (w : List Conj) (ls : List Numbered) (n : ℕ) → run L σ w ≡ finished ls n → replay L σ false (trail_words (trail L σ w)) w ≡ finished ls n
unfolding run run_by trail replay
trail-accepted L σ w ls n e =
    let t = trail_from σ L.steps (numbered 0 w) in
    ap (λ over. replay_from L σ over 0 (triples (trail_words t)) [] (numbered 0 w)) (none_over t)
    ∙ ap (λ ts. replay_from L σ false 0 ts [] (numbered 0 w)) (triples-back t) ∙ (from-anywhere σ L L.steps 0 [] (numbered 0 w) ls n e).0

-- it has a place for each step,
pub trail-long : (L : Limits) (σ : Signature) (w : List Conj) (ls : List Numbered) (n : ℕ) → run L σ w ≡ finished ls n → length (trail L σ w) ≡ n
unfolding run run_by trail
trail-long L σ w ls n e = let z = (from-anywhere σ L L.steps 0 [] (numbered 0 w) ls n e).1 in omega arith

-- so that its words are three a step.
pub three-words : (t : List Spot) → length (trail_words t) ≡ 3 * length t
three-words [] = refl
three-words (s ∷ t) = let z = three-words t in omega arith
