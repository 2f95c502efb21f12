-- The trail of a run: for each step its place, "the rule's place in the list, the literal's place (both from 0) and 1 if the sides were swapped, else 0".
use Rattle.std.specs.Prelude.{ℕ, zero, suc, ◌*◌, true, false, List, [], ◌∷◌, ◌++◌, ltb}
use Rattle.language.specs.declared.Refusal.TheVariants.{LongResult, LongWaiting, StepLimit, TrailRoom}
use Rattle.language.specs.declared.Signature.{Signature}
use Rattle.language.specs.Limits.{Limits}
use Rattle.language.specs.Kinds.{pick}
use Rattle.language.specs.Trees.{Conj}
use Rattle.rules.specs.Reply.{nothing, results, stops}
use Rattle.rules.specs.Step.{Spot, search, step}
use Rattle.rules.specs.Run.{Numbered, all_of, numbered, any_long, waiting_size, Outcome, refused, turn}

-- ---- places

-- those of the steps of a run, so many at most
abbrev pub traced : Signature → (List Numbered → List Spot) → List Numbered → List Spot
traced σ go [] = []
traced σ go (k ∷ w) =
    elim (search σ k.literals) [
      | results f ↦ f.0 ∷ go (all_of k.number f.1 ++ w)
      | nothing ↦ traced σ go w
      | stops r ↦ []
    ]

abbrev pub trail_from : Signature → ℕ → List Numbered → List Spot
trail_from σ zero w = []
trail_from σ (suc d) w = traced σ (trail_from σ d) w

-- of the desk's run
unfoldable pub trail : Limits → Signature → List Conj → List Spot
trail L σ w = trail_from σ L.steps (numbered 0 w)

-- ---- words

abbrev pub spot_words : Spot → List ℕ
spot_words s = s.rule ∷ s.literal ∷ pick s.swapped 1 0 ∷ []

abbrev pub trail_words : List Spot → List ℕ
trail_words [] = []
trail_words (s ∷ t) = spot_words s ++ trail_words t

-- ---- solving with a trail

-- in a step: 7, 8, "29 when the trail passes the room lent for it, checked after 8 in a step"
abbrev pub written : Limits → ℕ → ℕ → List Conj → List Numbered → (List Numbered → Outcome) → Outcome
written L room made ks w go =
    elim (any_long L ks) [
      | true ↦ refused LongResult
      | false ↦
          elim (ltb L.room (waiting_size w)) [
            | true ↦ refused LongWaiting
            | false ↦ elim (ltb room (3 * suc made)) [ true ↦ refused TrailRoom | false ↦ go w ]
          ]
    ]

-- as `run_from`, with so many words of room for the trail
unfoldable pub run_writing : Limits → Signature → ℕ → ℕ → ℕ → List Numbered → List Numbered → Outcome
run_writing L σ room zero made lines waiting = turn L (step σ) (λ _ _ _. refused StepLimit) made lines waiting
run_writing L σ room (suc left) made lines waiting =
    turn L (step σ) (λ more ks wait. written L room made ks wait (run_writing L σ room left (suc made) more)) made lines waiting

unfoldable pub run_trail : Limits → Signature → ℕ → List Conj → Outcome
run_trail L σ room alternatives = run_writing L σ room L.steps 0 [] (numbered 0 alternatives)
