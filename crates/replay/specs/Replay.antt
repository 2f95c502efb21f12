-- "A separate replay takes question and trail and builds the lines itself. It accepts a step wherever the named rule applies, first or not, and a trail only
-- when no rule applies any more."
use Rattle.std.specs.Prelude.{ℕ, suc, Bool, true, false, ◌||◌, List, [], ◌∷◌, ◌++◌, eqb}
use Rattle.std.proofs.Math.Option.{Option, none, some}
use Rattle.language.specs.declared.Refusal.TheVariants.{BadStep, ShortTrail, LongTrail}
use Rattle.language.specs.declared.Signature.{Signature}
use Rattle.language.specs.Limits.{Limits}
use Rattle.language.specs.Kinds.{pick}
use Rattle.language.specs.Trees.{Conj}
use Rattle.rules.specs.Reply.{nothing, results, stops}
use Rattle.rules.specs.Step.{Spot, step_at, step}
use Rattle.rules.specs.Run.{Numbered, all_of, numbered, Outcome, finished, refused, checked, lined}

-- ---- a trail in words

-- three words
pub record Triple : Type 0 where
  pub rule : ℕ
  pub literal : ℕ
  pub side : ℕ

-- the steps, and whether one or two words are left
abbrev pub triples : List ℕ → List Triple
triples [] = []
triples (a ∷ []) = []
triples (a ∷ b ∷ []) = []
triples (a ∷ b ∷ c ∷ ws) = record { rule = a; literal = b; side = c } ∷ triples ws

abbrev pub left_over : List ℕ → Bool
left_over [] = false
left_over (a ∷ []) = true
left_over (a ∷ b ∷ []) = true
left_over (a ∷ b ∷ c ∷ ws) = left_over ws

-- the place that it names; "a third word that is neither 0 nor 1" names none
abbrev pub spot_of : Triple → Option Spot
spot_of t =
    pick (eqb t.side 0) (some (record { rule = t.rule; literal = t.literal; swapped = false }))
    (pick (eqb t.side 1) (some (record { rule = t.rule; literal = t.literal; swapped = true })) none)

-- ---- the replay

-- The first waiting conjunction: "whether any rule applies is tested first, so 21 comes before these". Where none applies it is a line.
abbrev pub retraced : Limits → Signature → (List Numbered → Numbered → List Numbered → Outcome) → (List Numbered → Outcome) → List Numbered → List Numbered → Outcome
retraced L σ go end lines [] = end lines
retraced L σ go end lines (k ∷ waiting) =
    elim (step σ k.literals) [
      | results ks ↦ go lines k waiting
      | nothing ↦ lined L (lines ++ (k ∷ [])) (λ more. retraced L σ go end more waiting)
      | stops refusal ↦ refused refusal
    ]

-- the step at the place that is named: 26 where it does not apply, then 7 and 8
abbrev pub at : Limits → Signature → Option Spot → Numbered → List Numbered → (List Numbered → Outcome) → Outcome
at L σ none k waiting go = refused BadStep
at L σ (some s) k waiting go =
    elim (step_at σ s k.literals) [
      | results ks ↦ checked L ks (all_of k.number ks ++ waiting) go
      | nothing ↦ refused BadStep
      | stops refusal ↦ refused refusal
    ]

-- "27 trail ends early or within a step; 28 trail goes on after the end"
unfoldable pub replay_from : Limits → Signature → Bool → ℕ → List Triple → List Numbered → List Numbered → Outcome
replay_from L σ over made [] lines waiting = retraced L σ (λ _ _ _. refused ShortTrail) (λ more. pick over (refused LongTrail) (finished more made)) lines waiting
replay_from L σ over made (t ∷ ts) lines waiting =
    retraced L σ (λ more k wait. at L σ (spot_of t) k wait (replay_from L σ over (suc made) ts more)) (λ _. refused LongTrail) lines waiting

-- a trail in words, behind which half a word may stand, as bytes can have it; on the alternatives
unfoldable pub replay : Limits → Signature → Bool → List ℕ → List Conj → Outcome
replay L σ half trail alternatives = replay_from L σ (half || left_over trail) 0 (triples trail) [] (numbered 0 alternatives)
