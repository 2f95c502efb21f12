-- The words of what a rule makes: of a rule of one literal by its answer, of the fold by its plan.
use Prim.Native.Nat.{ℕ, ◌+◌, ◌<◌}
use native.Mathlib.Omega.{arith}
use mathlib.Core.Path.{◌≡◌, refl, sym, ap, ◌∙◌}
use mathlib.Core.Bool.{Bool}
use mathlib.Core.List.{List, [], ◌∷◌, ◌++◌, map, append-nil}
use lib.ListN.{length, take, drop}
use lib.Seq.{slice}
use Rattle.language.specs.declared.Signature.{Signature}
use Rattle.language.specs.Trees.{Literal, Conj}
use Rattle.language.specs.Writing.{literal_words, conj_words}
use Rattle.rules.specs.Reply.{results}
use Rattle.rules.specs.Rules.{Fold}
use Rattle.words.specs.Places.{until_literal}
use Rattle.words.proofs.Parts.{part-rest}
use Rattle.views.specs.Standing.{LiteralAt}
use Rattle.plans.specs.declared.Piece.TheVariants.{Copy}
use Rattle.plans.specs.declared.Ways.TheVariants.{One}
use Rattle.plans.specs.declared.Plan.{Plan}
use Rattle.plans.specs.Results.{numbered, results_of}
use Rattle.plans.specs.Sizes.{placed_words}
use Rattle.plans.specs.Slots.{nothing, few_recipe, single}
use Rattle.folding.specs.Twice.{until_same}
use Rattle.folding.proofs.Folds.{fold-some, fold-places, fold_words}
use Rattle.steps.specs.Asking.{FoldHere}
use Rattle.search.proofs.Applied.{Answered, Folded}
use Rattle.steps.proofs.Taken.{placed-words}

pub answered-words : {σ : Signature} {swap : Bool} {n : ℕ} {before : Conj} {l : Literal} {behind : Conj} {ks : List Conj} (r : Answered σ swap n before l behind ks)
    → placed_words before behind r.branches ≡ map conj_words ks
answered-words {before = before} {behind = behind} r = placed-words before behind r.branches ∙ ap (map conj_words) (sym r.made)

behind-words : (before : Conj) (js : List Conj) → map (λ (c : Conj). conj_words (before ++ c)) js ≡ map conj_words (map (λ (k : Conj). before ++ k) js)
behind-words before [] = refl
behind-words before (j ∷ js) = ap (λ l. conj_words (before ++ j) ∷ l) (behind-words before js)

pub folded-words : {before : Conj} {l : Literal} {behind : Conj} {ks : List Conj} (r : Folded before l behind ks)
    → map (λ (c : Conj). conj_words (before ++ c)) r.folds ≡ map conj_words ks
folded-words {before = before} r = behind-words before r.folds ∙ ap (map conj_words) (sym r.made)

-- ---- the plan of the fold

abbrev pub fold_plan : ℕ → ℕ → ℕ → Plan
fold_plan from to len = single (One 0) (few_recipe (Copy 0 from) (Copy to len) nothing nothing nothing 0 0 0)

module _ (k : List ℕ) (at from : ℕ)
    (d : (before : Conj) (l : Literal) (behind : Conj) → LiteralAt k at before l behind → from ≡ at + length (literal_words l) + until_same l behind) where
  pub fold-within : FoldHere k at → from < length k
  fold-within m =
      let s = fold-some m.l m.behind m.made m.applies in
      let z = fold-places m.stands s.0 from (d m.before m.l m.behind m.stands) _ refl in
      omega arith

  pub fold-planned : (to len : ℕ) → to ≡ from + 1 + until_literal (drop (from + 1) k) → len ≡ length k
      → (before : Conj) (l : Literal) (behind : Conj) (ks : List Conj) → LiteralAt k at before l behind → Fold l behind ≡ results ks
      → results_of k (fold_plan from to len) ≡ map (λ (c : Conj). conj_words (before ++ c)) ks
  unfolding results_of numbered
  fold-planned to len e n before l behind ks s a =
      let z = fold-some l behind ks a in
      ap (λ w. (take from k ++ w) ∷ []) (append-nil (slice to len k) ∙ part-rest k to len n)
      ∙ ap (λ w. w ∷ []) (fold_words s z.0 from (d before l behind s) to e)
      ∙ ap (map (λ (c : Conj). conj_words (before ++ c))) (sym z.1)
