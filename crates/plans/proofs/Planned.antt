-- A plan makes what a rule answers, where the rule's lines are walked; a rule that drops the conjunction, and one that does not answer.
use Prim.Native.Nat.{ℕ}
use native.Mathlib.Omega.{arith}
use mathlib.Core.Path.{◌≡◌, refl, ap, ◌∙◌, subst}
use mathlib.Core.List.{List, [], ◌∷◌}
use mathlib.Core.Option.{Option, none, some}
use Rattle.language.specs.Trees.{Conj}
use Rattle.language.specs.Writing.{conj_words}
use Rattle.rules.specs.Rules.{Branch, Answer}
use Rattle.rules.specs.Step.{place}
use Rattle.rules.proofs.Answers.{Where, Answers}
use Rattle.plans.specs.declared.Recipe.{Recipe}
use Rattle.plans.specs.declared.Within.{Within}
use Rattle.plans.specs.declared.Ways.TheVariants.{One}
use Rattle.plans.specs.declared.Plan.{Plan}
use Rattle.plans.specs.Results.{made, results_of}
use Rattle.plans.specs.Sizes.{placed_words}
use Rattle.plans.specs.Slots.{plan_of, drop_plan}
use Rattle.plans.specs.Planned.{Planned}

-- where a rule answers, it answers as shown
pub answered : (P : List Branch → Type 0) {a : Answer} → Answers P a → (bs : List Branch) → a ≡ some bs → P bs
answered P {a} s bs e = go a e s.given
  where
    go : (a : Answer) → a ≡ some bs → Where P a → P bs
    go none e s = absurd (let z : ◌≡◌ {A = ℕ} 0 1 = cc in omega arith)
    go (some cs) e s = let d : cs ≡ bs = cc in subst P d s

pub planned : {k : List ℕ} {p : Plan} {before behind : Conj} {a : Answer} → Answers (λ bs. results_of k p ≡ placed_words before behind bs) a → Planned k p before behind a
planned {k} {p} {before} {behind} s = record { results = answered (λ bs. results_of k p ≡ placed_words before behind bs) s }

-- a rule that does not answer
pub not_there : {k : List ℕ} {p : Plan} {before behind : Conj} → Planned k p before behind none
not_there = record { results = λ bs e. absurd (let z : ◌≡◌ {A = ℕ} 0 1 = cc in omega arith) }

-- what a look finds, it found
pub it-found : {A : Type 0} (m : Option A) → Where (λ a. m ≡ some a) m
it-found none = tt
it-found (some a) = refl

-- a plan by two parts, where the parts are known
pub by_parts : (plan : Within → Within → Plan) {p : Plan} {a b c d : Within} → p ≡ plan a b → a ≡ c → b ≡ d → p ≡ plan c d
by_parts plan {b = b} {c = c} e f g = e ∙ ap (λ (x : Within). plan x b) f ∙ ap (plan c) g

-- no result, and one
pub nothing_left : (k : List ℕ) (before behind : Conj) → results_of k drop_plan ≡ placed_words before behind []
unfolding results_of placed_words
nothing_left k before behind = refl

pub one-result : (k : List ℕ) (before behind : Conj) (r q : Recipe) (cut : ℕ) (b : Branch)
    → made k r cut ≡ conj_words (place before behind b) → results_of k (plan_of (One cut) r q) ≡ placed_words before behind (b ∷ [])
unfolding results_of placed_words
one-result k before behind r q cut b e = ap (λ w. w ∷ []) e
