-- The third column by the numbers: 1 to 6 change nothing, 7 to 10 and 21 leave zeros.
use Prim.Native.Nat.{ℕ, ◌≤◌}
use mathlib.Core.Path.{◌≡◌, refl}
use mathlib.Core.Logic.{◌⊎◌, inl, inr}
use native.Mathlib.Omega.{arith}
use Rattle.language.specs.declared.Refusal.{Refusal}
use Rattle.language.specs.declared.Refusal.TheVariants.{ShortSlice, QuestionLength, CountRange, BadOffset, NotLiterals, Undeclared, LongResult, LongWaiting, LineRoom, StepLimit, FillingLayout, FillingValue, LongLiteral, NoSuchLine, OpenLine, LongExample, NotText, ManyNames, LongText, OtherNumbers, LongWalk, SheetLayout, LongAnswers, BadStep, ShortTrail, LongTrail, TrailRoom}
use Rattle.language.specs.Numbers.{number_of}
use Rattle.demands.specs.Columns.{column, unchanged, zeroed}

pub early-column : (e : Refusal) → number_of e ≤ 6 → column e ≡ unchanged
early-column ShortSlice p = refl
early-column QuestionLength p = refl
early-column CountRange p = refl
early-column BadOffset p = refl
early-column (NotLiterals at) p = refl
early-column (Undeclared at) p = refl
early-column LongResult p = absurd (omega arith)
early-column LongWaiting p = absurd (omega arith)
early-column LineRoom p = absurd (omega arith)
early-column StepLimit p = absurd (omega arith)
early-column FillingLayout p = absurd (omega arith)
early-column FillingValue p = absurd (omega arith)
early-column LongLiteral p = absurd (omega arith)
early-column NoSuchLine p = absurd (omega arith)
early-column OpenLine p = absurd (omega arith)
early-column LongExample p = absurd (omega arith)
early-column NotText p = absurd (omega arith)
early-column ManyNames p = absurd (omega arith)
early-column LongText p = absurd (omega arith)
early-column OtherNumbers p = absurd (omega arith)
early-column LongWalk p = absurd (omega arith)
early-column SheetLayout p = absurd (omega arith)
early-column LongAnswers p = absurd (omega arith)
early-column BadStep p = absurd (omega arith)
early-column ShortTrail p = absurd (omega arith)
early-column LongTrail p = absurd (omega arith)
early-column TrailRoom p = absurd (omega arith)

-- neither 7 to 10 nor 21
other : {A : Type 0} {n : ℕ} → (n ≤ 10 → ⊥) → (n ≡ 21 → ⊥) → (n ≤ 10) ⊎ (n ≡ 21) → A
other p q (inl h) = absurd (p h)
other p q (inr h) = absurd (q h)

pub late-column : (e : Refusal) → 7 ≤ number_of e → (number_of e ≤ 10) ⊎ (number_of e ≡ 21) → column e ≡ zeroed
late-column ShortSlice p q = absurd (omega arith)
late-column QuestionLength p q = absurd (omega arith)
late-column CountRange p q = absurd (omega arith)
late-column BadOffset p q = absurd (omega arith)
late-column (NotLiterals at) p q = absurd (omega arith)
late-column (Undeclared at) p q = absurd (omega arith)
late-column LongResult p q = refl
late-column LongWaiting p q = refl
late-column LineRoom p q = refl
late-column StepLimit p q = refl
late-column FillingLayout p q = other (λ h. omega arith) (λ h. omega arith) q
late-column FillingValue p q = other (λ h. omega arith) (λ h. omega arith) q
late-column LongLiteral p q = other (λ h. omega arith) (λ h. omega arith) q
late-column NoSuchLine p q = other (λ h. omega arith) (λ h. omega arith) q
late-column OpenLine p q = other (λ h. omega arith) (λ h. omega arith) q
late-column LongExample p q = other (λ h. omega arith) (λ h. omega arith) q
late-column NotText p q = other (λ h. omega arith) (λ h. omega arith) q
late-column ManyNames p q = other (λ h. omega arith) (λ h. omega arith) q
late-column LongText p q = other (λ h. omega arith) (λ h. omega arith) q
late-column OtherNumbers p q = other (λ h. omega arith) (λ h. omega arith) q
late-column LongWalk p q = refl
late-column SheetLayout p q = other (λ h. omega arith) (λ h. omega arith) q
late-column LongAnswers p q = other (λ h. omega arith) (λ h. omega arith) q
late-column BadStep p q = other (λ h. omega arith) (λ h. omega arith) q
late-column ShortTrail p q = other (λ h. omega arith) (λ h. omega arith) q
late-column LongTrail p q = other (λ h. omega arith) (λ h. omega arith) q
late-column TrailRoom p q = other (λ h. omega arith) (λ h. omega arith) q
