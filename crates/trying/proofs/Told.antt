-- What trying a filling answers, in numbers and as the answer that has them: each gives the other, since the numbers tell the cases apart.
use Prim.Native.Nat.{ℕ}
use mathlib.Core.Path.{ap}
use mathlib.Core.Logic.{inl, inr}
use mathlib.Core.List.{List}
use Rattle.std.specs.Prelude.{Result, Ok, Err, Bool, true, false}
use Rattle.language.specs.declared.Refusal.{Refusal}
use Rattle.rules.specs.Calls.{Trying, decides, unread, given-up}
use Rattle.outcomes.specs.Numbers.{tried_numbers}
use Rattle.outcomes.proofs.Apart.{tried-apart}
use Rattle.trying.specs.Outcome.{Answers, Outcome, ToldAnswers, ToldOutcome}

told-answers : {P : Type 0} (t : Result Bool Refusal) → Answers P t → ToldAnswers P t
told-answers t (inl a) = inl (ap tried_numbers a.0, a.1)
told-answers t (inr a) = inr (ap tried_numbers a.0, a.1)

answers-told : {P : Type 0} (t : Result Bool Refusal) → ToldAnswers P t → Answers P t
answers-told t (inl a) = inl (tried-apart t (Ok true) a.0, a.1)
answers-told t (inr a) = inr (tried-apart t (Ok false) a.0, a.1)

pub told-outcome : (x : Trying) (t : Result Bool Refusal) (w w' : List ℕ) → Outcome x t w w' → ToldOutcome x t w w'
told-outcome (decides q ρ) t w w' o = (told-answers t o.0, o.1)
told-outcome (unread r) t w w' o = (ap tried_numbers o.0, o.1)
told-outcome (given-up r) t w w' o = (ap tried_numbers o.0, o.1)

pub outcome-told : (x : Trying) (t : Result Bool Refusal) (w w' : List ℕ) → ToldOutcome x t w w' → Outcome x t w w'
outcome-told (decides q ρ) t w w' o = (answers-told t o.0, o.1)
outcome-told (unread r) t w w' o = (tried-apart t (Err r) o.0, o.1)
outcome-told (given-up r) t w w' o = (tried-apart t (Err r) o.0, o.1)
