-- Any two outcomes that a contract of this crate allows coincide.
use mathlib.Core.Path.{◌≡◌, sym, ap₂, ◌∙◌}
use mathlib.Core.Logic.{inl, inr}
use mathlib.Core.List.{List}
use Prim.Native.Nat.{ℕ}
use lib.ListN.{length}
use Rattle.std.specs.Prelude.{Result, Bool}
use Rattle.language.specs.declared.Refusal.{Refusal}
use Rattle.language.specs.Limits.{desk}
use Rattle.language.proofs.Determined.{Determined}
use Rattle.rules.specs.Calls.{Trying, decides, unread, given-up, trying}
use Rattle.outcomes.proofs.Apart.{tried-apart}
use Rattle.trying.specs.Outcome.{ToldAnswers, ToldOutcome}
use Rattle.trying.specs.contracts.try_filling as try-filling-contract
use Rattle.trying.proofs.try_filling.Reads as try-filling-reads

one_answer : {P : Type 0} (s t : Result Bool Refusal) → ToldAnswers P s → ToldAnswers P t → s ≡ t
one_answer s t (inl (e, x)) (inl (f, y)) = tried-apart s t (e ∙ sym f)
one_answer s t (inl (e, x)) (inr (f, y)) = absurd (y x)
one_answer s t (inr (e, x)) (inl (f, y)) = absurd (x y)
one_answer s t (inr (e, x)) (inr (f, y)) = tried-apart s t (e ∙ sym f)

one-outcome : (x : Trying) (s t : Result Bool Refusal) (w u v : List ℕ) → ToldOutcome x s w u → ToldOutcome x t w v → (s ≡ t) × (u ≡ v)
one-outcome (decides q ρ) s t w u v a b = (one_answer s t a.0 b.0, a.1 ∙ sym b.1)
one-outcome (unread r) s t w u v a b = (tried-apart s t (a.0 ∙ sym b.0), a.1 ∙ sym b.1)
one-outcome (given-up r) s t w u v a b = (tried-apart s t (a.0 ∙ sym b.0), a.1 ∙ sym b.1)

try_filling-determined : Determined try-filling-contract.ended try-filling-reads.Pre try-filling-reads.Post
try_filling-determined κs a p o q e d =
    let (s, w) = one-outcome (trying desk (length a.1.1.0.now) a.0.now a.1.0.now) o.0 q.0 a.1.1.0.now o.1.1.1.0 q.1.1.1.0 e d in
    ap₂ (λ z s. (z, (tt, (tt, (s, tt))))) s w
