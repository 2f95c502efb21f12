-- A call try_filling(question, filling, work) that came back: nothing is known of it but what its contract says.
use Rattle.std.specs.Prelude.{ℕ, List, length, Result, Bool}
use Rattle.language.specs.declared.Refusal.{Refusal}
use Rattle.language.specs.Limits.{desk}
use Rattle.rules.specs.Calls.{trying}
use Rattle.trying.specs.Outcome.{ToldOutcome}
use Rattle.trying.specs.contracts.try_filling as try-filling-contract
use Rattle.trying.proofs.try_filling.Reads as try-filling-reads
use Rattle.demands.specs.Calls.{Call}

-- what was lent, what came back, and what the work slice held then
pub record Try : Type 0 where
  pub question : List ℕ
  pub filling : List ℕ
  pub work : List ℕ
  pub returned : Result Bool Refusal
  pub work_left : List ℕ
  pub said : ToldOutcome (trying desk (length work) question filling) returned work work_left

-- any outcome that the contract itself allows is one
abbrev pub allowed : Call try-filling-contract.ended try-filling-reads.Pre try-filling-reads.Post → Try
allowed c = record {
  question = c.arguments.0.now;
  filling = c.arguments.1.0.now;
  work = c.arguments.1.1.0.now;
  returned = c.outcome.0;
  work_left = c.outcome.1.1.1.0;
  said = c.said;
}
