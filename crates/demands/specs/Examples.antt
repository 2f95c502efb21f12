-- A call example(question, line, old, work, answer, room) that came back: nothing is known of it but what its contract says.
use Rattle.std.specs.Prelude.{ℕ, ◌≡◌, Bool, List, Result}
use Rattle.language.specs.declared.Refusal.{Refusal}
use Rattle.outcomes.specs.Numbers.{shown_numbers}
use Rattle.example.specs.Exhibits.{told_exhibits}
use Rattle.example.specs.contracts.example as example-contract
use Rattle.example.proofs.example.Reads as example-reads
use Rattle.demands.specs.Calls.{Call}

-- what was lent and asked, what came back, and what the two slices and the room held then
pub record Example : Type 0 where
  pub question : List ℕ
  pub line : ℕ
  pub old_sheets : Bool
  pub work : List ℕ
  pub answer : List ℕ
  pub room : List ℕ
  pub returned : Result ℕ Refusal
  pub work_left : List ℕ
  pub answer_left : List ℕ
  pub room_left : List ℕ
  pub said : ◌≡◌ {A = (ℕ × ℕ × ℕ) × List ℕ × List ℕ × List ℕ} (shown_numbers returned, work_left, answer_left, room_left) (told_exhibits line old_sheets question work answer room)

-- any outcome that the contract itself allows is one
abbrev pub allowed : Call example-contract.ended example-reads.Pre example-reads.Post → Example
allowed c = record {
  question = c.arguments.0.now;
  line = c.arguments.1.0;
  old_sheets = c.arguments.1.1.0;
  work = c.arguments.1.1.1.0.now;
  answer = c.arguments.1.1.1.1.0.now;
  room = c.arguments.1.1.1.1.1.0.now;
  returned = c.outcome.0;
  work_left = c.outcome.1.1.1.1.0;
  answer_left = c.outcome.1.1.1.1.1.0;
  room_left = c.outcome.1.1.1.1.1.1.0;
  said = c.said;
}
