-- Calls on bytes that came back: desk_place(question), desk_solve(question, answer), desk_try(question, filling), desk_example(question, line, old, room),
-- desk_day(sheet, room).
use Rattle.std.specs.Prelude.{ℕ, ◌≡◌, List, length}
use Rattle.language.specs.Limits.{desk}
use Rattle.host.specs.Host.{solving_bytes, solve_number, solve_leaves, showing_bytes, show_number, show_leaves, day_bytes}
use Rattle.try_host.specs.Host.{trying_bytes, TryNumber, place_bytes}
use Rattle.day.specs.Leaves.{day_number, room_leaves}
use Rattle.host.specs.contracts.desk_solve as desk-solve-contract
use Rattle.host.proofs.desk_solve.Reads as desk-solve-reads
use Rattle.try_host.specs.contracts.desk_try as desk-try-contract
use Rattle.try_host.proofs.desk_try.Reads as desk-try-reads
use Rattle.host.specs.contracts.desk_example as desk-example-contract
use Rattle.host.proofs.desk_example.Reads as desk-example-reads
use Rattle.try_host.specs.contracts.desk_place as desk-place-contract
use Rattle.try_host.proofs.desk_place.Reads as desk-place-reads
use Rattle.host.specs.contracts.desk_day as desk-day-contract
use Rattle.host.proofs.desk_day.Reads as desk-day-reads
use Rattle.demands.specs.Calls.{Call}

-- ---- desk_solve

pub record DeskSolve : Type 0 where
  pub question : List ℕ
  pub answer : List ℕ
  pub number : ℕ
  pub answer_left : List ℕ
  pub said : (number ≡ solve_number (solving_bytes desk (length answer) question)) × (answer_left ≡ solve_leaves desk (solving_bytes desk (length answer) question) answer)

-- any outcome that the contract itself allows is one; so below
abbrev pub solve-allowed : Call desk-solve-contract.ended desk-solve-reads.Pre desk-solve-reads.Post → DeskSolve
solve-allowed c = record { question = c.arguments.0.now; answer = c.arguments.1.0.now; number = c.outcome.0; answer_left = c.outcome.1.1.0; said = c.said }

-- ---- desk_try

pub record DeskTry : Type 0 where
  pub question : List ℕ
  pub filling : List ℕ
  pub number : ℕ
  pub said : TryNumber (trying_bytes desk question filling) number

abbrev pub try-allowed : Call desk-try-contract.ended desk-try-reads.Pre desk-try-reads.Post → DeskTry
try-allowed c = record { question = c.arguments.0.now; filling = c.arguments.1.0.now; number = c.outcome.0; said = c.said }

-- ---- desk_example

pub record DeskExample : Type 0 where
  pub question : List ℕ
  pub line : ℕ
  pub old : ℕ
  pub room : List ℕ
  pub number : ℕ
  pub room_left : List ℕ
  pub said : (number ≡ show_number (showing_bytes desk (length room) line old question)) × (room_left ≡ show_leaves (showing_bytes desk (length room) line old question) room)

abbrev pub example-allowed : Call desk-example-contract.ended desk-example-reads.Pre desk-example-reads.Post → DeskExample
example-allowed c = record {
  question = c.arguments.0.now;
  line = c.arguments.1.0;
  old = c.arguments.1.1.0;
  room = c.arguments.1.1.1.0.now;
  number = c.outcome.0;
  room_left = c.outcome.1.1.1.1.0;
  said = c.said;
}

-- ---- desk_place

pub record DeskPlace : Type 0 where
  pub question : List ℕ
  pub number : ℕ
  pub said : number ≡ place_bytes desk question

abbrev pub place-allowed : Call desk-place-contract.ended desk-place-reads.Pre desk-place-reads.Post → DeskPlace
place-allowed c = record { question = c.arguments.0.now; number = c.outcome.0; said = c.said }

-- ---- desk_day

pub record DeskDay : Type 0 where
  pub sheet : List ℕ
  pub room : List ℕ
  pub number : ℕ
  pub room_left : List ℕ
  pub said : (number ≡ day_number (day_bytes desk (length room) sheet)) × (room_left ≡ room_leaves (day_bytes desk (length room) sheet) room)

abbrev pub day-allowed : Call desk-day-contract.ended desk-day-reads.Pre desk-day-reads.Post → DeskDay
day-allowed c = record { sheet = c.arguments.0.now; room = c.arguments.1.0.now; number = c.outcome.0; room_left = c.outcome.1.1.0; said = c.said }
