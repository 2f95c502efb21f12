-- Calls on bytes that came back: desk_solve_trail(question, answer, trail), desk_replay(question, trail, answer), desk_example_trail(question, trail, line,
-- old, room).
use Rattle.std.specs.Prelude.{ℕ, ◌≡◌, List, length}
use Rattle.language.specs.Limits.{desk}
use Rattle.language.specs.Question.{read_question}
use Rattle.word_bytes.specs.Bytes.{words_in}
use Rattle.host.specs.Host.{solve_number, solve_leaves, show_number, show_leaves}
use Rattle.replay.specs.Calls.{trail_of}
use Rattle.trail_host.specs.Host.{trailing_bytes, trail_number, trail_bytes, replaying_bytes, showing_trail_bytes}
use Rattle.trail_host.specs.contracts.desk_solve_trail as desk-solve-trail-contract
use Rattle.trail_host.proofs.desk_solve_trail.Reads as desk-solve-trail-reads
use Rattle.trail_host.specs.contracts.desk_replay as desk-replay-contract
use Rattle.trail_host.proofs.desk_replay.Reads as desk-replay-reads
use Rattle.trail_host.specs.contracts.desk_example_trail as desk-example-trail-contract
use Rattle.trail_host.proofs.desk_example_trail.Reads as desk-example-trail-reads
use Rattle.demands.specs.Calls.{Call}

-- ---- desk_solve_trail

pub record DeskSolveTrail : Type 0 where
  pub question : List ℕ
  pub answer : List ℕ
  pub trail : List ℕ
  pub number : ℕ
  pub answer_left : List ℕ
  pub trail_left : List ℕ
  pub said : (number ≡ trail_number (trailing_bytes desk (length answer) (length trail) question))
      × ((answer_left ≡ solve_leaves desk (trailing_bytes desk (length answer) (length trail) question) answer)
      × (trail_left ≡ trail_bytes (trailing_bytes desk (length answer) (length trail) question) (trail_of desk (read_question desk (words_in question))) trail))

-- any outcome that the contract itself allows is one; so below
abbrev pub solve-trail-allowed : Call desk-solve-trail-contract.ended desk-solve-trail-reads.Pre desk-solve-trail-reads.Post → DeskSolveTrail
solve-trail-allowed c = record {
  question = c.arguments.0.now;
  answer = c.arguments.1.0.now;
  trail = c.arguments.1.1.0.now;
  number = c.outcome.0;
  answer_left = c.outcome.1.1.0;
  trail_left = c.outcome.1.1.1.0;
  said = c.said;
}

-- ---- desk_replay

pub record DeskReplay : Type 0 where
  pub question : List ℕ
  pub trail : List ℕ
  pub answer : List ℕ
  pub number : ℕ
  pub answer_left : List ℕ
  pub said : (number ≡ solve_number (replaying_bytes desk (length answer) trail question)) × (answer_left ≡ solve_leaves desk (replaying_bytes desk (length answer) trail question) answer)

abbrev pub replay-allowed : Call desk-replay-contract.ended desk-replay-reads.Pre desk-replay-reads.Post → DeskReplay
replay-allowed c = record {
  question = c.arguments.0.now;
  trail = c.arguments.1.0.now;
  answer = c.arguments.1.1.0.now;
  number = c.outcome.0;
  answer_left = c.outcome.1.1.1.0;
  said = c.said;
}

-- ---- desk_example_trail

pub record DeskExampleTrail : Type 0 where
  pub question : List ℕ
  pub trail : List ℕ
  pub line : ℕ
  pub old : ℕ
  pub room : List ℕ
  pub number : ℕ
  pub room_left : List ℕ
  pub said : (number ≡ show_number (showing_trail_bytes desk (length room) line old trail question)) × (room_left ≡ show_leaves (showing_trail_bytes desk (length room) line old trail question) room)

abbrev pub example-trail-allowed : Call desk-example-trail-contract.ended desk-example-trail-reads.Pre desk-example-trail-reads.Post → DeskExampleTrail
example-trail-allowed c = record {
  question = c.arguments.0.now;
  trail = c.arguments.1.0.now;
  line = c.arguments.1.1.0;
  old = c.arguments.1.1.1.0;
  room = c.arguments.1.1.1.1.0.now;
  number = c.outcome.0;
  room_left = c.outcome.1.1.1.1.1.0;
  said = c.said;
}
