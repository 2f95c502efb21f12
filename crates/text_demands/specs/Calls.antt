-- Calls on bytes that came back: desk_write_text(question, room), desk_read_text(text, room).
use Rattle.std.specs.Prelude.{ℕ, ◌≡◌, List, length}
use Rattle.language.specs.Limits.{desk}
use Rattle.write_text.specs.Writes.{left_by}
use Rattle.text_host.specs.Texts.{writing_bytes, reading_bytes, text_number, words_left}
use Rattle.text_host.specs.contracts.desk_write_text as desk-write-text-contract
use Rattle.text_host.proofs.desk_write_text.Reads as desk-write-text-reads
use Rattle.text_host.specs.contracts.desk_read_text as desk-read-text-contract
use Rattle.text_host.proofs.desk_read_text.Reads as desk-read-text-reads
use Rattle.demands.specs.Calls.{Call}

-- ---- desk_write_text

pub record DeskWriteText : Type 0 where
  pub question : List ℕ
  pub room : List ℕ
  pub number : ℕ
  pub room_left : List ℕ
  pub said : (number ≡ text_number (writing_bytes desk (length room) question)) × (room_left ≡ left_by (writing_bytes desk (length room) question) room)

-- any outcome that the contract itself allows is one; so below
abbrev pub write-text-allowed : Call desk-write-text-contract.ended desk-write-text-reads.Pre desk-write-text-reads.Post → DeskWriteText
write-text-allowed c = record {
  question = c.arguments.0.now;
  room = c.arguments.1.0.now;
  number = c.outcome.0;
  room_left = c.outcome.1.1.0;
  said = c.said;
}

-- ---- desk_read_text

pub record DeskReadText : Type 0 where
  pub text : List ℕ
  pub room : List ℕ
  pub number : ℕ
  pub room_left : List ℕ
  pub said : (number ≡ text_number (reading_bytes desk (length room) text)) × (room_left ≡ words_left (reading_bytes desk (length room) text) room)

abbrev pub read-text-allowed : Call desk-read-text-contract.ended desk-read-text-reads.Pre desk-read-text-reads.Post → DeskReadText
read-text-allowed c = record {
  text = c.arguments.0.now;
  room = c.arguments.1.0.now;
  number = c.outcome.0;
  room_left = c.outcome.1.1.0;
  said = c.said;
}
