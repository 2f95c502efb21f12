-- Calls of the overlap desk that came back: overlap_pair(word_0, first, second, room) and overlap_sheet(sheet, report, room).
use Rattle.std.specs.Prelude.{ℕ, ◌/◌, ◌≡◌, List, length}
use Rattle.word_bytes.specs.Bytes.{words_in}
use Rattle.pairing.specs.Meeting.{meeting}
use Rattle.pairing.specs.Lent.{Told}
use Rattle.overlap.specs.Table.{word_from, table_number, table_leaves}
use Rattle.overlap.specs.contracts.overlap_pair as overlap-pair-contract
use Rattle.overlap.proofs.overlap_pair.Reads as overlap-pair-reads
use Rattle.overlap.specs.contracts.overlap_sheet as overlap-sheet-contract
use Rattle.overlap.proofs.overlap_sheet.Reads as overlap-sheet-reads
use Rattle.demands.specs.Calls.{Call}

pub record OverlapPair : Type 0 where
  pub word₀ : ℕ
  pub first : List ℕ
  pub second : List ℕ
  pub room : List ℕ
  pub number : ℕ
  pub room_left : List ℕ
  pub said : Told (meeting (length room / 2) (word_from word₀) (words_in first) (words_in second)) 0 room number room_left

-- any outcome that the contract itself allows is one; so below
abbrev pub pair-allowed : Call overlap-pair-contract.ended overlap-pair-reads.Pre overlap-pair-reads.Post → OverlapPair
pair-allowed c = record {
  word₀ = c.arguments.0;
  first = c.arguments.1.0.now;
  second = c.arguments.1.1.0.now;
  room = c.arguments.1.1.1.0.now;
  number = c.outcome.0;
  room_left = c.outcome.1.1.1.1.0;
  said = c.said;
}

pub record OverlapSheet : Type 0 where
  pub sheet : List ℕ
  pub report : ℕ
  pub room : List ℕ
  pub number : ℕ
  pub room_left : List ℕ
  pub said : (number ≡ table_number report (words_in sheet) (length room / 2)) × (room_left ≡ table_leaves report (words_in sheet) room)

abbrev pub sheet-allowed : Call overlap-sheet-contract.ended overlap-sheet-reads.Pre overlap-sheet-reads.Post → OverlapSheet
sheet-allowed c = record {
  sheet = c.arguments.0.now;
  report = c.arguments.1.0;
  room = c.arguments.1.1.0.now;
  number = c.outcome.0;
  room_left = c.outcome.1.1.1.0;
  said = c.said;
}
