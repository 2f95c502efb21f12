-- A run under way in the two lent slices, and what its moves make of it.
use Rattle.std.specs.Prelude.{ℕ, ◌+◌, ◌<◌, ◌≤◌, ◌≡◌, true, false, List, [], ◌∷◌, ◌++◌, map, ltb, length, drop, Result, Ok, Err}
use Rattle.language.specs.declared.Refusal.{Refusal}
use Rattle.language.specs.declared.Refusal.TheVariants.{LongResult, LongWaiting, LineRoom}
use Rattle.language.specs.Limits.{desk}
use Rattle.language.specs.Trees.{Conj}
use Rattle.language.specs.Writing.{conj_words}
use Rattle.language.specs.Fine.{fine_conj}
use Rattle.rules.specs.Run.{Numbered, EachLine, all_of, size, any_long, waiting_size, lines_fit}
use Rattle.frames.specs.Frames.{Block}
use Rattle.waiting.specs.Waiting.{Waiting}
use Rattle.answers.specs.Lined.{Lined}
use Rattle.running.specs.declared.moves.State.{State}

-- a waiting conjunction in words
abbrev pub block_of : Numbered → Block
block_of k = record { number = k.number; words = conj_words k.literals }

-- the lines ls are in the answer slice, and the conjunctions w wait in the work slice
pub record Running (old_work old_answer : List ℕ) (ls w : List Numbered) (s : State) (work answer : List ℕ) : Type 0 where
  pub few : s.signature.symbols ≤ desk.each
  pub waiting : Waiting old_work s.at (map block_of w) work
  pub lined : Lined old_answer ls s.tally answer
  pub fine : EachLine (fine_conj desk) w
  pub short : EachLine (λ k. size k ≤ desk.question) w
  pub room : desk.room ≤ length old_work
  pub kept : length answer ≡ length old_answer
  pub space : desk.room ≤ length old_answer

-- the words past the room are as they were
abbrev pub Kept : List ℕ → List ℕ → Type 0
Kept old new = drop desk.room new ≡ drop desk.room old

-- the first that waits becomes a line, or there is no room for it
pub data Lines (old_work old_answer : List ℕ) (ls : List Numbered) (c : Numbered) (w : List Numbered) (s : State) (r : Result State Refusal) (work answer : List ℕ) : Type 0 where
  more : (t : State) → r ≡ Ok t → Running old_work old_answer (ls ++ (c ∷ [])) w t work answer → t.steps ≡ s.steps → t.signature ≡ s.signature → s.at < t.at
      → lines_fit desk (ls ++ (c ∷ [])) ≡ true → Lines old_work old_answer ls c w s r work answer
  full : r ≡ Err LineRoom → lines_fit desk (ls ++ (c ∷ [])) ≡ false → Kept old_work work → Kept old_answer answer → Lines old_work old_answer ls c w s r work answer

-- the state after a step: where its results begin, and so many steps
abbrev pub stepped : State → ℕ → ℕ → State
stepped s at n = record { at = at; steps = n; tally = s.tally; signature = s.signature }

-- a step of the first that waits, whose results are ks: 7, 8, or they stand in its place
pub data Made (old_work old_answer : List ℕ) (ls : List Numbered) (c : Numbered) (w : List Numbered) (s : State) (ks : List Conj) (r : Result ℕ Refusal) (work answer : List ℕ) : Type 0 where
  long : r ≡ Err LongResult → any_long desk ks ≡ true → Kept old_work work → Kept old_answer answer → Made old_work old_answer ls c w s ks r work answer
  room : r ≡ Err LongWaiting → any_long desk ks ≡ false → ltb desk.room (waiting_size (all_of c.number ks ++ w)) ≡ true → Kept old_work work → Kept old_answer answer
      → Made old_work old_answer ls c w s ks r work answer
  on : (at : ℕ) → r ≡ Ok at → ((n : ℕ) → Running old_work old_answer ls (all_of c.number ks ++ w) (stepped s at n) work answer) → any_long desk ks ≡ false
      → ltb desk.room (waiting_size (all_of c.number ks ++ w)) ≡ false → at ≤ desk.room → Made old_work old_answer ls c w s ks r work answer
