-- The first waiting conjunction, taken out of its frame, and the table of its counts.
use Prim.Native.Nat.{ℕ, ◌+◌, ◌-◌, ◌≤◌}
use native.Mathlib.Omega.{arith}
use mathlib.Core.Path.{◌≡◌, sym, ap, ◌∙◌}
use mathlib.Core.List.{List, ◌∷◌}
use lib.ListN.{length, drop, take}
use lib.Seq.{sets, slice, sets-eq, take_at, length-sets, length-slice}
use Rattle.language.specs.Writing.{conj_words}
use Rattle.rules.specs.Run.{Numbered}
use Rattle.frames.specs.Frames.{frame, framed_length}
use Rattle.counts.specs.Tables.{afresh}
use Rattle.running.specs.declared.moves.State.{State}
use Rattle.running.specs.Running.{Running}
use Rattle.running.specs.Turning.{Taken}
use Rattle.running.proofs.Going.{first-size, first-words}

pub taken-words : (old_work old_answer : List ℕ) (ls : List Numbered) (c : Numbered) (w : List Numbered) (s : State) (work answer : List ℕ)
    → Running old_work old_answer ls (c ∷ w) s work answer → {k table : List ℕ} → Taken k table s work → k ≡ conj_words c.literals
taken-words old_work old_answer ls c w s work answer p t =
    t.words ∙ ap (λ m. slice (s.at + frame) (s.at + frame + m) work) (first-size old_work old_answer ls c w s work answer p) ∙ first-words old_work old_answer ls c w s work answer p

-- how many they are
pub taken-size : {k table : List ℕ} {s : State} {work : List ℕ} → Taken k table s work → s.at + frame + framed_length work s.at ≤ length work → length k ≡ framed_length work s.at
taken-size {s = s} {work} t h = ap length t.words ∙ (let z = length-slice (s.at + frame) (s.at + frame + framed_length work s.at) work h in omega arith)

module _ (k new table : List ℕ) (s : State) (work : List ℕ) (n : ℕ) (en : n ≡ framed_length work s.at) (within : s.at + frame + framed_length work s.at ≤ length work)
    (fits : framed_length work s.at ≤ length k) (ek : new ≡ sets k 0 (slice (s.at + frame) (s.at + frame + framed_length work s.at) work))
    (et : table ≡ afresh (slice (s.at + frame) (s.at + frame + framed_length work s.at) work)) where
  abbrev ws : List ℕ
  ws = slice (s.at + frame) (s.at + frame + framed_length work s.at) work

  size : length ws ≡ n
  size = let z = length-slice (s.at + frame) (s.at + frame + framed_length work s.at) work within in omega arith

  front : take n new ≡ ws
  front = ap (take n) (ek ∙ sets-eq ws k 0 (let z = size in omega arith)) ∙ take_at ws (drop (0 + length ws) k) n size

  pub taken : Taken (take (n - 0) new) table s work
  taken =
      let z : n - 0 ≡ n = omega arith in
      let e : take (n - 0) new ≡ ws = ap (λ m. take m new) z ∙ front in
      record { words = e; counts = et ∙ ap afresh (sym e) }

  pub still-counted : table ≡ afresh (take n new)
  still-counted = et ∙ ap afresh (sym front)

  pub still-long : length new ≡ length k
  still-long = ap length ek ∙ length-sets k 0 ws
