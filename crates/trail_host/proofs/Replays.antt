-- What a replay in the desk's own slices ensures, told of the bytes.
use Prim.Native.Nat.{ℕ, ◌*◌, ◌≤◌, ◌<◌}
use mathlib.Core.Path.{◌≡◌, refl, ap, ◌∙◌}
use mathlib.Core.List.{List}
use lib.ListN.{length}
use Rattle.language.specs.Limits.{desk}
use Rattle.rules.specs.Answer.{Solving}
use Rattle.outcomes.specs.Numbers.{SolveNumbers}
use Rattle.running.specs.Leaves.{told_leaves}
use Rattle.word_bytes.specs.Bytes.{words_in, words_of, half_word, fitting}
use Rattle.handing.specs.Handed.{answer_out}
use Rattle.host.specs.Host.{solve_number, solve_leaves}
use Rattle.host.proofs.Refusals.{InOrder}
use Rattle.host.proofs.Solves.{Own, answer-told}
use Rattle.host.proofs.Called.{read_off}
use Rattle.replay.specs.Calls.{replaying}
use Rattle.trail_host.specs.Host.{replaying_bytes}
use Rattle.trail_host.proofs.Orders.{replay-in-order}
use Rattle.trail_host.proofs.Lent.{replay-short, replay-lent}

module _ (q trail a : List ℕ) where
  abbrev comes : Solving
  comes = replaying_bytes desk (length a) trail q

  pub too_short : length a < 2 * desk.room → (1 ≡ solve_number comes) × (a ≡ solve_leaves desk comes a)
  unfolding solve_number solve_leaves
  too_short h = rw (replay-short q trail (length a) h) (refl, refl)

  order : InOrder comes
  unfolding replaying_bytes
  order = replay-in-order desk desk.room _ (half_word trail) (words_of trail) (words_in q)

  module _ (room : 2 * desk.room ≤ length a) (ws w o w' o' : List ℕ) (r : SolveNumbers) (lent : ws ≡ fitting desk.question (words_in q))
      (work : length w ≡ desk.room) (answer : length o ≡ desk.room)
      (e : (r, w', o') ≡ told_leaves (replaying desk (length w) (length o) (half_word trail) (words_of trail) ws) w o)
    where
      same : replaying desk (length w) (length o) (half_word trail) (words_of trail) ws ≡ comes
      same = rw (work, answer) (replay-lent q ws lent trail (length a) room)

      read : (r.number ≡ solve_number comes) × Own comes o'
      read = read_off comes r w o w' o' answer (e ∙ ap (λ (s : Solving). told_leaves s w o) same)

      pub replayed : (k n : ℕ) (a' : List ℕ) → k ≡ r.number → length o' ≡ desk.room → n ≡ k → a' ≡ answer_out k o' a
          → (n ≡ solve_number comes) × (a' ≡ solve_leaves desk comes a)
      replayed k n a' ek lo en ea = (en ∙ ek ∙ read.0, ea ∙ answer-told a o' room lo comes order k (ek ∙ read.0) read.1)
