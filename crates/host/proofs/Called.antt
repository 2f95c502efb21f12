-- What solving on words ensures, told of the bytes: the words lent come to what the bytes come to.
use Prim.Native.Nat.{ℕ, ◌*◌, ◌/◌, ◌≤◌}
use mathlib.Core.Path.{◌≡◌, ap, ◌∙◌}
use mathlib.Core.List.{List, ◌++◌, append-nil}
use native.Mathlib.Omega.{arith}
use lib.ListN.{length, drop, drop_of_length-le}
use Rattle.language.specs.Limits.{desk}
use Rattle.rules.specs.Answer.{Solving, answered, unread, given-up, solving}
use Rattle.outcomes.specs.Numbers.{SolveNumbers}
use Rattle.solver.specs.Leaves.{told_leaves}
use Rattle.word_bytes.specs.Bytes.{words_in, fitting}
use Rattle.handing.specs.Handed.{answer_out}
use Rattle.host.specs.Host.{solving_bytes, solve_number, solve_leaves}
use Rattle.host.proofs.Refusals.{InRange, in-range, in_order}
use Rattle.host.proofs.Solves.{Own, same, answer-told}

none-behind : (ws own : List ℕ) → length own ≡ desk.room → ws ++ drop desk.room own ≡ ws
none-behind ws own e = ap (λ (l : List ℕ). ws ++ l) (drop_of_length-le own {i = desk.room} (omega arith)) ∙ append-nil ws

-- the number and the desk's own answer slice
abbrev Told : Type 0
Told = SolveNumbers × List ℕ × List ℕ

pub read_off : (s : Solving) (r : SolveNumbers) (w o w' o' : List ℕ) → length o ≡ desk.room → (r, w', o') ≡ told_leaves s w o → (r.number ≡ solve_number s) × Own s o'
unfolding solve_number
read_off (answered ls n) r w o w' o' n8 e = (ap (λ (t : Told). t.0.number) e, ap (λ (t : Told). t.2) e ∙ none-behind _ o n8)
read_off (unread x) r w o w' o' n8 e = (ap (λ (t : Told). t.0.number) e, tt)
read_off (given-up x) r w o w' o' n8 e = (ap (λ (t : Told). t.0.number) e, ap (λ (t : Told). t.2) e ∙ none-behind _ o n8)

module _ (q a : List ℕ) (room : 2 * desk.room ≤ length a)
    (ws w o w' o' : List ℕ) (r : SolveNumbers) (k : ℕ)
    (lent : ws ≡ fitting desk.question (words_in q)) (work : length w ≡ desk.room) (own : length o ≡ desk.room)
    (solved : (r, w', o') ≡ told_leaves (solving desk (length w) (length o) ws) w o)
    (number : k ≡ r.number) where
  abbrev comes : Solving
  comes = solving_bytes desk (length a) q

  comes-to : solving desk (length w) (length o) ws ≡ comes
  comes-to = rw (work, own, lent) (same q a room)

  told : (r.number ≡ solve_number comes) × Own comes o'
  told = read_off comes r w o w' o' own (solved ∙ ap (λ (s : Solving). told_leaves s w o) comes-to)

  some_number : InRange comes
  unfolding solving_bytes
  some_number = in-range desk desk.room (length a / 2) (words_in q)

  pub solved-told : (a' : List ℕ) → length o' ≡ desk.room → a' ≡ answer_out k o' a → (k ≡ solve_number comes) × (a' ≡ solve_leaves desk comes a)
  solved-told a' long e = (number ∙ told.0, e ∙ answer-told a o' room long comes (in_order comes some_number) k (number ∙ told.0) told.1)
