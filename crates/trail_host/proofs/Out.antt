-- What the host gets by the number that came back is what solving with a trail comes to.
use Prim.Native.Nat.{ℕ, ◌+◌, ◌*◌, ◌≤◌}
use mathlib.Core.Path.{◌≡◌, sym, ap, ◌∙◌}
use mathlib.Core.List.{List}
use native.Mathlib.Omega.{arith}
use lib.ListN.{length, take, drop}
use lib.Seq.{sets, take_at}
use Rattle.rules.specs.Answer.{Solving, answered, unread, given-up}
use Rattle.word_bytes.specs.Bytes.{bytes_of}
use Rattle.word_bytes.proofs.Pairs.{written}
use Rattle.handing.specs.Handed.{number_or, trail_out}
use Rattle.handing.proofs.Handed.{number-value, number-refusal, keeps-none, keeps-early, keeps-late, trail-kept, trail-put, trail-cleared}
use Rattle.host.specs.Host.{solve_number}
use Rattle.host.proofs.Refusals.{InOrder}
use Rattle.replay.specs.Calls.{trail_leaves}
use Rattle.trail_host.specs.Host.{trail_number, trail_bytes}

-- the steps that come back
abbrev pub steps_of : Solving → ℕ
steps_of (answered ls n) = n
steps_of (unread r) = 0
steps_of (given-up r) = 0

-- a trail of so many steps in a room
abbrev pub Trailed : Solving → List ℕ → ℕ → Type 0
Trailed (answered ls n) t room = (3 * n ≤ room) × (length t ≡ 3 * n)
Trailed (unread r) t room = Unit {0}
Trailed (given-up r) t room = Unit {0}

pub steps-fit : (v : Solving) (t : List ℕ) (room : ℕ) → Trailed v t room → 3 * steps_of v ≤ room
steps-fit (answered ls n) t room h = h.0
steps-fit (unread r) t room h = omega arith
steps-fit (given-up r) t room h = omega arith

pub number-told : (v : Solving) → InOrder v → (k steps : ℕ) → k ≡ solve_number v → steps ≡ steps_of v → number_or k steps ≡ trail_number v
unfolding solve_number trail_number
number-told (answered ls n) o k steps e f = number-value k steps e ∙ ap (λ m. 100 + m) f
number-told (unread r) o k steps e f = number-refusal k steps (λ z. omega arith) ∙ e
number-told (given-up r) o k steps e f = number-refusal k steps (λ z. omega arith) ∙ e

module _ (b t own own' : List ℕ) (room : 2 * length own ≤ length b) where
  pub trail-told : (v : Solving) → InOrder v → (k steps : ℕ) → k ≡ solve_number v → steps ≡ steps_of v → Trailed v t (length own) → own' ≡ trail_leaves v t own → trail_out k steps own' b ≡ trail_bytes v t b
  unfolding solve_number trail_bytes
  trail-told (answered ls n) o k steps e f (fits, size) g =
      let m : length t ≡ 3 * steps = size ∙ ap (λ i. 3 * i) (sym f) in
      trail-put k steps own' b (keeps-none k e) e ∙ ap (λ us. sets b 0 (bytes_of us)) (ap (take (3 * steps)) g ∙ take_at t (drop (length t) own) (3 * steps) m) ∙ written b t (omega arith)
  trail-told (unread r) o k steps e f h g = trail-kept k steps own' b (keeps-early k (λ z. omega arith) (omega arith))
  trail-told (given-up r) o k steps e f h g = trail-cleared k steps own' b (keeps-late k (omega arith)) (λ z. omega arith)
