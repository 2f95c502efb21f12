-- What solving with a trail in the desk's own slices ensures, told of the bytes.
use Prim.Native.Nat.{ℕ, ◌*◌, ◌≤◌, ◌<◌}
use mathlib.Core.Path.{◌≡◌, refl, ap, ◌∙◌}
use mathlib.Core.List.{List}
use native.Mathlib.Omega.{arith}
use lib.ListN.{length}
use Rattle.language.specs.Limits.{desk}
use Rattle.language.specs.Question.{read_question}
use Rattle.rules.specs.Answer.{Solving, answered, unread, given-up}
use Rattle.outcomes.specs.Numbers.{SolveNumbers}
use Rattle.running.specs.Leaves.{told_leaves}
use Rattle.word_bytes.specs.Bytes.{words_in}
use Rattle.handing.specs.Handed.{number_or, answer_out, trail_out}
use Rattle.host.specs.Host.{solve_number, solve_leaves}
use Rattle.host.proofs.Solves.{Own, answer-told}
use Rattle.host.proofs.Called.{read_off}
use Rattle.replay.specs.Calls.{solving_trail, trail_of, trail_leaves}
use Rattle.replay.proofs.Told.{untrailed}
use Rattle.trail_host.specs.Host.{trailing_bytes, trail_number, trail_bytes}
use Rattle.trail_host.proofs.Orders.{trail-in-order}
use Rattle.trail_host.proofs.Lent.{trail-short}
use Rattle.trail_host.proofs.Out.{steps_of, Trailed, steps-fit, number-told, trail-told}

abbrev Told : Type 0
Told = SolveNumbers × List ℕ × List ℕ

steps-told : (v : Solving) (r : SolveNumbers) (w o w' o' : List ℕ) → (r, w', o') ≡ told_leaves v w o → r.steps ≡ steps_of v
steps-told (answered ls n) r w o w' o' e = ap (λ (t : Told). t.0.steps) e
steps-told (unread x) r w o w' o' e = ap (λ (t : Told). t.0.steps) e
steps-told (given-up x) r w o w' o' e = ap (λ (t : Told). t.0.steps) e

-- "three words a step": the trail of an answered question is so long, and it fits
trail-fits : (work answer room : ℕ) (q : List ℕ) → Trailed (solving_trail desk work answer room q) (trail_of desk (read_question desk q)) room
trail-fits work answer room q = go (solving_trail desk work answer room q) refl
  where
    go : (v : Solving) → solving_trail desk work answer room q ≡ v → Trailed v (trail_of desk (read_question desk q)) room
    go (answered ls n) e = let u = untrailed desk work answer room q ls n e in (u.1, u.2)
    go (unread r) e = tt
    go (given-up r) e = tt

module _ (q w o own w' o' own' : List ℕ) (r : SolveNumbers) (work : length w ≡ desk.room) (answer : length o ≡ desk.room)
    (e : ((r, w', o') ≡ told_leaves (solving_trail desk (length w) (length o) (length own) q) w o)
    × (own' ≡ trail_leaves (solving_trail desk (length w) (length o) (length own) q) (trail_of desk (read_question desk q)) own))
  where
    abbrev comes : Solving
    comes = solving_trail desk desk.room desk.room (length own) q

    same : solving_trail desk (length w) (length o) (length own) q ≡ comes
    same = rw (work, answer)

    left : (r, w', o') ≡ told_leaves comes w o
    left = e.0 ∙ ap (λ (s : Solving). told_leaves s w o) same

    read : (r.number ≡ solve_number comes) × Own comes o'
    read = read_off comes r w o w' o' answer left

    trailed : own' ≡ trail_leaves comes (trail_of desk (read_question desk q)) own
    trailed = e.1 ∙ ap (λ (s : Solving). trail_leaves s (trail_of desk (read_question desk q)) own) same

    pub few-steps : (steps : ℕ) → steps ≡ r.steps → 3 * steps ≤ length own
    few-steps steps f =
        let z : steps ≡ steps_of comes = f ∙ steps-told comes r w o w' o' left in
        let h = steps-fit comes (trail_of desk (read_question desk q)) (length own) (trail-fits desk.room desk.room (length own) q) in
        omega arith

    pub noted : (k steps n : ℕ) (a a' b b' : List ℕ) → k ≡ r.number → steps ≡ r.steps → 2 * desk.room ≤ length a → 2 * length own ≤ length b → length o' ≡ desk.room
        → n ≡ number_or k steps → a' ≡ answer_out k o' a → b' ≡ trail_out k steps own' b
        → (n ≡ trail_number comes) × ((a' ≡ solve_leaves desk comes a) × (b' ≡ trail_bytes comes (trail_of desk (read_question desk q)) b))
    noted k steps n a a' b b' ek es ra rb lo en ea eb =
        let order = trail-in-order desk desk.room desk.room (length own) q in
        let k-is = ek ∙ read.0 in
        let s-is = es ∙ steps-told comes r w o w' o' left in
        (en ∙ number-told comes order k steps k-is s-is, (ea ∙ answer-told a o' ra lo comes order k k-is read.1, eb ∙ trail-told b (trail_of desk (read_question desk q)) own own' rb comes order k steps k-is s-is (trail-fits desk.room desk.room (length own) q) trailed))

-- of the same outcome and the same trail
pub room_as : {v u : Solving} {t s new : List ℕ} (b : List ℕ) → v ≡ u → t ≡ s → new ≡ trail_bytes v t b → new ≡ trail_bytes u s b
room_as {v} {u} {t} {s} b e d f = f ∙ ap (λ x. trail_bytes x t b) e ∙ ap (λ x. trail_bytes u x b) d

-- "an answer under 32,768 bytes is 1"
pub too_short : (q a b : List ℕ) → length a < 2 * desk.room
    → (1 ≡ trail_number (trailing_bytes desk (length a) (length b) q)) × ((a ≡ solve_leaves desk (trailing_bytes desk (length a) (length b) q) a)
    × (b ≡ trail_bytes (trailing_bytes desk (length a) (length b) q) (trail_of desk (read_question desk (words_in q))) b))
unfolding trail_number solve_leaves trail_bytes
too_short q a b h = rw (trail-short q (length a) (length b) h) (refl, (refl, refl))
