-- What solving returns, in numbers and as the answer that has them: each gives the other, since the numbers tell the cases apart.
use Prim.Native.Nat.{ℕ}
use mathlib.Core.Path.{◌≡◌, refl, sym, ap, ◌∙◌}
use mathlib.Core.List.{List}
use lib.ListN.{length}
use Rattle.rules.specs.Answer.{count_open, Verdict, no_line, all_solved, some_open, verdict_of, Solving, answered, unread, given-up}
use Rattle.outcomes.specs.declared.Solved.{Solved}
use Rattle.outcomes.specs.Numbers.{SolveNumbers, solved_numbers}
use Rattle.outcomes.proofs.Apart.{solved-apart}
use Rattle.running.specs.Leaves.{verdict, verdict_value, leaves, told_leaves}

abbrev Left : Type 0
Left = Solved × List ℕ × List ℕ

abbrev Told : Type 0
Told = SolveNumbers × List ℕ × List ℕ

abbrev told : Left → Told
told t = (solved_numbers t.0, t.1, t.2)

verdict-told : (v : Verdict) (lines opened steps : ℕ)
    → record { number = 0; place = 0; value = verdict_value v; lines = lines; opened = opened; steps = steps } ≡ solved_numbers (record { outcome = verdict v; lines = lines; «open» = opened; steps = steps })
verdict-told no_line lines opened steps = refl
verdict-told all_solved lines opened steps = refl
verdict-told some_open lines opened steps = refl

both_ways : (s : Solving) (work answer : List ℕ) → told_leaves s work answer ≡ told (leaves s work answer)
both_ways (answered ls n) work answer =
    ap (λ m. (m, (leaves (answered ls n) work answer).1, (leaves (answered ls n) work answer).2)) (verdict-told (verdict_of ls) (length ls) (count_open ls) n)
both_ways (unread r) work answer = refl
both_ways (given-up r) work answer = refl

pub told-leaves : (t : Left) (s : Solving) (work answer : List ℕ) → t ≡ leaves s work answer → told t ≡ told_leaves s work answer
told-leaves t s work answer e = ap told e ∙ sym (both_ways s work answer)

pub leaves-told : (t : Left) (s : Solving) (work answer : List ℕ) → told t ≡ told_leaves s work answer → t ≡ leaves s work answer
leaves-told t s work answer e =
    let l = leaves s work answer in
    let d : told t ≡ told l = e ∙ both_ways s work answer in
    ap (λ x. (x, t.1, t.2)) (solved-apart t.0 l.0 (ap (λ (x : Told). x.0) d)) ∙ ap (λ (x : Told). (l.0, x.1, x.2)) d
