-- What asking for an example returns, in numbers and as the answer that has them: each gives the other, since the numbers tell the cases apart.
use Prim.Native.Nat.{ℕ}
use mathlib.Core.Path.{◌≡◌, refl, sym, ap, ◌∙◌}
use mathlib.Core.Bool.{Bool}
use mathlib.Core.List.{List}
use lib.ListN.{length}
use Rattle.std.specs.Prelude.{Result}
use Rattle.language.specs.declared.Refusal.{Refusal}
use Rattle.language.specs.Limits.{desk}
use Rattle.language.specs.Question.{counts_of}
use Rattle.rules.specs.Answer.{Solving, solving}
use Rattle.rules.specs.Calls.{Showing, shows, denied, showing_of, showing}
use Rattle.outcomes.specs.Numbers.{shown_numbers}
use Rattle.outcomes.proofs.Apart.{shown-apart}
use Rattle.line_example.specs.Shown.{numbers_of, result_of}
use Rattle.example.specs.Exhibits.{exhibits, told_exhibits, exhibited, told_exhibited}

abbrev Left : Type 0
Left = Result ℕ Refusal × List ℕ × List ℕ × List ℕ

abbrev Told : Type 0
Told = (ℕ × ℕ × ℕ) × List ℕ × List ℕ × List ℕ

abbrev told : Left → Told
told t = (shown_numbers t.0, t.1, t.2, t.3)

result-told : (s : Showing) → numbers_of s ≡ shown_numbers (result_of s)
result-told (shows ws) = refl
result-told (denied r) = refl

-- by what a run came to
module _ (v : Solving) (t : Left) (line : ℕ) (old_sheets : Bool) (question work answer room : List ℕ) where
  both_ways : told_exhibited v line old_sheets question work answer room ≡ told (exhibited v line old_sheets question work answer room)
  both_ways =
      let l = exhibited v line old_sheets question work answer room in
      ap (λ n. (n, l.1, l.2, l.3)) (result-told (showing_of desk old_sheets (counts_of question) (length room) line v))

  pub told-exhibited : t ≡ exhibited v line old_sheets question work answer room → told t ≡ told_exhibited v line old_sheets question work answer room
  told-exhibited e = ap told e ∙ sym both_ways

  pub exhibited-told : told t ≡ told_exhibited v line old_sheets question work answer room → t ≡ exhibited v line old_sheets question work answer room
  exhibited-told e =
      let l = exhibited v line old_sheets question work answer room in
      let d : told t ≡ told l = e ∙ both_ways in
      ap (λ x. (x, t.1, t.2, t.3)) (shown-apart t.0 l.0 (ap (λ (x : Told). x.0) d)) ∙ ap (λ (x : Told). (l.0, x.1, x.2, x.3)) d

-- and where the question is solved
pub exhibits-told : (t : Left) (line : ℕ) (old_sheets : Bool) (question work answer room : List ℕ)
    → told t ≡ told_exhibits line old_sheets question work answer room → t ≡ exhibits line old_sheets question work answer room
unfolding exhibits told_exhibits showing
exhibits-told t line old_sheets question work answer room e = exhibited-told (solving desk (length work) (length answer) question) t line old_sheets question work answer room e
