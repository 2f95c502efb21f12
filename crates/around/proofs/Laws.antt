-- Before a run, whether it can begin; after it, what is told and what is cleared.
use Prim.Native.Nat.{ℕ, ◌<◌, ◌≤◌}
use mathlib.Core.Path.{◌≡◌, refl, sym, ap, ◌∙◌}
use mathlib.Core.Bool.{Bool, true, false, true≢false}
use mathlib.Core.List.{List, [], ◌∷◌, ◌++◌, append-nil}
use lib.Dec.{ltb}
use lib.ListN.{length, drop, replicate}
use borrow.Author.Tests.{lt-ltb, le-ltb}
use Rattle.std.specs.Prelude.{Result, Ok, Err, is_err}
use Rattle.language.specs.declared.Refusal.{Refusal}
use Rattle.language.specs.declared.Refusal.TheVariants.{ShortSlice}
use Rattle.language.specs.Limits.{desk}
use Rattle.language.specs.Question.{Asked}
use Rattle.rules.specs.Answer.{zeros, overwritten}
use Rattle.reader.specs.Checking.{checked}
use Rattle.outcomes.specs.declared.Outcome.{Outcome}
use Rattle.outcomes.specs.declared.Solved.{Solved}
use Rattle.around.specs.declared.Ran.{Ran}
use Rattle.around.specs.Told.{verdict_for, refused_by, told_by}
use Rattle.around.specs.Ready.{readied}
use Rattle.around.specs.Rooms.{Settles}

-- ---- before

module _ (work answer : ℕ) (a : Asked) where
  abbrev checked_by : Bool → Bool → Result (Unit {0}) Refusal
  checked_by x y = elim x [ true ↦ Err ShortSlice | false ↦ elim y [ true ↦ Err ShortSlice | false ↦ checked a ] ]

  pub short-work : work < desk.room → Err ShortSlice ≡ readied work answer a
  unfolding readied
  short-work h = sym (ap (λ x. checked_by x (ltb answer desk.room)) (lt-ltb work desk.room h))

  pub short-answer : desk.room ≤ work → answer < desk.room → Err ShortSlice ≡ readied work answer a
  unfolding readied
  short-answer h i = sym (ap (λ x. checked_by x (ltb answer desk.room)) (le-ltb work desk.room h) ∙ ap (λ y. checked_by false y) (lt-ltb answer desk.room i))

  pub both_long : desk.room ≤ work → desk.room ≤ answer → checked a ≡ readied work answer a
  unfolding readied
  both_long h i = sym (ap (λ x. checked_by x (ltb answer desk.room)) (le-ltb work desk.room h) ∙ ap (λ y. checked_by false y) (le-ltb answer desk.room i))

-- ---- what is told

module _ (r : Result Ran Refusal) (work answer cleared : List ℕ) (ec : cleared ≡ overwritten desk (zeros desk) work) where
  pub told-done : (d : Ran) (o : Outcome) → r ≡ Ok d → o ≡ verdict_for d.tally.lines d.tally.«open»
      → (record { outcome = o; lines = d.tally.lines; «open» = d.tally.«open»; steps = d.steps }, cleared, answer) ≡ told_by r work answer
  unfolding told_by
  told-done d o er eo =
      ap (λ o. (record { outcome = o; lines = d.tally.lines; «open» = d.tally.«open»; steps = d.steps }, cleared, answer)) eo
      ∙ ap (λ x. (record { outcome = verdict_for d.tally.lines d.tally.«open»; lines = d.tally.lines; «open» = d.tally.«open»; steps = d.steps }, x, answer)) ec
      ∙ sym (ap (λ r. told_by r work answer) er)

  pub told-stopped : (x : Refusal) (wiped : List ℕ) (s : Solved) → r ≡ Err x → wiped ≡ overwritten desk (zeros desk) answer → s ≡ refused_by x
      → (s, cleared, wiped) ≡ told_by r work answer
  unfolding told_by
  told-stopped x wiped s er ew es =
      ap (λ s. (s, cleared, wiped)) es ∙ ap (λ c. (refused_by x, c, wiped)) ec ∙ ap (λ w. (refused_by x, overwritten desk (zeros desk) work, w)) ew
      ∙ sym (ap (λ r. told_by r work answer) er)

-- ---- the room of a trail

-- zeros up to the end
past_end : (ws : List ℕ) → drop (length ws) ws ≡ []
past_end [] = refl
past_end (w ∷ ws) = past_end ws

pub none-behind : (ws : List ℕ) → replicate (length ws) 0 ++ drop (length ws) ws ≡ replicate (length ws) 0
none-behind ws = ap (λ v. replicate (length ws) 0 ++ v) (past_end ws) ∙ append-nil (replicate (length ws) 0)

pub settled-done : (r : Result Ran Refusal) (old : List ℕ) → is_err r ≡ false → Settles r old old
settled-done (Ok d) old e = refl
settled-done (Err x) old e = absurd (true≢false e)

pub settled-stopped : (r : Result Ran Refusal) (old new : List ℕ) → is_err r ≡ true → new ≡ replicate (length old) 0 → Settles r old new
settled-stopped (Ok d) old new e z = absurd (true≢false (sym e))
settled-stopped (Err x) old new e z = z

pub settled-one : (r : Result Ran Refusal) (old new other : List ℕ) → Settles r old new → Settles r old other → new ≡ other
settled-one (Ok r) old new other e d = e ∙ sym d
settled-one (Err x) old new other e d = e ∙ sym d
