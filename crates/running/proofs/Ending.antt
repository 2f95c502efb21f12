-- What is told of a run, from how it ended and what was cleared; and what comes before it.
use Prim.Native.Nat.{ℕ, ◌≤◌}
use native.Mathlib.Omega.{arith}
use mathlib.Core.Path.{◌≡◌, refl, sym, ap, ◌∙◌}
use mathlib.Core.Bool.{Bool, true, false}
use mathlib.Core.List.{List, [], ◌∷◌, ◌++◌}
use lib.Dec.{ltb}
use lib.ListN.{length, drop}
use borrow.Author.Tests.{ne_eqb, le-ltb, ltb-false}
use Rattle.std.specs.Prelude.{Result, Ok, Err}
use Rattle.language.specs.declared.Refusal.{Refusal}
use Rattle.language.specs.declared.Refusal.TheVariants.{ShortSlice}
use Rattle.language.specs.Limits.{desk}
use Rattle.language.specs.Kinds.{pick}
use Rattle.language.specs.Question.{Asked, asks, refuses}
use Rattle.rules.specs.Run.{Numbered, Outcome}
use Rattle.rules.specs.Answer.{count_open, zeros, verdict_of, Solving, answered, unread, ran}
use Rattle.rules.specs.Answer as rules
use Rattle.reader.specs.Checking.{checked}
use Rattle.outcomes.specs.declared.Outcome as outcome
use Rattle.outcomes.specs.declared.Solved.{Solved}
use Rattle.outcomes.specs.Numbers.{solved_numbers}
use Rattle.around.specs.declared.Ran.{Ran}
use Rattle.running.specs.Turning.{Guide, Ends, ended, given-up}
use Rattle.around.specs.Ready.{readied}
use Rattle.around.specs.Told.{verdict_for, refused_by, told_by}
use Rattle.running.specs.Leaves.{verdict, leaves, told_leaves}
use Rattle.running.proofs.Told.{told-leaves}

-- the verdict by the counts
picked : (b : Bool) → pick b outcome.TheVariants.SomeOpen outcome.TheVariants.AllSolved ≡ verdict (pick b rules.some_open rules.all_solved)
picked true = refl
picked false = refl

counted : (ls : List Numbered) → verdict_for (length ls) (count_open ls) ≡ verdict (verdict_of ls)
counted [] = refl
counted (k ∷ ls) =
    ap (λ b. pick b outcome.TheVariants.NoLine (pick (ltb 0 (count_open (k ∷ ls))) outcome.TheVariants.SomeOpen outcome.TheVariants.AllSolved))
    (ne_eqb (length (k ∷ ls)) 0 (λ e. omega arith))
    ∙ picked (ltb 0 (count_open (k ∷ ls)))

module _ (g : Guide) (o' : Outcome) (old_work old_answer : List ℕ) (r : Result Ran Refusal) (work answer out : List ℕ)
    (p : Ends g o' old_work old_answer r work answer out) (cleared : List ℕ) (ec : cleared ≡ zeros desk ++ drop desk.room work) where
  pub leaves_lines : (n : Ran) (o : outcome.Outcome) → r ≡ Ok n → o ≡ verdict_for n.tally.lines n.tally.«open»
      → (record { outcome = o; lines = n.tally.lines; «open» = n.tally.«open»; steps = n.steps }, cleared, answer) ≡ leaves (ran o') old_work old_answer
  leaves_lines n o er eo = go p
    where
      go : Ends g o' old_work old_answer r work answer out
          → (record { outcome = o; lines = n.tally.lines; «open» = n.tally.«open»; steps = n.steps }, cleared, answer) ≡ leaves (ran o') old_work old_answer
      go (given-up x d f k l) = absurd (let z : ◌≡◌ {A = ℕ} 0 1 = cc in omega arith)
      go (ended m ls d f l k tr) =
          let e : n ≡ m = cc in
          let en : n.steps ≡ m.steps = ap (λ (n : Ran). n.steps) e in
          let el : n.tally.lines ≡ length ls = ap (λ (n : Ran). n.tally.lines) e ∙ l.lines in
          let ep : n.tally.«open» ≡ count_open ls = ap (λ (n : Ran). n.tally.«open») e ∙ l.«open» in
          let ev : o ≡ verdict (verdict_of ls) = eo ∙ ap (λ x. verdict_for x n.tally.«open») el ∙ ap (verdict_for (length ls)) ep ∙ counted ls in
          let s : ran o' ≡ answered ls m.steps = ap ran f in
          let a = l.words in
          let c : cleared ≡ zeros desk ++ drop desk.room old_work = ec ∙ ap (λ x. zeros desk ++ x) k in
          ap (λ o. (record { outcome = o; lines = n.tally.lines; «open» = n.tally.«open»; steps = n.steps }, cleared, answer)) ev
          ∙ ap (λ x. (record { outcome = verdict (verdict_of ls); lines = x; «open» = n.tally.«open»; steps = n.steps }, cleared, answer)) el
          ∙ ap (λ x. (record { outcome = verdict (verdict_of ls); lines = length ls; «open» = x; steps = n.steps }, cleared, answer)) ep
          ∙ ap (λ x. (record { outcome = verdict (verdict_of ls); lines = length ls; «open» = count_open ls; steps = x }, cleared, answer)) en
          ∙ ap (λ x. (record { outcome = verdict (verdict_of ls); lines = length ls; «open» = count_open ls; steps = m.steps }, x, answer)) c
          ∙ ap (λ x. (record { outcome = verdict (verdict_of ls); lines = length ls; «open» = count_open ls; steps = m.steps }, zeros desk ++ drop desk.room old_work, x)) a
          ∙ sym (ap (λ x. leaves x old_work old_answer) s)

  pub leaves-refusal : (x : Refusal) (wiped : List ℕ) (s : Solved) → r ≡ Err x → wiped ≡ zeros desk ++ drop desk.room answer → s ≡ refused_by x
      → (s, cleared, wiped) ≡ leaves (ran o') old_work old_answer
  leaves-refusal x wiped s er ew es = go p
    where
      go : Ends g o' old_work old_answer r work answer out → (s, cleared, wiped) ≡ leaves (ran o') old_work old_answer
      go (ended m ls d f l k tr) = absurd (let z : ◌≡◌ {A = ℕ} 0 1 = cc in omega arith)
      go (given-up y d f k l) =
          let ex : x ≡ y = cc in
          let h : ran o' ≡ rules.given-up y = ap ran f in
          let c : cleared ≡ zeros desk ++ drop desk.room old_work = ec ∙ ap (λ z. zeros desk ++ z) k in
          let b : wiped ≡ zeros desk ++ drop desk.room old_answer = ew ∙ ap (λ z. zeros desk ++ z) l in
          ap (λ s. (s, cleared, wiped)) (es ∙ ap refused_by ex) ∙ ap (λ z. (refused_by y, z, wiped)) c ∙ ap (λ z. (refused_by y, zeros desk ++ drop desk.room old_work, z)) b
          ∙ sym (ap (λ z. leaves z old_work old_answer) h)

-- what is told of a run that ended so
pub ends-told : {g : Guide} {o : Outcome} {old_work old_answer : List ℕ} {r : Result Ran Refusal} {work answer out : List ℕ} {t : Solved × List ℕ × List ℕ}
    → t ≡ told_by r work answer → Ends g o old_work old_answer r work answer out → t ≡ leaves (ran o) old_work old_answer
unfolding told_by
ends-told {g} {o} {old_work} {old_answer} {r} {work} {answer} {out} e p = e ∙ go r p
  where
    go : (r : Result Ran Refusal) → Ends g o old_work old_answer r work answer out → told_by r work answer ≡ leaves (ran o) old_work old_answer
    go (Ok n) p = leaves_lines g o old_work old_answer (Ok n) work answer out p _ refl n _ refl refl
    go (Err x) p = leaves-refusal g o old_work old_answer (Err x) work answer out p _ refl x _ _ refl refl refl

-- ---- before the run

-- by whether the two slices are too short
abbrev lent_by : Bool → Bool → Solving → Solving
lent_by a b s = elim a [ true ↦ unread ShortSlice | false ↦ elim b [ true ↦ unread ShortSlice | false ↦ s ] ]

-- 1 before what a call comes to
abbrev pub lent_for : ℕ → ℕ → Solving → Solving
lent_for work answer s = lent_by (ltb work desk.room) (ltb answer desk.room) s

-- what a call that refuses an unread question comes to
abbrev pub Refuses : (Asked → Solving) → Type 0
Refuses of = (r : Refusal) → of (refuses r) ≡ unread r

-- ready: both slices are long enough, the question was read
pub record Readied (work answer : ℕ) (a : Asked) : Type 0 where
  pub work-fits : desk.room ≤ work
  pub answer-fits : desk.room ≤ answer
  pub fine : Ok tt ≡ checked a

module _ (work answer : ℕ) (a : Asked) where
  abbrev checked_by : Bool → Bool → Result (Unit {0}) Refusal
  checked_by x y = elim x [ true ↦ Err ShortSlice | false ↦ elim y [ true ↦ Err ShortSlice | false ↦ checked a ] ]

  apart : {A : Type 0} {x : Refusal} → ◌≡◌ {A = Result (Unit {0}) Refusal} (Err x) (Ok tt) → A
  apart e = absurd (let z : ◌≡◌ {A = ℕ} 0 1 = cc in omega arith)

  pub is-ready : Ok tt ≡ readied work answer a → Readied work answer a
  unfolding readied
  is-ready e = go (ltb work desk.room) refl (ltb answer desk.room) refl e
    where
      go : (x : Bool) → ltb work desk.room ≡ x → (y : Bool) → ltb answer desk.room ≡ y → Ok tt ≡ checked_by x y → Readied work answer a
      go true d y f e = apart (sym e)
      go false d true f e = apart (sym e)
      go false d false f e = record { work-fits = ltb-false work desk.room d; answer-fits = ltb-false answer desk.room f; fine = e }

  pub ready-goes : Readied work answer a → (s : Solving) → lent_for work answer s ≡ s
  ready-goes p s =
      ap (λ x. lent_by x (ltb answer desk.room) s) (le-ltb work desk.room p.work-fits) ∙ ap (λ y. lent_by false y s) (le-ltb answer desk.room p.answer-fits)

  pub not-ready : (x : Refusal) → Err x ≡ readied work answer a → (of : Asked → Solving) → Refuses of → lent_for work answer (of a) ≡ unread x
  unfolding readied checked
  not-ready x e of q = go (ltb work desk.room) (ltb answer desk.room) e
    where
      same : {x y : Refusal} → ◌≡◌ {A = Result (Unit {0}) Refusal} (Err x) (Err y) → y ≡ x
      same e = cc

      read : (a : Asked) → Err x ≡ checked a → of a ≡ unread x
      read (asks q') e = apart e
      read (refuses r) e = q r ∙ ap unread (same e)

      go : (b c : Bool) → Err x ≡ checked_by b c → lent_by b c (of a) ≡ unread x
      go true c e = ap unread (same e)
      go false true e = ap unread (same e)
      go false false e = read a e

-- what comes back, in numbers
pub told-unread : (s : Solved) (x : Refusal) (v : Solving) (work answer : List ℕ) → s ≡ refused_by x → v ≡ unread x → (solved_numbers s, work, answer) ≡ told_leaves v work answer
told-unread s x v work answer es e = told-leaves (s, work, answer) v work answer (ap (λ s. (s, work, answer)) es ∙ sym (ap (λ z. leaves z work answer) e))

pub told-ran : (t : Solved × List ℕ × List ℕ) (v u : Solving) (work answer : List ℕ) → t ≡ leaves u work answer → v ≡ u → (solved_numbers t.0, t.1, t.2) ≡ told_leaves v work answer
told-ran t v u work answer e d = told-leaves t v work answer (e ∙ sym (ap (λ z. leaves z work answer) d))
