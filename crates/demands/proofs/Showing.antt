-- What is shown of any call of example that came back.
use Prim.Native.Nat.{ℕ, ◌≤◌, ◌<◌}
use mathlib.Core.Path.{◌≡◌, refl, sym, ap, subst, ◌∙◌}
use mathlib.Core.Logic.{◌⊎◌, inl, inr, ◌↔◌}
use mathlib.Core.Bool.{Bool, true, false, ◌||◌}
use mathlib.Core.List.{List, map}
use mathlib.Core.Option.{Option, none, some}
use native.Mathlib.Omega.{arith}
use lib.Dec.{ltb}
use lib.ListN.{length}
use Rattle.std.specs.Prelude.{Result, Ok, Err}
use Rattle.language.specs.declared.Refusal.{Refusal}
use Rattle.language.specs.declared.Refusal.TheVariants.{NoSuchLine, OpenLine, LongExample}
use Rattle.language.specs.Numbers.{number_of}
use Rattle.language.specs.Limits.{desk}
use Rattle.language.specs.Trees.{Counts}
use Rattle.language.specs.Question.{counts_of}
use Rattle.meaning.specs.Values.{filling_words}
use Rattle.rules.specs.Solved.{solved}
use Rattle.rules.specs.Example.{default_symbol, example}
use Rattle.rules.specs.Run.{Numbered}
use Rattle.rules.specs.Answer.{Solving, answered, unread, given-up, solving, answer_words, zeros, overwritten}
use Rattle.rules.specs.Calls.{line_at, shows, denied, fitted, shown, showing_of, showing}
use Rattle.exact.proofs.Declared.{read-declared}
use Rattle.outcomes.specs.Numbers.{outcome_number}
use Rattle.solver.specs.Leaves.{leaves}
use Rattle.line_example.specs.Shown.{result_of, room_of}
use Rattle.example.specs.Exhibits.{exhibits}
use Rattle.answer_example.specs.Answers.{Answer}
use Rattle.host.proofs.Refusals.{InRange, in-range}
use Rattle.demands.specs.Solves.{Solve}
use Rattle.demands.specs.Examples.{Example}
use Rattle.demands.specs.Answers.{Line, numbered_of, nth_line}
use Rattle.demands.specs.Promises.{Promised, example_words, RoomShows, Told, missing, is_open, too_long, shown as is-shown}
use Rattle.demands.specs.Columns.{left_in}
use Rattle.demands.specs.Table.{SolveFault, First}
use Rattle.demands.specs.Tells.{SolvingNumber, ExampleTells, refuses, told}
use Rattle.demands.proofs.Said.{example-said}
use Rattle.demands.proofs.Reading.{as_line, numbered-back}
use Rattle.demands.proofs.Promising.{From, promise, tell}
use Rattle.demands.proofs.Between.{stands, one_answer, long-enough}
use Rattle.demands.proofs.Columns.{early-column, late-column}
use Rattle.demands.proofs.Numbers.{first_one}
use Rattle.demands.proofs.Faults.{place_for}
use Rattle.demands.proofs.Judging.{SolveJudged, solve-judged, solve-place}
use Rattle.demands.proofs.Solving.{solves}

-- what comes back, the two slices and the room
abbrev pub Left : Type 0
Left = Result ℕ Refusal × List ℕ × List ℕ × List ℕ

-- where there is an answer, a refusal has a number from 14 to 16
pub late-number : (old_sheets : Bool) (n : Counts) (room : ℕ) (e : Refusal) (o : Option Numbered) → result_of (shown desk old_sheets n room o) ≡ Err e → (14 ≤ number_of e) × (number_of e ≤ 16)
late-number old_sheets n room e none d = let z : NoSuchLine ≡ e = cc in let y = ap number_of z in (omega arith, omega arith)
late-number old_sheets n room e (some k) d = go (solved k.literals) d
  where
    at_room : (ws : List ℕ) (b : Bool) → result_of (elim b [ true ↦ denied LongExample | false ↦ shows ws ]) ≡ Err e → (14 ≤ number_of e) × (number_of e ≤ 16)
    at_room ws true d = let z : LongExample ≡ e = cc in let y = ap number_of z in (omega arith, omega arith)
    at_room ws false d = absurd (let z : ◌≡◌ {A = ℕ} 0 1 = cc in omega arith)

    go : (b : Bool) → result_of (elim b [ true ↦ fitted desk room (filling_words n (example (default_symbol old_sheets n) k.literals)) | false ↦ denied OpenLine ]) ≡ Err e → (14 ≤ number_of e) × (number_of e ≤ 16)
    go true d = at_room (filling_words n (example (default_symbol old_sheets n) k.literals)) (ltb desk.filling (length (filling_words n (example (default_symbol old_sheets n) k.literals))) || ltb room (length (filling_words n (example (default_symbol old_sheets n) k.literals)))) d
    go false d = let z : OpenLine ≡ e = cc in let y = ap number_of z in (omega arith, omega arith)

-- and is none of solving's
of-line : {n : ℕ} → 14 ≤ n → n ≤ 16 → SolvingNumber n → ⊥
of-line l h (inl p) = omega arith
of-line l h (inr p) = omega arith

module _ (c : Example) where
  abbrev pub came : Left
  came = (c.returned, c.work_left, c.answer_left, c.room_left)

  abbrev pub comes : Solving
  comes = solving desk (length c.work) (length c.answer) c.question

  abbrev pub left : Solving → Left
  left v =
      let s = showing_of desk c.old_sheets (counts_of c.question) (length c.room) c.line v in
      let l = leaves v c.work c.answer in
      (result_of s, l.1, l.2, room_of s c.room)

  pub says : came ≡ left comes
  unfolding exhibits showing
  says = example-said c

  -- an answer, and what is told of the line
  record TellsFrom (ls : List Numbered) (n : ℕ) : Type 0 where
    from : From c.question c.answer_left ls n
    tells : Told c.old_sheets from.promised.asked.counts c.room (nth_line c.line from.promised.lines) c.returned c.room_left

  tells-from : (ls : List Numbered) (n : ℕ) → comes ≡ answered ls n → came ≡ left (answered ls n) → TellsFrom ls n
  tells-from ls n d e =
      let there : Answer c.answer_left ls = subst (λ w. Answer w ls) (sym (ap (λ (x : Left). x.2) e)) (stands (length c.work) (length c.answer) c.question c.answer ls n d) in
      let f = promise (length c.work) (length c.answer) c.question ls n d c.answer_left there in
      let p = f.promised in
      let counts = (read-declared desk c.question p.asked p.question-read).0 in
      let l = nth_line c.line (map as_line ls) in
      let t = tell (length c.work) (length c.answer) c.question ls n d c.old_sheets c.line c.room in
      record {
        from = f;
        tells =
            rw (f.lines, counts)
            (subst (λ r. Told c.old_sheets (counts_of c.question) c.room l r c.room_left) (sym (ap (λ (x : Left). x.0) e))
            (subst (Told c.old_sheets (counts_of c.question) c.room l (result_of (shown desk c.old_sheets (counts_of c.question) (length c.room) (line_at c.line ls))))
            (sym (ap (λ (x : Left). x.3) e)) t));
      }

  pub tells : ExampleTells c
  tells = by comes refl says
    where
      by : (v : Solving) → comes ≡ v → came ≡ left v → ExampleTells c
      by (unread r) d e =
          let b : InRange (unread r) = subst InRange d (in-range desk _ _ _) in
          let u = early-column r b.1 in
          refuses r (ap (λ (x : Left). x.0) e) (b.0, inl (let h = b.1 in omega arith)) (ap (λ (x : Left). x.1) e ∙ sym (ap (λ k. left_in k (overwritten desk (zeros desk) c.work) c.work) u))
          (ap (λ (x : Left). x.2) e ∙ sym (ap (λ k. left_in k (overwritten desk (zeros desk) c.answer) c.answer) u)) (ap (λ (x : Left). x.3) e)
      by (given-up r) d e =
          let b : InRange (given-up r) = subst InRange d (in-range desk _ _ _) in
          let u = late-column r b.0 b.1 in
          refuses r (ap (λ (x : Left). x.0) e) (let h = b.0 in omega arith, b.1) (ap (λ (x : Left). x.1) e ∙ sym (ap (λ k. left_in k (overwritten desk (zeros desk) c.work) c.work) u))
          (ap (λ (x : Left). x.2) e ∙ sym (ap (λ k. left_in k (overwritten desk (zeros desk) c.answer) c.answer) u)) (ap (λ (x : Left). x.3) e)
      by (answered ls n) d e =
          let t = tells-from ls n d e in
          told t.from.promised t.tells (ap (λ (x : Left). x.1) e)
          (ap (λ (x : Left). x.2) e ∙ ap (λ ks. overwritten desk (answer_words desk ks) c.answer) (sym (ap numbered_of t.from.lines ∙ numbered-back ls)))

  -- 1 to 10 and 21 come back exactly when the table says so, as from solving
  pub example-given : (e : Refusal) → SolvingNumber (number_of e) → (c.returned ≡ Err e) ↔ First (SolveFault (length c.work) (length c.answer) c.question) e
  example-given e few = by comes says (solve-judged (length c.work) (length c.answer) c.question)
    where
      same : {r : Refusal} {o : Result ℕ Refusal} → o ≡ Err r → o ≡ Err e → r ≡ e
      same p q = cc

      by : (v : Solving) → came ≡ left v → SolveJudged (length c.work) (length c.answer) c.question v
          → (c.returned ≡ Err e) ↔ First (SolveFault (length c.work) (length c.answer) c.question) e
      by (answered ls n) f j = (
        λ d. absurd (let p = late-number c.old_sheets (counts_of c.question) (length c.room) e (line_at c.line ls) (sym (ap (λ (x : Left). x.0) f) ∙ d) in of-line p.0 p.1 few),
        λ g. absurd (j e g.here),
      )
      by (unread r) f j = let is = ap (λ (x : Left). x.0) f in (λ d. rw (← same is d) j, λ g. is ∙ ap Err (first_one (SolveFault (length c.work) (length c.answer) c.question) (place_for c.question) (solve-place (length c.work) (length c.answer) c.question) r e j g))
      by (given-up r) f j = let is = ap (λ (x : Left). x.0) f in (λ d. rw (← same is d) j, λ g. is ∙ ap Err (first_one (SolveFault (length c.work) (length c.answer) c.question) (place_for c.question) (solve-place (length c.work) (length c.answer) c.question) r e j g))

  -- a length comes back only with a filling of so many words that meets the line asked for,
  pub shows-so : (m : ℕ) → c.returned ≡ Ok m
      → (p : Promised c.question c.answer_left) × (k : Line) × (nth_line c.line p.lines ≡ some k) × (k.mark ≡ 1) × RoomShows c.old_sheets p.asked.counts k m c.room c.room_left
  shows-so m e = by tells
    where
      no : {A : Type 0} {r : Refusal} → c.returned ≡ Err r → A
      no d = absurd (let z : ◌≡◌ {A = ℕ} 0 1 = cc in omega arith)

      by : ExampleTells c
          → (p : Promised c.question c.answer_left) × (k : Line) × (nth_line c.line p.lines ≡ some k) × (k.mark ≡ 1) × RoomShows c.old_sheets p.asked.counts k m c.room c.room_left
      by (refuses r d _ _ _ _) = no d
      by (told p (missing _ d _) _ _) = no d
      by (told p (is_open _ _ _ d _) _ _) = no d
      by (told p (too_long _ _ _ _ d _) _ _) = no d
      by (told p (is-shown k j there mark _ _ _ d s) _ _) = let z : j ≡ m = cc in (p, k, there, mark, rw z at s)

  -- and 16 only where the line is settled and its example is longer than the room lent or than a filling may be
  pub long-so : c.returned ≡ Err LongExample
      → (p : Promised c.question c.answer_left) × (k : Line) × (nth_line c.line p.lines ≡ some k) × (k.mark ≡ 1)
      × ((desk.filling < length (example_words c.old_sheets p.asked.counts k)) ⊎ (length c.room < length (example_words c.old_sheets p.asked.counts k)))
  long-so e = by tells
    where
      by : ExampleTells c
          → (p : Promised c.question c.answer_left) × (k : Line) × (nth_line c.line p.lines ≡ some k) × (k.mark ≡ 1)
          × ((desk.filling < length (example_words c.old_sheets p.asked.counts k)) ⊎ (length c.room < length (example_words c.old_sheets p.asked.counts k)))
      by (refuses r d b _ _ _) = absurd (let z : r ≡ LongExample = cc in let y = ap number_of z in of-line {n = number_of r} (omega arith) (omega arith) b.1)
      by (told p (missing _ d _) _ _) = absurd (let z : ◌≡◌ {A = ℕ} 0 1 = cc in omega arith)
      by (told p (is_open _ _ _ d _) _ _) = absurd (let z : ◌≡◌ {A = ℕ} 0 1 = cc in omega arith)
      by (told p (too_long k there mark l _ _) _ _) = (p, k, there, mark, l)
      by (told p (is-shown _ _ _ _ _ _ _ d _) _ _) = absurd (let z : ◌≡◌ {A = ℕ} 0 1 = cc in omega arith)

-- the lines that solve left decide what the example tells
pub follows : (s : Solve) (z : outcome_number s.returned.outcome ≡ 0) (c : Example) → s.question ≡ c.question
    → desk.room ≤ length c.work → desk.room ≤ length c.answer → (p : Promised s.question s.answer_left)
    → Told c.old_sheets p.asked.counts c.room (nth_line c.line p.lines) c.returned c.room_left
follows s z c same x y p =
    let v = solves s z in
    let d : comes c ≡ answered v.ls v.n =
    long-enough (length s.work) (length s.answer) _ _ _ v.ls v.n (ap (solving desk (length s.work) (length s.answer)) (sym same) ∙ v.solved) x y in
    let t = tells-from c v.ls v.n d (says c ∙ ap (left c) d) in
    let w = one_answer same p t.from.promised in
    rw (w.0, w.1) t.tells
