-- What the solver's answer and the example say of a pair, from the contracts of these calls (by the theorems of `demands`).
use Prim.Native.Nat.{ℕ, zero, suc, ◌+◌, ◌-◌}
use mathlib.Core.Path.{◌≡◌, refl, sym, ap, ap₂, ◌∙◌}
use mathlib.Core.Bool.{Bool, true, false}
use mathlib.Core.List.{List, [], ◌∷◌, map}
use mathlib.Core.Option.{Option, none, some}
use native.Mathlib.Omega.{arith}
use native.Mathlib.Nat.{zero-add}
use lib.Dec.{eqb}
use lib.ListN.{length, get_or, take, drop}
use lib.Seq.{take_at, drop-nil}
use Rattle.language.specs.Limits.{desk}
use Rattle.language.specs.Kinds.{pick}
use Rattle.language.specs.Trees.{Counts}
use Rattle.language.specs.Reading.{Got, got, stop, read_conj}
use Rattle.rules.specs.Solved.{solved}
use Rattle.rules.specs.Run.{Numbered}
use Rattle.rules.specs.Answer.{mark_of, Solving, answered, unread, given-up, solving}
use Rattle.rules.specs.Calls.{Showing, shows, denied, showing}
use Rattle.outcomes.specs.declared.Solved.{Solved}
use Rattle.outcomes.specs.Numbers.{SolveNumbers, outcome_number, solved_numbers}
use Rattle.solver.specs.Leaves.{told_leaves}
use Rattle.line_example.specs.Shown.{numbers_of, room_of}
use Rattle.example.specs.Exhibits.{told_exhibits}
use Rattle.demands.specs.Solves.{Solve}
use Rattle.demands.specs.Answers.{Line, marked, read_line, line_in, with_line, read_lines, read_answer}
use Rattle.demands.proofs.Between.{not-zero}
use Rattle.demands.proofs.Reading.{as_line}
use Rattle.demands.proofs.Solving as solver
use Rattle.pairing.specs.Meeting.{refused, first_settled, reported, meeting_of}
use Rattle.pairing.specs.Lent.{marked_from}

none≢ : {A B : Type 0} {a : A} → ◌≡◌ {A = Option A} none (some a) → B
none≢ e = absurd (let z : ◌≡◌ {A = ℕ} 0 1 = cc in omega arith)

-- ---- the marks that are read off an answer's words

first-word : (n o : ℕ) (ws : List ℕ) (m : ℕ) (us : List ℕ) → take n (drop o ws) ≡ m ∷ us → get_or ws o 0 ≡ m
first-word zero o ws m us e = absurd (let z = ap length e in omega arith)
first-word (suc n) o [] m us e = absurd (let z = ap length (sym (ap (take (suc n)) (drop-nil {A = ℕ} o)) ∙ e) in omega arith)
first-word (suc n) zero (w ∷ ws) m us e = cc
first-word (suc n) (suc o) (w ∷ ws) m us e = first-word (suc n) o ws m us e

line-mark : (ws : List ℕ) (i : ℕ) (l : Line) → read_line desk (line_in ws i) ≡ some l → get_or ws (get_or ws (i + 2) 0) 0 ≡ l.mark
line-mark ws i l e = on (line_in ws i) refl e
  where
    of : (m a : ℕ) (g : Got _) → marked m a g ≡ some l → m ≡ l.mark
    of m a (got k n) f = cc
    of m a (stop n) f = none≢ f

    on : (us : List ℕ) → line_in ws i ≡ us → read_line desk us ≡ some l → get_or ws (get_or ws (i + 2) 0) 0 ≡ l.mark
    on [] d f = none≢ f
    on (m ∷ []) d f = none≢ f
    on (m ∷ (a ∷ us)) d f = first-word (get_or ws (i + 3) 0 - get_or ws (i + 2) 0) (get_or ws (i + 2) 0) ws m (a ∷ us) d ∙ of m a (read_conj desk us) f

mark-solved : (k : Numbered) → eqb (mark_of k.literals) 1 ≡ solved k.literals
mark-solved k = on (solved k.literals)
  where
    on : (b : Bool) → eqb (pick b 1 2) 1 ≡ b
    on true = refl
    on false = refl

marks : (ws : List ℕ) (i n : ℕ) (ls : List Numbered) → read_lines desk ws i n ≡ some (map as_line ls) → (n ≡ length ls) × (marked_from ws i n ≡ i + first_settled ls)
unfolding marked_from
marks ws i zero [] e = (refl, omega arith)
marks ws i zero (k ∷ ks) e = absurd (let z : ◌≡◌ {A = List Line} [] (map as_line (k ∷ ks)) = cc in let y = ap length z in omega arith)
marks ws i (suc n) ls e = on (read_line desk (line_in ws i)) refl (read_lines desk ws (suc i) n) refl ls e (marks ws (suc i) n)
  where
    on : (l : Option Line) → read_line desk (line_in ws i) ≡ l → (o : Option (List Line)) → read_lines desk ws (suc i) n ≡ o → (ls : List Numbered) → with_line l o ≡ some (map as_line ls)
        → ((ks : List Numbered) → read_lines desk ws (suc i) n ≡ some (map as_line ks) → (n ≡ length ks) × (marked_from ws (suc i) n ≡ suc i + first_settled ks))
        → (suc n ≡ length ls) × (pick (eqb (get_or ws (get_or ws (i + 2) 0) 0) 1) i (marked_from ws (suc i) n) ≡ i + first_settled ls)
    on none d o f ls e rest = none≢ e
    on (some l) d none f ls e rest = none≢ e
    on (some l) d (some js) f [] e rest = absurd (let z : ◌≡◌ {A = List Line} (l ∷ js) [] = cc in let y = ap length z in omega arith)
    on (some l) d (some js) f (k ∷ ks) e rest =
        let a : l ≡ as_line k = cc in
        let b : js ≡ map as_line ks = cc in
        let (c, r) = rest ks (f ∙ ap some b) in
        let m : eqb (get_or ws (get_or ws (i + 2) 0) 0) 1 ≡ solved k.literals = ap (λ m. eqb m 1) (line-mark ws i l d ∙ ap (λ (l : Line). l.mark) a) ∙ mark-solved k in
        (ap suc c, ap (λ t. pick t i (marked_from ws (suc i) n)) m ∙ pick-of (solved k.literals) r)
      where
        pick-of : (t : Bool) → marked_from ws (suc i) n ≡ suc i + first_settled ks → pick t i (marked_from ws (suc i) n) ≡ i + pick t 0 (suc (first_settled ks))
        pick-of true r = omega arith
        pick-of false r = r ∙ (let z : suc i + first_settled ks ≡ i + suc (first_settled ks) = omega arith in z)

read : (ws : List ℕ) (ls : List Line) → read_answer desk ws ≡ some ls → read_lines desk ws 0 (get_or ws 0 0) ≡ some ls
unfolding read_answer
read ws ls r = r

-- ---- what solve came to

module _ (q w a w' a' : List ℕ) (s : Solved) (lw : length w ≡ desk.room) (la : length a ≡ desk.room)
    (e : ◌≡◌ {A = SolveNumbers × List ℕ × List ℕ} (solved_numbers s, w', a') (told_leaves (solving desk (length w) (length a) q) w a)) where
  abbrev v : Solving
  v = solving desk desk.room desk.room q

  same : solving desk (length w) (length a) q ≡ v
  same = rw (lw, la) refl

  abbrev call : Solve
  call = record { question = q; work = w; answer = a; returned = s; work_left = w'; answer_left = a'; said = e }

  told : (solved_numbers s, w', a') ≡ told_leaves v w a
  told = e ∙ ap (λ (v : Solving). told_leaves v w a) same

  -- a refusal's number is the pair's
  pub solve-refused : (room word : ℕ) (ps qs : List ℕ) (k : ℕ) → k ≡ outcome_number s.outcome → (k ≡ 0 → ⊥) → meeting_of room word ps qs v ≡ refused k
  solve-refused room word ps qs k ek nz = on v told
    where
      on : (v : Solving) → (solved_numbers s, w', a') ≡ told_leaves v w a → meeting_of room word ps qs v ≡ refused k
      on (answered ls n) t = absurd (nz (ek ∙ ap (λ (x : SolveNumbers × List ℕ × List ℕ). x.0.number) t))
      on (unread r) t = ap refused (sym (ek ∙ ap (λ (x : SolveNumbers × List ℕ × List ℕ). x.0.number) t))
      on (given-up r) t = ap refused (sym (ek ∙ ap (λ (x : SolveNumbers × List ℕ × List ℕ). x.0.number) t))

  -- and else there are lines, and the first that is marked settled is the first settled one
  pub record Lines : Type 0 where
    pub lines : List Numbered
    pub steps : ℕ
    pub comes : v ≡ answered lines steps
    pub how-many : get_or a' 0 0 ≡ length lines
    pub first : marked_from a' 0 (get_or a' 0 0) ≡ first_settled lines

  pub solve-answered : outcome_number s.outcome ≡ 0 → Lines
  solve-answered z =
      let x = solver.solves call z in
      let p = x.answered.answered.promised in
      let d : v ≡ answered x.ls x.n = sym same ∙ x.solved in
      let m = marks a' 0 (get_or a' 0 0) x.ls (read a' p.lines p.answer-read ∙ ap some x.lines) in
      record { lines = x.ls; steps = x.n; comes = d; how-many = m.0; first = m.1 ∙ zero-add (first_settled x.ls) }

-- ---- what the example came to

module _ (q w a own w' a' own' : List ℕ) (line : ℕ) (r : ℕ × ℕ × ℕ) (lw : length w ≡ desk.room) (la : length a ≡ desk.room) (lo : length own ≡ desk.filling)
    (e : ◌≡◌ {A = (ℕ × ℕ × ℕ) × List ℕ × List ℕ × List ℕ} (r, w', a', own') (told_exhibits line false q w a own)) where
  abbrev shown_here : Showing
  shown_here = showing desk false desk.room desk.room desk.filling line q

  alike : showing desk false (length w) (length a) (length own) line q ≡ shown_here
  alike = rw (lw, la, lo) refl

  numbers : r ≡ numbers_of shown_here
  unfolding told_exhibits
  numbers = ap (λ (x : (ℕ × ℕ × ℕ) × List ℕ × List ℕ × List ℕ). x.0) e ∙ ap numbers_of alike

  room-left : own' ≡ room_of shown_here own
  unfolding told_exhibits
  room-left = ap (λ (x : (ℕ × ℕ × ℕ) × List ℕ × List ℕ × List ℕ). x.3) e ∙ ap (λ (s : Showing). room_of s own) alike

  -- a refusal's number is the pair's
  pub example-refused : (room : ℕ) (n : Counts) (pattern : List ℕ) (k : ℕ) → k ≡ r.0 → (k ≡ 0 → ⊥) → reported room n pattern shown_here ≡ refused k
  example-refused room n pattern k ek nz = on shown_here numbers
    where
      on : (s : Showing) → r ≡ numbers_of s → reported room n pattern s ≡ refused k
      on (shows fs) d = absurd (nz (ek ∙ ap (λ (x : ℕ × ℕ × ℕ). x.0) d))
      on (denied x) d = ap refused (sym (ek ∙ ap (λ (x : ℕ × ℕ × ℕ). x.0) d))

  -- and else the room holds a filling
  pub record Filled (k : ℕ) : Type 0 where
    pub words : List ℕ
    pub shown : shown_here ≡ shows words
    pub size : k ≡ length words
    pub there : take k own' ≡ words

  pub example-shown : r.0 ≡ 0 → (k : ℕ) → k ≡ r.2 → Filled k
  example-shown z k ek = on shown_here refl numbers room-left
    where
      on : (s : Showing) → shown_here ≡ s → r ≡ numbers_of s → own' ≡ room_of s own → Filled k
      on (shows fs) c d f =
          let g : k ≡ length fs = ek ∙ ap (λ (x : ℕ × ℕ × ℕ). x.2) d in
          record { words = fs; shown = c; size = g; there = ap₂ take g f ∙ take_at fs (drop (length fs) own) (length fs) refl }
      on (denied x) c d f = not-zero x (sym (ap (λ (x : ℕ × ℕ × ℕ). x.0) d) ∙ z)
