-- Between calls on one question: its lines are determined, and slices that are long enough change nothing.
use Prim.Native.Nat.{ℕ, ◌≤◌}
use mathlib.Core.Path.{◌≡◌, refl, sym, ap, ap₂, ◌∙◌}
use mathlib.Core.Bool.{Bool, true, false}
use mathlib.Core.List.{List, [], ◌∷◌, map}
use native.Mathlib.Omega.{arith}
use borrow.Author.Tests.{le-ltb}
use lib.Dec.{ltb}
use lib.ListN.{drop}
use Rattle.language.specs.declared.Refusal.{Refusal}
use Rattle.language.specs.declared.Refusal.TheVariants.{ShortSlice}
use Rattle.language.specs.Numbers.{number_of}
use Rattle.language.specs.Limits.{desk}
use Rattle.language.specs.Trees.{signature, Question}
use Rattle.language.specs.Question.{Asked, asks, read_question}
use Rattle.rules.specs.Run.{Numbered, Outcome, finished, run}
use Rattle.rules.specs.Answer.{Solving, answered, unread, solving_of, solving, mark_of}
use Rattle.rules.specs.Each.{Each}
use Rattle.solver.specs.Leaves.{leaves}
use Rattle.answer_example.specs.Answers.{Answer}
use Rattle.example.proofs.Finished.{lines_end}
use Rattle.language.proofs.Numbering.{each_number}
use Rattle.demands.specs.Answers.{Line, numbered_of}
use Rattle.demands.specs.Promises.{Promised}
use Rattle.demands.proofs.Reading.{as_line}

-- no refusal has the number 0
pub not-zero : {A : Type 0} (r : Refusal) → number_of r ≡ 0 → A
not-zero r e = absurd (let b = each_number r in omega arith)

-- the answer that solving left in a slice that held these words
pub stands : (work answer : ℕ) (question old : List ℕ) (ls : List Numbered) (n : ℕ) → solving desk work answer question ≡ answered ls n → Answer (leaves (answered ls n) [] old).2 ls
stands work answer question old ls n e =
    let g = lines_end work answer question ls n e in
    record { few = g.few; size = g.size; rest = drop desk.room old; words = refl; lines = g.lines }

-- the question is read in one way, and its run has one end
pub one_answer : {q r : List ℕ} → q ≡ r → {a b : List ℕ} (p : Promised q a) (o : Promised r b) → (p.asked ≡ o.asked) × (p.lines ≡ o.lines)
one_answer e p o =
    let same : p.asked ≡ o.asked = asks-one p.question-read (ap (read_question desk) e ∙ o.question-read) in
    let ran : numbered_of p.lines ≡ numbered_of o.lines = finished-one p.by-rules.run (ap (λ (x : Question). run desk (signature x.counts) x.alternatives) same ∙ o.by-rules.run) in
    (same, whole p.lines p.by-rules.marks ∙ ap (map as_line) ran ∙ sym (whole o.lines o.by-rules.marks))
  where
    asks-one : {x : Asked} {y z : Question} → x ≡ asks y → x ≡ asks z → y ≡ z
    asks-one d e = cc

    finished-one : {x : Outcome} {k l : List Numbered} {m n : ℕ} → x ≡ finished k m → x ≡ finished l n → k ≡ l
    finished-one d e = cc

    whole : (ls : List Line) → Each (λ l. l.mark ≡ mark_of l.literals) ls → ls ≡ map as_line (numbered_of ls)
    whole [] e = refl
    whole (l ∷ ls) e = ap₂ (λ m ks. record { mark = m; number = l.number; literals = l.literals } ∷ ks) e.0 (whole ls e.1)

-- ---- slices that are long enough

pub long-solving : (work answer : ℕ) (q : List ℕ) → desk.room ≤ work → desk.room ≤ answer → solving desk work answer q ≡ solving_of desk (read_question desk q)
unfolding solving
long-solving work answer q x y =
    ap (λ t. elim t as (λ _. Solving) [ true ↦ unread ShortSlice | false ↦ elim (ltb answer desk.room) [ true ↦ unread ShortSlice | false ↦ solving_of desk (read_question desk q) ] ]) (le-ltb work desk.room x)
    ∙ ap (λ t. elim t as (λ _. Solving) [ true ↦ unread ShortSlice | false ↦ solving_of desk (read_question desk q) ]) (le-ltb answer desk.room y)

-- what is answered was answered so in long slices
answered-long : (work answer : ℕ) (q : List ℕ) (ls : List Numbered) (n : ℕ) → solving desk work answer q ≡ answered ls n → solving_of desk (read_question desk q) ≡ answered ls n
unfolding solving
answered-long work answer q ls n e = go (ltb work desk.room) (ltb answer desk.room) e
  where
    go : (s t : Bool) → elim s [ true ↦ unread ShortSlice | false ↦ elim t [ true ↦ unread ShortSlice | false ↦ solving_of desk (read_question desk q) ] ] ≡ answered ls n
        → solving_of desk (read_question desk q) ≡ answered ls n
    go true t f = absurd (let z : ◌≡◌ {A = ℕ} 0 1 = cc in omega arith)
    go false true f = absurd (let z : ◌≡◌ {A = ℕ} 0 1 = cc in omega arith)
    go false false f = f

-- so a question that is answered in some slices is answered in all that are long enough
pub long-enough : (work answer v b : ℕ) (q : List ℕ) (ls : List Numbered) (n : ℕ) → solving desk work answer q ≡ answered ls n → desk.room ≤ v → desk.room ≤ b
    → solving desk v b q ≡ answered ls n
long-enough work answer v b q ls n e x y = long-solving v b q x y ∙ answered-long work answer q ls n e
