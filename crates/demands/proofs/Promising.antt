-- An answered question: what its words and the answer's words promise, and what is told of its lines' examples. No call is spoken of here.
use Prim.Native.Nat.{ℕ, ◌≤◌}
use mathlib.Core.Path.{◌≡◌, refl, sym, ap, subst, ◌∙◌}
use mathlib.Core.Logic.Iff
use mathlib.Core.Logic.{◌↔◌, inl, inr}
use mathlib.Core.Bool.{Bool, true, false, ◌||◌}
use mathlib.Core.List.{List, [], ◌∷◌, map}
use mathlib.Core.Option.{Option, none, some}
use native.Mathlib.Omega.{arith}
use borrow.Author.Tests.{ltb-true, ltb-false}
use lib.Dec.{ltb}
use lib.ListN.{length, drop}
use lib.Seq.{take-append_seam, drop-append_seam}
use Rattle.language.specs.declared.Refusal.TheVariants.{OpenLine, LongExample}
use Rattle.language.specs.declared.Signature.{Signature}
use Rattle.language.specs.Limits.{desk}
use Rattle.language.specs.Kinds.{pick}
use Rattle.language.specs.Trees.{Conj, Counts, signature, Question}
use Rattle.language.specs.Question.{asks, read_question, counts_fit, counts_of, alternatives_of, declared_c}
use Rattle.meaning.specs.Meaning.{Filling, MeetsAll, MeetsOne, MeetsQuestion}
use Rattle.meaning.specs.Values.{read_filling, filling_words}
use Rattle.rules.specs.Reply.{nothing}
use Rattle.rules.specs.Step.{step}
use Rattle.rules.specs.Solved.{solved}
use Rattle.rules.specs.Run.{Numbered, EachLine, unnumbered, finished, run}
use Rattle.rules.specs.Answer.{mark_of, answered, solving}
use Rattle.rules.specs.Example.{default_symbol, example}
use Rattle.rules.specs.Calls.{line_at, Showing, shows, denied, fitted, shown}
use Rattle.rules.specs.Each.{Each}
use Rattle.rules.proofs.Each.{each_map}
use Rattle.rules.proofs.Invariant.{answered-run}
use Rattle.exact.specs.Numbers.{MeetsAt, MeetsNumbered}
use Rattle.exact.proofs.Run.{run-numbered, run-same}
use Rattle.rules.proofs.Invariant.{lines_rest}
use Rattle.exact.proofs.Declared.{lines-declared, read-declared}
use Rattle.lines.specs.Matching.{Matching}
use Rattle.lines.proofs.Lines.{example-either-setting, example-written, matching-lines-solved}
use Rattle.lines.proofs.Shown.{each_line, read-counts}
use Rattle.line_example.specs.Shown.{result_of, room_of}
use Rattle.answer_example.specs.Answers.{Answer}
use Rattle.demands.specs.Answers.{Line, MeetsLine, nth_line}
use Rattle.demands.specs.Promises.{Exact, Promised, Told, missing, is_open, too_long, shown as is-shown}
use Rattle.demands.proofs.Reading.{as_line, answer_back, meets-back, numbers-back, numbered-back, as_line_of, nth-line}

-- no rule applies
abbrev Quiet : Counts → Conj → Type 0
Quiet n k = step (signature n) k ≡ nothing

-- ---- marks

settled-mark : (k : Conj) → mark_of k ≡ 1 → solved k ≡ true
settled-mark k e = go (solved k) e
  where
    go : (b : Bool) → pick {A = ℕ} b 1 2 ≡ 1 → b ≡ true
    go true e = refl
    go false e = absurd (let z : ◌≡◌ {A = ℕ} 2 1 = e in omega arith)

mark-settled : (k : Conj) → solved k ≡ true → mark_of k ≡ 1
mark-settled k e = ap (λ b. pick {A = ℕ} b 1 2) e

mark-open : (k : Conj) → solved k ≡ false → mark_of k ≡ 2
mark-open k e = ap (λ b. pick {A = ℕ} b 1 2) e

pub each-line-of : (P : Line → Type 0) (Q : Conj → Type 0) → ((k : Numbered) → Q k.literals → P (as_line k)) → (ls : List Numbered) → EachLine Q ls → Each P (map as_line ls)
each-line-of P Q h ls q = each_map (λ (k : Numbered). Q k.literals) P as_line h ls q

every-line : (P : Line → Type 0) → ((k : Numbered) → P (as_line k)) → (ls : List Numbered) → Each P (map as_line ls)
every-line P h [] = tt
every-line P h (k ∷ ls) = (h k, every-line P h ls)

-- what is promised, and that its lines and steps are these
pub record From (question words : List ℕ) (ls : List Numbered) (n : ℕ) : Type 0 where
  pub promised : Promised question words
  pub lines : promised.lines ≡ map as_line ls
  pub steps : promised.by-rules.steps ≡ n

each_both : (P Q : Numbered → Type 0) (ls : List Numbered) → Each P ls → Each Q ls → Each (λ k. P k × Q k) ls
each_both P Q [] p q = tt
each_both P Q (k ∷ ls) p q = ((p.0, q.0), each_both P Q ls p.1 q.1)

-- the example of a settled line of the question meets it
met-by-example : (question : List ℕ) (q : Question) → read_question desk question ≡ asks q → (k : Conj) → declared_c q.counts k ≡ true → solved k ≡ true → Quiet q.counts k
    → MeetsAll (signature q.counts) (example (default_symbol false q.counts) k) k
met-by-example question q asked k d s quiet =
    let c = (read-declared desk question q asked).0 in
    (example-either-setting desk false q.counts (alternatives_of question) k (ap (λ n. counts_fit desk n (alternatives_of question)) c ∙ read-counts desk question q asked) d s quiet).0

-- ---- lines that keep demand 3, whether they are the run's or a replay's

pub record Kept (question : List ℕ) (ls : List Numbered) : Type 0 where
  pub asked : Question
  pub question-read : read_question desk question ≡ asks asked
  pub same : (ρ : Filling) → MeetsQuestion ρ asked ↔ MeetsOne (signature asked.counts) ρ (unnumbered ls)
  pub numbered : (ρ : Filling) (m : ℕ) → MeetsAt (signature asked.counts) ρ m asked.alternatives ↔ MeetsNumbered (signature asked.counts) ρ m ls
  pub quiet : EachLine (Quiet asked.counts) ls
  pub declared : EachLine (λ k. declared_c asked.counts k ≡ true) ls
  pub matched : Each Matching asked.alternatives → EachLine (λ k. solved k ≡ true) ls

pub marks-of : (ls : List Numbered) → Each (λ l. l.mark ≡ mark_of l.literals) (map as_line ls)
marks-of ls = every-line (λ l. l.mark ≡ mark_of l.literals) (λ k. refl) ls

module _ {question : List ℕ} {ls : List Numbered} (k : Kept question ls) where
  abbrev σ : Signature
  σ = signature k.asked.counts

  pub exact-of : Exact k.asked (map as_line ls)
  exact-of = record {
    same = λ ρ. Iff.trans (k.same ρ) (meets-back σ ρ ls);
    numbered = λ ρ m. Iff.trans (k.numbered ρ m) (numbers-back σ ρ m ls);
    met = each-line-of (λ l. l.mark ≡ 1 → (ρ : Filling) × MeetsLine σ ρ l) (λ j. Quiet k.asked.counts j × (declared_c k.asked.counts j ≡ true))
        (λ j p m. (example (default_symbol false k.asked.counts) j.literals, met-by-example question k.asked k.question-read j.literals p.1 (settled-mark j.literals m) p.0)) ls
        (each_both (λ (j : Numbered). Quiet k.asked.counts j.literals) (λ (j : Numbered). declared_c k.asked.counts j.literals ≡ true) ls k.quiet k.declared);
    matched = λ m. each-line-of (λ l. l.mark ≡ 1) (λ j. solved j ≡ true) (λ j s. mark-settled j.literals s) ls (k.matched m);
  }

-- ---- the example of line i

module _ {question : List ℕ} {ls : List Numbered} (kept : Kept question ls) where
  module _ (old_sheets : Bool) (i : ℕ) (room : List ℕ) where
    abbrev Tells : Showing → Option Line → Type 0
    Tells s l = Told old_sheets (counts_of question) room l (result_of s) (room_of s room)

    fits : (k : Numbered) → line_at i ls ≡ some k → solved k.literals ≡ true → (a b : Bool)
        → ltb desk.filling (length (filling_words (counts_of question) (example (default_symbol old_sheets (counts_of question)) k.literals))) ≡ a → ltb (length room) (length (filling_words (counts_of question) (example (default_symbol old_sheets (counts_of question)) k.literals))) ≡ b
        → Tells (elim (a || b) [ true ↦ denied LongExample | false ↦ shows (filling_words (counts_of question) (example (default_symbol old_sheets (counts_of question)) k.literals)) ]) (some (as_line k))
    fits k there s true b x y = too_long (as_line k) refl (mark-settled k.literals s) (inl (ltb-true desk.filling _ x)) refl refl
    fits k there s false true x y = too_long (as_line k) refl (mark-settled k.literals s) (inr (ltb-true (length room) _ y)) refl refl
    fits k there s false false x y =
        let ws = filling_words (counts_of question) (example (default_symbol old_sheets (counts_of question)) k.literals) in
        let q = kept.asked in
        let asked = kept.question-read in
        let counts = (read-declared desk question q asked).0 in
        let dec = each_line (λ j. declared_c q.counts j ≡ true) i ls k there kept.declared in
        let quiet = each_line (Quiet q.counts) i ls k there kept.quiet in
        let short : length ws ≤ desk.filling = ltb-false desk.filling (length ws) x in
        let (ρ, back, agree, m) = example-written desk old_sheets (counts_of question) (alternatives_of question) k.literals (read-counts desk question q asked) (rw counts at dec) s (rw counts at quiet) short in
        let front = take-append_seam ws (drop (length ws) room) in
        is-shown (as_line k) (length ws) refl (mark-settled k.literals s) refl short (ltb-false (length room) (length ws) y) refl
        (record {
          filling = ρ;
          words = front;
          read = ap (read_filling desk (counts_of question)) front ∙ back;
          agrees = agree;
          meets = m;
          rest = drop-append_seam ws (drop (length ws) room);
        })

    settled : (k : Numbered) → line_at i ls ≡ some k → (b : Bool) → solved k.literals ≡ b
        → Tells (elim b [ true ↦ fitted desk (length room) (filling_words (counts_of question) (example (default_symbol old_sheets (counts_of question)) k.literals)) | false ↦ denied OpenLine ]) (some (as_line k))
    settled k there true s = fits k there s _ _ refl refl
    settled k there false s = is_open (as_line k) refl (mark-open k.literals s) refl refl

    at-line : (o : Option Numbered) → line_at i ls ≡ o → Tells (shown desk old_sheets (counts_of question) (length room) o) (as_line_of o)
    at-line none there = missing refl refl refl
    at-line (some k) there = settled k there (solved k.literals) refl

    pub tell-of : Tells (shown desk old_sheets (counts_of question) (length room) (line_at i ls)) (nth_line i (map as_line ls))
    tell-of = subst (Tells (shown desk old_sheets (counts_of question) (length room) (line_at i ls))) (sym (nth-line i ls)) (at-line (line_at i ls) refl)

-- ---- an answered question

module _ (work answer : ℕ) (question : List ℕ) (ls : List Numbered) (n : ℕ) (e : solving desk work answer question ≡ answered ls n) where
  run-kept : (q : Question) → read_question desk question ≡ asks q → run desk (signature q.counts) q.alternatives ≡ finished ls n → Kept question ls
  run-kept q asked ran = record {
    asked = q;
    question-read = asked;
    same = λ ρ. run-same (signature q.counts) desk q.alternatives ls n ran ρ;
    numbered = λ ρ m. run-numbered (signature q.counts) desk q.alternatives ls n ran ρ m;
    quiet = lines_rest (signature q.counts) desk q.alternatives ls n ran;
    declared = lines-declared q.counts desk q.alternatives ls n ran (read-declared desk question q asked).1;
    matched = λ m. matching-lines-solved (signature q.counts) desk q.alternatives ls n ran m;
  }

  pub promise : (words : List ℕ) → Answer words ls → From question words ls n
  unfolding run-kept
  promise words a =
      let (q, asked, ran) = answered-run desk work answer question ls n e in
      record {
        promised = record {
          asked = q;
          question-read = asked;
          lines = map as_line ls;
          answer-read = answer_back a;
          by-rules = record { steps = n; run = rw numbered-back ran; marks = marks-of ls };
          exact = exact-of (run-kept q asked ran);
        };
        lines = refl;
        steps = refl;
      }

  pub tell : (old_sheets : Bool) (i : ℕ) (room : List ℕ)
      → Told old_sheets (counts_of question) room (nth_line i (map as_line ls)) (result_of (shown desk old_sheets (counts_of question) (length room) (line_at i ls))) (room_of (shown desk old_sheets (counts_of question) (length room) (line_at i ls)) room)
  tell old_sheets i room = let (q, asked, ran) = answered-run desk work answer question ls n e in tell-of (run-kept q asked ran) old_sheets i room
