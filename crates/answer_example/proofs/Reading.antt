-- A line read back from an answer, and its example.
use Prim.Native.Nat.{ℕ, ◌+◌, ◌-◌, ◌%◌, ◌<◌, ◌≤◌}
use mathlib.Core.Path.{◌≡◌, refl, sym, ap, ◌∙◌}
use mathlib.Core.Bool.{Bool, true, false}
use mathlib.Core.List.{List, [], ◌∷◌, ◌++◌}
use native.Mathlib.Omega.{arith}
use lib.ListN.{length, get_or, take, drop}
use lib.Seq.{take-append_seam}
use Rattle.std.specs.Prelude.{Result, Err}
use Rattle.language.specs.declared.Refusal.{Refusal}
use Rattle.language.specs.declared.Refusal.TheVariants.{NoSuchLine, OpenLine}
use Rattle.language.specs.declared.Sym.{Sym}
use Rattle.language.specs.Kinds.{pick}
use Rattle.language.specs.Limits.{desk}
use Rattle.language.specs.Trees.{Conj, Counts}
use Rattle.language.specs.Writing.{conj_words}
use Rattle.language.specs.Question.{counts_of}
use Rattle.meaning.specs.Values.{filling_words}
use Rattle.rules.specs.Solved.{solved}
use Rattle.rules.specs.Run.{Numbered}
use Rattle.rules.specs.Answer.{mark_of, line_words}
use Rattle.rules.specs.Example.{default_symbol, example}
use Rattle.rules.specs.Calls.{Showing, denied, fitted, shown}
use Rattle.answers.specs.Lined.{line_head}
use Rattle.values.specs.Lines.{Line}
use Rattle.values.specs.Values.{SettledLine}
use Rattle.words.proofs.Parts.{drop_of, word-of}
use Rattle.line_example.specs.Shown.{result_of, room_of}
use Rattle.line_example.specs.Fillings.{LineShown}
use Rattle.answer_example.specs.Answers.{Good, Answer, Answered, LineIn, WordsShown, PartShown, AnswerShown}
use Rattle.answer_example.proofs.Lines.{no_line, Place, whole, count-is, place_of}

-- ---- with the variables that the question declares

pub words-shown : {question k old new : List ℕ} {old_sheets : Bool} {terms hedges functions : ℕ} {any : Sym} {r : Result ℕ Refusal} → terms ≡ get_or question 1 0 → hedges ≡ get_or question 2 0 → functions ≡ get_or question 3 0
    → ((n : Counts) → n.symbols ≡ get_or question 0 0 % 256 → any ≡ default_symbol old_sheets n) → LineShown k terms hedges functions any old new r → WordsShown question old_sheets k old new r
words-shown {question} {old = old} d e f g s = record {
  result = λ c l t. s.result c (counts_of question) l t (record { terms = sym d; hedges = sym e; functions = sym f }) ∙ ap (λ z. result_of (filled z c)) (g (counts_of question) refl);
  room = λ c l t. s.room c (counts_of question) l t (record { terms = sym d; hedges = sym e; functions = sym f }) ∙ ap (λ z. room_of (filled z c) old) (g (counts_of question) refl);
}
  where
    filled : Sym → Conj → Showing
    filled any c = fitted desk (length old) (filling_words (counts_of question) (example any c))

-- ---- by its mark

by-mark : (b : Bool) → ◌≡◌ {A = ℕ} (pick b 1 2) 1 → b ≡ true
by-mark true e = refl
by-mark false e = absurd (omega arith)

by-other : (b : Bool) → (◌≡◌ {A = ℕ} (pick b 1 2) 1 → ⊥) → b ≡ false
by-other true n = absurd (n refl)
by-other false n = refl

-- what is shown of a line, by whether it is solved
abbrev by-solved : Bool → Counts → ℕ → Conj → Bool → Showing
by-solved old_sheets n room c b = elim b [ true ↦ fitted desk room (filling_words n (example (default_symbol old_sheets n) c)) | false ↦ denied OpenLine ]

mark-is : (answer : List ℕ) (from mark : ℕ) → mark ≡ get_or answer from 0 → (c : Numbered) (beyond : List ℕ) → drop from answer ≡ line_words c ++ beyond → mark ≡ pick (solved c.literals) 1 2
mark-is answer from mark m c beyond e = m ∙ word-of answer from (line_words c ++ beyond) e

line_of : (answer : List ℕ) (from to : ℕ) (c : Numbered) (beyond : List ℕ) → drop from answer ≡ line_words c ++ beyond → to ≡ from + line_head + length (conj_words c.literals) → Good c.literals
    → Line (take (to - (from + line_head)) (drop (from + line_head) answer)) c.literals
line_of answer from to c beyond e d g = record {
  words =
      let ws = conj_words c.literals in
      let n : to - (from + line_head) ≡ length ws = omega arith in
      ap (take (to - (from + line_head))) (drop_of answer from (from + line_head) (mark_of c.literals ∷ c.number ∷ []) (ws ++ beyond) e refl) ∙ ap (λ i. take i (ws ++ beyond)) n ∙ take-append_seam ws beyond;
  fine = g.fine;
}

is-solved : (answer : List ℕ) (from mark : ℕ) → mark ≡ get_or answer from 0 → mark ≡ 1 → (c : Numbered) (beyond : List ℕ) → drop from answer ≡ line_words c ++ beyond → solved c.literals ≡ true
is-solved answer from mark m z c beyond e = by-mark (solved c.literals) (sym (mark-is answer from mark m c beyond e) ∙ z)

pub part-settled : {answer : List ℕ} {from to mark : ℕ} → mark ≡ get_or answer from 0 → mark ≡ 1 → LineIn answer from to → SettledLine (take (to - (from + line_head)) (drop (from + line_head) answer))
part-settled {answer} {from} {to} {mark} m z l = record {
  c = l.c.literals;
  line = line_of answer from to l.c l.beyond l.here l.end l.good;
  settled = l.good.settled (is-solved answer from mark m z l.c l.beyond l.here);
}

module _ {question : List ℕ} {old_sheets : Bool} {answer old : List ℕ} {from to mark : ℕ} (m : mark ≡ get_or answer from 0) where
  pub part-open : (mark ≡ 1 → ⊥) → PartShown question old_sheets answer from to old old (Err OpenLine)
  part-open n = record {
    result = λ c beyond e d g. ap (λ b. result_of (by-solved old_sheets (counts_of question) (length old) c.literals b)) (sym (is_open c beyond e));
    room = λ c beyond e d g. ap (λ b. room_of (by-solved old_sheets (counts_of question) (length old) c.literals b) old) (sym (is_open c beyond e));
  }
    where
      is_open : (c : Numbered) (beyond : List ℕ) → drop from answer ≡ line_words c ++ beyond → solved c.literals ≡ false
      is_open c beyond e = by-other (solved c.literals) (λ z. n (mark-is answer from mark m c beyond e ∙ z))

  pub part-shown : {new : List ℕ} {r : Result ℕ Refusal} → mark ≡ 1 → WordsShown question old_sheets (take (to - (from + line_head)) (drop (from + line_head) answer)) old new r → PartShown question old_sheets answer from to old new r
  part-shown z s = record {
    result = λ c beyond e d g.
        let y = is-solved answer from mark m z c beyond e in
        s.result c.literals (line_of answer from to c beyond e d g) (g.settled y) ∙ ap (λ b. result_of (by-solved old_sheets (counts_of question) (length old) c.literals b)) (sym y);
    room = λ c beyond e d g.
        let y = is-solved answer from mark m z c beyond e in
        s.room c.literals (line_of answer from to c beyond e d g) (g.settled y) ∙ ap (λ b. room_of (by-solved old_sheets (counts_of question) (length old) c.literals b) old) (sym y);
  }

-- ---- by its number

module _ {answer : List ℕ} {lines w : ℕ} (d : w ≡ get_or answer 0 0) (e : lines ≡ w) where
  count : (ls : List Numbered) → Answer answer ls → lines ≡ length ls
  count ls a = e ∙ d ∙ count-is a

  pub line-missing : {question : List ℕ} {old_sheets : Bool} {old : List ℕ} {line : ℕ} → lines ≤ line → AnswerShown question line old_sheets answer old old (Err NoSuchLine)
  line-missing {question} {old_sheets} {old} {line} p = record {
    result = λ ls a. let n = count ls a in ap (λ m. result_of (shown desk old_sheets (counts_of question) (length old) m)) (sym (no_line ls line (omega arith)));
    room = λ ls a. let n = count ls a in ap (λ m. room_of (shown desk old_sheets (counts_of question) (length old) m) old) (sym (no_line ls line (omega arith)));
  }

  module _ {line from to u v : ℕ} (f : u ≡ get_or answer (line + 2) 0) (g : from ≡ u) (h : v ≡ get_or answer (line + 3) 0) (i : to ≡ v) (p : line < lines) where
    place : (ls : List Numbered) → Answer answer ls → Place answer ls line
    place ls a = let n = count ls a in place_of a line (omega arith)

    pub part-fits : Answered answer → (from + line_head ≤ to) × (to ≤ length answer) × (to ≤ 65536) × LineIn answer from to
    part-fits a =
        let q = place a.ls a.is in
        let x = q.offset in
        let y = q.next in
        let z = q.within in
        let w = whole a.is in
        let d = g ∙ f ∙ q.offset in
        let t = i ∙ h ∙ q.next in
        (omega arith, omega arith, omega arith, record { c = q.l; beyond = q.beyond; here = ap (λ j. drop j answer) d ∙ q.here; end = omega arith; good = q.good })

    pub line-shown : {question : List ℕ} {old_sheets : Bool} {old new : List ℕ} {r : Result ℕ Refusal} → PartShown question old_sheets answer from to old new r → AnswerShown question line old_sheets answer old new r
    line-shown {question} {old_sheets} {old} s = record {
      result = λ ls a.
          let q = place ls a in
          let x = g ∙ f ∙ q.offset in
          let y = i ∙ h ∙ q.next in
          s.result q.l q.beyond (ap (λ j. drop j answer) x ∙ q.here) (omega arith) q.good ∙ ap (λ m. result_of (shown desk old_sheets (counts_of question) (length old) m)) (sym q.is);
      room = λ ls a.
          let q = place ls a in
          let x = g ∙ f ∙ q.offset in
          let y = i ∙ h ∙ q.next in
          s.room q.l q.beyond (ap (λ j. drop j answer) x ∙ q.here) (omega arith) q.good ∙ ap (λ m. room_of (shown desk old_sheets (counts_of question) (length old) m) old) (sym q.is);
    }
