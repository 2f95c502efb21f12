-- The answer's words, read back by offsets, marks and numbers, are the lines that were written.
use Prim.Native.Nat.{ℕ, zero, suc, ◌+◌, ◌-◌}
use mathlib.Core.Path.{◌≡◌, refl, sym, ap, ap₂, ◌∙◌}
use mathlib.Core.Logic.{inl, inr, ◌↔◌}
use mathlib.Core.Bool.{Bool, true, false}
use mathlib.Core.List.{List, [], ◌∷◌, ◌++◌, map, append_assoc}
use mathlib.Core.Option.{Option, none, some}
use native.Mathlib.Omega.{arith}
use native.Mathlib.Numerals.{add-one}
use lib.Dec.{eqb}
use lib.ListN.{length, get_or, take, drop, length-append}
use lib.Seq.{take-append_seam}
use Rattle.language.specs.declared.Signature.{Signature}
use Rattle.language.specs.Limits.{desk}
use Rattle.language.specs.Kinds.{pick}
use Rattle.language.specs.Writing.{conj_words}
use Rattle.language.specs.Fine.{fine_conj}
use Rattle.language.proofs.Laws.{conjunctions-read}
use Rattle.meaning.specs.Meaning.{Filling, MeetsOne}
use Rattle.rules.specs.Solved.{solved}
use Rattle.rules.specs.Run.{Numbered, unnumbered}
use Rattle.rules.specs.Answer.{mark_of, line_words, count_open}
use Rattle.rules.specs.Calls.{line_at}
use Rattle.exact.specs.Numbers.{MeetsNumbered}
use Rattle.answer_example.specs.Answers.{Answer}
use Rattle.answer_example.proofs.Lines.{Place, place_of, count-is}
use Rattle.demands.specs.Answers.{Line, numbered_of, marked, read_line, line_in, with_line, read_lines, read_answer, MeetsLines, MeetsLinesOf, nth_line, opens}

-- a line of the run as it stands in an answer
abbrev pub as_line : Numbered → Line
as_line k = record { mark = mark_of k.literals; number = k.number; literals = k.literals }

line-back : (k : Numbered) → fine_conj desk k.literals → read_line desk (line_words k) ≡ some (as_line k)
line-back k f = ap (marked (mark_of k.literals) k.number) ((conjunctions-read desk).read_back k.literals f)

line_at-behind : (before : List Numbered) (k : Numbered) (behind : List Numbered) → line_at (length before) (before ++ (k ∷ behind)) ≡ some k
line_at-behind [] k behind = refl
line_at-behind (j ∷ before) k behind = line_at-behind before k behind

module _ {answer : List ℕ} {ls : List Numbered} (a : Answer answer ls) where
  words-at : {i : ℕ} (p : Place answer ls i) → line_in answer i ≡ line_words p.l
  words-at {i} p =
      let n : ℕ = suc (suc (length (conj_words p.l.literals))) in
      ap (λ x. take (get_or answer (i + 3) 0 - x) (drop x answer)) p.offset
      ∙ ap (λ y. take (y - p.from) (drop p.from answer)) p.next
      ∙ ap (λ m. take m (drop p.from answer)) (let z : p.from + n - p.from ≡ n = omega arith in z)
      ∙ ap (take n) p.here
      ∙ take-append_seam (line_words p.l) p.beyond

  read_at : {i : ℕ} (p : Place answer ls i) (k : Numbered) → line_at i ls ≡ some k → read_line desk (line_in answer i) ≡ some (as_line k)
  read_at {i} p k e =
      let z : p.l ≡ k = same p.is e in
      ap (read_line desk) (words-at p) ∙ line-back p.l p.good.fine ∙ ap (λ j. some (as_line j)) z
    where
      same : {j l : Numbered} {o : Option Numbered} → o ≡ some j → o ≡ some l → j ≡ l
      same d f = cc

  lines_from : (before behind : List Numbered) → ls ≡ before ++ behind → read_lines desk answer (length before) (length behind) ≡ some (map as_line behind)
  lines_from before [] e = refl
  lines_from before (k ∷ behind) e =
      let len = ap length e ∙ length-append before (k ∷ behind) in
      let p = place_of a (length before) (omega arith) in
      let here : read_line desk (line_in answer (length before)) ≡ some (as_line k) = read_at p k (ap (line_at (length before)) e ∙ line_at-behind before k behind) in
      let next : length (before ++ (k ∷ [])) ≡ suc (length before) = length-append before (k ∷ []) ∙ add-one (length before) in
      let on = lines_from (before ++ (k ∷ [])) behind (e ∙ sym (append_assoc before (k ∷ []) behind)) in
      ap₂ with_line here (ap (λ i. read_lines desk answer i (length behind)) (sym next) ∙ on)

  pub answer_back : read_answer desk answer ≡ some (map as_line ls)
  unfolding read_answer
  answer_back = ap (read_lines desk answer 0) (count-is a) ∙ lines_from [] ls refl

-- ---- what is said of lines is what is said of the run's lines

pub meets-back : (σ : Signature) (ρ : Filling) (ls : List Numbered) → MeetsOne σ ρ (unnumbered ls) ↔ MeetsLines σ ρ (map as_line ls)
meets-back σ ρ [] = (λ z. z, λ z. z)
meets-back σ ρ (k ∷ ls) =
    (λ o. elim o [ inl m ↦ inl m | inr m ↦ inr ((meets-back σ ρ ls).0 m) ], λ o. elim o [ inl m ↦ inl m | inr m ↦ inr ((meets-back σ ρ ls).1 m) ])

pub numbers-back : (σ : Signature) (ρ : Filling) (n : ℕ) (ls : List Numbered) → MeetsNumbered σ ρ n ls ↔ MeetsLinesOf σ ρ n (map as_line ls)
numbers-back σ ρ n [] = (λ z. z, λ z. z)
numbers-back σ ρ n (k ∷ ls) =
    (λ o. elim o [ inl m ↦ inl m | inr m ↦ inr ((numbers-back σ ρ n ls).0 m) ], λ o. elim o [ inl m ↦ inl m | inr m ↦ inr ((numbers-back σ ρ n ls).1 m) ])

pub numbered-back : (ls : List Numbered) → numbered_of (map as_line ls) ≡ ls
numbered-back [] = refl
numbered-back (k ∷ ls) = ap (λ l. k ∷ l) (numbered-back ls)

abbrev pub as_line_of : Option Numbered → Option Line
as_line_of none = none
as_line_of (some k) = some (as_line k)

pub nth-line : (i : ℕ) (ls : List Numbered) → nth_line i (map as_line ls) ≡ as_line_of (line_at i ls)
nth-line i [] = refl
nth-line zero (k ∷ ls) = refl
nth-line (suc i) (k ∷ ls) = nth-line i ls

pub opens_back : (ls : List Numbered) → opens (map as_line ls) ≡ count_open ls
opens_back [] = refl
opens_back (k ∷ ls) = go (solved k.literals) (opens_back ls)
  where
    go : (b : Bool) → opens (map as_line ls) ≡ count_open ls → pick (eqb (pick b 1 2) 2) (suc (opens (map as_line ls))) (opens (map as_line ls)) ≡ pick b (count_open ls) (suc (count_open ls))
    go true e = e
    go false e = ap suc e
