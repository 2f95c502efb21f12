-- What is promised of lines and of their examples: each theorem under the sentence of the paper that it is about.
-- The proofs are cited; the definitions in the statements are those of the language, the meaning, the rules, and of this crate's specs.
use Prim.Native.Nat.{ℕ, ◌<◌, ◌≤◌}
use mathlib.Core.Path.{◌≡◌}
use mathlib.Core.Logic.{inl, inr, ◌↔◌}
use mathlib.Core.Bool.{Bool, true, false, ◌||◌}
use mathlib.Core.List.{List}
use mathlib.Core.Option.{some}
use lib.ListN.{length}
use Rattle.language.specs.declared.Sym.{Sym}
use Rattle.language.specs.Limits.{Limits}
use Rattle.language.specs.declared.Signature.{Signature}
use Rattle.language.specs.Trees.{Expr, ◌⧺◌, holds, Conj, Counts, signature, Question}
use Rattle.language.specs.Question.{asks, counts_of, alternatives_of, counts_fit, declared_s, declared_c, read_question}
use Rattle.meaning.specs.Meaning.{Filling, Named, Member, MeetsAll, MeetsOne}
use Rattle.meaning.specs.Values.{gives, filling, read_filling, values_in, filling_words}
use Rattle.meaning.proofs.Values.{read_named}
use Rattle.rules.specs.Expressions.{sample}
use Rattle.rules.specs.Reply.{nothing, results}
use Rattle.rules.specs.Rules.{rules}
use Rattle.rules.specs.Step.{step}
use Rattle.rules.specs.Solved.{solved}
use Rattle.rules.specs.Run.{Numbered, EachLine, unnumbered, finished, run}
use Rattle.rules.specs.Answer.{count_open, answered, solving}
use Rattle.rules.specs.Example.{default_symbol, example}
use Rattle.rules.specs.Table.{a, b, f, p, P9}
use Rattle.rules.specs.Calls.{line_at, shows, showing}
use Rattle.rules.specs.Each.{Each}
use Rattle.rules.specs.Sides.{AtSides}
use Rattle.rules.proofs.Tests.{true-test, or_cases, or_left}
use Rattle.rules.proofs.Invariant.{lines_rest, answered-run}
use Rattle.exact.proofs.Run.{run-same}
use Rattle.exact.proofs.Declared.{lines-declared, read-declared}
use Rattle.lines.specs.Matching.{Matching, KeepsMatching}
use Rattle.lines.specs.Fillings.{DeclaredFilling, Agree, WordsMeet}
use Rattle.rules.proofs.Sample.{sample-member}
use Rattle.lines.proofs.Example.{example-meets}
use Rattle.lines.proofs.ReadBack.{symbols-fit, filling-back}
use Rattle.lines.proofs.Agreement.{filling-agrees, agree-meets}
use Rattle.lines.proofs.DeclaredExample.{default-symbol-declared, example-named, example-declared}
use Rattle.lines.proofs.MatchingRun.{each-rule-stays, step-matching, run-solved, none_open}
use Rattle.lines.proofs.Unopened.{matching-solved}
use Rattle.lines.proofs.Shown.{each_line, meets-lines, shown-is, words-meet, read-counts}

-- ---- the example of a solved line

-- "eps and star give ε, choice its left, concatenation both, f(R) the term over R's sample": the sample is a member.
pub sample-is-member : (σ : Signature) (R : Expr) → Member σ R (sample R)
sample-is-member = sample-member

-- "Example of a solved line": it meets the line, where no rule applies to it, whatever symbol free blanks take; as every filling that meets anything, it
-- has to be one of these symbols,
pub example-meets-line : (σ : Signature) (any : Sym) (k : Conj) → Named σ (example any k) → solved k ≡ true → step σ k ≡ nothing → MeetsAll σ (example any k) k
example-meets-line = example-meets

-- which it is wherever the line and that symbol are declared, and where all symbols are ordered anyhow (`all_named`).
pub example-of-declared : (n : Counts) (any : Sym) (k : Conj) → 0 < n.symbols → declared_s n any ≡ true → declared_c n k ≡ true → Named (signature n) (example any k)
example-of-declared n any k s a d = example-named n s any (true-test (declared_s n any) a) k (true-test (declared_c n k) d)

-- so the example of a solved line of a finished run meets the line, and one of the conjunctions that the run began with
pub example-meets-run : (σ : Signature) (any : Sym) (L : Limits) (w : List Conj) (ls : List Numbered) (n : ℕ) → run L σ w ≡ finished ls n
    → (i : ℕ) (k : Numbered) → line_at i ls ≡ some k → Named σ (example any k.literals) → solved k.literals ≡ true
    → MeetsAll σ (example any k.literals) k.literals × MeetsOne σ (example any k.literals) w
example-meets-run σ any L w ls n e i k there named is-solved =
    let m = example-meets σ any k.literals named is-solved (each_line (λ j. step σ j ≡ nothing) i ls k there (lines_rest σ L w ls n e)) in
    (m, (run-same σ L w ls n e (example any k.literals)).1 (meets-lines σ (example any k.literals) i ls k there m))

-- ---- its words

-- "A term variable takes exactly one term without variables, a hedge variable any hedge without variables, a function variable one
-- symbol without children": the words of a filling with declared symbols, where they are not too many, are read back as its values.
pub filling-read : (L : Limits) (n : Counts) (c : ℕ) (ρ : Filling) → counts_fit L n c ≡ true → DeclaredFilling n ρ → length (filling_words n ρ) ≤ L.filling
    → read_filling L n (filling_words n ρ) ≡ gives (filling n (values_in n ρ))
filling-read L n c ρ e d s = filling-back L n ρ (symbols-fit L n c e).1 s d

-- and what is read agrees with the filling on every declared variable,
pub filling-agree : (n : Counts) (ρ : Filling) → Agree n (filling n (values_in n ρ)) ρ
filling-agree = filling-agrees

-- so that it meets the same declared conjunctions, both being fillings of the declared symbols.
pub filling-same : (n : Counts) (ρ : Filling) (k : Conj) → Named (signature n) (filling n (values_in n ρ)) → Named (signature n) ρ → declared_c n k ≡ true
    → MeetsAll (signature n) (filling n (values_in n ρ)) k ↔ MeetsAll (signature n) ρ k
filling-same n ρ k x y d = agree-meets n (filling n (values_in n ρ)) ρ (filling-agrees n ρ) x y k (true-test (declared_c n k) d)

-- And whatever is read is a filling of the declared symbols, where there are any.
pub read-filling-named : (L : Limits) (n : Counts) (ws : List ℕ) (ρ : Filling) → 0 < n.symbols → read_filling L n ws ≡ gives ρ → Named (signature n) ρ
read-filling-named L n ws ρ s e = read_named n s L ws ρ e

-- "The default becomes the last declared symbol .. a flag on the call gives old training sheets symbol 0": under either setting the example of a
-- declared line has declared symbols only.
pub example-all-declared : (old : Bool) (n : Counts) (k : Conj) → 0 < n.symbols → declared_c n k ≡ true → DeclaredFilling n (example (default_symbol old n) k)
example-all-declared old n k s d = example-declared n s (default_symbol old n) (default-symbol-declared n s old) k (true-test (declared_c n k) d)

-- "The example must meet its line under either setting": it meets the line, its symbols are declared, and its words, where they are not too many,
-- are read back, and what is read meets the line.
pub example-either-setting : (L : Limits) (old : Bool) (n : Counts) (c : ℕ) (k : Conj) → counts_fit L n c ≡ true → declared_c n k ≡ true → solved k ≡ true
    → step (signature n) k ≡ nothing → MeetsAll (signature n) (example (default_symbol old n) k) k × DeclaredFilling n (example (default_symbol old n) k)
    × (length (filling_words n (example (default_symbol old n) k)) ≤ L.filling
    → (ρ : Filling) × (read_filling L n (filling_words n (example (default_symbol old n) k)) ≡ gives ρ) × Agree n ρ (example (default_symbol old n) k) × MeetsAll (signature n) ρ k)
example-either-setting L old n c k e d is-solved quiet =
    let ρ = example (default_symbol old n) k in
    let some-symbol = (symbols-fit L n c e).0 in
    let named = example-named n some-symbol (default_symbol old n) (default-symbol-declared n some-symbol old) k (true-test (declared_c n k) d) in
    let m = example-meets (signature n) (default_symbol old n) k named is-solved quiet in
    let declared = example-all-declared old n k some-symbol d in (
      m,
      declared,
      λ s.
          let back = filling-read L n c ρ e declared s in
          (filling n (values_in n ρ), back, filling-agrees n ρ, (filling-same n ρ k (read-filling-named L n (filling_words n ρ) (filling n (values_in n ρ)) some-symbol back) named d).1 m),
    )

-- "It is written as a filling": the last of these by itself.
pub example-written : (L : Limits) (old : Bool) (n : Counts) (c : ℕ) (k : Conj) → counts_fit L n c ≡ true → declared_c n k ≡ true → solved k ≡ true → step (signature n) k ≡ nothing
    → length (filling_words n (example (default_symbol old n) k)) ≤ L.filling
    → (ρ : Filling) × (read_filling L n (filling_words n (example (default_symbol old n) k)) ≡ gives ρ) × Agree n ρ (example (default_symbol old n) k) × MeetsAll (signature n) ρ k
example-written L old n c k e d is-solved quiet s = (example-either-setting L old n c k e d is-solved quiet).2 s

-- So the example of a solved line, written and read back, meets one of the conjunctions that are met exactly where a line is: the lines are declared,
-- and no rule applies to them.
pub example-written-line : (L : Limits) (old : Bool) (n : Counts) (c : ℕ) (w : List Conj) (ls : List Numbered) → counts_fit L n c ≡ true
    → EachLine (λ k. declared_c n k ≡ true) ls → EachLine (λ k. step (signature n) k ≡ nothing) ls
    → ((ρ : Filling) → MeetsOne (signature n) ρ w ↔ MeetsOne (signature n) ρ (unnumbered ls))
    → (i : ℕ) (k : Numbered) → line_at i ls ≡ some k → solved k.literals ≡ true
    → length (filling_words n (example (default_symbol old n) k.literals)) ≤ L.filling → WordsMeet L n (filling_words n (example (default_symbol old n) k.literals)) w
example-written-line L old n c w ls e d rests same i k there is-solved s =
    let declared = each_line (λ j. declared_c n j ≡ true) i ls k there d in
    let quiet = each_line (λ j. step (signature n) j ≡ nothing) i ls k there rests in
    let (ρ, back, _, m) = example-written L old n c k.literals e declared is-solved quiet s in
    (ρ, back, (same ρ).1 (meets-lines (signature n) ρ i ls k there m))

-- It is so of the lines of a finished run that began with declared conjunctions.
pub example-written-run : (L : Limits) (old : Bool) (n : Counts) (c : ℕ) (w : List Conj) (ls : List Numbered) (steps : ℕ) → counts_fit L n c ≡ true → Each (λ k. declared_c n k ≡ true) w
    → run L (signature n) w ≡ finished ls steps → (i : ℕ) (k : Numbered) → line_at i ls ≡ some k → solved k.literals ≡ true
    → length (filling_words n (example (default_symbol old n) k.literals)) ≤ L.filling → WordsMeet L n (filling_words n (example (default_symbol old n) k.literals)) w
example-written-run L old n c w ls steps e d ran =
    example-written-line L old n c w ls e (lines-declared n L w ls steps ran d) (lines_rest (signature n) L w ls steps ran) (run-same (signature n) L w ls steps ran)

-- "the example solves anew": the words that the example call shows are a filling of the question that was asked, and it meets the question.
pub shown-meets : (L : Limits) (old : Bool) (work answer room line : ℕ) (ws fs : List ℕ) → showing L old work answer room line ws ≡ shows fs
    → (q : Question) × (read_question L ws ≡ asks q) × WordsMeet L q.counts fs q.alternatives
shown-meets L old work answer room line ws fs e =
    let s = shown-is L old work answer room line ws fs e in
    let (q, asked, ran) = answered-run L work answer ws s.lines s.steps s.was-answered in
    let (counts, declared) = read-declared L ws q asked in (
      q,
      asked,
      words-meet L old q.counts (counts_of ws) fs s.literals q.alternatives counts s.written s.fits
          (example-written-run L old q.counts (alternatives_of ws) q.alternatives s.lines s.steps (rw counts (read-counts L ws q asked)) declared ran
          line (record { number = s.number; literals = s.literals }) s.there s.is-solved),
    )

-- ---- no line is open in the matching fragment: every equation has a side without blanks, and each variable of a membership stands in one

-- Wherever any rule applies, first or not, as written or swapped, its results stay in the fragment.
pub rules-keep-matching : (σ : Signature) → Each (AtSides KeepsMatching) (rules σ)
rules-keep-matching = each-rule-stays

-- "That is one step": so do the results of a step.
pub step-keeps-matching : (σ : Signature) (k : Conj) (ks : List Conj) → Matching k → step σ k ≡ results ks → Each Matching ks
step-keeps-matching = step-matching

-- "A line is solved if each literal is": a conjunction of the fragment to which no rule applies is solved.
pub matching-line-solved : (σ : Signature) (k : Conj) → Matching k → step σ k ≡ nothing → solved k ≡ true
matching-line-solved = matching-solved

-- Every line of a finished run that began in the fragment is solved,
pub matching-lines-solved : (σ : Signature) (L : Limits) (w : List Conj) (ls : List Numbered) (n : ℕ) → run L σ w ≡ finished ls n → Each Matching w → EachLine (λ k. solved k ≡ true) ls
matching-lines-solved σ L w ls n e m = run-solved σ L w ls n m e

-- and in the answer to a question whose alternatives are in the fragment no line is open.
pub matching-none-open : (L : Limits) (work answer : ℕ) (ws : List ℕ) (ls : List Numbered) (n : ℕ) → solving L work answer ws ≡ answered ls n
    → ((q : Question) → read_question L ws ≡ asks q → Each Matching q.alternatives) → EachLine (λ k. solved k ≡ true) ls × (count_open ls ≡ 0)
matching-none-open L work answer ws ls n e m =
    let (q, asked, ran) = answered-run L work answer ws ls n e in
    let all = run-solved (signature q.counts) L q.alternatives ls n (m q asked) ran in
    (all, none_open ls all)

-- Case P9, "p in f(a*)·b*, p = (f(a,a),b)", is such a question.
pub P9-matching : Each Matching P9.question
P9-matching = (record { sides = tt; covered = λ v t. elim (or_cases (holds v p) false t) [ inl s ↦ or_left (holds v p || holds v (f (a ⧺ a) ⧺ b)) false (or_left (holds v p) (holds v (f (a ⧺ a) ⧺ b)) s) | inr z ↦ absurd z ] }, tt)
