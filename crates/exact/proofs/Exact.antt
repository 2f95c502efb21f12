-- What makes "none" a promise: the theorems of this crate, each under the sentence of the paper that it is about.
-- Their proofs are cited; the definitions in the statements are those of the language, the meaning and the rules.
use Prim.Native.Nat.{ℕ}
use mathlib.Core.Path.{◌≡◌, refl}
use mathlib.Core.Logic.Iff
use mathlib.Core.Logic.{◌↔◌}
use mathlib.Core.Bool.{Bool, true, false}
use mathlib.Core.List.{List, [], ◌∷◌, ◌++◌, map, Memᴰ}
use mathlib.Core.Option.{some}
use Rattle.language.specs.declared.Sym.{Sym}
use Rattle.language.specs.Limits.{Limits, walked_pairs}
use Rattle.language.specs.declared.Signature.{Signature}
use Rattle.language.specs.Trees.{Hedge, Expr, Literal, mem, Conj, is_unordered, Var, Counts, signature, Question}
use Rattle.language.specs.Question.{asks, declared_c, counts_of, read_question}
use Rattle.meaning.specs.Complete.{Complete, nil, tree}
use Rattle.meaning.specs.Meaning.{Filling, Member, MeetsAll, MeetsOne, MeetsQuestion}
use Rattle.rules.specs.Expressions.{nullable, linear}
use Rattle.rules.specs.Reply.{nothing, results}
use Rattle.rules.specs.Solved.{lone_var}
use Rattle.rules.specs.Walk.{Pair, reached, long_walk}
use Rattle.rules.specs.Clash.{mentions, agree}
use Rattle.rules.specs.Rules.{Rule, Fold, Clash, rules}
use Rattle.rules.specs.Places.{at_clash}
use Rattle.rules.specs.Step.{results_at, Spot, step_at, search, step}
use Rattle.rules.specs.Run.{Numbered, EachLine, unnumbered, finished, run}
use Rattle.rules.specs.Answer.{answered, solving}
use Rattle.rules.specs.Each.{Each, Some}
use Rattle.rules.specs.Sides.{AtSides, Idle}
use Rattle.rules.proofs.Each.{each_in, each_at, each-imp}
use Rattle.rules.proofs.Tests.{test-true}
use Rattle.rules.proofs.Steps.{each-nothing, named-at-sides, search-named, step-none}
use Rattle.rules.proofs.Folding.{fold-none}
use Rattle.rules.proofs.Invariant.{answered-run, lines_keep, lines_rest}
use Rattle.walk.specs.Reach.{Reach, Once, ReachesMore}
use Rattle.walk.proofs.Reached.{reached-exact, reached-once, long-exact}
use Rattle.exact.specs.Monomials.{Takes}
use Rattle.exact.specs.Places.{SameFillings, Apart}
use Rattle.exact.specs.Clashes.{InBoth, Says, Agreed}
use Rattle.exact.specs.Numbers.{MeetsAt, MeetsNumbered}
use Rattle.exact.specs.Made.{Name, MadeC}
use Rattle.exact.proofs.Expressions.{nullable-exact, linear-exact}
use Rattle.exact.proofs.Shared.{agree-exact}
use Rattle.exact.proofs.Clashes.{clash-says, idle-agrees}
use Rattle.exact.proofs.Places.{each-rule-exact}
use Rattle.exact.proofs.Run.{step_same, run-numbered, whatever-number, run-same}
use Rattle.exact.proofs.MadeByRules.{Known, step-made}
use Rattle.exact.proofs.Declared.{lines-declared, read-declared}

-- ---- expressions

-- "ε in R, where ε is in the language": the emptiness test says so exactly where ε is a member.
pub emptiness : (σ : Signature) (R : Expr) → (nullable R ≡ true) ↔ Member σ R nil
emptiness σ R = Iff.trans (Iff.symm (test-true (nullable R))) (nullable-exact σ R)

-- "M2 uses its linear form": a hedge that begins with the term f over c, and then h, is a member exactly where some monomial takes it.
pub linear-form : (σ : Signature) (R : Expr) (f : Sym) (c h : Complete) → Member σ R (tree f c h) ↔ Some (Takes σ f c h) (linear R)
linear-form = linear-exact

-- ---- two expressions walked together

-- "mentions no unordered symbol and no term (or hedge, for a hedge variable) lies in both": of two expressions that mention none the test of the rule says
-- that something does exactly where it does.
pub agreement : (σ : Signature) (v : Var) (R S : Expr) → mentions (is_unordered σ) R ≡ false → mentions (is_unordered σ) S ≡ false → (agree v R S ≡ true) ↔ InBoth σ v R S
agreement σ v R S o r = Iff.trans (Iff.symm (test-true (agree v R S))) (agree-exact σ R S o r v)

-- "The walk for two expressions starts from that pair; from each pair it goes on": it ends with the pairs that are reached and no others,
pub walk-reaches : (R S : Expr) (q : Pair) → Memᴰ q (reached R S) ↔ Reach R S q
walk-reaches = reached-exact

-- each of them once;
pub walk-once : (R S : Expr) → Once (reached R S)
walk-once = reached-once

-- "21 when a walk reaches more than 4,096 different pairs, different by their words": whatever the limit is, the walk is too long exactly where it does.
pub walk-too-long : (limit : ℕ) (R S : Expr) → (long_walk limit R S ≡ true) ↔ ReachesMore limit R S
walk-too-long limit R S = Iff.trans (Iff.symm (test-true (long_walk limit R S))) (long-exact R S limit)

-- ---- rules and steps

-- "the first rule below that applies to any literal, .. the earliest literal, .. the written side first, then swapped": but wherever any
-- rule applies, first or not, earliest or not, swapped or not, a filling meets the conjunction exactly when it meets one of the results.
pub rule-exact : (σ : Signature) (rule : Rule) → Memᴰ rule (rules σ) → (swap : Bool) (before : Conj) (l : Literal) (behind : Conj) (ks : List Conj)
    → results_at swap rule before l behind ≡ results ks → (ρ : Filling) → MeetsAll σ ρ (before ++ (l ∷ behind)) ↔ MeetsOne σ ρ ks
rule-exact σ rule i = each_in (AtSides (SameFillings σ)) (each-rule-exact σ) i

-- the same of the whole table of rules at once
pub rules_exact : (σ : Signature) → Each (AtSides (SameFillings σ)) (rules σ)
rules_exact = each-rule-exact

-- So a step at whatever place is named, first or not: a filling meets the conjunction exactly when it meets one of the results;
pub named-step-exact : (σ : Signature) (s : Spot) (k : Conj) (ks : List Conj) → step_at σ s k ≡ results ks → (ρ : Filling) → MeetsAll σ ρ k ↔ MeetsOne σ ρ ks
named-step-exact σ = named-at-sides (SameFillings σ) σ (each-rule-exact σ)

-- and the place that the search names is one at which the step is as it was found.
pub found-is-named : (σ : Signature) (k : Conj) (s : Spot) (ks : List Conj) → search σ k ≡ results (s, ks) → step_at σ s k ≡ results ks
found-is-named = search-named

-- "where one variable, alone, has two memberships, the conjunction is dropped exactly if .. no term (or hedge ..) lies in both. Only pairs are looked at,
-- in the order of their literals, until one clashes": what the clash comes to at a test of a lone variable says which literal behind it came first, one
-- with which nothing is shared or one whose walk is too long, and that those before it, or all, were passed.
pub clash-exact : (σ : Signature) (h : Hedge) (R : Expr) (behind : Conj) (v : Var) → lone_var h ≡ some v → Says walked_pairs σ v R behind (Clash σ (mem h R) behind)
clash-exact = clash-says walked_pairs

-- "That is one step": a filling meets the conjunction exactly when it meets one of the step's results.
pub step-exact : (σ : Signature) (k : Conj) (ks : List Conj) → step σ k ≡ results ks → (ρ : Filling) → MeetsAll σ ρ k ↔ MeetsOne σ ρ ks
step-exact = step_same

-- ---- the run with its limits, whatever they are

-- "Each waiting conjunction carries the number of the alternative it descends from": a filling meets the alternative of a number exactly when it
-- meets a line of that number.
pub run-by-number : (σ : Signature) (L : Limits) (w : List Conj) (ls : List Numbered) (s : ℕ) → run L σ w ≡ finished ls s
    → (ρ : Filling) (n : ℕ) → MeetsAt σ ρ n w ↔ MeetsNumbered σ ρ n ls
run-by-number = run-numbered

-- "Results stand in the place of the conjunction, in order": a filling meets a waiting conjunction exactly when it meets a line.
pub run-exact : (σ : Signature) (L : Limits) (w : List Conj) (ls : List Numbered) (n : ℕ) → run L σ w ≡ finished ls n
    → (ρ : Filling) → MeetsOne σ ρ w ↔ MeetsOne σ ρ (unnumbered ls)
run-exact = run-same

-- "If no rule applies, the conjunction becomes the next line": no rule applies to a line.
pub lines-settled : (σ : Signature) (L : Limits) (w : List Conj) (ls : List Numbered) (n : ℕ) → run L σ w ≡ finished ls n → EachLine (λ k. step σ k ≡ nothing) ls
lines-settled = lines_rest

-- the same in full: no rule of the list applies at any literal of a line
pub lines-idle : (σ : Signature) (L : Limits) (w : List Conj) (ls : List Numbered) (n : ℕ) → run L σ w ≡ finished ls n → EachLine (λ k. Each (Idle k) (rules σ)) ls
lines-idle σ L w ls n e = each-imp _ _ (λ (k : Numbered) q. step-none σ k.literals q) ls (lines_rest σ L w ls n e)

-- "The same test twice": no two literals of a line have the same words.
pub lines-apart : (σ : Signature) (L : Limits) (w : List Conj) (ls : List Numbered) (n : ℕ) → run L σ w ≡ finished ls n → EachLine Apart ls
lines-apart σ L w ls n e =
    each-imp (λ (k : Numbered). Each (Idle k.literals) (rules σ)) (λ (k : Numbered). Apart k.literals)
    (λ k q before l behind d. fold-none l behind (each-nothing (map (λ (c : Conj). before ++ c)) (Fold l behind) (q.1.1.0 false before l behind d))) ls
    (lines-idle σ L w ls n e)

-- "Two shapes that clash": of two tests of one variable, alone, in a line, neither with an unordered symbol, something lies in both.
pub lines-agree : (σ : Signature) (L : Limits) (w : List Conj) (ls : List Numbered) (n : ℕ) → run L σ w ≡ finished ls n → EachLine (Agreed σ) ls
lines-agree σ L w ls n e =
    each-imp (λ (k : Numbered). Each (Idle k.literals) (rules σ)) (λ (k : Numbered). Agreed σ k.literals)
    (λ k q before h R behind v d l. idle-agrees σ h R behind v l (each-nothing (map (λ (c : Conj). before ++ c)) (Clash σ (mem h R) behind)
    (each_at (Idle k.literals) (rules σ) at_clash q refl false before (mem h R) behind d))) ls
    (lines-idle σ L w ls n e)

-- "Waiting conjunctions stand in order": what every step keeps and every waiting conjunction has, every line has.
pub lines-inherit : (σ : Signature) (P : Conj → Type 0) → ((k : Conj) (ks : List Conj) → P k → step σ k ≡ results ks → Each P ks)
    → (L : Limits) (w : List Conj) (ls : List Numbered) (n : ℕ) → run L σ w ≡ finished ls n → Each P w → EachLine P ls
lines-inherit = lines_keep

-- ---- questions

-- "a filling meets alternative n exactly when it meets a line numbered n": an answer is of a question that was read, and its lines are by their
-- numbers those of the question's alternatives.
pub answer-numbered : (L : Limits) (work answer : ℕ) (ws : List ℕ) (ls : List Numbered) (s : ℕ) → solving L work answer ws ≡ answered ls s
    → (q : Question) × (read_question L ws ≡ asks q) × ((ρ : Filling) (n : ℕ) → MeetsAt (signature q.counts) ρ n q.alternatives ↔ MeetsNumbered (signature q.counts) ρ n ls)
answer-numbered L work answer ws ls s e =
    let (q, asked, ran) = answered-run L work answer ws ls s e in
    (q, asked, run-numbered (signature q.counts) L q.alternatives ls s ran)

-- "A conjunction needs all its literals, a question one conjunction": so a filling meets the question exactly when it meets a line.
pub answer-exact : (L : Limits) (work answer : ℕ) (ws : List ℕ) (ls : List Numbered) (n : ℕ) → solving L work answer ws ≡ answered ls n
    → (q : Question) × (read_question L ws ≡ asks q) × ((ρ : Filling) → MeetsQuestion ρ q ↔ MeetsOne (signature q.counts) ρ (unnumbered ls))
answer-exact L work answer ws ls n e =
    let (q, asked, same) = answer-numbered L work answer ws ls n e in
    (q, asked, λ ρ. whatever-number (signature q.counts) ρ q.alternatives ls (same ρ))

-- 'Answering "none" always breaks 3': "none" is said only rightly, for where there is no line, no filling meets the question.
pub none-is-none : (L : Limits) (work answer : ℕ) (ws : List ℕ) (n : ℕ) → solving L work answer ws ≡ answered [] n
    → (q : Question) × (read_question L ws ≡ asks q) × ((ρ : Filling) → ¬ MeetsQuestion ρ q)
none-is-none L work answer ws n e = let (q, asked, same) = answer-exact L work answer ws [] n e in (q, asked, λ ρ m. (same ρ).0 m)

-- ---- what lines are made of

-- "New literals stand in the place of the old": each symbol and each variable of a result was there before the step, or is a declared symbol that E7
-- tries.
pub step-names : (σ : Signature) (A : Name → Type 0) → Known σ A → (k : Conj) (ks : List Conj) → step σ k ≡ results ks → MadeC A k → Each (MadeC A) ks
step-names = step-made

-- "6: an undeclared number": where every alternative is declared, so is every line.
pub lines-all-declared : (c : Counts) (L : Limits) (w : List Conj) (ls : List Numbered) (n : ℕ) → run L (signature c) w ≡ finished ls n
    → Each (λ k. declared_c c k ≡ true) w → EachLine (λ k. declared_c c k ≡ true) ls
lines-all-declared = lines-declared

-- every line of an answer is declared by the counts in the question's words
pub answer-declared : (L : Limits) (work answer : ℕ) (ws : List ℕ) (ls : List Numbered) (n : ℕ) → solving L work answer ws ≡ answered ls n
    → EachLine (λ k. declared_c (counts_of ws) k ≡ true) ls
answer-declared L work answer ws ls n e =
    let (q, asked, ran) = answered-run L work answer ws ls n e in
    let (counts, declared) = read-declared L ws q asked in
    rw counts at (lines-declared q.counts L q.alternatives ls n ran declared)
