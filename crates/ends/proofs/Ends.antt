-- "It ends without the ceiling": what is promised, in the order of the request. Every theorem here is over the definitions of the rules.
use Prim.Native.Nat.{ℕ, ◌≤◌}
use mathlib.Core.Path.{◌≡◌, refl}
use mathlib.Core.Logic.{◌↔◌}
use mathlib.Core.Bool.{Bool, true, false}
use mathlib.Core.List.{List, [], ◌∷◌, Memᴰ}
use native.Mathlib.Omega.{arith}
use lib.Dec.{T, ltb}
use lib.ListN.{length}
use borrow.Author.Tests.{ltb-true}
use Rattle.language.specs.declared.Signature.{Signature}
use Rattle.language.specs.Limits.{Limits}
use Rattle.language.specs.Trees.{Expr, Conj, signature, Question, Var}
use Rattle.language.specs.Question.{asks, read_question}
use Rattle.rules.specs.Walk.{Pair, reached, long_walk}
use Rattle.rules.specs.Reply.{nothing}
use Rattle.rules.specs.Solved.{solved}
use Rattle.rules.specs.Step.{step}
use Rattle.rules.specs.Each.{Each}
use Rattle.rules.specs.Sides.{AtSides, Idle}
use Rattle.rules.specs.Run.{Numbered, numbered, EachLine, finished, run}
use Rattle.rules.specs.Answer.{answered, count_open, solving}
use Rattle.rules.proofs.Steps.{each-nothing, first-none}
use Rattle.rules.proofs.Invariant.{lines_keep, lines_rest, answered-run}
use Rattle.lines.proofs.MatchingRun.{none_open}
use Rattle.walk.specs.Reach.{Reach, Once}
use Rattle.walk.proofs.Reached.{reached-exact, reached-once}
use Rattle.ends.specs.Unlimited.{free_rules, free_step, Goes, Ends}
use Rattle.ends.specs.Last.{last_runs}
use Rattle.ends.proofs.AtPlaces.{Falling}
use Rattle.ends.proofs.EveryRule.{every-rule-falls}
use Rattle.ends.proofs.Ending.{Somewhere, every-way-ends, run_ends, goes-once, goes-rest}
use Rattle.ends.proofs.Desk.{run-goes}
use Rattle.ends.proofs.LastKept.{step_keeps}
use Rattle.ends.proofs.LastSettled.{last-solved}

idle : (σ : Signature) (k : Conj) → free_step σ k ≡ nothing → Each (Idle k) (free_rules σ)
unfolding free_step
idle σ k e = first-none k 0 (free_rules σ) (each-nothing _ _ e)

-- ---- the measure

-- Every rule, at whatever literal and on whatever side it applies, first or not: each result is below the conjunction, for any list that has its variables.
pub every-rule-lowers : (σ : Signature) (vs : List Var) → Each (AtSides (Falling σ vs)) (free_rules σ)
every-rule-lowers = every-rule-falls

-- ---- it ends

-- "from any well-formed question the rules, without limits 7 to 10 and 21, reach a state where none applies": from whatever waits the run without limits
-- goes to lines, in some number of steps;
pub it-ends : (σ : Signature) (w : List Numbered) → Somewhere σ w
it-ends = run_ends

-- no rule applies to any of them, at any literal, on any side;
pub none-applies : (σ : Signature) {w ls : List Numbered} {n : ℕ} → Goes σ w ls n → EachLine (λ k. Each (Idle k) (free_rules σ)) ls
none-applies σ {ls = ls} g = go ls (goes-rest σ g)
  where
    go : (ls : List Numbered) → Each (λ (k : Numbered). free_step σ k.literals ≡ nothing) ls → EachLine (λ k. Each (Idle k) (free_rules σ)) ls
    go [] e = tt
    go (k ∷ ls) e = (idle σ k.literals e.0, go ls e.1)

-- there is one outcome;
pub one-outcome : (σ : Signature) {w ls ms : List Numbered} {n m : ℕ} → Goes σ w ls n → Goes σ w ms m → (ls ≡ ms) × (n ≡ m)
one-outcome = goes-once

-- and wherever the desk answers, under whatever limits, it is this run: the same lines, the same steps.
pub the-desk-s-run : (σ : Signature) (L : Limits) (w : List Conj) (ls : List Numbered) (n : ℕ) → run L σ w ≡ finished ls n → Goes σ (numbered 0 w) ls n
the-desk-s-run = run-goes

-- So of a question in words: what the desk answers with is what the rules come to without limits.
pub answered-unlimited : (L : Limits) (work answer : ℕ) (ws : List ℕ) (ls : List Numbered) (n : ℕ) → solving L work answer ws ≡ answered ls n
    → (q : Question) × (read_question L ws ≡ asks q) × Goes (signature q.counts) (numbered 0 q.alternatives) ls n
answered-unlimited L work answer ws ls n e =
    let (q, asked, ran) = answered-run L work answer ws ls n e in
    (q, asked, run-goes (signature q.counts) L q.alternatives ls n ran)

-- Whatever rule is chosen, wherever it applies, and whatever is chosen after it, "first or not": there is no way on for ever.
pub under-any-choice : (σ : Signature) (k : Conj) → Ends σ k
under-any-choice = every-way-ends

-- ---- the walk of two expressions ends without 21

-- The pairs that it reaches are those of a list, each once;
pub walk_ends : (R S : Expr) → (ps : List Pair) × Once ps × ((q : Pair) → Memᴰ q ps ↔ Reach R S q)
walk_ends R S = (reached R S, reached-once R S, reached-exact R S)

-- and where the limit is as long as that list, no walk is too long.
pub walk-within : (limit : ℕ) (R S : Expr) → length (reached R S) ≤ limit → long_walk limit R S ≡ false
unfolding long_walk
walk-within limit R S h = go (ltb limit (length (reached R S))) refl
  where
    go : (b : Bool) → ltb limit (length (reached R S)) ≡ b → b ≡ false
    go true e = absurd (let z = ltb-true limit (length (reached R S)) e in omega arith)
    go false e = refl

-- ---- hedge variables last

-- "where every hedge variable stands only last among its siblings, with u = 0 and no memberships, no line is open": every line of a finished run is solved,
pub last-lines-solved : (σ : Signature) → σ.unordered ≡ 0 → (L : Limits) (w : List Conj) (ls : List Numbered) (n : ℕ) → run L σ w ≡ finished ls n
    → Each (λ k. T (last_runs k)) w → EachLine (λ k. solved k ≡ true) ls
last-lines-solved σ u L w ls n e m =
    go ls (lines_keep σ (λ k. T (last_runs k)) (λ k ks t d. step_keeps σ u k ks d t) L w ls n e m) (lines_rest σ L w ls n e)
  where
    go : (ls : List Numbered) → EachLine (λ k. T (last_runs k)) ls → EachLine (λ k. step σ k ≡ nothing) ls → EachLine (λ k. solved k ≡ true) ls
    go [] a b = tt
    go (k ∷ ls) a b = (last-solved σ u k.literals a.0 b.0, go ls a.1 b.1)

-- and in the answer to such a question no line is open.
pub last-none-open : (L : Limits) (work answer : ℕ) (ws : List ℕ) (ls : List Numbered) (n : ℕ) → solving L work answer ws ≡ answered ls n
    → ((q : Question) → read_question L ws ≡ asks q → (q.counts.unordered ≡ 0) × Each (λ k. T (last_runs k)) q.alternatives)
    → EachLine (λ k. solved k ≡ true) ls × (count_open ls ≡ 0)
last-none-open L work answer ws ls n e m =
    let (q, asked, ran) = answered-run L work answer ws ls n e in
    let (u, f) = m q asked in
    let all = last-lines-solved (signature q.counts) u L q.alternatives ls n ran f in
    (all, none_open ls all)
