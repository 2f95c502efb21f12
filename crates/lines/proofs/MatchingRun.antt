-- A step keeps the matching fragment, so that every line of a finished run from it is solved.
use Prim.Native.Nat.{ℕ}
use mathlib.Core.Path.{◌≡◌, refl}
use mathlib.Core.Bool.{true}
use mathlib.Core.List.{List, [], ◌∷◌, ◌++◌}
use mathlib.Core.Option.{none, some}
use lib.Dec.{T}
use Rattle.language.specs.Limits.{Limits}
use Rattle.language.specs.declared.Signature.{Signature}
use Rattle.language.specs.Trees.{Literal, eqn, mem, Conj}
use Rattle.rules.specs.Reply.{nothing, results}
use Rattle.rules.specs.Rules.{Answer, Rule, on_eqn, on_mem, on_pair, rules}
use Rattle.rules.specs.Step.{place, placed, step}
use Rattle.rules.specs.Solved.{solved}
use Rattle.rules.specs.Run.{Numbered, EachLine, finished, run}
use Rattle.rules.specs.Answer.{count_open}
use Rattle.rules.specs.Each.{Each}
use Rattle.rules.specs.Sides.{AtSides}
use Rattle.rules.proofs.Tests.{and_parts}
use Rattle.rules.proofs.Each.{◌also◌, each_map, each-imp}
use Rattle.rules.proofs.Steps.{Gives, OnSides, kept-at-sides, gives-behind, step-at-sides}
use Rattle.rules.proofs.Invariant.{lines_keep, lines_rest}
use Rattle.lines.specs.Matching.{ground, ground_side, ground_sides, Matching, KeepsMatching}
use Rattle.lines.proofs.Tests.{or-exchanged}
use Rattle.lines.proofs.Places.{sides-parts}
use Rattle.lines.proofs.Fitting.{Fits, FitAnswer, exchanged, fit-placed}
use Rattle.lines.proofs.Keeping.{Keeps, keeps_self, keeps-row, keeps-matching}
use Rattle.lines.proofs.EquationRules.{StaysEqn, R1-stays, F1-stays, F2-stays, F3-stays, F4-stays, Del1-stays, Del2-stays, Del3-stays, D1-stays, D2-stays, D0-stays}
use Rattle.lines.proofs.EliminationRules.{E1-stays, E2-stays, E3-stays, E4-stays, E5-stays, E6-stays, E7-stays}
use Rattle.lines.proofs.MembershipRules.{StaysMem, R2-stays, F5-stays, F6-stays, F7-stays, M1-stays, M2-stays, M3-stays, M4-stays, M5-stays, M6-stays, M7-stays, M10-stays, M11-stays, M12-stays}
use Rattle.lines.proofs.PairRules.{StaysPair, Fold-stays, Clash-stays}
use Rattle.lines.proofs.Unopened.{matching-solved}

-- ---- a rule at a literal

abbrev RuleStays : Rule → Type 0
RuleStays (on_eqn rule) = StaysEqn rule
RuleStays (on_mem rule) = StaysMem rule
RuleStays (on_pair rule) = StaysPair rule

at_literal : (before behind : Conj) (l : Literal) (w : Answer) → Matching (before ++ (l ∷ behind)) → FitAnswer l w → Gives (Each Matching) (placed before behind w)
at_literal before behind l none m p = tt
at_literal before behind l (some bs) m p = each_map (Fits l) Matching (place before behind) (λ b f. fit-placed before behind l b f m) bs p.given

-- the written side, or swapped
sides-stay : (rule : Rule) → RuleStays rule → (before : Conj) (l : Literal) (behind : Conj) → T (ground_side l) → Matching (before ++ (l ∷ behind))
    → OnSides (Each Matching) before behind rule l
sides-stay (on_eqn rule) p before (eqn l r) behind t m = (
  at_literal before behind (eqn l r) (rule (before ++ behind) l r) m (p (before ++ behind) l r t),
  at_literal before behind (eqn l r) (rule (before ++ behind) r l) m
      (exchanged l r (rule (before ++ behind) r l) (p (before ++ behind) r l (or-exchanged (ground l) (ground r) t))),
)
sides-stay (on_eqn rule) p before (mem h R) behind t m = tt
sides-stay (on_mem rule) p before (eqn l r) behind t m = tt
sides-stay (on_mem rule) p before (mem h R) behind t m = at_literal before behind (mem h R) (rule (before ++ behind) h R) m (p (before ++ behind) h R)
sides-stay (on_pair rule) p before l behind t m = gives-behind (Keeps [] (l ∷ behind)) Matching before (rule l behind) kept (p l behind)
  where
    kept : (k : Conj) → Keeps [] (l ∷ behind) k → Matching (before ++ k)
    kept k c =
        keeps-matching [] (before ++ (l ∷ behind)) (before ++ k) (keeps-row [] before before (l ∷ behind) k (keeps_self [] before) c) (λ v z. absurd z) m

rule-stays : (rule : Rule) → RuleStays rule → AtSides KeepsMatching rule
rule-stays rule p = kept-at-sides Matching rule λ before l behind m.
    sides-stay rule p before l behind (and_parts (ground_side l) (ground_sides behind) (sides-parts before (l ∷ behind) m.sides).1).0 m

-- each rule, at whatever literal and on whatever side it applies
pub each-rule-stays : (σ : Signature) → Each (AtSides KeepsMatching) (rules σ)
each-rule-stays σ =
    each-imp RuleStays (AtSides KeepsMatching) rule-stays (rules σ)
    (R1-stays also R2-stays also Fold-stays
    also F1-stays also F2-stays also F3-stays also F4-stays also F5-stays also F6-stays also F7-stays
    also Del1-stays also Del2-stays σ also Del3-stays
    also D1-stays σ also D2-stays also D0-stays σ
    also E1-stays also E2-stays also E3-stays also E4-stays also E5-stays also E6-stays also E7-stays σ
    also M1-stays also M2-stays also M3-stays also M4-stays also M5-stays also M6-stays also M7-stays also M10-stays also M11-stays σ also M12-stays σ
    also Clash-stays σ
    also tt)

-- Matching is kept by every step.
pub step-matching : (σ : Signature) (k : Conj) (ks : List Conj) → Matching k → step σ k ≡ results ks → Each Matching ks
step-matching σ k ks m e = step-at-sides σ KeepsMatching (each-rule-stays σ) k ks e m

-- ---- the run

-- matching lines to which no rule applies
each-solved : (σ : Signature) (ls : List Numbered) → EachLine Matching ls → EachLine (λ k. step σ k ≡ nothing) ls → EachLine (λ k. solved k ≡ true) ls
each-solved σ [] m q = tt
each-solved σ (k ∷ ls) m q = (matching-solved σ k.literals m.0 q.0, each-solved σ ls m.1 q.1)

pub none_open : (ls : List Numbered) → EachLine (λ k. solved k ≡ true) ls → count_open ls ≡ 0
none_open [] s = refl
none_open (k ∷ ls) s = rw s.0 (none_open ls s.1)

pub run-solved : (σ : Signature) (L : Limits) (w : List Conj) (ls : List Numbered) (n : ℕ) → Each Matching w → run L σ w ≡ finished ls n → EachLine (λ k. solved k ≡ true) ls
run-solved σ L w ls n m e = each-solved σ ls (lines_keep σ Matching (step-matching σ) L w ls n e m) (lines_rest σ L w ls n e)
