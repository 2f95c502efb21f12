-- What the tests of one lone variable come to, pair by pair, and the first literal at which that is a clash.
use Rattle.std.specs.Prelude.{ℕ, ◌+◌, ◌≡◌, Bool, true, false, ◌||◌, List, [], ◌∷◌, eqb, length}
use Rattle.language.specs.declared.Signature.{Signature}
use Rattle.language.specs.declared.Kind.{Kind}
use Rattle.language.specs.declared.Kind.TheVariants as kind
use Rattle.language.specs.declared.Refusal.TheVariants.{LongWalk}
use Rattle.language.specs.Limits.{desk}
use Rattle.language.specs.Kinds.{pick, kind_of}
use Rattle.language.specs.Trees.{Hedge, ε, tvar, hvar, node, Expr, Literal, eqn, mem, Conj, is_unordered}
use Rattle.language.specs.Writing.{expr_words, literal_words}
use Rattle.rules.specs.Looks.{empty}
use Rattle.rules.specs.Reply.{Reply, nothing, results, stops}
use Rattle.rules.specs.Clash.{mentions}
use Rattle.expressions.specs.Standing.{Here}
use Rattle.clash.specs.declared.Verdict.{Verdict}
use Rattle.clash.specs.declared.Verdict.TheVariants.{Shares, Clashes, Long}
use Rattle.clash.specs.Judging.{verdict_of}
use Rattle.clashes.specs.declared.Lone.{Lone}
use Rattle.clashes.specs.declared.Lone.TheVariants.{Nothing, Term, Run}
use Rattle.clashes.specs.declared.Clashing.{Clashing}
use Rattle.clashes.specs.declared.Clashing.TheVariants.{Nowhere, At, Stopped}

-- ---- an unordered symbol among words

abbrev pub kind_unordered : Signature → Kind → Bool
kind_unordered σ kind.End = false
kind_unordered σ (kind.Term x) = false
kind_unordered σ (kind.Run p) = false
kind_unordered σ (kind.Symbol f) = is_unordered σ f
kind_unordered σ (kind.Function X) = false
kind_unordered σ kind.Equation = false
kind_unordered σ kind.Membership = false
kind_unordered σ kind.Eps = false
kind_unordered σ kind.Cat = false
kind_unordered σ kind.Alt = false
kind_unordered σ kind.Star = false
kind_unordered σ kind.Other = false

abbrev pub some_unordered : Signature → List ℕ → Bool
some_unordered σ [] = false
some_unordered σ (w ∷ ws) = kind_unordered σ (kind_of desk w) || some_unordered σ ws

-- ---- the lone variable of a test

abbrev pub lone_in : Hedge → Lone
lone_in ε = Nothing
lone_in (tvar x r) = pick (empty r) (Term x) Nothing
lone_in (hvar p r) = pick (empty r) (Run p) Nothing
lone_in (node f c r) = Nothing

abbrev pub lone_of : Literal → Lone
lone_of (eqn l r) = Nothing
lone_of (mem h R) = lone_in h

-- as the kind of a word says
abbrev pub lone_kind : Kind → Lone
lone_kind kind.End = Nothing
lone_kind (kind.Term x) = Term x
lone_kind (kind.Run p) = Run p
lone_kind (kind.Symbol f) = Nothing
lone_kind (kind.Function X) = Nothing
lone_kind kind.Equation = Nothing
lone_kind kind.Membership = Nothing
lone_kind kind.Eps = Nothing
lone_kind kind.Cat = Nothing
lone_kind kind.Alt = Nothing
lone_kind kind.Star = Nothing
lone_kind kind.Other = Nothing

abbrev pub is_term : Lone → Bool
is_term Nothing = false
is_term (Term x) = true
is_term (Run p) = false

-- both are one variable
abbrev pub same_lone : Lone → Lone → Bool
same_lone Nothing b = false
same_lone (Term x) Nothing = false
same_lone (Term x) (Term y) = eqb x.0 y.0
same_lone (Term x) (Run q) = false
same_lone (Run p) Nothing = false
same_lone (Run p) (Term y) = false
same_lone (Run p) (Run q) = eqb p.0 q.0

-- ---- two tests

-- "Pairs that mention an unordered symbol are passed over"
unfoldable pub test_of : Signature → Bool → Expr → Expr → Verdict
test_of σ term R S = pick (mentions (is_unordered σ) R || mentions (is_unordered σ) S) Shares (verdict_of term R S)

-- of the expressions that stand from `at` to `end` and from `other` to `last`
pub record Tested (k : List ℕ) (at end other last : ℕ) (term : Bool) (σ : Signature) (r : Verdict) : Type 0 where
  pub each : (R S : Expr) (w v : List ℕ) → Here k at R w → Here k other S v → end ≡ at + length (expr_words R) → last ≡ other + length (expr_words S) → r ≡ test_of σ term R S

-- ---- a test and those behind it

abbrev pub then_of : Verdict → Verdict → Verdict
then_of Shares b = b
then_of Clashes b = Clashes
then_of Long b = Long

-- "in the order of their literals, until one clashes"
abbrev pub behind_of : Signature → Lone → Expr → Conj → Verdict
behind_of σ x R [] = Shares
behind_of σ x R (eqn l r ∷ k) = behind_of σ x R k
behind_of σ x R (mem h S ∷ k) = pick (same_lone x (lone_in h)) (then_of (test_of σ (is_term x) R S) (behind_of σ x R k)) (behind_of σ x R k)

abbrev pub reply_of : Signature → Literal → Conj → Verdict
reply_of σ (eqn l r) behind = Shares
reply_of σ (mem h R) behind = behind_of σ (lone_in h) R behind

-- the first literal that clashes with a later one, `at` being the place of the first
abbrev pub first_clash : Signature → ℕ → Conj → Clashing
first_clash σ at [] = Nowhere
first_clash σ at (l ∷ k) = elim (reply_of σ l k) [ Shares ↦ first_clash σ (at + length (literal_words l)) k | Clashes ↦ At at | Long ↦ Stopped ]

-- what the rule comes to at such a literal
abbrev pub answer_of : Verdict → Reply (List Conj)
answer_of Shares = nothing
answer_of Clashes = results []
answer_of Long = stops LongWalk
