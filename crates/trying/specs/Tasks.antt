-- What the functions that test a filling are given, and what they answer.
use Rattle.std.specs.Prelude.{ℕ, ◌+◌, ◌<◌, ◌≤◌, ◌≡◌, ◌↔◌, Bool, true, false, List, ◌++◌, length, drop}
use Rattle.language.specs.declared.Signature.{Signature}
use Rattle.language.specs.Limits.{desk}
use Rattle.language.specs.Trees.{Hedge, Expr, Literal, eqn, mem, Conj, Counts, signature, Question}
use Rattle.language.specs.Writing.{hedge_words, literal_words, conj_words}
use Rattle.language.specs.Fine.{fine_literal, fine_conj}
use Rattle.language.specs.Question.{declared_l, declared_c, asks, read_question}
use Rattle.meaning.specs.Complete.{Complete, Same, complete_words}
use Rattle.meaning.specs.Meaning.{Filling, Member, Meets, MeetsAll, MeetsOne}
use Rattle.meaning.specs.Values.{gives, read_filling}
use Rattle.rules.specs.Calls.{filled_size, any_over, too_long}
use Rattle.header.specs.declared.Header.{Header}
use Rattle.header.specs.Heading.{header_of, counts_in}
use Rattle.member.specs.Places.{Stands}
use Rattle.filling.specs.Showing.{filled}

-- the work slice keeps its length, and its words from 16,384 on
pub record Keeps (w w' : List ℕ) : Type 0 where
  pub len : length w' ≡ length w
  pub later : drop desk.room w' ≡ drop desk.room w

-- ---- one literal

abbrev pub first_hedge : Literal → Hedge
first_hedge (eqn l r) = l
first_hedge (mem h R) = h

-- the place after its first hedge
pub record FirstEnd (ws : List ℕ) (r : ℕ) : Type 0 where
  pub each : (l : Literal) → fine_literal desk l → ws ≡ literal_words l → r ≡ 1 + length (hedge_words (first_hedge l))

-- two hedges become complete, t and h being the numbers of term and of hedge variables
pub record Becoming (t h : ℕ) (fs left right : List ℕ) (g k : Complete) : Type 0 where
  pub first : filled t h fs left ≡ complete_words g
  pub second : filled t h fs right ≡ complete_words k

pub record Comparable (t h : ℕ) (fs left right : List ℕ) : Type 0 where
  pub g : Complete
  pub k : Complete
  pub it : Becoming t h fs left right g k

-- whether they become the same
pub record EquationMet (σ : Signature) (t h : ℕ) (fs left right w w' : List ℕ) (r : Bool) : Type 0 where
  pub keeps : Keeps w w'
  pub each : (g k : Complete) → Becoming t h fs left right g k → (r ≡ true) ↔ Same σ g k

-- a complete hedge and an expression
pub record Testable (t h : ℕ) (fs hedge expr : List ℕ) : Type 0 where
  pub R : Expr
  pub g : Complete
  pub expression : Stands expr 0 R
  pub becomes : filled t h fs hedge ≡ complete_words g

pub record MembershipMet (σ : Signature) (t h : ℕ) (fs hedge expr w w' : List ℕ) (r : Bool) : Type 0 where
  pub keeps : Keeps w w'
  pub each : (R : Expr) (g : Complete) → Stands expr 0 R → filled t h fs hedge ≡ complete_words g → (r ≡ true) ↔ Member σ R g

-- these words are those of l, which is declared, and these are the words of the filling ρ
pub record ALiteral (n : Counts) (fs ws : List ℕ) (l : Literal) (ρ : Filling) : Type 0 where
  pub given : read_filling desk n fs ≡ gives ρ
  pub words : ws ≡ literal_words l
  pub fine : fine_literal desk l
  pub known : declared_l n l ≡ true
  pub short : length ws ≤ desk.question

-- one that fits, filled in
pub record FittingLiteral (n : Counts) (fs ws : List ℕ) : Type 0 where
  pub l : Literal
  pub ρ : Filling
  pub it : ALiteral n fs ws l ρ
  pub fits : filled_size ρ l ≤ desk.literal

pub record LiteralMet (n : Counts) (fs ws w w' : List ℕ) (r : Bool) : Type 0 where
  pub keeps : Keeps w w'
  pub each : (l : Literal) (ρ : Filling) → ALiteral n fs ws l ρ → (r ≡ true) ↔ Meets (signature n) ρ l

-- ---- a conjunction

-- the place after the literal at `at`
pub record LiteralEnd (ws : List ℕ) (at r : ℕ) : Type 0 where
  pub each : (l : Literal) (k : Conj) → fine_literal desk l → drop at ws ≡ literal_words l ++ conj_words k → r ≡ at + length (literal_words l)

pub record AConj (n : Counts) (fs ws : List ℕ) (k : Conj) (ρ : Filling) : Type 0 where
  pub symbol : 0 < n.symbols
  pub given : read_filling desk n fs ≡ gives ρ
  pub words : ws ≡ conj_words k
  pub fine : fine_conj desk k
  pub known : declared_c n k ≡ true
  pub short : length ws ≤ desk.question

pub record SomeConj (n : Counts) (fs ws : List ℕ) : Type 0 where
  pub k : Conj
  pub ρ : Filling
  pub it : AConj n fs ws k ρ

pub record FittingConj (n : Counts) (fs ws : List ℕ) : Type 0 where
  pub k : Conj
  pub ρ : Filling
  pub it : AConj n fs ws k ρ
  pub fits : any_over desk ρ k ≡ false

pub record ConjTooLong (n : Counts) (fs ws : List ℕ) (r : Bool) : Type 0 where
  pub each : (k : Conj) (ρ : Filling) → AConj n fs ws k ρ → r ≡ any_over desk ρ k

pub record ConjMet (n : Counts) (fs ws w w' : List ℕ) (r : Bool) : Type 0 where
  pub keeps : Keeps w w'
  pub each : (k : Conj) (ρ : Filling) → AConj n fs ws k ρ → (r ≡ true) ↔ MeetsAll (signature n) ρ k

-- ---- a question

-- a question that is not refused, and its header
pub record AskedQuestion (h : Header) (ws : List ℕ) : Type 0 where
  pub q : Question
  pub read : read_question desk ws ≡ asks q
  pub head : h ≡ header_of ws

pub record AQuestion (h : Header) (fs ws : List ℕ) (q : Question) (ρ : Filling) : Type 0 where
  pub read : read_question desk ws ≡ asks q
  pub head : h ≡ header_of ws
  pub given : read_filling desk (counts_in h) fs ≡ gives ρ

pub record SomeQuestion (h : Header) (fs ws : List ℕ) : Type 0 where
  pub q : Question
  pub ρ : Filling
  pub it : AQuestion h fs ws q ρ

pub record FittingQuestion (h : Header) (fs ws : List ℕ) : Type 0 where
  pub q : Question
  pub ρ : Filling
  pub it : AQuestion h fs ws q ρ
  pub fits : too_long desk ρ q.alternatives ≡ false

pub record QuestionTooLong (h : Header) (fs ws : List ℕ) (r : Bool) : Type 0 where
  pub each : (q : Question) (ρ : Filling) → AQuestion h fs ws q ρ → r ≡ too_long desk ρ q.alternatives

pub record QuestionMet (h : Header) (fs ws w w' : List ℕ) (r : Bool) : Type 0 where
  pub keeps : Keeps w w'
  pub each : (q : Question) (ρ : Filling) → AQuestion h fs ws q ρ → (r ≡ true) ↔ MeetsOne (signature (counts_in h)) ρ q.alternatives
