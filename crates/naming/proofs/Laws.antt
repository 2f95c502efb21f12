-- What the rule of a place comes to at a literal, by its answer; of the fold, by whether the literal stands again.
use Prim.Native.Nat.{ℕ, zero, suc, ◌+◌, ◌<◌, ◌≤◌}
use native.Mathlib.Omega.{arith}
use mathlib.Core.Path.{◌≡◌, refl, sym, ap, ◌∙◌}
use mathlib.Core.Bool.{Bool, true, false, not, ◌&&◌, ◌||◌, false≢true, true≢false}
use mathlib.Core.List.{List, [], ◌∷◌, ◌++◌, map}
use mathlib.Core.Option.{none, some}
use native.Mathlib.Decide.{ℕ_discrete}
use lib.Dec.{ltb}
use lib.ListN.{length, length-append}
use borrow.Author.Tests.{lt-ltb, le-ltb, ltb-true, ltb-false}
use Rattle.language.specs.declared.Signature.{Signature}
use Rattle.language.specs.Kinds.{pick}
use Rattle.language.specs.Trees.{Hedge, Expr, Literal, eqn, mem, Conj, same_literal}
use Rattle.language.specs.Writing.{literal_words, conj_words}
use Rattle.rules.specs.Reply.{nothing}
use Rattle.rules.specs.Rules.{Answer, folded, Fold, Rule, on_eqn, on_mem, on_pair, rules}
use Rattle.rules.specs.Solved.{is_some}
use Rattle.rules.specs.Step.{each, placed}
use Rattle.rules.specs.Places.{at_fold, at_clash}
use Rattle.rules.specs.Ranks.{at_eqn, at_mem, answer_at, eqn_answer, mem_answer}
use Rattle.views.specs.Standing.{LiteralAt}
use Rattle.views.proofs.LiteralWalks.{literal-some}
use Rattle.folding.specs.Twice.{again, until_same}
use Rattle.folding.proofs.Folds.{fold-none, strike-some}
use Rattle.applies.specs.Answers.{answers_at}
use Rattle.applies.proofs.Named.{only, Away}
use Rattle.naming.specs.Naming.{makes, place_at, named_at}

-- ---- a rule of one literal

abbrev pub of_pair : Rule → Bool
of_pair (on_eqn rule) = false
of_pair (on_mem rule) = false
of_pair (on_pair rule) = true

-- the rule of place n is none of two literals
abbrev pub Single : List Rule → ℕ → Type 0
Single [] n = Unit {0}
Single (rule ∷ rs) n = elim n [ ℕ.zero ↦ of_pair rule ≡ false | ℕ.suc m ↦ Single rs m ]

away-first : (A B : Type 0) (b : Bool) → A → only b (A → ⊥) B → b ≡ false
away-first A B true a o = absurd (o.0 a)
away-first A B false a o = refl

away-others : (A B : Type 0) (b : Bool) → only b A B → B
away-others A B true o = o.1
away-others A B false o = o

away-single : (rs : List Rule) (n i m : ℕ) → n ≡ i + m → Away of_pair rs n i → Single rs m
away-single [] n i m e a = tt
away-single (rule ∷ rs) n i zero e a = away-first (n ≡ i) (Away of_pair rs n (suc i)) (of_pair rule) (omega arith) a
away-single (rule ∷ rs) n i (suc m) e a = away-single rs n (suc i) m (omega arith) (away-others (n ≡ i → ⊥) (Away of_pair rs n (suc i)) (of_pair rule) a)

-- all but the fold and the clash
pub single : (σ : Signature) (n : ℕ) → (n ≡ at_fold → ⊥) → (n ≡ at_clash → ⊥) → Single (rules σ) n
single σ n f g = away-single (rules σ) n 0 n (omega arith) (f, (g, tt))

module _ (before behind : Conj) where
  abbrev side : Bool → (Hedge → Hedge → Answer) → Hedge → Hedge → Answer
  side swap ask l r = pick swap (ask r l) (ask l r)

  eqn-place : (rs : List Rule) (n : ℕ) (swap : Bool) (l r : Hedge) → Single rs n
      → place_at rs n swap before (eqn l r) behind ≡ placed before behind (side swap (λ a b. answer_at (λ rule. at_eqn rule (before ++ behind) a b) rs n) l r)
  eqn-place [] n true l r p = refl
  eqn-place [] n false l r p = refl
  eqn-place (on_eqn rule ∷ rs) zero true l r p = refl
  eqn-place (on_eqn rule ∷ rs) zero false l r p = refl
  eqn-place (on_mem rule ∷ rs) zero true l r p = refl
  eqn-place (on_mem rule ∷ rs) zero false l r p = refl
  eqn-place (on_pair rule ∷ rs) zero swap l r p = absurd (true≢false p)
  eqn-place (rule ∷ rs) (suc n) true l r p = eqn-place rs n true l r p
  eqn-place (rule ∷ rs) (suc n) false l r p = eqn-place rs n false l r p

  mem-place : (rs : List Rule) (n : ℕ) (h : Hedge) (R : Expr) → Single rs n
      → place_at rs n false before (mem h R) behind ≡ placed before behind (answer_at (λ rule. at_mem rule (before ++ behind) h R) rs n)
  mem-place [] n h R p = refl
  mem-place (on_eqn rule ∷ rs) zero h R p = refl
  mem-place (on_mem rule ∷ rs) zero h R p = refl
  mem-place (on_pair rule ∷ rs) zero h R p = absurd (true≢false p)
  mem-place (rule ∷ rs) (suc n) h R p = mem-place rs n h R p

  -- a membership has no other side
  mem-turned : (rs : List Rule) (n : ℕ) (h : Hedge) (R : Expr) → place_at rs n true before (mem h R) behind ≡ nothing
  mem-turned [] n h R = refl
  mem-turned (on_eqn rule ∷ rs) zero h R = refl
  mem-turned (on_mem rule ∷ rs) zero h R = refl
  mem-turned (on_pair rule ∷ rs) zero h R = refl
  mem-turned (rule ∷ rs) (suc n) h R = mem-turned rs n h R

  placed-makes : (w : Answer) → makes (placed before behind w) ≡ is_some w
  placed-makes none = refl
  placed-makes (some bs) = refl

  module _ (σ : Signature) (n : ℕ) (f : n ≡ at_fold → ⊥) (g : n ≡ at_clash → ⊥) where
    pub literal-makes : (swap : Bool) (l : Literal) → answers_at σ n swap (before ++ behind) l ≡ makes (named_at σ swap n before l behind)
    unfolding named_at eqn_answer mem_answer
    literal-makes true (eqn l r) = sym (ap makes (eqn-place (rules σ) n true l r (single σ n f g)) ∙ placed-makes (answer_at (λ rule. at_eqn rule (before ++ behind) r l) (rules σ) n))
    literal-makes false (eqn l r) = sym (ap makes (eqn-place (rules σ) n false l r (single σ n f g)) ∙ placed-makes (answer_at (λ rule. at_eqn rule (before ++ behind) l r) (rules σ) n))
    literal-makes true (mem h R) = sym (ap makes (mem-turned (rules σ) n h R))
    literal-makes false (mem h R) = sym (ap makes (mem-place (rules σ) n h R (single σ n f g)) ∙ placed-makes (answer_at (λ rule. at_mem rule (before ++ behind) h R) (rules σ) n))

  -- ---- the fold

  fold-again : (l : Literal) (b : Bool) → again l behind ≡ b → makes (each (map (λ (k : Conj). before ++ k)) (Fold l behind)) ≡ b
  fold-again l true e =
      ap (λ w. makes (each (map (λ (k : Conj). before ++ k)) (folded l w))) (strike-some l behind e).is
  fold-again l false e = ap (λ m. makes (each (map (λ (k : Conj). before ++ k)) m)) (fold-none l behind e)

  pub fold-makes : (σ : Signature) (n : ℕ) → n ≡ at_fold → (l : Literal) (swap : Bool) → (not swap && again l behind) ≡ makes (named_at σ swap n before l behind)
  unfolding named_at
  fold-makes σ n e l true = sym (ap (λ m. makes (place_at (rules σ) m true before l behind)) e)
  fold-makes σ n e l false = sym (ap (λ m. makes (place_at (rules σ) m false before l behind)) e ∙ fold-again l (again l behind) refl)

  -- ---- a rule that does not come to results comes to nothing

  placed-none : (w : Answer) → makes (placed before behind w) ≡ false → placed before behind w ≡ nothing
  placed-none none e = refl
  placed-none (some bs) e = absurd (true≢false e)

  fold-unmade : (l : Literal) → makes (each (map (λ (k : Conj). before ++ k)) (Fold l behind)) ≡ false → each (map (λ (k : Conj). before ++ k)) (Fold l behind) ≡ nothing
  fold-unmade l e = go (again l behind) refl
    where
      go : (b : Bool) → again l behind ≡ b → each (map (λ (k : Conj). before ++ k)) (Fold l behind) ≡ nothing
      go true d = absurd (true≢false (sym (fold-again l true d) ∙ e))
      go false d = ap (each (map (λ (k : Conj). before ++ k))) (fold-none l behind d)

  -- all but the clash
  pub unmade : (σ : Signature) (n : ℕ) → (n ≡ at_clash → ⊥) → (l : Literal) (swap : Bool) → makes (named_at σ swap n before l behind) ≡ false → named_at σ swap n before l behind ≡ nothing
  unfolding named_at
  unmade σ n g l swap e = go (ℕ_discrete n at_fold)
    where
      folds : (swap : Bool) → n ≡ at_fold → makes (place_at (rules σ) n swap before l behind) ≡ false → place_at (rules σ) n swap before l behind ≡ nothing
      folds true d e = ap (λ m. place_at (rules σ) m true before l behind) d
      folds false d e =
          ap (λ m. place_at (rules σ) m false before l behind) d
          ∙ fold-unmade l (sym (ap (λ m. makes (place_at (rules σ) m false before l behind)) d) ∙ e)

      others : (l : Literal) (swap : Bool) → (n ≡ at_fold → ⊥) → makes (place_at (rules σ) n swap before l behind) ≡ false → place_at (rules σ) n swap before l behind ≡ nothing
      others (eqn l r) swap f e =
          let d = eqn-place (rules σ) n swap l r (single σ n f g) in
          d ∙ placed-none (side swap (λ a b. answer_at (λ rule. at_eqn rule (before ++ behind) a b) (rules σ) n) l r) (sym (ap makes d) ∙ e)
      others (mem h R) true f e = mem-turned (rules σ) n h R
      others (mem h R) false f e =
          let d = mem-place (rules σ) n h R (single σ n f g) in
          d ∙ placed-none (answer_at (λ rule. at_mem rule (before ++ behind) h R) (rules σ) n) (sym (ap makes d) ∙ e)

      go : Dec (n ≡ at_fold) → place_at (rules σ) n swap before l behind ≡ nothing
      go (yes d) = folds swap d e
      go (no d) = others l swap d e

-- ---- whether it stands again, by the place where it does

until-again : (l : Literal) (k : Conj) → ltb (until_same l k) (length (conj_words k)) ≡ again l k
until-again l k = go (again l k) refl
  where
    within : (k : Conj) → again l k ≡ true → until_same l k < length (conj_words k)
    within [] e = absurd (false≢true e)
    within (m ∷ k) e = at (same_literal l m) e (within k)
      where
        at : (b : Bool) → (b || again l k) ≡ true → (again l k ≡ true → until_same l k < length (conj_words k))
            → pick b 0 (length (literal_words m) + until_same l k) < length (literal_words m ++ conj_words k)
        at true e ih = let z = length-append (literal_words m) (conj_words k) in let y = literal-some m in omega arith
        at false e ih = let z = length-append (literal_words m) (conj_words k) in let y = ih e in omega arith

    beyond : (k : Conj) → again l k ≡ false → length (conj_words k) ≤ until_same l k
    beyond [] e = omega arith
    beyond (m ∷ k) e = at (same_literal l m) e (beyond k)
      where
        at : (b : Bool) → (b || again l k) ≡ false → (again l k ≡ false → length (conj_words k) ≤ until_same l k)
            → length (literal_words m ++ conj_words k) ≤ pick b 0 (length (literal_words m) + until_same l k)
        at true e ih = absurd (true≢false e)
        at false e ih = let z = length-append (literal_words m) (conj_words k) in let y = ih e in omega arith

    go : (b : Bool) → again l k ≡ b → ltb (until_same l k) (length (conj_words k)) ≡ b
    go true e = lt-ltb _ _ (within k e)
    go false e = le-ltb _ _ (beyond k e)

pub stands-again : {k : List ℕ} {at : ℕ} {before : Conj} {l : Literal} {behind : Conj} → LiteralAt k at before l behind → (r : ℕ) → r ≡ at + length (literal_words l) + until_same l behind
    → ltb r (length k) ≡ again l behind
stands-again {k} {at} {before} {l} {behind} s r e = go (ltb (until_same l behind) (length (conj_words behind))) refl (until-again l behind)
  where
    whole : length k ≡ at + length (literal_words l) + length (conj_words behind)
    whole =
        let a = ap length s.words in
        let b = length-append (conj_words before) (literal_words l ++ conj_words behind) in
        let d = length-append (literal_words l) (conj_words behind) in
        let p = s.place in
        omega arith

    go : (b : Bool) → ltb (until_same l behind) (length (conj_words behind)) ≡ b → ltb (until_same l behind) (length (conj_words behind)) ≡ again l behind → ltb r (length k) ≡ again l behind
    go true d f = lt-ltb r (length k) (let w = whole in let z = ltb-true (until_same l behind) (length (conj_words behind)) d in omega arith) ∙ sym d ∙ f
    go false d f = le-ltb r (length k) (let w = whole in let z = ltb-false (until_same l behind) (length (conj_words behind)) d in omega arith) ∙ sym d ∙ f
