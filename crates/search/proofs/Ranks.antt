-- The rank of an equation is the lesser of the ranks of its two sides, the written one where they are equal, and its rule answers from that side.
use Prim.Native.Nat.{ℕ, zero, suc, ◌<◌, ◌≤◌}
use native.Mathlib.Omega.{arith}
use mathlib.Core.Path.{◌≡◌, refl, sym, ap, ◌∙◌, fun_ext}
use mathlib.Core.Bool.{Bool, true, false}
use mathlib.Core.List.{List, [], ◌∷◌, ◌++◌}
use mathlib.Core.Option.{none, some}
use lib.ListN.{length}
use Rattle.language.specs.declared.Signature.{Signature}
use Rattle.language.specs.Kinds.{pick}
use Rattle.language.specs.Trees.{Hedge, Expr, eqn, mem, Conj}
use Rattle.rules.specs.Reply.{nothing, results, stops}
use Rattle.rules.specs.Rules.{Answer, Rule, on_eqn, on_mem, on_pair, rules}
use Rattle.rules.specs.Solved.{is_some}
use Rattle.rules.specs.Step.{or_next, placed}
use Rattle.rules.specs.Ranks.{at_eqn, at_mem, first_of, answer_at, eqn_rank, mem_rank, eqn_answer, mem_answer}
use Rattle.search.specs.Ranking.{Tried, sided, tried, applies, first_reply, reply_at, lit_rank, Ranked}

-- what stands at a place, of one here and those after it
abbrev at_place : ℕ → Tried → (ℕ → Tried) → Tried
at_place n x more = elim n [ ℕ.zero ↦ x | ℕ.suc m ↦ more m ]

-- n is the place of the first that applies, and m is what it comes to
abbrev Leads : (Rule → Tried) → List Rule → ℕ → Tried → Type 0
Leads at rs n m = (n ≡ first_reply at rs) × (reply_at at rs n ≡ m)

-- ---- of two, the first or else the second: the one that applies earlier leads

module _ (at0 at1 : Rule → Tried) where
  abbrev or : Rule → Tried
  or rule = or_next (at0 rule) (λ _. at1 rule)

  first-leads : (rs : List Rule) (n : ℕ) (m : Tried) → Leads at0 rs n m → n ≤ first_reply at1 rs → Leads or rs n m
  first-leads [] n m p h = p
  first-leads (rule ∷ rs) n m p h = go (at0 rule) (at1 rule) n p.0 p.1 h (first-leads rs)
    where
      go : (x y : Tried) (n : ℕ) → n ≡ pick (applies x) 0 (suc (first_reply at0 rs)) → at_place n x (reply_at at0 rs) ≡ m
          → n ≤ pick (applies y) 0 (suc (first_reply at1 rs)) → ((n : ℕ) (m : Tried) → Leads at0 rs n m → n ≤ first_reply at1 rs → Leads or rs n m)
          → (n ≡ pick (applies (or_next x (λ _. y))) 0 (suc (first_reply or rs))) × (at_place n (or_next x (λ _. y)) (reply_at or rs) ≡ m)
      go (results a) y zero e r h ih = (refl, r)
      go (results a) y (suc n) e r h ih = absurd (omega arith)
      go (stops q) y zero e r h ih = (refl, r)
      go (stops q) y (suc n) e r h ih = absurd (omega arith)
      go nothing nothing zero e r h ih = absurd (omega arith)
      go nothing nothing (suc n) e r h ih = let i = ih n m (omega arith, r) (omega arith) in (ap suc i.0, i.1)
      go nothing (results b) n e r h ih = absurd (omega arith)
      go nothing (stops q) n e r h ih = absurd (omega arith)

  second-leads : (rs : List Rule) (n : ℕ) (m : Tried) → Leads at1 rs n m → n < first_reply at0 rs → Leads or rs n m
  second-leads [] n m p h = p
  second-leads (rule ∷ rs) n m p h = go (at0 rule) (at1 rule) n p.0 p.1 h (second-leads rs)
    where
      go : (x y : Tried) (n : ℕ) → n ≡ pick (applies y) 0 (suc (first_reply at1 rs)) → at_place n y (reply_at at1 rs) ≡ m
          → n < pick (applies x) 0 (suc (first_reply at0 rs)) → ((n : ℕ) (m : Tried) → Leads at1 rs n m → n < first_reply at0 rs → Leads or rs n m)
          → (n ≡ pick (applies (or_next x (λ _. y))) 0 (suc (first_reply or rs))) × (at_place n (or_next x (λ _. y)) (reply_at or rs) ≡ m)
      go (results a) y n e r h ih = absurd (omega arith)
      go (stops q) y n e r h ih = absurd (omega arith)
      go nothing nothing zero e r h ih = absurd (omega arith)
      go nothing nothing (suc n) e r h ih = let i = ih n m (omega arith, r) (omega arith) in (ap suc i.0, i.1)
      go nothing (results b) zero e r h ih = (refl, r)
      go nothing (results b) (suc n) e r h ih = absurd (omega arith)
      go nothing (stops q) zero e r h ih = (refl, r)
      go nothing (stops q) (suc n) e r h ih = absurd (omega arith)

-- at a rank below the number of rules something applies
pub rank-applies : (at : Rule → Tried) (rs : List Rule) (n : ℕ) → n ≡ first_reply at rs → n < length rs → applies (reply_at at rs n) ≡ true
rank-applies at [] n e h = absurd (omega arith)
rank-applies at (rule ∷ rs) n e h = go (at rule) n e h (rank-applies at rs)
  where
    go : (x : Tried) (n : ℕ) → n ≡ pick (applies x) 0 (suc (first_reply at rs)) → n < suc (length rs)
        → ((n : ℕ) → n ≡ first_reply at rs → n < length rs → applies (reply_at at rs n) ≡ true) → applies (at_place n x (reply_at at rs)) ≡ true
    go nothing zero e h ih = absurd (omega arith)
    go nothing (suc n) e h ih = ih n (omega arith) (omega arith)
    go (results a) zero e h ih = refl
    go (results a) (suc n) e h ih = absurd (omega arith)
    go (stops q) zero e h ih = refl
    go (stops q) (suc n) e h ih = absurd (omega arith)

-- ---- rules of one literal, by what they answer

module _ (before behind : Conj) (swap : Bool) (at : Rule → Answer) where
  abbrev answered : Rule → Tried
  answered rule = sided swap (placed before behind (at rule))

  answered-first : (rs : List Rule) → first_of at rs ≡ first_reply answered rs
  answered-first [] = refl
  answered-first (rule ∷ rs) = go (at rule) (answered-first rs)
    where
      go : (w : Answer) → first_of at rs ≡ first_reply answered rs
          → pick (is_some w) 0 (suc (first_of at rs)) ≡ pick (applies (sided swap (placed before behind w))) 0 (suc (first_reply answered rs))
      go none ih = ap suc ih
      go (some bs) ih = refl

  answered-at : (rs : List Rule) (n : ℕ) → reply_at answered rs n ≡ sided swap (placed before behind (answer_at at rs n))
  answered-at [] n = refl
  answered-at (rule ∷ rs) zero = refl
  answered-at (rule ∷ rs) (suc n) = answered-at rs n

  answered-leads : (rs : List Rule) (n : ℕ) → n ≡ first_of at rs → Leads answered rs n (sided swap (placed before behind (answer_at at rs n)))
  answered-leads rs n e = (e ∙ answered-first rs, answered-at rs n)

-- ---- at an equation and at a membership

or_nothing : (m : Tried) → or_next m (λ _. nothing) ≡ m
or_nothing nothing = refl
or_nothing (results a) = refl
or_nothing (stops r) = refl

abbrev side-at : Bool → Conj → Hedge → Hedge → Conj → Rule → Tried
side-at swap before l r behind = answered before behind swap (λ rule. at_eqn rule (before ++ behind) l r)

abbrev member-at : Conj → Hedge → Expr → Conj → Rule → Tried
member-at before h R behind = answered before behind false (λ rule. at_mem rule (before ++ behind) h R)

tried-eqn : (before : Conj) (l r : Hedge) (behind : Conj) (rule : Rule)
    → tried rule before (eqn l r) behind ≡ or (side-at false before l r behind) (side-at true before r l behind) rule
tried-eqn before l r behind (on_eqn rule) = refl
tried-eqn before l r behind (on_mem rule) = refl
tried-eqn before l r behind (on_pair rule) = refl

tried-mem : (before : Conj) (h : Hedge) (R : Expr) (behind : Conj) (rule : Rule) → tried rule before (mem h R) behind ≡ member-at before h R behind rule
tried-mem before h R behind (on_eqn rule) = refl
tried-mem before h R behind (on_mem rule) = or_nothing _
tried-mem before h R behind (on_pair rule) = refl

-- the same rules, so the same leads
leads-as : (σ : Signature) (at bt : Rule → Tried) → ((rule : Rule) → at rule ≡ bt rule) → (n : ℕ) (m : Tried) → Leads bt (rules σ) n m → Leads at (rules σ) n m
leads-as σ at bt f n m p = let e = fun_ext f in (p.0 ∙ sym (ap (λ f. first_reply f (rules σ)) e), ap (λ f. reply_at f (rules σ) n) e ∙ p.1)

module _ (σ : Signature) (before : Conj) (l r : Hedge) (behind : Conj) (a b : ℕ) (ea : a ≡ eqn_rank σ (before ++ behind) l r) (eb : b ≡ eqn_rank σ (before ++ behind) r l) where
  abbrev written : Rule → Tried
  written = side-at false before l r behind

  abbrev other : Rule → Tried
  other = side-at true before r l behind

  pub rank-written : a ≤ b → Ranked σ before (eqn l r) behind a false
  unfolding lit_rank eqn_rank eqn_answer
  rank-written h =
      let w = answered-leads before behind false (λ rule. at_eqn rule (before ++ behind) l r) (rules σ) a ea in
      let o = answered-leads before behind true (λ rule. at_eqn rule (before ++ behind) r l) (rules σ) b eb in
      let (rank, side) = leads-as σ (λ rule. tried rule before (eqn l r) behind) _ (tried-eqn before l r behind) a _
      (first-leads written other (rules σ) a _ w (let d = o.0 in omega arith)) in
      record { rank = rank; side = side }

  pub rank-swapped : b < a → Ranked σ before (eqn l r) behind b true
  unfolding lit_rank eqn_rank eqn_answer
  rank-swapped h =
      let w = answered-leads before behind false (λ rule. at_eqn rule (before ++ behind) l r) (rules σ) a ea in
      let o = answered-leads before behind true (λ rule. at_eqn rule (before ++ behind) r l) (rules σ) b eb in
      let (rank, side) = leads-as σ (λ rule. tried rule before (eqn l r) behind) _ (tried-eqn before l r behind) b _
      (second-leads written other (rules σ) b _ o (let d = w.0 in omega arith)) in
      record { rank = rank; side = side }

pub rank-member : (σ : Signature) (before : Conj) (h : Hedge) (R : Expr) (behind : Conj) (a : ℕ) → a ≡ mem_rank σ (before ++ behind) h R → Ranked σ before (mem h R) behind a false
unfolding lit_rank mem_rank mem_answer
rank-member σ before h R behind a e =
    let (rank, side) = leads-as σ (λ rule. tried rule before (mem h R) behind) _ (tried-mem before h R behind) a _
    (answered-leads before behind false (λ rule. at_mem rule (before ++ behind) h R) (rules σ) a e) in
    record { rank = rank; side = side }
