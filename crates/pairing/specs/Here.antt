-- The question of a pair whose patterns are each one term, in words, and what was told of it.
use Rattle.std.specs.Prelude.{ℕ, ◌≤◌, ◌≡◌, true, false, ◌&&◌, List, length}
use Rattle.language.specs.Limits.{desk}
use Rattle.patterns.specs.declared.Pair.{Pair}
use Rattle.patterns.specs.Terms.{one_term}
use Rattle.patterns.specs.Pairs.{of_both, too_many, pair_words}

pub record Here (word : ℕ) (ps qs question : List ℕ) (p : Pair) : Type 0 where
  pub words : question ≡ pair_words word ps qs
  pub few : too_many (of_both word ps qs) ≡ false
  pub first : one_term ps ≡ true
  pub second : one_term qs ≡ true
  pub size : p.first ≡ length ps
  pub terms : p.terms ≡ (of_both word ps qs).terms
  pub hedges : p.hedges ≡ (of_both word ps qs).hedges
  pub short : length question ≤ desk.question

pub record PairHere (question : List ℕ) (p : Pair) : Type 0 where
  pub word : ℕ
  pub one : List ℕ
  pub other : List ℕ
  pub here : Here word one other question p

-- the same of patterns that need not be one term
pub record Known (word : ℕ) (ps qs question : List ℕ) (p : Pair) : Type 0 where
  pub words : question ≡ pair_words word ps qs
  pub few : too_many (of_both word ps qs) ≡ false
  pub fair : p.fair ≡ (one_term ps && one_term qs)
  pub first : p.first ≡ length ps
  pub terms : p.terms ≡ (of_both word ps qs).terms
  pub hedges : p.hedges ≡ (of_both word ps qs).hedges
  pub short : length question ≤ desk.question

pub record PairKnown (question : List ℕ) (p : Pair) : Type 0 where
  pub word : ℕ
  pub one : List ℕ
  pub other : List ℕ
  pub known : Known word one other question p
