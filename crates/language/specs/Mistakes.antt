-- What it is for a place to be that of the mistake: of 5, of 6, and of every other refusal.
use Rattle.std.specs.Prelude.{ℕ, ◌+◌, ◌<◌, ◌≤◌, ◌≡◌, true, false, List, ◌++◌, length, get_or}
use Rattle.language.specs.declared.Refusal.{Refusal}
use Rattle.language.specs.Limits.{Limits}
use Rattle.language.specs.Numbers.{number_of, place_of}
use Rattle.language.specs.Trees.{Conj}
use Rattle.language.specs.Writing.{conj_words}
use Rattle.language.specs.Fine.{fine_conj}
use Rattle.language.specs.Question.{counts_of, alternatives_of, body_at}
use Rattle.language.specs.Between.{between}
use Rattle.language.specs.Undeclared.{declared_word}

-- the words are those of literals
pub record AreLiterals (L : Limits) (ws : List ℕ) : Type 0 where
  pub literals : Conj
  pub fine : fine_conj L literals
  pub words : ws ≡ conj_words literals

-- the words can be continued to literals: there are words that complete them
pub record Continue (L : Limits) (ws : List ℕ) : Type 0 where
  pub rest : List ℕ
  pub complete : AreLiterals L (ws ++ rest)

-- the words of the alternative at i, from its offset to the next
abbrev pub alternative_at : ℕ → List ℕ → List ℕ
alternative_at i ws = between (get_or ws (5 + i) 0) (get_or ws (6 + i) 0) ws

-- "for 5 the first word that cannot continue a literal (the conjunction's end, if it breaks off)"
pub record BrokenAt (L : Limits) (ws : List ℕ) (at : ℕ) : Type 0 where
  -- the alternative that the place is in
  pub alternative : ℕ
  pub there : alternative < alternatives_of ws
  pub low : get_or ws (5 + alternative) 0 ≤ at
  pub high : at ≤ get_or ws (6 + alternative) 0
  pub inside : get_or ws (6 + alternative) 0 ≤ length ws
  -- those before it are literals
  pub before : (i : ℕ) → i < alternative → AreLiterals L (alternative_at i ws)
  -- its words before the place can be continued, and with the word at the place they cannot;
  pub goes_on : Continue L (between (get_or ws (5 + alternative) 0) at ws)
  pub no-further : at < get_or ws (6 + alternative) 0 → ¬ Continue L (between (get_or ws (5 + alternative) 0) (at + 1) ws)
  -- where the place is its end, it breaks off: there are words missing
  pub breaks-off : at ≡ get_or ws (6 + alternative) 0 → ¬ AreLiterals L (alternative_at alternative ws)

-- "for 6 the first undeclared number", of all the words behind the offsets
pub record UndeclaredIn (L : Limits) (ws : List ℕ) (at : ℕ) : Type 0 where
  pub low : body_at ws ≤ at
  pub high : at < length ws
  pub before : (i : ℕ) → body_at ws ≤ i → i < at → declared_word L (counts_of ws) (get_or ws i 0) ≡ true
  pub here : declared_word L (counts_of ws) (get_or ws at 0) ≡ false

-- "for all other outcomes it is 0"
pub record RightPlace (L : Limits) (ws : List ℕ) (r : Refusal) : Type 0 where
  pub five : number_of r ≡ 5 → BrokenAt L ws (place_of r)
  pub six : number_of r ≡ 6 → UndeclaredIn L ws (place_of r)
  pub others : ¬ (number_of r ≡ 5) → ¬ (number_of r ≡ 6) → place_of r ≡ 0
