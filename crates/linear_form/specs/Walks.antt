-- What the recursions over an expression's parts leave: the results of its monomials, counted, and written.
use Rattle.std.specs.Prelude.{ℕ, suc, ◌+◌, ◌-◌, ◌≤◌, ◌≡◌, Bool, false, ◌&&◌, ◌||◌, List, ◌++◌, map, eqb, length, get_or, Option}
use Rattle.std.proofs.Math.Seq.{slice}
use Rattle.language.specs.Kinds.{pick}
use Rattle.language.specs.Limits.{desk}
use Rattle.language.specs.Trees.{Expr}
use Rattle.language.specs.Writing.{expr_words}
use Rattle.rules.specs.Looks.{is_eps}
use Rattle.rules.specs.Expressions.{nullable}
use Rattle.frames.specs.Frames.{in_frames}
use Rattle.plans.specs.Sizes.{Short}
use Rattle.slices.specs.Written.{Wrote}
use Rattle.linear_form.specs.declared.adding.Kept.{Kept}
use Rattle.linear_form.specs.declared.Outside.{Outside}
use Rattle.linear_form.specs.declared.Counted.{Counted}
use Rattle.linear_form.specs.declared.Walked.{Walked}
use Rattle.expressions.specs.Standing.{Here}
use Rattle.linear_form.specs.Charted.{Past}
use Rattle.monomials.specs.Loose.{met}
use Rattle.linear_form.specs.Rows.{kept_length, row_words, tallied, Holds}

-- what is among the last n words of `rest` stays there
pub record Keeps (n : ℕ) (rest rest' : List ℕ) : Type 0 where
  pub long : length rest' ≡ length rest
  pub holds : (vs : List ℕ) → length vs ≤ n → Holds rest vs → Holds rest' vs

-- a part more from outside
pub record Widened (k : List ℕ) (from until : ℕ) (o : Outside) (rest rest' : List ℕ) (r : Outside) : Type 0 where
  pub parts : r.parts ≡ o.parts + 1
  pub words : r.words ≡ o.words + (until - from)
  pub keeps : Keeps o.words rest rest'
  pub held : (ws : List ℕ) → length ws ≡ o.words → Holds rest ws → Holds rest' (slice from until k ++ ws)

-- what the first part of a concatenation gets from outside, the second being B
pub record EnclosedBy (B : Expr) (ws : List ℕ) (o : Outside) (rest rest' : List ℕ) (r : Outside) : Type 0 where
  pub parts : r.parts ≡ pick (is_eps B) o.parts (suc o.parts)
  pub words : length (pick (is_eps B) ws (expr_words B ++ ws)) ≡ r.words
  pub held : Holds rest ws → Holds rest' (pick (is_eps B) ws (expr_words B ++ ws))

pub record Enclosed (k : List ℕ) (from until : ℕ) (o : Outside) (rest rest' : List ℕ) (r : Outside) : Type 0 where
  pub few : r.parts ≤ o.parts + 1
  pub less : o.words ≤ r.words
  pub short : r.words ≤ o.words + (until - from)
  pub keeps : Keeps o.words rest rest'
  pub each : (B : Expr) (beyond ws : List ℕ) → Here k from B beyond → until ≡ from + length (expr_words B) → length ws ≡ o.words → EnclosedBy B ws o rest rest' r

-- the first part of a concatenation at `at`, whose second part stands at `mid`
pub record HandedCat (k : List ℕ) (mid : ℕ) (o : Outside) (rest rest' : List ℕ) (r : Outside) : Type 0 where
  pub end : ℕ
  pub past : Past k mid end
  pub enclosed : Enclosed k mid end o rest rest' r

-- what the first part of the expression at `at` gets from outside, by the expression's word
pub record Handed (k : List ℕ) (at mid : ℕ) (o : Outside) (rest rest' : List ℕ) (r : Outside) : Type 0 where
  pub few : r.parts ≤ o.parts + 1
  pub short : r.words ≤ o.words + desk.question
  pub star : get_or k at 0 ≡ 7003 → Widened k at mid o rest rest' r
  pub cat : get_or k at 0 ≡ 7001 → HandedCat k mid o rest rest' r
  pub alt : (get_or k at 0 ≡ 7003 → ⊥) → (get_or k at 0 ≡ 7001 → ⊥) → (r ≡ o) × (rest' ≡ rest)

-- whether the second part of an expression with this word adds nothing, by whether its first is nullable
unfoldable pub closes : ℕ → Bool → Bool
closes x null = pick null false (eqb x 7001)

-- whether an expression with this word is nullable, by its two parts
unfoldable pub joined : ℕ → Bool → Bool → Bool
joined x a b = pick (eqb x 7001) (a && b) (a || b)

-- R, which stands at the place, is passed, and the results of its monomials are counted; the words from outside are ws
pub record TalliesOver (k : List ℕ) (s : Kept) (R : Expr) (n : ℕ) (ws : List ℕ) (before : Option ℕ) (r : Counted) : Type 0 where
  pub null : r.null ≡ nullable R
  pub size : r.size ≡ tallied before (map (row_words k s) (met R n ws))

pub record Tallies (k : List ℕ) (kept at : ℕ) (o : Outside) (before : Option ℕ) (r : Counted) : Type 0 where
  pub each : (s : Kept) (R : Expr) (beyond ws : List ℕ) → kept ≡ kept_length k s → Here k at R beyond → length ws ≡ o.words → TalliesOver k s R o.parts ws before r

-- the results ls, which get this number, are written after the others where none is too long and there is room; the words from outside are ws
pub record Added (number : ℕ) (ls : List (List ℕ)) (ws rest out : List ℕ) (t : ℕ) (rest' out' : List ℕ) (r : ℕ) : Type 0 where
  pub keeps : Keeps (length ws) rest rest'
  pub wrote : Holds rest ws → desk.question ≤ length rest → Short ls → t + length (in_frames number ls) ≤ length out → Wrote out t (in_frames number ls) out' r

-- R, which stands at the place, is passed, and the results of its monomials are written
pub record WalksOver (k : List ℕ) (s : Kept) (R : Expr) (n : ℕ) (ws rest out : List ℕ) (t : ℕ) (rest' out' : List ℕ) (r : Walked) : Type 0 where
  pub null : r.null ≡ nullable R
  pub added : Added s.number (map (row_words k s) (met R n ws)) ws rest out t rest' out' r.to

pub record Walks (k : List ℕ) (s : Kept) (at : ℕ) (o : Outside) (rest out : List ℕ) (t : ℕ) (rest' out' : List ℕ) (r : Walked) : Type 0 where
  pub room : r.to ≤ length out'
  pub each : (R : Expr) (beyond ws : List ℕ) → Here k at R beyond → length ws ≡ o.words → WalksOver k s R o.parts ws rest out t rest' out' r
