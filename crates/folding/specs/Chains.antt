-- A table of places in a conjunction's words, in chains. A place is kept as the number after it, and 0 ends a chain: `heads` has the first of each
-- chain, and `next`, for each place that is kept, the one that follows. No literal has fewer than three words, so a place divided by three is a number
-- for the literal there, and `next` has a third as many entries as a conjunction has words.
use Rattle.std.specs.Prelude.{ℕ, suc, ◌+◌, ◌*◌, ◌-◌, ◌/◌, ◌%◌, ◌≤◌, ◌<◌, ◌≡◌, Bool, true, false, List, [], ◌∷◌, length, get_or, set}
use Rattle.std.proofs.Math.Seq.{slice}
use Rattle.language.specs.Limits.{desk}
use Rattle.words.specs.Places.{same_list}

-- ---- which chain

unfoldable pub mixed : ℕ → List ℕ → ℕ
mixed s [] = s
mixed s (w ∷ ws) = mixed ((s * 1664525 + w) % 4294967296) ws

unfoldable pub bucket : List ℕ → ℕ
bucket ws = mixed 0 ws / 4194304

-- ---- what is in a chain

-- the place q is in the chain from p on
pub data Held (next : List ℕ) : ℕ → ℕ → Type 0 where
  here : {p q : ℕ} → p ≡ suc q → Held next p q
  further : {p q : ℕ} (m : ℕ) → p ≡ suc m → Held next (get_or next (m / 3) 0) q → Held next p q

-- all places are three words before `at` at least, and along a chain they fall; there is a chain for each number, and room for each literal
pub record Falls (heads next : List ℕ) (at : ℕ) : Type 0 where
  pub chains : length heads ≡ 1024
  pub room : length next ≡ desk.question / 3
  pub low : (h : ℕ) → get_or heads h 0 ≤ at - 2
  pub falls : (s : ℕ) → get_or next s 0 ≤ 3 * s

-- whether the words from `at` to `end` stand at q too
abbrev pub same_at : List ℕ → ℕ → ℕ → ℕ → Bool
same_at k at end q = same_list (slice at end k) (slice q (q + (end - at)) k)

-- the place r in the chain has the same words; or none has, and r is the length
pub data Sought (k next : List ℕ) (first at end r : ℕ) : Type 0 where
  met : Held next first r → same_at k at end r ≡ true → Sought k next first at end r
  unmet : r ≡ length k → ((q : ℕ) → Held next first q → same_at k at end q ≡ false) → Sought k next first at end r

abbrev pub head_of : List ℕ → List ℕ → ℕ
head_of heads ws = get_or heads (bucket ws) 0

-- the same, in the chain of the words from `at` to `end`; where none has them, `at` becomes its first
pub data Noted (k heads next : List ℕ) (at end r : ℕ) (heads' next' : List ℕ) : Type 0 where
  old : Held next (head_of heads (slice at end k)) r → same_at k at end r ≡ true → heads' ≡ heads → next' ≡ next → Noted k heads next at end r heads' next'
  new : r ≡ length k → ((q : ℕ) → Held next (head_of heads (slice at end k)) q → same_at k at end q ≡ false)
      → bucket (slice at end k) < length heads → at / 3 < length next
      → heads' ≡ set heads (bucket (slice at end k)) (at + 1) → next' ≡ set next (at / 3) (head_of heads (slice at end k))
      → Noted k heads next at end r heads' next'
