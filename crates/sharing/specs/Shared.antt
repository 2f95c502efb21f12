-- The first element that two hedges share, in a conjunction's words, whatever stands in them. A walk from element to element needs no more steps
-- than there are words.
use Rattle.std.specs.Prelude.{ℕ, zero, suc, List, eqb, ltb, length, get_or, Option, Some, None}
use Rattle.std.proofs.Math.Seq.{slice}
use Rattle.language.specs.Kinds.{pick}
use Rattle.words.specs.Spans.{element_end}
use Rattle.words.specs.Places.{same_list}
use Rattle.sharing.specs.declared.Spots.{Spots}

-- from the element at i on, within n elements, the place of the first that has the words ws; the length, where none has
unfoldable pub equal_from : ℕ → List ℕ → List ℕ → ℕ → ℕ
equal_from zero k ws i = length k
equal_from (suc n) k ws i = pick (eqb (get_or k i 0) 0) (length k) (pick (same_list ws (slice i (element_end k i) k)) i (equal_from n k ws (element_end k i)))

-- the element at i stands at p too
abbrev pub twice : List ℕ → ℕ → ℕ → Spots
twice k i p = record { left = i; after = element_end k i; right = p; behind = element_end k p }

-- from the element at i on, within n elements, the first that the hedge at j has too
unfoldable pub shared_from : ℕ → List ℕ → ℕ → ℕ → Option Spots
shared_from zero k i j = None
shared_from (suc n) k i j =
    pick (eqb (get_or k i 0) 0) None
    (pick (ltb (equal_from (length k) k (slice i (element_end k i) k) j) (length k)) (Some (twice k i (equal_from (length k) k (slice i (element_end k i) k) j)))
    (shared_from n k (element_end k i) j))

unfoldable pub first_shared : List ℕ → ℕ → ℕ → Option Spots
first_shared k i j = shared_from (length k) k i j
