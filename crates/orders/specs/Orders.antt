-- What the number of a result decides: in which order elements stand, and which symbol stands for a word.
use Rattle.std.specs.Prelude.{ℕ, zero, suc, ◌/◌, ◌%◌, List, [], ◌∷◌, ◌++◌, eqb, leb, get_or}
use Rattle.std.proofs.Math.Seq.{slice}
use Rattle.language.specs.Kinds.{pick}
use Rattle.rules.specs.Elements.{factorial}
use Rattle.words.specs.Spans.{element_end, places}

-- without the place of that number
abbrev pub drop_at : ℕ → List ℕ → List ℕ
drop_at d [] = []
drop_at zero (p ∷ ps) = ps
drop_at (suc d) (p ∷ ps) = p ∷ drop_at d ps

-- which of m + 1 stands first in their j-th order: each of them stands first in m! orders
abbrev pub first_in : ℕ → ℕ → ℕ
first_in m j = (j / factorial m) % suc m

-- n places in their j-th order: the one that stands first, and the others in an order of theirs
abbrev pub in_order : ℕ → ℕ → List ℕ → List ℕ
in_order zero j ps = []
in_order (suc m) j ps = get_or ps (first_in m j) 0 ∷ in_order m (j % factorial m) (drop_at (first_in m j) ps)

-- the words of the elements at these places
abbrev pub elements_at : List ℕ → List ℕ → List ℕ
elements_at k [] = []
elements_at k (p ∷ ps) = slice p (element_end k p) k ++ elements_at k ps

-- the words of n elements from a place on, in their j-th order
unfoldable pub ordered : List ℕ → ℕ → ℕ → ℕ → List ℕ
ordered k from n j = elements_at k (in_order n j (places n k from))

-- the orders of eight: more than a room has frames for
abbrev pub plenty : ℕ
plenty = 40320

-- how many orders n elements have, counted up to those of eight
unfoldable pub some_orders : ℕ → ℕ
some_orders n = pick (leb n 7) (factorial n) plenty

-- `new` for each word that is `old`
abbrev pub renamed : ℕ → ℕ → List ℕ → List ℕ
renamed old new [] = []
renamed old new (x ∷ ws) = pick (eqb old x) new x ∷ renamed old new ws
