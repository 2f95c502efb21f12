-- What a plan makes of a conjunction's words: parts of them, copied or with words replaced, and single words.
use Rattle.std.specs.Prelude.{ℕ, zero, suc, ◌+◌, List, [], ◌∷◌, ◌++◌, map, get_or}
use Rattle.std.proofs.Math.Seq.{slice}
use Rattle.language.specs.Kinds.{pick}
use Rattle.meaning.specs.Values.{numbers}
use Rattle.rules.specs.Elements.{factorial}
use Rattle.words.specs.Spans.{member, places}
use Rattle.orders.specs.Orders.{ordered, renamed}
use Rattle.plans.specs.declared.Piece.{Piece}
use Rattle.plans.specs.declared.Piece.TheVariants.{Word, Copy, Put, ToCut, PutFromCut, Each, Ordered, Named}
use Rattle.plans.specs.declared.Recipe.{Recipe}
use Rattle.plans.specs.declared.Ways.{Ways}
use Rattle.plans.specs.declared.Ways.TheVariants.{Drop, One, Two, Cuts, Orders, Names}
use Rattle.plans.specs.declared.Plan.{Plan}

-- `new` for each word that is one of `old`
abbrev pub replaced : List ℕ → List ℕ → List ℕ → List ℕ
replaced old new [] = []
replaced old new (x ∷ ws) = pick (member x old) new (x ∷ []) ++ replaced old new ws

-- p = ε for each word p
abbrev pub empty_each : List ℕ → List ℕ
empty_each [] = []
empty_each (p ∷ ws) = 5000 ∷ p ∷ 0 ∷ 0 ∷ empty_each ws

-- the substitution of a recipe at a cut
unfoldable pub changed : List ℕ → Recipe → ℕ → List ℕ → List ℕ
changed k r cut ws = replaced (slice r.old r.until k) (slice r.new cut k) ws

-- at a cut, of the result of that number
abbrev pub piece_words : List ℕ → Recipe → ℕ → ℕ → Piece → List ℕ
piece_words k r cut nth (Word x) = x ∷ []
piece_words k r cut nth (Copy from to) = slice from to k
piece_words k r cut nth (Put from to) = changed k r cut (slice from to k)
piece_words k r cut nth (ToCut from) = slice from cut k
piece_words k r cut nth (PutFromCut to) = changed k r cut (slice cut to k)
piece_words k r cut nth (Each from to) = empty_each (slice from to k)
piece_words k r cut nth (Ordered from n) = ordered k from n nth
piece_words k r cut nth (Named from to) = renamed (get_or k r.old 0) (3000 + nth) (slice from to k)

abbrev pub slot_at : Recipe → ℕ → Piece
slot_at r i = (get_or r.slots i (record { piece = Word 0 })).piece

-- n pieces from the i-th on
abbrev pub pieces_from : ℕ → ℕ → List ℕ → Recipe → ℕ → ℕ → List ℕ
pieces_from zero i k r cut nth = []
pieces_from (suc n) i k r cut nth = piece_words k r cut nth (slot_at r i) ++ pieces_from n (i + 1) k r cut nth

-- the words of the result of that number
unfoldable pub numbered : List ℕ → Recipe → ℕ → ℕ → List ℕ
numbered k r cut nth = pieces_from 12 0 k r cut nth

-- the words of one result
abbrev pub made : List ℕ → Recipe → ℕ → List ℕ
made k r cut = numbered k r cut 0

-- ---- the results in order
abbrev pub ways_from : List ℕ → Recipe → Recipe → Ways → List (List ℕ)
ways_from k a b Drop = []
ways_from k a b (One cut) = made k a cut ∷ []
ways_from k a b Two = made k a 0 ∷ made k b 0 ∷ []
ways_from k a b (Cuts cut n) = map (made k a) (places n k cut)
ways_from k a b (Orders n) = map (numbered k a 0) (numbers 0 (factorial n))
ways_from k a b (Names n) = map (numbered k a 0) (numbers 0 n)

unfoldable pub results_of : List ℕ → Plan → List (List ℕ)
results_of k p = ways_from k p.first p.second p.ways
