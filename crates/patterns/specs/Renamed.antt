-- A pattern's tree with its blanks numbered anew, and the pair's question as trees.
use Rattle.std.specs.Prelude.{ℕ, ◌+◌, List, [], ◌∷◌}
use Rattle.language.specs.Trees.{Functor, symbol, fvar, Hedge, ε, tvar, hvar, node, eqn, Conj, Counts, Question}
use Rattle.patterns.specs.Blanks.{before, Blanks, blanks_in, counted, nothing}
use Rattle.patterns.specs.Pairs.{of_both}

module _ (n : Counts) (b : Blanks) where
  abbrev pub renamed_f : Functor → Functor
  renamed_f (symbol f) = symbol f
  renamed_f (fvar X) = fvar (record { 0 = n.functions + before X.0 b.functions })

  abbrev pub renamed : Hedge → Hedge
  renamed ε = ε
  renamed (tvar x r) = tvar (record { 0 = n.terms + before x.0 b.terms }) (renamed r)
  renamed (hvar p r) = hvar (record { 0 = n.hedges + before p.0 b.hedges }) (renamed r)
  renamed (node f c r) = node (renamed_f f) (renamed c) (renamed r)

-- the first pattern's tree h, and the second's, k
abbrev pub first_of : List ℕ → Hedge → Hedge
first_of first h = renamed nothing (blanks_in first) h

abbrev pub second_of : ℕ → List ℕ → List ℕ → Hedge → Hedge
second_of word first second k = renamed (counted word (blanks_in first)) (blanks_in second) k

abbrev pub pair_conj : ℕ → List ℕ → List ℕ → Hedge → Hedge → Conj
pair_conj word first second h k = eqn (first_of first h) (second_of word first second k) ∷ []

abbrev pub pair_asks : ℕ → List ℕ → List ℕ → Hedge → Hedge → Question
pair_asks word first second h k = record { counts = of_both word first second; alternatives = pair_conj word first second h k ∷ [] }
