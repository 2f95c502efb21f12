-- The words of a complete hedge without the 0 at its end.
use Rattle.std.specs.Prelude.{ℕ, ◌+◌, List, [], ◌∷◌, ◌++◌}
use Rattle.meaning.specs.Complete.{Complete, nil, tree, complete_words}

abbrev pub body : Complete → List ℕ
body nil = []
body (tree f c r) = (3000 + f.0) ∷ (complete_words c ++ body r)
