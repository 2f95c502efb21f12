-- What marks beside a hedge's words say: which of its trees are left, and which of these is taken next.
use Rattle.std.specs.Prelude.{ℕ, ◌+◌, ◌≡◌, Bool, false, ◌&&◌, List, get_or}
use Rattle.language.specs.declared.Sym.{Sym}
use Rattle.language.specs.declared.Signature.{Signature}
use Rattle.language.specs.Kinds.{pick}
use Rattle.language.specs.Trees.{is_unordered, eq_s}
use Rattle.meaning.specs.Complete.{Complete, nil, tree}
use Rattle.meaning.specs.Deciding.{same_up_to}
use Rattle.passing.specs.Places.{size_c}

-- whether the tree g over d is the same as the tree f over c
abbrev pub fit : Signature → Sym → Complete → Sym → Complete → Bool
fit σ f c g d = eq_s f g && same_up_to σ c (is_unordered σ f) d

-- of the hedge that stands at j, the trees without a mark
abbrev pub left : List Bool → ℕ → Complete → Complete
left k j nil = nil
left k j (tree f c r) = pick (get_or k j false) (left k (j + 1 + size_c c) r) (tree f c (left k (j + 1 + size_c c) r))

-- the place of the first of these that fits, n where there is none; where order counts, only the first of all may fit
abbrev pub found : ℕ → List Bool → Bool → (Sym → Complete → Bool) → ℕ → Complete → ℕ
found n k b fits j nil = n
found n k b fits j (tree f c r) =
    pick (get_or k j false) (found n k b fits (j + 1 + size_c c) r) (pick (fits f c) j (pick b (found n k b fits (j + 1 + size_c c) r) n))

-- the trees themselves have the same marks
abbrev pub Tops : List Bool → List Bool → ℕ → Complete → Type 0
Tops k k' j nil = Unit {0}
Tops k k' j (tree f c r) = (get_or k' j false ≡ get_or k j false) × Tops k k' (j + 1 + size_c c) r
