-- The symbols of an expression that terms of a member can be, by their places, and terms put on them.
use Rattle.std.specs.Prelude.{ℕ, ◌+◌, ◌≡◌, ◌⊎◌}
use Rattle.language.specs.declared.Sym.{Sym}
use Rattle.language.specs.declared.Signature.{Signature}
use Rattle.language.specs.Trees.{Expr, eps, cat, alt, star, over}
use Rattle.meaning.specs.Complete.{Complete, nil, tree}
use Rattle.meaning.specs.Meaning.{Member}
use Rattle.any_order.specs.Places.{size_e}
use Rattle.any_order.specs.Sharing.{Counts, bump}

-- g over S is at the place p one of the symbols of R, which stands at `at`, and in no other symbol
abbrev pub Leaf : Expr → ℕ → ℕ → Sym → Expr → Type 0
Leaf eps at p g S = ⊥
Leaf (cat a b) at p g S = Leaf a (at + 1) p g S ⊎ Leaf b (at + 1 + size_e a) p g S
Leaf (alt a b) at p g S = Leaf a (at + 1) p g S ⊎ Leaf b (at + 1 + size_e a) p g S
Leaf (star a) at p g S = Leaf a (at + 1) p g S
Leaf (over f a) at p g S = (p ≡ at) × (f ≡ g) × (a ≡ S)

-- the term f over d can be the symbol at p
abbrev pub Fits : Signature → Expr → ℕ → Sym → Complete → ℕ → Type 0
Fits σ R at f d p = (g : Sym) × (S : Expr) × Leaf R at p g S × Member σ (over g S) (tree f d nil)

-- each term of a hedge is put on a symbol, and then G
abbrev pub Terms : (Sym → Complete → ℕ → Type 0) → (Counts → Type 0) → Complete → Counts → Type 0
Terms F G nil c = G c
Terms F G (tree f d r) c = (p : ℕ) × F f d p × Terms F G r (bump c p)
