-- What is written in words stands there.
use Prim.Native.Nat.{ℕ, ◌+◌, ◌<◌}
use mathlib.Core.Path.{◌≡◌, ◌∙◌, ap}
use mathlib.Core.List.{List, ◌∷◌, ◌++◌, append_assoc}
use native.Mathlib.Numerals.{add-one}
use native.Mathlib.Omega.{arith}
use lib.ListN.{length, get_or, drop, length-drop}
use lib.Seq.{drop-cons}
use Rattle.meaning.specs.Complete.{Complete, nil, tree, complete_words}
use Rattle.passing.specs.Places.{size_c, Holds, at-nil, at-tree, StandsC}

module _ (s : List ℕ) (at : ℕ) {x : ℕ} {t : List ℕ} (h : drop at s ≡ x ∷ t) where
  pub lt_of : at < length s
  lt_of = omega (arith, length-drop at s, ap length h)

  pub word-of : get_or s at 0 ≡ x
  word-of = cc (drop-cons s at 0 lt_of)

  pub tail_of : drop (at + 1) s ≡ t
  tail_of = rw add-one (cc (drop-cons s at 0 lt_of))

placed : (h : List ℕ) (j : ℕ) (g : Complete) (k : List ℕ) → drop j h ≡ complete_words g ++ k → Holds h j g × (drop (j + size_c g) h ≡ k)
placed h j nil k e = (at-nil (lt_of h j e) (word-of h j e), tail_of h j e)
placed h j (tree f c r) k e =
    let (x, p) = placed h (j + 1) c (complete_words r ++ k) (tail_of h j e ∙ append_assoc (complete_words c) (complete_words r) k) in
    let (y, q) = placed h (j + 1 + size_c c) r k p in
    let z : j + (1 + size_c c + size_c r) ≡ j + 1 + size_c c + size_c r = omega arith in
    (at-tree (lt_of h j e) (word-of h j e) x y, rw z q)

pub holds_of : {h : List ℕ} {j : ℕ} {g : Complete} → StandsC h j g → Holds h j g
holds_of {h} {j} {g} s = (placed h j g s.others s.words).0
