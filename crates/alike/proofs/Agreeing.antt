-- Comparing words.
use Prim.Native.Nat.{ℕ}
use mathlib.Core.Path.{◌≡◌, sym, ◌∙◌}
use mathlib.Core.Bool.{Bool}
use mathlib.Core.List.{List}
use Rattle.std.specs.Prelude.{nat_eq}
use Rattle.std.specs.Cmp.Lexicographic.{pointwise, same_text, other_text}
use Rattle.alike.specs.Tasks.{SameWords}

-- the test of two slices tells whether their words are the same
pub told-words : (a b : List ℕ) (r : Bool) → r ≡ pointwise nat_eq a b → SameWords a b r
told-words a b r e = record { same = λ t. same_text a b (sym t ∙ e); other = λ f. other_text a b (sym f ∙ e) }
