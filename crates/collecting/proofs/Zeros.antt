-- Shelves of zeros: no name is on them.
use Prim.Native.Nat.{ℕ, ◌+◌, ◌*◌, ◌<◌, ◌≤◌}
use native.Mathlib.Omega.{arith}
use mathlib.Core.Path.{◌≡◌, ap, ◌∙◌}
use mathlib.Core.List.{List}
use lib.ListN.{length, get_or, replicate, get_or-replicate, length-replicate}
use Rattle.language.specs.Limits.{desk}
use Rattle.texts.specs.Numbering.{Class, symbols, terms, hedges, functions}
use Rattle.text_names.specs.Shelves.{width, shelf_of, Shelves}

abbrev pub zeros : ℕ → List ℕ
zeros n = replicate n 0

zero-at : (n i : ℕ) → i < n → get_or (zeros n) i 0 ≡ 0
zero-at n i p = get_or-replicate n i 0 0 p

module _ {names : List ℕ} (e : names ≡ zeros (4 * (desk.each + 2))) where
  pub empty-counts : (c : Class) → get_or names (shelf_of desk c) 0 ≡ 0
  empty-counts c = ap (λ l. get_or l (shelf_of desk c) 0) e ∙ on c
    where
      on : (c : Class) → get_or (zeros (4 * (desk.each + 2))) (shelf_of desk c) 0 ≡ 0
      on terms = zero-at (4 * (desk.each + 2)) 0 (omega arith)
      on hedges = zero-at (4 * (desk.each + 2)) (width desk) (omega arith)
      on symbols = zero-at (4 * (desk.each + 2)) (2 * width desk) (omega arith)
      on functions = zero-at (4 * (desk.each + 2)) (3 * width desk) (omega arith)

  pub names-long : length names ≡ 4 * (desk.each + 2)
  names-long = ap length e ∙ length-replicate {A = ℕ} (4 * (desk.each + 2)) 0

  pub empty-shelves : Shelves desk names
  empty-shelves c = record { within = let l = names-long in at_most c l; few = let z = empty-counts c in omega arith }
    where
      at_most : (c : Class) → length names ≡ 4 * (desk.each + 2) → shelf_of desk c + width desk ≤ length names
      at_most terms l = omega arith
      at_most hedges l = omega arith
      at_most symbols l = omega arith
      at_most functions l = omega arith
