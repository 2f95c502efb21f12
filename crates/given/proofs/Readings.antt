-- A filling, check by check: which of 11 and 12 is given, and when neither is.
use Prim.Native.Nat.{ℕ, ◌<◌, ◌≤◌}
use mathlib.Core.Path.{◌≡◌, refl, sym, ap, ◌∙◌}
use mathlib.Core.Bool.{Bool, true, false, ◌&&◌, and-false}
use mathlib.Core.List.{List}
use mathlib.Core.Option.{Option, none, some}
use native.Mathlib.Omega.{arith}
use lib.Dec.{leb, eqb}
use lib.ListN.{length, get_or}
use borrow.Author.Tests.{le-leb, lt-leb, eq-eqb, ne_eqb}
use Rattle.language.specs.declared.Refusal.TheVariants.{FillingLayout, FillingValue}
use Rattle.language.specs.Limits.{desk}
use Rattle.language.specs.Trees.{Counts}
use Rattle.language.specs.Question.{laid_out, parts}
use Rattle.language.proofs.Offsets.{laid-short}
use Rattle.meaning.specs.Complete.{Complete}
use Rattle.meaning.specs.Values.{variables, forms, values_of, filling, Given, gives, refuses, read_filling}
use Rattle.std.specs.Prelude.{Ok, Err}
use Rattle.given.specs.Checking.{is_some, all_of_form, given}

module _ (n : Counts) (ws : List ℕ) where
  abbrev layout : Bool
  layout = leb (length ws) desk.filling && eqb (get_or ws 0 0) (variables n) && laid_out 1 (variables n) ws

  refused : layout ≡ false → read_filling desk n ws ≡ refuses FillingLayout
  unfolding read_filling
  refused e = rw (read_filling, e)

  bad-layout : layout ≡ false → Err FillingLayout ≡ given (read_filling desk n ws)
  unfolding given
  bad-layout e = ap given (sym (refused e))

  pub too_long : desk.filling < length ws → Err FillingLayout ≡ given (read_filling desk n ws)
  too_long p = bad-layout (rw (lt-leb (length ws) desk.filling p))

  pub not-laid : (m : ℕ) → m ≡ variables n → laid_out 1 m ws ≡ false → Err FillingLayout ≡ given (read_filling desk n ws)
  not-laid m q e = bad-layout (ap (λ b. (leb (length ws) desk.filling && eqb (get_or ws 0 0) (variables n)) && b) (ap (λ m. laid_out 1 m ws) (sym q) ∙ e) ∙ and-false (leb (length ws) desk.filling && eqb (get_or ws 0 0) (variables n)))

  pub no_words : length ws < 1 → Err FillingLayout ≡ given (read_filling desk n ws)
  no_words p = not-laid (variables n) refl (laid-short 1 (variables n) ws (omega arith))

  pub other-count : (get_or ws 0 0 ≡ variables n → ⊥) → length ws ≤ desk.filling → Err FillingLayout ≡ given (read_filling desk n ws)
  other-count p q = bad-layout (rw (le-leb (length ws) desk.filling q, ne_eqb (get_or ws 0 0) (variables n) p))

  module _ (m : ℕ) (i : m ≡ variables n) (q : length ws ≤ desk.filling) (p : get_or ws 0 0 ≡ m) (l : laid_out 1 m ws ≡ true) where
    good-layout : layout ≡ true
    good-layout = rw (le-leb (length ws) desk.filling q, eq-eqb (get_or ws 0 0) (variables n) (p ∙ i), ← i, l)

    -- what the values are
    abbrev outcome : Option (List Complete) → Given
    outcome o = elim o [ none ↦ refuses FillingValue | some vs ↦ gives (filling n vs) ]

    to_values : read_filling desk n ws ≡ outcome (values_of desk n (forms n) (parts 1 (variables n) ws))
    unfolding read_filling
    to_values = rw (read_filling, good-layout)

    bad : (o : Option (List Complete)) → is_some o ≡ false → Err FillingValue ≡ given (outcome o)
    unfolding given
    bad none e = refl
    bad (some vs) e = absurd (let z : ◌≡◌ {A = ℕ} 0 1 = cc in omega arith)

    good : (o : Option (List Complete)) → is_some o ≡ true → Ok tt ≡ given (outcome o)
    unfolding given
    good none e = absurd (let z : ◌≡◌ {A = ℕ} 0 1 = cc in omega arith)
    good (some vs) e = refl

    pub bad-value : (b : Bool) → b ≡ all_of_form n ws → b ≡ false → Err FillingValue ≡ given (read_filling desk n ws)
    unfolding all_of_form
    bad-value b e f = bad (values_of desk n (forms n) (parts 1 (variables n) ws)) (sym e ∙ f) ∙ ap given (sym to_values)

    pub good-values : (b : Bool) → b ≡ all_of_form n ws → b ≡ true → Ok tt ≡ given (read_filling desk n ws)
    unfolding all_of_form
    good-values b e f = good (values_of desk n (forms n) (parts 1 (variables n) ws)) (sym e ∙ f) ∙ ap given (sym to_values)
