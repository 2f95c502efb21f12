-- A token's own word, by the shelf of its class.
use Prim.Native.Nat.{ℕ, suc, ◌+◌, ◌≤◌}
use native.Mathlib.Omega.{arith}
use mathlib.Core.Path.{◌≡◌, refl, sym, ap, ap₂, ◌∙◌, subst}
use mathlib.Core.Bool.{Bool, true, false}
use mathlib.Core.List.{List, [], ◌∷◌, map}
use lib.Dec.{eqb}
use lib.ListN.{length, get_or, length-map}
use Rattle.language.specs.Limits.{Limits}
use Rattle.language.specs.Kinds.{pick}
use Rattle.language.specs.Between.{between}
use Rattle.language.proofs.Offsets.{length-between}
use Rattle.texts.specs.Numbering.{symbols, terms, hedges, functions, place}
use Rattle.lexing.specs.declared.Mark.{Mark}
use Rattle.lexing.specs.declared.Mark.TheVariants.{End, Bad, Symbol, One, Run, Function, Equals, Comma, Opens, Closes, Plus, Times}
use Rattle.text_names.specs.Shelves.{name_at, numbering, listed, Shelf, Shelves}
use Rattle.text_names.specs.Words.{first_of, shelf_by, own_word}

module _ (L : Limits) (text names : List ℕ) (at : ℕ) where
  pub no_name : (m : Mark) {f : ℕ} → f ≡ first_of m → f ≡ 0 → 0 ≡ own_word (numbering L text names) m (name_at text at)
  no_name m e z = on m (sym e ∙ z)
    where
      on : (m : Mark) → first_of m ≡ 0 → 0 ≡ own_word (numbering L text names) m (name_at text at)
      on End z = refl
      on Bad z = refl
      on Symbol z = absurd (omega arith)
      on One z = absurd (omega arith)
      on Run z = absurd (omega arith)
      on Function z = absurd (omega arith)
      on Equals z = refl
      on Comma z = refl
      on Opens z = refl
      on Closes z = refl
      on Plus z = refl
      on Times z = refl

  pub a-shelf : Shelves L names → (m : Mark) {b : ℕ} → b ≡ shelf_by L m → Shelf L names b
  a-shelf s m e = subst (Shelf L names) (sym e) (on m)
    where
      on : (m : Mark) → Shelf L names (shelf_by L m)
      on End = s terms
      on Bad = s terms
      on Symbol = s symbols
      on One = s terms
      on Run = s hedges
      on Function = s functions
      on Equals = s terms
      on Comma = s terms
      on Opens = s terms
      on Closes = s terms
      on Plus = s terms
      on Times = s terms

  pub a_word : (m : Mark) {f b k : ℕ} → f ≡ first_of m → (f ≡ 0 → ⊥) → b ≡ shelf_by L m → k ≡ place (name_at text at) (listed text names b) → f + k ≡ own_word (numbering L text names) m (name_at text at)
  unfolding numbering
  a_word m {f} {b} {k} e z d h = on m (λ y. z (e ∙ y)) (ap₂ ◌+◌ e (h ∙ ap (λ n. place (name_at text at) (listed text names n)) d))
    where
      on : (m : Mark) → (first_of m ≡ 0 → ⊥) → f + k ≡ first_of m + place (name_at text at) (listed text names (shelf_by L m)) → f + k ≡ own_word (numbering L text names) m (name_at text at)
      on End z h = absurd (z refl)
      on Bad z h = absurd (z refl)
      on Symbol z h = h
      on One z h = h
      on Run z h = h
      on Function z h = h
      on Equals z h = absurd (z refl)
      on Comma z h = absurd (z refl)
      on Opens z h = absurd (z refl)
      on Closes z h = absurd (z refl)
      on Plus z h = absurd (z refl)
      on Times z h = absurd (z refl)

-- no number is too large for a word
place-most : (x : ℕ) (l : List ℕ) → place x l ≤ length l
place-most x [] = omega arith
place-most x (y ∷ l) = on (eqb x y) (place-most x l)
  where
    on : (b : Bool) → place x l ≤ length l → pick b 0 (suc (place x l)) ≤ suc (length l)
    on true i = omega arith
    on false i = omega arith

first-most : (m : Mark) → first_of m ≤ 4000
first-most End = omega arith
first-most Bad = omega arith
first-most Symbol = omega arith
first-most One = omega arith
first-most Run = omega arith
first-most Function = omega arith
first-most Equals = omega arith
first-most Comma = omega arith
first-most Opens = omega arith
first-most Closes = omega arith
first-most Plus = omega arith
first-most Times = omega arith

pub few-names : (L : Limits) (text names : List ℕ) (at : ℕ) → Shelves L names → (m : Mark) → {f b k : ℕ} → f ≡ first_of m → b ≡ shelf_by L m → k ≡ place (name_at text at) (listed text names b) → (k ≤ L.each + 1) × (f ≤ 4000)
unfolding listed
few-names L text names at s m {f} {b} {k} e d h =
    let sh = a-shelf L text names at s m d in
    let w = sh.within in
    let few = sh.few in
    let q = place-most (name_at text at) (map (name_at text) (between (b + 1) (b + 1 + get_or names b 0) names)) in
    let l = length-map (between (b + 1) (b + 1 + get_or names b 0) names) (name_at text) in
    let g = length-between (b + 1) (b + 1 + get_or names b 0) names (omega arith) in
    let t = first-most m in
    (omega arith, omega arith)
