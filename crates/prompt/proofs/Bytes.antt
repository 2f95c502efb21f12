-- One byte: what each test that the code makes says of it.
use Prim.Native.Nat.{ℕ, ◌+◌, ◌*◌, ◌-◌, ◌<◌, ◌≤◌}
use mathlib.Core.Path.{◌≡◌, refl, sym, ap, ap₂, ◌∙◌}
use mathlib.Core.Bool.{true, false}
use native.Mathlib.Omega.{arith}
use lib.Dec.{leb}
use borrow.Author.Tests.{leb-true, lt-ltb, le-ltb, le-leb, lt-leb, eq-eqb, ne_eqb}
use Rattle.language.proofs.Bools.{both_true}
use Rattle.prompt.specs.declared.Place.{Place}
use Rattle.prompt.specs.declared.Mode.TheVariants.{Between, Number, Remark, Wrong}
use Rattle.prompt.specs.Texts.{digit, gap, longer, after_word, outside, in_remark, after}

module _ (b : ℕ) where
  pub low : b < 48 → false ≡ digit b
  unfolding digit
  low p = rw (lt-leb 48 b p)

  pub not_low : 48 ≤ b → leb b 57 ≡ digit b
  unfolding digit
  not_low p = rw (le-leb 48 b p)

  pub digit-from : digit b ≡ true → 48 ≤ b
  unfolding digit
  digit-from e = leb-true 48 b (both_true (leb 48 b) (leb b 57) e).0

  pub no_gap : (b ≡ 32 → ⊥) → (b ≡ 9 → ⊥) → (b ≡ 13 → ⊥) → (b ≡ 10 → ⊥) → false ≡ gap b
  unfolding gap
  no_gap p q r s = rw (ne_eqb b 32 p, ne_eqb b 9 q, ne_eqb b 13 r, ne_eqb b 10 s)

  pub follows-gap : gap b ≡ true → Between ≡ after_word b
  unfolding after_word
  follows-gap e = rw e

  pub follows-hash : gap b ≡ false → b ≡ 35 → Remark ≡ after_word b
  unfolding after_word
  follows-hash e h = rw (e, eq-eqb b 35 h)

  pub follows-other : gap b ≡ false → (b ≡ 35 → ⊥) → Wrong ≡ after_word b
  unfolding after_word
  follows-other e h = rw (e, ne_eqb b 35 h)

  pub remark-ends : b ≡ 10 → Between ≡ in_remark b
  unfolding in_remark
  remark-ends e = rw (eq-eqb b 10 e)

  pub remark-goes-on : (b ≡ 10 → ⊥) → Remark ≡ in_remark b
  unfolding in_remark
  remark-goes-on e = rw (ne_eqb b 10 e)

  module _ (here : Place) (from : ℕ) where
    pub line-ends : b ≡ 10 → record { line = here.line + 1; column = 1; from = from } ≡ after here from b
    unfolding after
    line-ends e = rw (eq-eqb b 10 e)

    pub line-goes-on : (b ≡ 10 → ⊥) → record { line = here.line; column = here.column + 1; from = from } ≡ after here from b
    unfolding after
    line-goes-on e = rw (ne_eqb b 10 e)

  module _ (v : ℕ) where
    pub on-digit : digit b ≡ true → longer v b ≡ outside v b
    unfolding outside
    on-digit e = rw e

    pub on-other : digit b ≡ false → after_word b ≡ outside v b
    unfolding outside
    on-other e = rw e

-- a byte that is this one
pub is-gap : (b v : ℕ) → gap v ≡ true → b ≡ v → true ≡ gap b
is-gap b v g e = sym (ap gap e ∙ g)

pub space : gap 32 ≡ true
unfolding gap
space = refl

pub tab : gap 9 ≡ true
unfolding gap
tab = refl

pub return : gap 13 ≡ true
unfolding gap
return = refl

pub line-end : gap 10 ≡ true
unfolding gap
line-end = refl

-- the number, from what the code made of the word and of the byte
module _ (v b w x : ℕ) (e : w ≡ v) (f : x ≡ b) where
  same_number : w * 10 + (x - 48) ≡ v * 10 + (b - 48)
  same_number = ap₂ (λ w x. w * 10 + (x - 48)) e f

  pub number_fits : w * 10 + (x - 48) < 65536 → Number (w * 10 + (x - 48)) ≡ longer v b
  unfolding longer
  number_fits p = ap Number same_number ∙ rw (lt-ltb (v * 10 + (b - 48)) 65536 (omega (arith, same_number)))

  pub number-too-large : 65536 ≤ w * 10 + (x - 48) → Wrong ≡ longer v b
  unfolding longer
  number-too-large p = rw (le-ltb (v * 10 + (b - 48)) 65536 (omega (arith, same_number)))
