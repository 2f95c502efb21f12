-- Two names compared letter by letter.
use Prim.Native.Nat.{ℕ, ◌+◌, ◌*◌, ◌<◌, ◌≤◌}
use native.Mathlib.Omega.{arith}
use mathlib.Core.Path.{◌≡◌, refl, sym, ap, ap₂, ◌∙◌}
use mathlib.Core.Bool.{Bool, true, false}
use mathlib.Core.List.{List, [], ◌∷◌}
use lib.Dec.{eqb}
use lib.ListN.{length, drop, get_or, drop_of_length-le}
use borrow.Author.Tests.{eq-eqb, ne_eqb, eqb-true, eqb-false}
use Rattle.language.specs.Kinds.{pick}
use Rattle.grammar.specs.Tokens.{name_byte}
use Rattle.lexing.specs.Bytes.{name_from}
use Rattle.lexing.proofs.Laws.{standing, name-range}
use Rattle.text_names.specs.Shelves.{name_at, Letter}

nothing : name_from [] ≡ 0
unfolding name_from
nothing = refl

from_cons : (b : ℕ) (bs : List ℕ) (t : Bool) → name_byte b ≡ t → name_from (b ∷ bs) ≡ pick t (b + 256 * name_from bs) 0
unfolding name_from
from_cons b bs t e = ap (λ z. pick z (b + 256 * name_from bs) 0) e

module _ (text : List ℕ) (at : ℕ) where
  pub past_end : length text ≤ at → Letter text at 0
  past_end p = record { none = λ e. ap name_from (drop_of_length-le text p) ∙ nothing; within = λ f. absurd (f refl); small = omega arith; more = λ f. absurd (f refl) }

  pub a-letter : at < length text → name_byte (get_or text at 0) ≡ true → Letter text at (get_or text at 0)
  a-letter p e =
      let r = name-range (get_or text at 0) e in
      let l = r.0 in record {
        none = λ z. absurd (omega arith);
        within = λ f. p;
        small = r.1;
        more = λ f. ap name_from (standing text at p) ∙ from_cons (get_or text at 0) (drop (at + 1) text) true e;
      }

  pub no-letter : at < length text → name_byte (get_or text at 0) ≡ false → Letter text at 0
  no-letter p e = record { none = λ z. ap name_from (standing text at p) ∙ from_cons (get_or text at 0) (drop (at + 1) text) false e; within = λ f. absurd (f refl); small = omega arith; more = λ f. absurd (f refl) }

-- ---- two names

eqb-more : (x m n : ℕ) → eqb (x + 256 * m) (x + 256 * n) ≡ eqb m n
eqb-more x m n = on (eqb m n) refl
  where
    on : (t : Bool) → eqb m n ≡ t → eqb (x + 256 * m) (x + 256 * n) ≡ t
    on true e = eq-eqb (x + 256 * m) (x + 256 * n) (ap (λ k. x + 256 * k) (eqb-true m n e))
    on false e = ne_eqb (x + 256 * m) (x + 256 * n) (λ z. eqb-false m n e (cancel x m n z))
      where
        cancel : (x m n : ℕ) → x + 256 * m ≡ x + 256 * n → m ≡ n
        cancel x m n z = omega arith

-- so far the same
pub record Alike (text : List ℕ) (a b i j : ℕ) : Type 0 where
  pub so_far : eqb (name_at text b) (name_at text a) ≡ eqb (name_at text j) (name_at text i)

module _ (text : List ℕ) (a b : ℕ) where
  pub alike-starts : Alike text a b a b
  alike-starts = record { so_far = refl }

  module _ {i j x y : ℕ} (w : Alike text a b i j) (k : Letter text i x) (l : Letter text j y) where
    pub apart : (x ≡ y → ⊥) → false ≡ eqb (name_at text b) (name_at text a)
    apart n = sym (w.so_far ∙ ne_eqb (name_at text j) (name_at text i) (λ e. on (eqb x 0) refl (eqb y 0) refl e))
      where
        on : (s : Bool) → eqb x 0 ≡ s → (t : Bool) → eqb y 0 ≡ t → name_at text j ≡ name_at text i → ⊥
        on true p true q e = let u = eqb-true x 0 p in let v = eqb-true y 0 q in n (omega arith)
        on true p false q e = let u = k.none (eqb-true x 0 p) in let z = eqb-false y 0 q in let v = l.more z in omega arith
        on false p true q e = let u = l.none (eqb-true y 0 q) in let z = eqb-false x 0 p in let v = k.more z in omega arith
        on false p false q e =
            let u = k.more (eqb-false x 0 p) in
            let v = l.more (eqb-false y 0 q) in
            let r = k.small in
            let s = l.small in
            n (low x y (name_at text (i + 1)) (name_at text (j + 1)) r s (sym u ∙ sym e ∙ v))
          where
            low : (x y m n : ℕ) → x ≤ 122 → y ≤ 122 → x + 256 * m ≡ y + 256 * n → x ≡ y
            low x y m n p q e = omega arith

    pub both_end : x ≡ y → x ≡ 0 → true ≡ eqb (name_at text b) (name_at text a)
    both_end e z = sym (w.so_far ∙ eq-eqb (name_at text j) (name_at text i) (l.none (sym e ∙ z) ∙ sym (k.none z)))

    pub alike-on : x ≡ y → (x ≡ 0 → ⊥) → Alike text a b (i + 1) (j + 1)
    alike-on e z = record {
      so_far = w.so_far ∙ ap₂ eqb (l.more (λ y0. z (e ∙ y0)) ∙ ap (λ v. v + 256 * name_at text (j + 1)) (sym e)) (k.more z) ∙ eqb-more x (name_at text (j + 1)) (name_at text (i + 1));
    }

  pub first_ends : {i j y : ℕ} → Alike text a b i j → length text ≤ i → Letter text j y → eqb y 0 ≡ eqb (name_at text b) (name_at text a)
  first_ends {i} {j} {y} w p l = on (eqb y 0) refl
    where
      z : name_at text i ≡ 0
      z = ap name_from (drop_of_length-le text p) ∙ nothing

      on : (t : Bool) → eqb y 0 ≡ t → t ≡ eqb (name_at text b) (name_at text a)
      on true e = sym (w.so_far ∙ eq-eqb (name_at text j) (name_at text i) (l.none (eqb-true y 0 e) ∙ sym z))
      on false e =
          let n = eqb-false y 0 e in
          let m = l.more n in
          let s = z in
          sym (w.so_far ∙ ne_eqb (name_at text j) (name_at text i) (λ f. n (omega arith)))

-- one letter stands at a place
pub one-letter : {text : List ℕ} {at x y : ℕ} → Letter text at x → Letter text at y → x ≡ y
one-letter {text} {at} {x} {y} k l = on (eqb x y) refl
  where
    on : (b : Bool) → eqb x y ≡ b → x ≡ y
    on true e = eqb-true x y e
    on false e = absurd (let f = apart text at at (alike-starts text at at) k l (eqb-false x y e) in let t = eq-eqb (name_at text at) (name_at text at) refl in let z : ◌≡◌ {A = ℕ} 0 1 = cc in omega arith)
