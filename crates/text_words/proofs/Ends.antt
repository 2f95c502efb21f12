-- The token behind a literal, and the word `in`.
use Prim.Native.Nat.{ℕ, zero, suc, ◌+◌, ◌-◌, ◌*◌, ◌<◌, ◌≤◌}
use native.Mathlib.Omega.{arith}
use mathlib.Core.Path.{◌≡◌, refl, sym, ap, ap₂, ◌∙◌, subst}
use mathlib.Core.Bool.{Bool, true, false, ◌&&◌}
use mathlib.Core.List.{List, [], ◌∷◌}
use mathlib.Core.Option.{none, some}
use lib.Dec.{eqb}
use lib.ListN.{length, drop, get_or}
use borrow.Author.Tests.{eqb-true, eq-eqb, ne_eqb}
use Rattle.language.specs.Kinds.{pick}
use Rattle.language.specs.Trees.{fvar}
use Rattle.grammar.specs.Tokens.{Token, one, run, functor, equals, comma, opens, closes, plus, times, begins_name, Tokens, name_token, name_byte, blank, letter, marked, star_or, byte, tokens}
use Rattle.lexing.specs.declared.Mark.{Mark}
use Rattle.lexing.specs.declared.Mark.TheVariants.{End, Bad, Symbol, One, Run, Function, Equals, Comma, Opens, Closes, Plus, Times}
use Rattle.lexing.specs.Bytes.{line, others, sort_of}
use Rattle.lexing.specs.Pieces.{here, front}
use Rattle.lexing.proofs.Laws.{standing, line-go}
use Rattle.text_names.specs.Shelves.{name_at, Letter}
use Rattle.language.specs.Between.{between}
use Rattle.language.proofs.Offsets.{between_cons}
use Rattle.backwards.proofs.Reading.{NoEnd, puts-some, first-number}
use Rattle.backwards.proofs.Cutting.{Over, none_between}
use Rattle.text_words.specs.Literals.{over_of, equals_of, in_name, in_of}

-- ---- `in`

module _ {text : List ℕ} {at x : ℕ} (a : Letter text at x) where
  letters : (x ≡ 0 → ⊥) → name_at text at ≡ x + 256 * name_at text (at + 1)
  letters = a.more

  pub first-other : (x ≡ 105 → ⊥) → false ≡ in_name text at
  unfolding in_name
  first-other n = sym (ne_eqb (name_at text at) (105 + 256 * (110 + 0)) (λ e. on (eqb x 0) refl e))
    where
      on : (b : Bool) → eqb x 0 ≡ b → name_at text at ≡ 105 + 256 * (110 + 0) → ⊥
      on true z e = let y = a.none (eqb-true x 0 z) in omega arith
      on false z e = let y = a.more (λ w. let v = eq-eqb x 0 w in let u : ◌≡◌ {A = ℕ} 0 1 = cc in omega arith) in let s = a.small in n (omega arith)

  module _ (i : x ≡ 105) {y : ℕ} (b : Letter text (at + 1) y) where
    first : name_at text at ≡ 105 + 256 * name_at text (at + 1)
    first = a.more (λ z. omega arith) ∙ ap (λ k. k + 256 * name_at text (at + 1)) i

    pub second-other : (y ≡ 110 → ⊥) → false ≡ in_name text at
    unfolding in_name
    second-other n = sym (ne_eqb (name_at text at) (105 + 256 * (110 + 0)) (λ e. on (eqb y 0) refl e))
      where
        on : (t : Bool) → eqb y 0 ≡ t → name_at text at ≡ 105 + 256 * (110 + 0) → ⊥
        on true z e = let w = b.none (eqb-true y 0 z) in let f = first in omega arith
        on false z e = let w = b.more (λ v. let k = eq-eqb y 0 v in let u : ◌≡◌ {A = ℕ} 0 1 = cc in omega arith) in let s = b.small in let f = first in let g : name_at text (at + 1) ≡ 110 = omega arith in let k : name_at text (at + 1 + 1) < 1 = omega arith in n (omega arith)

    module _ (j : y ≡ 110) {z : ℕ} (d : Letter text (at + 2) z) where
      both : name_at text at ≡ 105 + 256 * (110 + 256 * name_at text (at + 2))
      both = first ∙ ap (λ k. 105 + 256 * k) (b.more (λ w. omega arith) ∙ ap₂ (λ k m. k + 256 * name_at text m) j (let w : at + 1 + 1 ≡ at + 2 = omega arith in w))

      pub third : eqb z 0 ≡ in_name text at
      unfolding in_name
      third = on (eqb z 0) refl
        where
          not-zero : eqb z 0 ≡ false → z ≡ 0 → ⊥
          not-zero e v = let k = eq-eqb z 0 v in let u : ◌≡◌ {A = ℕ} 0 1 = cc in omega arith

          on : (t : Bool) → eqb z 0 ≡ t → t ≡ eqb (name_at text at) (105 + 256 * (110 + 0))
          on true e = sym (eq-eqb (name_at text at) (105 + 256 * (110 + 0)) (let w = d.none (eqb-true z 0 e) in let f = both in omega arith))
          on false e = sym (ne_eqb (name_at text at) (105 + 256 * (110 + 0)) (λ q. let w = d.more (λ v. let k = eq-eqb z 0 v in let u : ◌≡◌ {A = ℕ} 0 1 = cc in omega arith) in let f = both in let g : name_at text (at + 2) ≡ 0 = omega arith in not-zero e (omega arith)))

pub no-sort : (text : List ℕ) (at : ℕ) (m : Mark) {k : ℕ} → k ≡ sort_of m → (k ≡ 1 → ⊥) → false ≡ in_of text m at
unfolding in_of
no-sort text at m {k} e n = sym (ap (λ b. b && in_name text at) (ne_eqb (sort_of m) 1 (λ z. n (e ∙ z))))

pub a-sort : (text : List ℕ) (at : ℕ) (m : Mark) {k : ℕ} {r : Bool} → k ≡ sort_of m → k ≡ 1 → r ≡ in_name text at → r ≡ in_of text m at
unfolding in_of
a-sort text at m {k} {r} e n f = f ∙ sym (ap (λ b. b && in_name text at) (eq-eqb (sort_of m) 1 (sym e ∙ n)))

-- ---- a literal ends before a comma and at the end of the line

pub over-front : (m : Mark) (x : ℕ) (o : Tokens) (us : List Token) → front m x o ≡ some us → over_of m ≡ true → Over us
over-front End x o us e f = subst Over (let z : [] ≡ us = cc in z) tt
over-front Bad x o us e f = absurd (let z : ◌≡◌ {A = ℕ} 0 1 = cc in omega arith)
over-front Symbol x o us e f = absurd (let z : ◌≡◌ {A = ℕ} 0 1 = cc in omega arith)
over-front One x o us e f = absurd (let z : ◌≡◌ {A = ℕ} 0 1 = cc in omega arith)
over-front Run x o us e f = absurd (let z : ◌≡◌ {A = ℕ} 0 1 = cc in omega arith)
over-front Function x o us e f = absurd (let z : ◌≡◌ {A = ℕ} 0 1 = cc in omega arith)
over-front Equals x o us e f = absurd (let z : ◌≡◌ {A = ℕ} 0 1 = cc in omega arith)
over-front Comma x o us e f = let w = puts-some comma o us e in subst Over (sym w.2) tt
over-front Opens x o us e f = absurd (let z : ◌≡◌ {A = ℕ} 0 1 = cc in omega arith)
over-front Closes x o us e f = absurd (let z : ◌≡◌ {A = ℕ} 0 1 = cc in omega arith)
over-front Plus x o us e f = absurd (let z : ◌≡◌ {A = ℕ} 0 1 = cc in omega arith)
over-front Times x o us e f = absurd (let z : ◌≡◌ {A = ℕ} 0 1 = cc in omega arith)

pub not-over : (m : Mark) (x : ℕ) (o : Tokens) (us : List Token) → front m x o ≡ some us → over_of m ≡ false → Over us → ⊥
not-over End x o us e f v = let z : ◌≡◌ {A = ℕ} 0 1 = cc in omega arith
not-over Bad x o us e f v = let z : ◌≡◌ {A = ℕ} 0 1 = cc in omega arith
not-over Symbol x o us e f v = let w = puts-some (name_token x) o us e in subst Over w.2 v
not-over One x o us e f v = let w = puts-some (one (record { 0 = x })) o us e in subst Over w.2 v
not-over Run x o us e f v = let w = puts-some (run (record { 0 = x })) o us e in subst Over w.2 v
not-over Function x o us e f v = let w = puts-some (functor (fvar (record { 0 = x }))) o us e in subst Over w.2 v
not-over Equals x o us e f v = let w = puts-some (equals) o us e in subst Over w.2 v
not-over Comma x o us e f v = let z : ◌≡◌ {A = ℕ} 0 1 = cc in omega arith
not-over Opens x o us e f v = let w = puts-some (opens) o us e in subst Over w.2 v
not-over Closes x o us e f v = let w = puts-some (closes) o us e in subst Over w.2 v
not-over Plus x o us e f v = let w = puts-some (plus) o us e in subst Over w.2 v
not-over Times x o us e f v = let w = puts-some (times) o us e in subst Over w.2 v

-- an equals sign; the word `in`; neither
pub equals-front : (m : Mark) (x : ℕ) (o : Tokens) (us : List Token) → front m x o ≡ some us → equals_of m ≡ true → (vs : List Token) × (o ≡ some vs) × (us ≡ equals ∷ vs)
equals-front End x o us e f = absurd (let z : ◌≡◌ {A = ℕ} 0 1 = cc in omega arith)
equals-front Bad x o us e f = absurd (let z : ◌≡◌ {A = ℕ} 0 1 = cc in omega arith)
equals-front Symbol x o us e f = absurd (let z : ◌≡◌ {A = ℕ} 0 1 = cc in omega arith)
equals-front One x o us e f = absurd (let z : ◌≡◌ {A = ℕ} 0 1 = cc in omega arith)
equals-front Run x o us e f = absurd (let z : ◌≡◌ {A = ℕ} 0 1 = cc in omega arith)
equals-front Function x o us e f = absurd (let z : ◌≡◌ {A = ℕ} 0 1 = cc in omega arith)
equals-front Equals x o us e f = puts-some equals o us e
equals-front Comma x o us e f = absurd (let z : ◌≡◌ {A = ℕ} 0 1 = cc in omega arith)
equals-front Opens x o us e f = absurd (let z : ◌≡◌ {A = ℕ} 0 1 = cc in omega arith)
equals-front Closes x o us e f = absurd (let z : ◌≡◌ {A = ℕ} 0 1 = cc in omega arith)
equals-front Plus x o us e f = absurd (let z : ◌≡◌ {A = ℕ} 0 1 = cc in omega arith)
equals-front Times x o us e f = absurd (let z : ◌≡◌ {A = ℕ} 0 1 = cc in omega arith)

pub symbol-front : (m : Mark) (x : ℕ) (o : Tokens) (us : List Token) → front m x o ≡ some us → sort_of m ≡ 1 → (vs : List Token) × (o ≡ some vs) × (us ≡ name_token x ∷ vs)
symbol-front End x o us e f = absurd (omega arith)
symbol-front Bad x o us e f = absurd (omega arith)
symbol-front Symbol x o us e f = puts-some (name_token x) o us e
symbol-front One x o us e f = absurd (omega arith)
symbol-front Run x o us e f = absurd (omega arith)
symbol-front Function x o us e f = absurd (omega arith)
symbol-front Equals x o us e f = absurd (omega arith)
symbol-front Comma x o us e f = absurd (omega arith)
symbol-front Opens x o us e f = absurd (omega arith)
symbol-front Closes x o us e f = absurd (omega arith)
symbol-front Plus x o us e f = absurd (omega arith)
symbol-front Times x o us e f = absurd (omega arith)

pub not-equals : (m : Mark) (x : ℕ) (o : Tokens) (us vs : List Token) → front m x o ≡ some us → equals_of m ≡ false → us ≡ equals ∷ vs → ⊥
not-equals End x o us vs e f v = let z : ◌≡◌ {A = ℕ} 0 1 = cc in omega arith
not-equals Bad x o us vs e f v = let z : ◌≡◌ {A = ℕ} 0 1 = cc in omega arith
not-equals Symbol x o us vs e f v = let w = puts-some (name_token x) o us e in let z : ◌≡◌ {A = ℕ} 0 1 = cc in omega arith
not-equals One x o us vs e f v = let w = puts-some (one (record { 0 = x })) o us e in let z : ◌≡◌ {A = ℕ} 0 1 = cc in omega arith
not-equals Run x o us vs e f v = let w = puts-some (run (record { 0 = x })) o us e in let z : ◌≡◌ {A = ℕ} 0 1 = cc in omega arith
not-equals Function x o us vs e f v = let w = puts-some (functor (fvar (record { 0 = x }))) o us e in let z : ◌≡◌ {A = ℕ} 0 1 = cc in omega arith
not-equals Equals x o us vs e f v = let z : ◌≡◌ {A = ℕ} 0 1 = cc in omega arith
not-equals Comma x o us vs e f v = let w = puts-some (comma) o us e in let z : ◌≡◌ {A = ℕ} 0 1 = cc in omega arith
not-equals Opens x o us vs e f v = let w = puts-some (opens) o us e in let z : ◌≡◌ {A = ℕ} 0 1 = cc in omega arith
not-equals Closes x o us vs e f v = let w = puts-some (closes) o us e in let z : ◌≡◌ {A = ℕ} 0 1 = cc in omega arith
not-equals Plus x o us vs e f v = let w = puts-some (plus) o us e in let z : ◌≡◌ {A = ℕ} 0 1 = cc in omega arith
not-equals Times x o us vs e f v = let w = puts-some (times) o us e in let z : ◌≡◌ {A = ℕ} 0 1 = cc in omega arith

pub not-symbol : (m : Mark) (x y : ℕ) (o : Tokens) (us vs : List Token) → front m x o ≡ some us → us ≡ name_token y ∷ vs → (sort_of m ≡ 1) × (x ≡ y)
not-symbol End x y o us vs e v = absurd (let z : ◌≡◌ {A = ℕ} 0 1 = cc in omega arith)
not-symbol Bad x y o us vs e v = absurd (let z : ◌≡◌ {A = ℕ} 0 1 = cc in omega arith)
not-symbol Symbol x y o us vs e v = let w = puts-some (name_token x) o us e in (refl, ap first-number (sym w.2 ∙ v))
not-symbol One x y o us vs e v = absurd (let w = puts-some (one (record { 0 = x })) o us e in let z : ◌≡◌ {A = ℕ} 0 1 = cc in omega arith)
not-symbol Run x y o us vs e v = absurd (let w = puts-some (run (record { 0 = x })) o us e in let z : ◌≡◌ {A = ℕ} 0 1 = cc in omega arith)
not-symbol Function x y o us vs e v = absurd (let w = puts-some (functor (fvar (record { 0 = x }))) o us e in let z : ◌≡◌ {A = ℕ} 0 1 = cc in omega arith)
not-symbol Equals x y o us vs e v = absurd (let w = puts-some (equals) o us e in let z : ◌≡◌ {A = ℕ} 0 1 = cc in omega arith)
not-symbol Comma x y o us vs e v = absurd (let w = puts-some (comma) o us e in let z : ◌≡◌ {A = ℕ} 0 1 = cc in omega arith)
not-symbol Opens x y o us vs e v = absurd (let w = puts-some (opens) o us e in let z : ◌≡◌ {A = ℕ} 0 1 = cc in omega arith)
not-symbol Closes x y o us vs e v = absurd (let w = puts-some (closes) o us e in let z : ◌≡◌ {A = ℕ} 0 1 = cc in omega arith)
not-symbol Plus x y o us vs e v = absurd (let w = puts-some (plus) o us e in let z : ◌≡◌ {A = ℕ} 0 1 = cc in omega arith)
not-symbol Times x y o us vs e v = absurd (let w = puts-some (times) o us e in let z : ◌≡◌ {A = ℕ} 0 1 = cc in omega arith)

-- ---- from a place of a line that is all tokens on, it is all tokens

same-either : (t : Bool) (o : Tokens) → o ≡ none → pick t none o ≡ none
same-either true o e = refl
same-either false o e = e

letter-none : (b : ℕ) (n : Bool) → letter b n none ≡ none
unfolding letter
letter-none b true = refl
letter-none b false = refl

marked-none : (f : ℕ → Token) (n : Bool) → marked f n none ≡ none
unfolding marked
marked-none f true = refl
marked-none f false = refl

star-none : (n : Bool) → star_or n none ≡ none
unfolding star_or
star-none true = refl
star-none false = refl

byte-none : (b : ℕ) (n : Bool) → byte b n none ≡ none
unfolding byte
byte-none b n = rw (letter-none b n, marked-none, star-none n, marked-none)
    (same-either (name_byte b) _ (same-either (blank b) _ (same-either (eqb b 63) _ (same-either (eqb b 42) _ (same-either (eqb b 37) _ (same-either (eqb b 61) _ (same-either (eqb b 44) _ (same-either (eqb b 40) _ (same-either (eqb b 41) _ (same-either (eqb b 43) none refl))))))))))

some-behind : (b : ℕ) (n : Bool) (o : Tokens) (ts : List Token) → byte b n o ≡ some ts → (us : List Token) × (o ≡ some us)
some-behind b n none ts e = absurd (let z = byte-none b n in let y : ◌≡◌ {A = ℕ} 0 1 = cc in omega arith)
some-behind b n (some us) ts e = (us, refl)

pub clean-later : (text : List ℕ) (to : ℕ) → to ≤ length text → (k at : ℕ) → at + k ≡ to → NoEnd (between at to text) → (ts : List Token) → here text at ≡ some ts → (us : List Token) × (here text to ≡ some us)
unfolding tokens
clean-later text to h zero at p n ts e = (ts, ap (here text) (let z : to ≡ at = omega arith in z) ∙ e)
clean-later text to h (suc k) at p n ts e =
    let m = subst NoEnd (between_cons at to text (omega arith) h) n in
    let c : here text at ≡ byte (get_or text at 0) (begins_name (line (drop (at + 1) text))) (here text (at + 1)) = ap tokens (ap line (standing text at (omega arith)) ∙ line-go (get_or text at 0) (drop (at + 1) text) m.0) in
    let w = some-behind (get_or text at 0) (begins_name (line (drop (at + 1) text))) (here text (at + 1)) ts (sym c ∙ e) in
    clean-later text to h k (at + 1) (omega arith) m.1 w.0 w.1

pub clean_at : (text : List ℕ) (at to : ℕ) → at ≤ to → to ≤ length text → others (drop at text) ≡ others (drop to text) → (ts : List Token) → here text at ≡ some ts → (us : List Token) × (here text to ≡ some us)
clean_at text at to p h s ts e = clean-later text to h (to - at) at (omega arith) (none_between text to h (to - at) at (omega arith) (ap length s)) ts e

-- a letter stands within the text
pub letter-in : {text : List ℕ} {at x k : ℕ} → Letter text at x → x ≡ k → 1 ≤ k → at < length text
letter-in {text} {at} {x} {k} a e p = a.within (λ z. omega arith)
