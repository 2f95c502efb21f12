-- The bytes of a line, one after the other: a blank, a token by itself, a name, a mark before a name.
use Prim.Native.Nat.{ℕ, suc, ◌+◌, ◌*◌, ◌<◌, ◌≤◌}
use native.Mathlib.Omega.{arith}
use native.Mathlib.Numerals.{add-one}
use mathlib.Core.Path.{◌≡◌, refl, sym, ap, ap₂, ◌∙◌}
use mathlib.Core.Bool.{Bool, true, false, ◌||◌}
use mathlib.Core.List.{List, [], ◌∷◌}
use mathlib.Core.Option.{none, some}
use lib.Dec.{leb, eqb}
use lib.ListN.{length, drop, get_or, drop_of_length-le, length-drop}
use lib.Seq.{drop-cons, drop-drop, get_or-drop}
use borrow.Author.Tests.{leb-true, leb-false, le-leb, lt-leb, eqb-true, ne_eqb}
use Rattle.language.specs.Kinds.{pick}
use Rattle.language.specs.Trees.{fvar}
use Rattle.grammar.specs.Tokens.{one, functor, equals, comma, opens, closes, plus, name_byte, blank, begins_name, Tokens, puts, renamed, name_token, letter, marked, star_or, byte, tokens}
use Rattle.texts.proofs.Lexing.{tokens-cons, byte-letter}
use Rattle.lexing.specs.declared.Mark.{Mark}
use Rattle.lexing.specs.declared.Mark.TheVariants.{End, Bad, Symbol, One, Run, Function, Equals, Comma, Opens, Closes, Plus, Times}
use Rattle.lexing.specs.Bytes.{line, others, name_from, leading, name_length, blanks, mark_of}
use Rattle.lexing.specs.Pieces.{Skipped}

-- ---- a letter or digit, by its range

module _ (b : ℕ) where
  pub below-0 : b < 48 → false ≡ name_byte b
  unfolding name_byte
  below-0 p = rw (lt-leb 48 b p, lt-leb 65 b (omega arith), lt-leb 97 b (omega arith))

  pub up-to-9 : 48 ≤ b → b ≤ 57 → true ≡ name_byte b
  unfolding name_byte
  up-to-9 p q = rw (le-leb 48 b p, le-leb b 57 q)

  pub below-A : 57 < b → b < 65 → false ≡ name_byte b
  unfolding name_byte
  below-A p q = rw (le-leb 48 b (omega arith), lt-leb b 57 p, lt-leb 65 b q, lt-leb 97 b (omega arith))

  pub up-to-Z : 65 ≤ b → b ≤ 90 → true ≡ name_byte b
  unfolding name_byte
  up-to-Z p q = rw (le-leb 48 b (omega arith), lt-leb b 57 (omega arith), le-leb 65 b p, le-leb b 90 q)

  pub below-a : 90 < b → b < 97 → false ≡ name_byte b
  unfolding name_byte
  below-a p q = rw (le-leb 48 b (omega arith), lt-leb b 57 (omega arith), le-leb 65 b (omega arith), lt-leb b 90 p, lt-leb 97 b q)

  pub from-a : 97 ≤ b → leb b 122 ≡ name_byte b
  unfolding name_byte
  from-a p = rw (le-leb 48 b (omega arith), lt-leb b 57 (omega arith), le-leb 65 b (omega arith), lt-leb b 90 (omega arith), le-leb 97 b p)

  pub name-range : name_byte b ≡ true → (48 ≤ b) × (b ≤ 122)
  name-range e = (low (leb 48 b) refl, high (leb b 96) refl)
    where
      low : (t : Bool) → leb 48 b ≡ t → 48 ≤ b
      low true f = leb-true 48 b f
      low false f = absurd (let d = below-0 (leb-false 48 b f) in let z : ◌≡◌ {A = ℕ} 0 1 = cc in omega arith)

      high : (t : Bool) → leb b 96 ≡ t → b ≤ 122
      high true f = let p = leb-true b 96 f in omega arith
      high false f = leb-true b 122 (from-a (let p = leb-false b 96 f in omega arith) ∙ e)

  pub no-newline : name_byte b ≡ true → eqb b 10 ≡ false
  no-newline e = ne_eqb b 10 (λ f. let r = (name-range e).0 in omega arith)

  -- a space, a tab, a carriage return, and any other byte
  pub no-blank : (b ≡ 32 → ⊥) → (b ≡ 9 → ⊥) → (b ≡ 13 → ⊥) → false ≡ blank b
  unfolding blank
  no-blank p q r = rw (ne_eqb b 32 p, ne_eqb b 9 q, ne_eqb b 13 r)

  pub blank-free : blank b ≡ true → (name_byte b ≡ false) × (eqb b 10 ≡ false)
  unfolding blank name_byte
  blank-free e = on (eqb b 32) refl (eqb b 9) refl (eqb b 13) refl e
    where
      on : (s : Bool) → eqb b 32 ≡ s → (t : Bool) → eqb b 9 ≡ t → (u : Bool) → eqb b 13 ≡ u → (s || (t || u)) ≡ true → (name_byte b ≡ false) × (eqb b 10 ≡ false)
      on true p t q u r f = let z = eqb-true b 32 p in (ap name_byte z, ap (λ n. eqb n 10) z)
      on false p true q u r f = let z = eqb-true b 9 q in (ap name_byte z, ap (λ n. eqb n 10) z)
      on false p false q true r f = let z = eqb-true b 13 r in (ap name_byte z, ap (λ n. eqb n 10) z)
      on false p false q false r f = absurd (let z : ◌≡◌ {A = ℕ} 0 1 = cc in omega arith)

pub is-blank : (b v : ℕ) → blank v ≡ true → b ≡ v → true ≡ blank b
is-blank b v g e = sym (ap blank e ∙ g)

pub space : blank 32 ≡ true
unfolding blank
space = refl

pub tab : blank 9 ≡ true
unfolding blank
tab = refl

pub return : blank 13 ≡ true
unfolding blank
return = refl

pub is-mark : (b v : ℕ) (m : Mark) → mark_of v ≡ m → b ≡ v → m ≡ mark_of b
is-mark b v m g e = sym (ap mark_of e ∙ g)

pub question : mark_of 63 ≡ One
unfolding mark_of name_byte
question = refl

pub star : mark_of 42 ≡ Run
unfolding mark_of name_byte
star = refl

pub percent : mark_of 37 ≡ Function
unfolding mark_of name_byte
percent = refl

pub equal : mark_of 61 ≡ Equals
unfolding mark_of name_byte
equal = refl

pub between : mark_of 44 ≡ Comma
unfolding mark_of name_byte
between = refl

pub open-bracket : mark_of 40 ≡ Opens
unfolding mark_of name_byte
open-bracket = refl

pub close-bracket : mark_of 41 ≡ Closes
unfolding mark_of name_byte
close-bracket = refl

pub plus-sign : mark_of 43 ≡ Plus
unfolding mark_of name_byte
plus-sign = refl

pub other-mark : (b : ℕ) (m : Mark) → m ≡ pick (name_byte b) Symbol Bad → (b ≡ 63 → ⊥) → (b ≡ 42 → ⊥) → (b ≡ 37 → ⊥) → (b ≡ 61 → ⊥) → (b ≡ 44 → ⊥) → (b ≡ 40 → ⊥) → (b ≡ 41 → ⊥) → (b ≡ 43 → ⊥) → m ≡ mark_of b
unfolding mark_of
other-mark b m e p q r s t u v w = e ∙ rw (ne_eqb b 63 p, ne_eqb b 42 q, ne_eqb b 37 r, ne_eqb b 61 s, ne_eqb b 44 t, ne_eqb b 40 u, ne_eqb b 41 v, ne_eqb b 43 w)

-- ---- the line from a byte on

pub line-go : (b : ℕ) (bs : List ℕ) → eqb b 10 ≡ false → line (b ∷ bs) ≡ b ∷ line bs
unfolding line
line-go b bs e = ap (λ t. pick t [] (b ∷ line bs)) e

pub others-go : (b : ℕ) (bs : List ℕ) → eqb b 10 ≡ false → others (b ∷ bs) ≡ others bs
unfolding others
others-go b bs e = ap (λ t. pick t (Rattle.grammar.specs.Grammar.lines_of bs) (others bs)) e

pub begins-line : (bs : List ℕ) → begins_name (line bs) ≡ begins_name bs
unfolding line name_byte
begins-line [] = refl
begins-line (b ∷ bs) = on (eqb b 10) refl
  where
    on : (t : Bool) → eqb b 10 ≡ t → begins_name (pick t [] (b ∷ line bs)) ≡ name_byte b
    on true e = sym (ap name_byte (eqb-true b 10 e))
    on false e = refl

-- what a byte makes of the tokens behind it, by its mark
abbrev pub reading : Mark → ℕ → Bool → Tokens → Tokens
reading End b n ts = none
reading Bad b n ts = none
reading Symbol b n ts = letter b n ts
reading One b n ts = marked (λ m. one (record { 0 = m })) n ts
reading Run b n ts = star_or n ts
reading Function b n ts = marked (λ m. functor (fvar (record { 0 = m }))) n ts
reading Equals b n ts = puts equals ts
reading Comma b n ts = puts comma ts
reading Opens b n ts = puts opens ts
reading Closes b n ts = puts closes ts
reading Plus b n ts = puts plus ts
reading Times b n ts = none

by-mark : (b : ℕ) (n : Bool) (ts : Tokens) → blank b ≡ false → byte b n ts ≡ reading (mark_of b) b n ts
unfolding byte mark_of
by-mark b n ts f = ap (λ t. pick (name_byte b) (letter b n ts) (pick t ts (pick (eqb b 63) (marked (λ m. one (record { 0 = m })) n ts) (pick (eqb b 42) (star_or n ts) (pick (eqb b 37) (marked (λ m. functor (fvar (record { 0 = m }))) n ts) (pick (eqb b 61) (puts equals ts) (pick (eqb b 44) (puts comma ts) (pick (eqb b 40) (puts opens ts) (pick (eqb b 41) (puts closes ts) (pick (eqb b 43) (puts plus ts) none)))))))))) f ∙ go (name_byte b) (eqb b 63) (eqb b 42) (eqb b 37) (eqb b 61) (eqb b 44) (eqb b 40) (eqb b 41) (eqb b 43)
  where
    go : (t1 t2 t3 t4 t5 t6 t7 t8 t9 : Bool) → (pick t1 (letter b n ts) (pick t2 (marked (λ m. one (record { 0 = m })) n ts) (pick t3 (star_or n ts) (pick t4 (marked (λ m. functor (fvar (record { 0 = m }))) n ts) (pick t5 (puts equals ts) (pick t6 (puts comma ts) (pick t7 (puts opens ts) (pick t8 (puts closes ts) (pick t9 (puts plus ts) none))))))))) ≡ reading (pick t1 Symbol (pick t2 One (pick t3 Run (pick t4 Function (pick t5 Equals (pick t6 Comma (pick t7 Opens (pick t8 Closes (pick t9 Plus Bad))))))))) b n ts
    go true t2 t3 t4 t5 t6 t7 t8 t9 = refl
    go false true t3 t4 t5 t6 t7 t8 t9 = refl
    go false false true t4 t5 t6 t7 t8 t9 = refl
    go false false false true t5 t6 t7 t8 t9 = refl
    go false false false false true t6 t7 t8 t9 = refl
    go false false false false false true t7 t8 t9 = refl
    go false false false false false false true t8 t9 = refl
    go false false false false false false false true t9 = refl
    go false false false false false false false false true = refl
    go false false false false false false false false false = refl

pub read_byte : (b : ℕ) (bs : List ℕ) → eqb b 10 ≡ false → blank b ≡ false → tokens (line (b ∷ bs)) ≡ reading (mark_of b) b (begins_name bs) (tokens (line bs))
read_byte b bs e f =
    ap tokens (line-go b bs e) ∙ tokens-cons b (line bs) ∙ by-mark b (begins_name (line bs)) (tokens (line bs)) f
    ∙ ap (λ t. reading (mark_of b) b t (tokens (line bs))) (begins-line bs)

pub read-blank : (b : ℕ) (bs : List ℕ) → blank b ≡ true → tokens (line (b ∷ bs)) ≡ tokens (line bs)
unfolding byte
read-blank b bs f =
    let g = blank-free b f in
    ap tokens (line-go b bs g.1) ∙ tokens-cons b (line bs) ∙ rw (g.0, f)

-- ---- a name

from-name : (b : ℕ) (bs : List ℕ) (t : Bool) → name_byte b ≡ t → (name_from (b ∷ bs) ≡ pick t (b + 256 * name_from bs) 0) × (name_length (b ∷ bs) ≡ pick t (suc (name_length bs)) 0)
unfolding name_from leading
from-name b bs t e = (ap (λ z. pick z (b + 256 * name_from bs) 0) e, ap (λ z. pick z (suc (name_length bs)) 0) e)

pub no_name : (bs : List ℕ) → begins_name bs ≡ false → (name_from bs ≡ 0) × (name_length bs ≡ 0)
unfolding name_from leading
no_name [] e = (refl, refl)
no_name (b ∷ bs) e = from-name b bs false e

pub some-name : (bs : List ℕ) → begins_name bs ≡ true → 0 < name_length bs
some-name [] e = absurd (let z : ◌≡◌ {A = ℕ} 0 1 = cc in omega arith)
some-name (b ∷ bs) e = let z = (from-name b bs true e).1 in omega arith

pub renamed-puts : (f : ℕ → _) (n : ℕ) (ts : Tokens) → renamed f (puts (name_token n) ts) ≡ puts (f n) ts
renamed-puts f n none = refl
renamed-puts f n (some ts) = refl

letter-puts : (b n : ℕ) (ts : Tokens) → letter b true (puts (name_token n) ts) ≡ puts (name_token (b + 256 * n)) ts
unfolding letter
letter-puts b n ts = renamed-puts (λ m. name_token (b + 256 * m)) n ts

letter-last : (b n : ℕ) (ts : Tokens) → n ≡ 0 → letter b false ts ≡ puts (name_token (b + 256 * n)) ts
unfolding letter
letter-last b n ts e = ap (λ z. puts (name_token z) ts) (let y : b ≡ b + 256 * n = omega arith in y)

-- A name is one token, and the line goes on behind it.
pub name-read : (bs : List ℕ) → begins_name bs ≡ true → tokens (line bs) ≡ puts (name_token (name_from bs)) (tokens (line (drop (name_length bs) bs)))
name-read [] e = absurd (let z : ◌≡◌ {A = ℕ} 0 1 = cc in omega arith)
name-read (b ∷ bs) e =
    let s = from-name b bs true e in
    ap tokens (line-go b bs (no-newline b e)) ∙ tokens-cons b (line bs) ∙ byte-letter b (begins_name (line bs)) (tokens (line bs)) e
    ∙ ap (λ t. letter b t (tokens (line bs))) (begins-line bs)
    ∙ on (begins_name bs) refl (name-read bs)
    ∙ ap₂ (λ n k. puts (name_token n) (tokens (line (drop k (b ∷ bs))))) (sym s.0) (sym s.1)
  where
    on : (t : Bool) → begins_name bs ≡ t → (begins_name bs ≡ true → tokens (line bs) ≡ puts (name_token (name_from bs)) (tokens (line (drop (name_length bs) bs))))
        → letter b t (tokens (line bs)) ≡ puts (name_token (b + 256 * name_from bs)) (tokens (line (drop (name_length bs) bs)))
    on true f i = ap (letter b true) (i f) ∙ letter-puts b (name_from bs) (tokens (line (drop (name_length bs) bs)))
    on false f i = let z = no_name bs f in letter-last b (name_from bs) (tokens (line bs)) z.0 ∙ ap (λ k. puts (name_token (b + 256 * name_from bs)) (tokens (line (drop k bs)))) (sym z.1)

pub name-others : (bs : List ℕ) → others bs ≡ others (drop (name_length bs) bs)
unfolding leading
name-others [] = refl
name-others (b ∷ bs) = on (name_byte b) refl (name-others bs)
  where
    on : (t : Bool) → name_byte b ≡ t → others bs ≡ others (drop (name_length bs) bs) → others (b ∷ bs) ≡ others (drop (pick t (suc (name_length bs)) 0) (b ∷ bs))
    on true e i = others-go b bs (no-newline b e) ∙ i
    on false e i = refl

pub name-within : (bs : List ℕ) → name_length bs ≤ length bs
unfolding leading
name-within [] = omega arith
name-within (b ∷ bs) = on (name_byte b) (name-within bs)
  where
    on : (t : Bool) → name_length bs ≤ length bs → pick t (suc (name_length bs)) 0 ≤ suc (length bs)
    on true i = omega arith
    on false i = omega arith

-- ---- walking along bytes of a sort

pub standing : (ws : List ℕ) (i : ℕ) → i < length ws → drop i ws ≡ get_or ws i 0 ∷ drop (i + 1) ws
standing ws i p = drop-cons ws i 0 p ∙ ap (λ n. get_or ws i 0 ∷ drop n ws) (sym (add-one i))

module _ (t : ℕ → Bool) (ws : List ℕ) where
  pub record Walk (at i : ℕ) : Type 0 where
    pub within : i ≤ length ws
    pub so_far : at + leading t (drop at ws) ≡ i + leading t (drop i ws)

  first_byte : (b : ℕ) (bs : List ℕ) (u : Bool) → t b ≡ u → leading t (b ∷ bs) ≡ pick u (suc (leading t bs)) 0
  unfolding leading
  first_byte b bs u e = ap (λ z. pick z (suc (leading t bs)) 0) e

  pub walk-starts : (at : ℕ) → at ≤ length ws → Walk at at
  walk-starts at p = record { within = p; so_far = refl }

  pub walk-on : (at i : ℕ) → Walk at i → i < length ws → t (get_or ws i 0) ≡ true → Walk at (i + 1)
  walk-on at i w p e = record {
    within = omega arith;
    so_far = w.so_far ∙ ap (λ l. i + leading t l) (standing ws i p) ∙ ap (λ n. i + n) (first_byte (get_or ws i 0) (drop (i + 1) ws) true e)
        ∙ (let z : i + suc (leading t (drop (i + 1) ws)) ≡ i + 1 + leading t (drop (i + 1) ws) = omega arith in z);
  }

  pub walk-stops : (at i : ℕ) → Walk at i → i < length ws → t (get_or ws i 0) ≡ false → i ≡ at + leading t (drop at ws)
  walk-stops at i w p e = sym (w.so_far ∙ ap (λ l. i + leading t l) (standing ws i p) ∙ ap (λ n. i + n) (first_byte (get_or ws i 0) (drop (i + 1) ws) false e) ∙ (omega arith))

  nothing_left : leading t [] ≡ 0
  unfolding leading
  nothing_left = refl

  pub walk_ends : (at i : ℕ) → Walk at i → length ws ≤ i → i ≡ at + leading t (drop at ws)
  walk_ends at i w p = sym (w.so_far ∙ ap (λ l. i + leading t l) (drop_of_length-le ws p) ∙ ap (λ n. i + n) nothing_left ∙ (omega arith))

-- ---- past the blanks

blanks-read : (bs : List ℕ) → (blanks bs ≤ length bs) × (tokens (line bs) ≡ tokens (line (drop (blanks bs) bs))) × (others bs ≡ others (drop (blanks bs) bs)) × (blanks bs < length bs → blank (get_or bs (blanks bs) 0) ≡ false)
unfolding leading
blanks-read [] = (omega arith, refl, refl, λ p. absurd (omega arith))
blanks-read (b ∷ bs) = on (blank b) refl (blanks-read bs)
  where
    Done : ℕ → Type 0
    Done n = (n ≤ suc (length bs)) × (tokens (line (b ∷ bs)) ≡ tokens (line (drop n (b ∷ bs)))) × (others (b ∷ bs) ≡ others (drop n (b ∷ bs))) × (n < suc (length bs) → blank (get_or (b ∷ bs) n 0) ≡ false)

    on : (u : Bool) → blank b ≡ u → (blanks bs ≤ length bs) × (tokens (line bs) ≡ tokens (line (drop (blanks bs) bs))) × (others bs ≡ others (drop (blanks bs) bs)) × (blanks bs < length bs → blank (get_or bs (blanks bs) 0) ≡ false) → Done (pick u (suc (blanks bs)) 0)
    on true e i = let z = i.0 in (omega arith, read-blank b bs e ∙ i.1, others-go b bs (blank-free b e).1 ∙ i.2, λ p. i.3 (omega arith))
    on false e i = (omega arith, refl, refl, λ p. e)

pub skipped : (text : List ℕ) (at : ℕ) → at ≤ length text → Skipped text at (at + blanks (drop at text))
skipped text at p =
    let r = blanks-read (drop at text) in
    let l = length-drop at text in
    let n = r.0 in record {
      low = omega arith;
      high = omega arith;
      reads = r.1 ∙ ap (λ k. tokens (line k)) (drop-drop (blanks (drop at text)) at text);
      same = r.2 ∙ ap others (drop-drop (blanks (drop at text)) at text);
      stops = λ q. ap blank (sym (get_or-drop at text (blanks (drop at text)) 0)) ∙ r.3 (omega arith);
    }
