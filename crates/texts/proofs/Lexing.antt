-- Bytes and tokens: what each piece of the writer's text is read as.
use Prim.Native.Nat.{ℕ, ◌+◌, ◌*◌, ◌/◌, ◌%◌, ◌<◌}
use native.Mathlib.Omega.{arith}
use mathlib.Core.Path.{◌≡◌, refl, ap, ap₂, ◌∙◌}
use mathlib.Core.Bool.{Bool, true, false}
use mathlib.Core.List.{List, [], ◌∷◌, ◌++◌}
use mathlib.Core.Option.{some}
use lib.Dec.{ltb, eqb}
use borrow.Author.Tests.{le-leb, ltb-true, eqb-true, eqb-false, eq-eqb, ne_eqb}
use Rattle.language.specs.Kinds.{pick}
use Rattle.language.specs.Trees.{fvar}
use Rattle.grammar.specs.Tokens.{Token, one, run, functor, equals, comma, opens, closes, plus, times, name_byte, blank, begins_name, name_of, Tokens, puts, name_token, letter, marked, star_or, byte, tokens}
use Rattle.texts.specs.Numbering.{Class, symbols, terms, hedges, functions}
use Rattle.texts.specs.Writer.{digits, letter_of, name_text, plain}

-- ---- names

abbrev pub Names : List ℕ → Type 0
Names [] = Unit {0}
Names (b ∷ bs) = (name_byte b ≡ true) × Names bs

pub tokens-cons : (b : ℕ) (bs : List ℕ) → tokens (b ∷ bs) ≡ byte b (begins_name bs) (tokens bs)
unfolding tokens
tokens-cons b bs = refl

pub byte-letter : (b : ℕ) (t : Bool) (ts : Tokens) → name_byte b ≡ true → byte b t ts ≡ letter b t ts
unfolding byte
byte-letter b t ts e = rw e

letter-more : (b n : ℕ) (us : List Token) → letter b true (some (name_token n ∷ us)) ≡ some (name_token (b + 256 * n) ∷ us)
unfolding letter
letter-more b n us = refl

letter-last : (b : ℕ) (us : List Token) → letter b false (some us) ≡ some (name_token (b + 256 * 0) ∷ us)
unfolding letter
letter-last b us = ap (λ z. some (name_token z ∷ us)) (let y : b ≡ b + 256 * 0 = omega arith in y)

-- A name, with no letter or digit behind it, is one token.
pub name-tokens : (b : ℕ) (bs k : List ℕ) (us : List Token) → Names (b ∷ bs) → begins_name k ≡ false → tokens k ≡ some us
    → tokens (b ∷ (bs ++ k)) ≡ some (name_token (name_of (b ∷ bs)) ∷ us)
name-tokens b [] k us n f e = tokens-cons b k ∙ byte-letter b (begins_name k) (tokens k) n.0 ∙ ap₂ (letter b) f e ∙ letter-last b us
name-tokens b (d ∷ bs) k us n f e =
    tokens-cons b (d ∷ (bs ++ k)) ∙ byte-letter b (name_byte d) (tokens (d ∷ (bs ++ k))) n.0
    ∙ ap₂ (letter b) n.1.0 (name-tokens d bs k us n.1 f e) ∙ letter-more b (name_of (d ∷ bs)) us

-- ---- single bytes; bytes that are no letter or digit begin no name

pub record Step (b : ℕ) (t : Token) : Type 0 where
  pub free : name_byte b ≡ false
  pub reads : (n : Bool) (ts : Tokens) → byte b n ts ≡ puts t ts

pub equals-step : Step 61 equals
unfolding byte name_byte blank
equals-step = record { free = refl; reads = λ n ts. refl }

pub comma-step : Step 44 comma
unfolding byte name_byte blank
comma-step = record { free = refl; reads = λ n ts. refl }

pub opens-step : Step 40 opens
unfolding byte name_byte blank
opens-step = record { free = refl; reads = λ n ts. refl }

pub closes-step : Step 41 closes
unfolding byte name_byte blank
closes-step = record { free = refl; reads = λ n ts. refl }

pub plus_step : Step 43 plus
unfolding byte name_byte blank
plus_step = record { free = refl; reads = λ n ts. refl }

space-free : name_byte 32 ≡ false
unfolding name_byte
space-free = refl

star-free : name_byte 42 ≡ false
unfolding name_byte
star-free = refl

space-byte : (n : Bool) (ts : Tokens) → byte 32 n ts ≡ ts
unfolding byte name_byte blank
space-byte n ts = refl

star-byte : (n : Bool) (ts : Tokens) → byte 42 n ts ≡ star_or n ts
unfolding byte name_byte blank
star-byte n ts = refl

one_byte : (n : Bool) (ts : Tokens) → byte 63 n ts ≡ marked (λ m. one (record { 0 = m })) n ts
unfolding byte name_byte blank
one_byte n ts = refl

fun-byte : (n : Bool) (ts : Tokens) → byte 37 n ts ≡ marked (λ m. functor (fvar (record { 0 = m }))) n ts
unfolding byte name_byte blank
fun-byte n ts = refl

-- what a text is read as, and whether a name may not go on before it
pub record Reads (k : List ℕ) (us : List Token) : Type 0 where
  pub free : begins_name k ≡ false
  pub read : tokens k ≡ some us

pub by-step : {b : ℕ} {t : Token} {k : List ℕ} {us : List Token} → Step b t → tokens k ≡ some us → Reads (b ∷ k) (t ∷ us)
by-step {b} {t} {k} s e = record { free = s.free; read = tokens-cons b k ∙ s.reads (begins_name k) (tokens k) ∙ ap (puts t) e }

pub by-space : {k : List ℕ} {us : List Token} → tokens k ≡ some us → Reads (32 ∷ k) us
by-space {k} e = record { free = space-free; read = tokens-cons 32 k ∙ space-byte (begins_name k) (tokens k) ∙ e }

pub by-star : {k : List ℕ} {us : List Token} → Reads k us → Reads (42 ∷ k) (times ∷ us)
unfolding star_or
by-star {k} r = record { free = star-free; read = tokens-cons 42 k ∙ star-byte (begins_name k) (tokens k) ∙ ap₂ star_or r.free r.read }

-- ---- the writer's names

digit-byte : (d : ℕ) → d < 10 → name_byte (48 + d) ≡ true
unfolding name_byte
digit-byte d p = rw (le-leb 48 (48 + d) (omega arith), le-leb (48 + d) 57 (omega arith))

digits-names : (n : ℕ) → n < 1000 → Names (digits n)
unfolding digits
digits-names n p = on (ltb n 10) refl (ltb n 100) refl
  where
    on : (b : Bool) → ltb n 10 ≡ b → (c : Bool) → ltb n 100 ≡ c
        → Names (pick b ((48 + n) ∷ []) (pick c ((48 + n / 10) ∷ (48 + n % 10) ∷ []) ((48 + n / 10 / 10) ∷ (48 + n / 10 % 10) ∷ (48 + n % 10) ∷ [])))
    on true e c f = (digit-byte n (ltb-true n 10 e), tt)
    on false e true f = let z = ltb-true n 100 f in (digit-byte (n / 10) (omega arith), (digit-byte (n % 10) (omega arith), tt))
    on false e false f = (digit-byte (n / 10 / 10) (omega arith), (digit-byte (n / 10 % 10) (omega arith), (digit-byte (n % 10) (omega arith), tt)))

letter-name : (c : Class) → name_byte (letter_of c) ≡ true
unfolding name_byte
letter-name symbols = refl
letter-name terms = refl
letter-name hedges = refl
letter-name functions = refl

names_of : (c : Class) (n : ℕ) → n < 1000 → Names (name_text c n)
names_of c n p = (letter-name c, digits-names n p)

module _ (n : ℕ) (k : List ℕ) (us : List Token) (p : n < 1000) (r : Reads k us) where
  named : (c : Class) → tokens (name_text c n ++ k) ≡ some (name_token (plain c n) ∷ us)
  named c = name-tokens (letter_of c) (digits n) k us (names_of c n p) r.free r.read

  pub by-symbol : tokens (name_text symbols n ++ k) ≡ some (name_token (plain symbols n) ∷ us)
  by-symbol = named symbols

  pub by-term : Reads (63 ∷ (name_text terms n ++ k)) (one (record { 0 = plain terms n }) ∷ us)
  unfolding marked name_byte
  by-term = record { free = refl; read = tokens-cons 63 (name_text terms n ++ k) ∙ one_byte true (tokens (name_text terms n ++ k)) ∙ ap (marked (λ m. one (record { 0 = m })) true) (named terms) }

  pub by-run : Reads (42 ∷ (name_text hedges n ++ k)) (run (record { 0 = plain hedges n }) ∷ us)
  unfolding star_or name_byte
  by-run = record { free = refl; read = tokens-cons 42 (name_text hedges n ++ k) ∙ star-byte true (tokens (name_text hedges n ++ k)) ∙ ap (star_or true) (named hedges) }

  pub by-function : Reads (37 ∷ (name_text functions n ++ k)) (functor (fvar (record { 0 = plain functions n })) ∷ us)
  unfolding marked name_byte
  by-function = record { free = refl; read = tokens-cons 37 (name_text functions n ++ k) ∙ fun-byte true (tokens (name_text functions n ++ k)) ∙ ap (marked (λ m. functor (fvar (record { 0 = m }))) true) (named functions) }

-- ---- different numbers have different names

-- digits below 10 are read off the number that they make
two_digits : (a b c d : ℕ) → a < 10 → c < 10 → a + 256 * b ≡ c + 256 * d → (a ≡ c) × (b ≡ d)
two_digits a b c d p q e = (omega arith, omega arith)

cancel : (a b : ℕ) → 48 + a ≡ 48 + b → a ≡ b
cancel a b e = omega arith

from-digits : (n m : ℕ) → n / 10 / 10 ≡ m / 10 / 10 → n / 10 % 10 ≡ m / 10 % 10 → n % 10 ≡ m % 10 → n ≡ m
from-digits n m a b c = let d : n / 10 ≡ m / 10 = omega arith in ten n m d c
  where
    ten : (n m : ℕ) → n / 10 ≡ m / 10 → n % 10 ≡ m % 10 → n ≡ m
    ten n m a b = omega arith

same_number : (l n m : ℕ) → n < 1000 → m < 1000 → name_of (l ∷ digits n) ≡ name_of (l ∷ digits m) → n ≡ m
unfolding digits
same_number l n m p q e = on (ltb n 10) refl (ltb n 100) refl (ltb m 10) refl (ltb m 100) refl e
  where
    on : (b : Bool) → ltb n 10 ≡ b → (c : Bool) → ltb n 100 ≡ c → (b' : Bool) → ltb m 10 ≡ b' → (c' : Bool) → ltb m 100 ≡ c'
        → name_of (l ∷ pick b ((48 + n) ∷ []) (pick c ((48 + n / 10) ∷ (48 + n % 10) ∷ []) ((48 + n / 10 / 10) ∷ (48 + n / 10 % 10) ∷ (48 + n % 10) ∷ [])))
        ≡ name_of (l ∷ pick b' ((48 + m) ∷ []) (pick c' ((48 + m / 10) ∷ (48 + m % 10) ∷ []) ((48 + m / 10 / 10) ∷ (48 + m / 10 % 10) ∷ (48 + m % 10) ∷ [])))
        → n ≡ m
    on true b c d true f g h z = omega arith
    on true b c d false f true h z = let x = ltb-true n 10 b in let y = ltb-true m 100 h in absurd (omega arith)
    on true b c d false f false h z = let x = ltb-true n 10 b in absurd (omega arith)
    on false b true d true f g h z = let x = ltb-true m 10 f in let y = ltb-true n 100 d in absurd (omega arith)
    on false b false d true f g h z = let x = ltb-true m 10 f in absurd (omega arith)
    on false b true d false f true h z = let x = ltb-true m 100 h in let y = ltb-true n 100 d in omega arith
    on false b true d false f false h z = let y = ltb-true n 100 d in absurd (omega arith)
    on false b false d false f true h z = let x = ltb-true m 100 h in absurd (omega arith)
    on false b false d false f false h z =
        let s = two_digits (n / 10 / 10) (48 + n / 10 % 10 + 256 * (48 + n % 10)) (m / 10 / 10) (48 + m / 10 % 10 + 256 * (48 + m % 10)) (omega arith) (omega arith) (omega arith) in
        let t = two_digits (n / 10 % 10) (48 + n % 10) (m / 10 % 10) (48 + m % 10) (omega arith) (omega arith) (omega (arith, s.1)) in
        from-digits n m s.0 t.0 (cancel (n % 10) (m % 10) t.1)

-- The writer's names of a class are one to one.
pub plain-names : (c : Class) (n m : ℕ) → n < 1000 → m < 1000 → eqb (plain c n) (plain c m) ≡ eqb n m
plain-names c n m p q = on (eqb n m) refl
  where
    on : (b : Bool) → eqb n m ≡ b → eqb (plain c n) (plain c m) ≡ b
    on true e = eq-eqb (plain c n) (plain c m) (ap (plain c) (eqb-true n m e))
    on false e = ne_eqb (plain c n) (plain c m) (λ z. eqb-false n m e (same_number (letter_of c) n m p q z))
