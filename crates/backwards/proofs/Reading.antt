-- Bytes read backwards are tokens read backwards.
use Prim.Native.Nat.{ℕ, ◌+◌, ◌*◌}
use native.Mathlib.Omega.{arith}
use mathlib.Core.Path.{◌≡◌, refl, sym, ap, ap₂, ◌∙◌, subst}
use mathlib.Core.Bool.{Bool, true, false}
use mathlib.Core.List.{List, [], ◌∷◌}
use mathlib.Core.Option.{none, some}
use lib.Dec.{eqb}
use Rattle.language.specs.Kinds.{pick}
use Rattle.language.specs.Trees.{symbol, fvar}
use Rattle.grammar.specs.Tokens.{Token, one, run, functor, equals, comma, opens, closes, plus, times, name_byte, blank, begins_name, Tokens, puts, renamed, name_token, letter, marked, star_or, tokens}
use Rattle.texts.specs.Numbering.{Naming}
use Rattle.lexing.specs.declared.Mark.{Mark}
use Rattle.lexing.specs.declared.Mark.TheVariants.{End, Bad, Symbol, One, Run, Function, Equals, Comma, Opens, Closes, Plus, Times}
use Rattle.lexing.specs.Bytes.{line, name_from, sort_of, mark_of}
use Rattle.lexing.proofs.Laws.{reading, blank-free, read_byte, read-blank, no_name}
use Rattle.flat.specs.Filling.{Filled, turn, turns}
use Rattle.backwards.specs.Backward.{taken, backwards}
use Rattle.backwards.specs.Backward as Back
use Rattle.backwards.proofs.Plain.{Plain}

none-some : {A : Type 0} {ts : List Token} → ◌≡◌ {A = Tokens} none (some ts) → A
none-some e = absurd (let z : ◌≡◌ {A = ℕ} 0 1 = cc in omega arith)

pub puts-some : (t : Token) (o : Tokens) (ts : List Token) → puts t o ≡ some ts → (us : List Token) × (o ≡ some us) × (ts ≡ t ∷ us)
puts-some t none ts e = none-some e
puts-some t (some us) ts e = (us, refl, (let z : ts ≡ t ∷ us = cc in z))

-- what a name is renamed from
renamed-some : (f : ℕ → Token) (o : Tokens) (ts : List Token) → renamed f o ≡ some ts → (n : ℕ) × (us : List Token) × (o ≡ some (name_token n ∷ us)) × (ts ≡ f n ∷ us)
renamed-some f none ts e = none-some e
renamed-some f (some []) ts e = none-some e
renamed-some f (some (one x ∷ us)) ts e = none-some e
renamed-some f (some (run p ∷ us)) ts e = none-some e
renamed-some f (some (functor (symbol s) ∷ us)) ts e = (s.0, us, refl, (let z : ts ≡ f s.0 ∷ us = cc in z))
renamed-some f (some (functor (fvar X) ∷ us)) ts e = none-some e
renamed-some f (some (equals ∷ us)) ts e = none-some e
renamed-some f (some (comma ∷ us)) ts e = none-some e
renamed-some f (some (opens ∷ us)) ts e = none-some e
renamed-some f (some (closes ∷ us)) ts e = none-some e
renamed-some f (some (plus ∷ us)) ts e = none-some e
renamed-some f (some (times ∷ us)) ts e = none-some e

from-name : (b : ℕ) (bs : List ℕ) → name_byte b ≡ true → name_from (b ∷ bs) ≡ b + 256 * name_from bs
unfolding name_from
from-name b bs e = ap (λ z. pick z (b + 256 * name_from bs) 0) e

is-symbol : (b : ℕ) → name_byte b ≡ true → mark_of b ≡ Symbol
unfolding mark_of
is-symbol b e = rw e

no_symbol : (b : ℕ) → name_byte b ≡ false → mark_of b ≡ Symbol → ⊥
unfolding mark_of
no_symbol b e d = not_so (eqb b 63) (eqb b 42) (eqb b 37) (eqb b 61) (eqb b 44) (eqb b 40) (eqb b 41) (eqb b 43) (rw e at d)
  where
    not_so : (t u v w x y z a : Bool) → pick t One (pick u Run (pick v Function (pick w Equals (pick x Comma (pick y Opens (pick z Closes (pick a Plus Bad))))))) ≡ Symbol → ⊥
    not_so true u v w x y z a e = let n = ap sort_of e in omega arith
    not_so false true v w x y z a e = let n = ap sort_of e in omega arith
    not_so false false true w x y z a e = let n = ap sort_of e in omega arith
    not_so false false false true x y z a e = let n = ap sort_of e in omega arith
    not_so false false false false true y z a e = let n = ap sort_of e in omega arith
    not_so false false false false false true z a e = let n = ap sort_of e in omega arith
    not_so false false false false false false true a e = let n = ap sort_of e in omega arith
    not_so false false false false false false false true e = let n = ap sort_of e in omega arith
    not_so false false false false false false false false e = let n = ap sort_of e in omega arith

no-blank : (b : ℕ) → name_byte b ≡ true → blank b ≡ false
no-blank b e = on (blank b) refl
  where
    on : (t : Bool) → blank b ≡ t → t ≡ false
    on true d = absurd (let g = (blank-free b d).0 in let z : ◌≡◌ {A = ℕ} 0 1 = cc in omega arith)
    on false d = refl

marked-some : (g : ℕ → Token) (t : Bool) (o : Tokens) (ps : List Token) → marked g t o ≡ some ps → (n : ℕ) × (us : List Token) × (ps ≡ g n ∷ us)
unfolding marked
marked-some g true o ps e = let w = renamed-some g o ps e in (w.0, w.1, w.3)
marked-some g false o ps e = none-some e

-- the number of the name that stands first
abbrev pub first-number : List Token → ℕ
first-number [] = 0
first-number (one x ∷ ts) = 0
first-number (run p ∷ ts) = 0
first-number (functor (symbol s) ∷ ts) = s.0
first-number (functor (fvar X) ∷ ts) = 0
first-number (equals ∷ ts) = 0
first-number (comma ∷ ts) = 0
first-number (opens ∷ ts) = 0
first-number (closes ∷ ts) = 0
first-number (plus ∷ ts) = 0
first-number (times ∷ ts) = 0

-- no end of a line among these bytes
abbrev pub NoEnd : List ℕ → Type 0
NoEnd [] = Unit {0}
NoEnd (b ∷ bs) = (eqb b 10 ≡ false) × NoEnd bs

module _ (ρ : Naming) (f : Filled) where
  -- what is read of some bytes: with a name first it is not yet taken
  pub record Read (q : List ℕ) (ps : List Token) : Type 0 where
    pub name : begins_name q ≡ true → (rest : List Token) × (ps ≡ name_token (name_from q) ∷ rest) × (backwards ρ q f ≡ turns ρ rest f)
    pub other : begins_name q ≡ false → backwards ρ q f ≡ turns ρ ps f

  -- taken, it is all of them
  pub all-taken : (q : List ℕ) (ps : List Token) → Read q ps → taken ρ q (backwards ρ q f) ≡ turns ρ ps f
  all-taken q ps r = on (begins_name q) refl
    where
      on : (t : Bool) → begins_name q ≡ t → pick t (turn ρ (name_token (name_from q)) (backwards ρ q f)) (backwards ρ q f) ≡ turns ρ ps f
      on true e = let w = r.name e in ap (turn ρ (name_token (name_from q))) w.2 ∙ sym (ap (λ l. turns ρ l f) w.1)
      on false e = r.other e

  cons-name : (b : ℕ) (q : List ℕ) → name_byte b ≡ true → backwards ρ (b ∷ q) f ≡ backwards ρ q f
  unfolding backwards
  cons-name b q e = ap (λ t. pick t (backwards ρ q f) (pick (blank b) (taken ρ q (backwards ρ q f)) (Back.marked ρ (mark_of b) (taken ρ q (backwards ρ q f))))) e

  cons-blank : (b : ℕ) (q : List ℕ) → name_byte b ≡ false → blank b ≡ true → backwards ρ (b ∷ q) f ≡ taken ρ q (backwards ρ q f)
  unfolding backwards
  cons-blank b q e d = ap₂ (λ t u. pick t (backwards ρ q f) (pick u (taken ρ q (backwards ρ q f)) (Back.marked ρ (mark_of b) (taken ρ q (backwards ρ q f))))) e d

  cons-mark : (b : ℕ) (q : List ℕ) → name_byte b ≡ false → blank b ≡ false → backwards ρ (b ∷ q) f ≡ Back.marked ρ (mark_of b) (taken ρ q (backwards ρ q f))
  unfolding backwards
  cons-mark b q e d = ap₂ (λ t u. pick t (backwards ρ q f) (pick u (taken ρ q (backwards ρ q f)) (Back.marked ρ (mark_of b) (taken ρ q (backwards ρ q f))))) e d

  false-true : {A : Type 0} → false ≡ true → A
  false-true e = absurd (let z : ◌≡◌ {A = ℕ} 0 1 = cc in omega arith)

  true-false : {A : Type 0} → true ≡ false → A
  true-false e = absurd (let z : ◌≡◌ {A = ℕ} 0 1 = cc in omega arith)

  module _ (q : List ℕ) (i : (vs : List Token) → tokens (line q) ≡ some vs → Plain vs → Read q vs) where
    abbrev Out : ℕ → List Token → Type 0
    Out b ps = (rest : List Token) × (ps ≡ name_token (name_from (b ∷ q)) ∷ rest) × (backwards ρ (b ∷ q) f ≡ turns ρ rest f)

    lone : (b : ℕ) (ps : List Token) → name_byte b ≡ true → begins_name q ≡ false → letter b false (tokens (line q)) ≡ some ps → Plain ps → Out b ps
    unfolding letter
    lone b ps e g d c =
        let w = puts-some (name_token b) (tokens (line q)) ps d in
        let r = i w.0 w.1 (subst Plain w.2 c).1 in
        let n = from-name b q e in
        let m = (no_name q g).0 in
        (w.0, w.2 ∙ ap (λ k. name_token k ∷ w.0) (let z : b ≡ name_from (b ∷ q) = omega arith in z), cons-name b q e ∙ r.other g)

    more : (b : ℕ) (ps : List Token) → name_byte b ≡ true → begins_name q ≡ true → letter b true (tokens (line q)) ≡ some ps → Plain ps → Out b ps
    unfolding letter
    more b ps e g d c =
        let w = renamed-some (λ n. name_token (b + 256 * n)) (tokens (line q)) ps d in
        let r = (i (name_token w.0 ∷ w.1) w.2 (tt, (subst Plain w.3 c).1)).name g in
        let z : w.0 ≡ name_from q = (same_name w.0 (name_from q) w.1 r.0 r.1).0 in
        let y : w.1 ≡ r.0 = (same_name w.0 (name_from q) w.1 r.0 r.1).1 in
        (r.0, w.3 ∙ ap₂ (λ k l. name_token k ∷ l) (ap (λ k. b + 256 * k) z ∙ sym (from-name b q e)) y, cons-name b q e ∙ r.2)
      where
        same_name : (n m : ℕ) (us vs : List Token) → ◌≡◌ {A = List Token} (name_token n ∷ us) (name_token m ∷ vs) → (n ≡ m) × (us ≡ vs)
        same_name n m us vs e = (ap first-number e, cc)

    by-letter : (b : ℕ) (ps : List Token) → name_byte b ≡ true → letter b (begins_name q) (tokens (line q)) ≡ some ps → Plain ps → Read (b ∷ q) ps
    by-letter b ps e d c = record { name = λ z. on (begins_name q) refl d; other = λ z. true-false (sym e ∙ z) }
      where
        on : (t : Bool) → begins_name q ≡ t → letter b t (tokens (line q)) ≡ some ps → (rest : List Token) × (ps ≡ name_token (name_from (b ∷ q)) ∷ rest) × (backwards ρ (b ∷ q) f ≡ turns ρ rest f)
        on true g d = more b ps e g d c
        on false g d = lone b ps e g d c

    by_token : (t : Token) (ps : List Token) → puts t (tokens (line q)) ≡ some ps → Plain ps → turn ρ t (taken ρ q (backwards ρ q f)) ≡ turns ρ ps f
    by_token t ps d c =
        let w = puts-some t (tokens (line q)) ps d in
        ap (turn ρ t) (all-taken q w.0 (i w.0 w.1 (subst Plain w.2 c).1)) ∙ sym (ap (λ l. turns ρ l f) w.2)

    by-character : (m : Mark) (b : ℕ) (ps : List Token) → (m ≡ Symbol → ⊥) → reading m b (begins_name q) (tokens (line q)) ≡ some ps → Plain ps → Back.marked ρ m (taken ρ q (backwards ρ q f)) ≡ turns ρ ps f
    unfolding star_or
    by-character End b ps s d c = none-some d
    by-character Bad b ps s d c = none-some d
    by-character Symbol b ps s d c = absurd (s refl)
    by-character One b ps s d c = let w = marked-some (λ n. one (record { 0 = n })) (begins_name q) (tokens (line q)) ps d in absurd (subst Plain w.2 c).0
    by-character Run b ps s d c = on (begins_name q) d
      where
        on : (t : Bool) → star_or t (tokens (line q)) ≡ some ps → turn ρ times (taken ρ q (backwards ρ q f)) ≡ turns ρ ps f
        on true d = let w = renamed-some (λ n. run (record { 0 = n })) (tokens (line q)) ps d in absurd (subst Plain w.3 c).0
        on false d = by_token times ps d c
    by-character Function b ps s d c = let w = marked-some (λ n. functor (fvar (record { 0 = n }))) (begins_name q) (tokens (line q)) ps d in absurd (subst Plain w.2 c).0
    by-character Equals b ps s d c = let w = puts-some equals (tokens (line q)) ps d in absurd (subst Plain w.2 c).0
    by-character Comma b ps s d c = by_token comma ps d c
    by-character Opens b ps s d c = by_token opens ps d c
    by-character Closes b ps s d c = by_token closes ps d c
    by-character Plus b ps s d c = by_token plus ps d c
    by-character Times b ps s d c = none-some d

    by_byte : (b : ℕ) (ps : List Token) → eqb b 10 ≡ false → tokens (line (b ∷ q)) ≡ some ps → Plain ps → (t : Bool) → name_byte b ≡ t → (u : Bool) → blank b ≡ u → Read (b ∷ q) ps
    by_byte b ps n d c true e u g = by-letter b ps e (sym (read_byte b q n (no-blank b e) ∙ ap (λ m. reading m b (begins_name q) (tokens (line q))) (is-symbol b e)) ∙ d) c
    by_byte b ps n d c false e true g = record { name = λ z. true-false (sym z ∙ e); other = λ z. cons-blank b q e g ∙ all-taken q ps (i ps (sym (read-blank b q g) ∙ d) c) }
    by_byte b ps n d c false e false g = record { name = λ z. true-false (sym z ∙ e); other = λ z. cons-mark b q e g ∙ by-character (mark_of b) b ps (no_symbol b e) (sym (read_byte b q n g) ∙ d) c }

  nothing_left : (ps : List Token) → tokens (line []) ≡ some ps → ps ≡ []
  unfolding tokens line
  nothing_left ps e = cc

  nothing_read : backwards ρ [] f ≡ f
  unfolding backwards
  nothing_read = refl

  -- The bytes of some tokens of expressions, read backwards, are those tokens read backwards.
  pub read_back : (q : List ℕ) (ps : List Token) → NoEnd q → tokens (line q) ≡ some ps → Plain ps → Read q ps
  read_back [] ps n d c = record { name = λ z. false-true z; other = λ z. nothing_read ∙ sym (ap (λ l. turns ρ l f) (nothing_left ps d)) }
  read_back (b ∷ q) ps n d c = by_byte q (λ vs d c. read_back q vs n.1 d c) b ps n.0 d c (name_byte b) refl (blank b) refl
