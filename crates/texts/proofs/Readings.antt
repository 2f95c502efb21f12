-- Lines and texts: a text is read exactly where the grammar spells it, and it has one reading.
use Prim.Native.Nat.{ℕ, zero, suc, ◌<◌, ◌≤◌}
use native.Mathlib.Omega.{arith}
use mathlib.Core.Path.{◌≡◌, refl, sym, ap, ◌∙◌, subst}
use mathlib.Core.Bool.{Bool, true, false}
use mathlib.Core.List.{List, [], ◌∷◌}
use mathlib.Core.Option.{Option, none, some}
use lib.ListN.{length}
use borrow.Author.Tests.{eqb-true}
use Rattle.language.specs.Kinds.{pick}
use Rattle.language.specs.Trees.{Functor, symbol, fvar, Hedge, Expr, Literal, eqn, mem, Conj, eq_f}
use Rattle.grammar.specs.Tokens.{Token, one, run, functor, equals, comma, opens, closes, plus, times, Tokens, tokens}
use Rattle.grammar.specs.Grammar.{begins, Spells, choice, in_sym, Says, equal, member, Literals, final, another, Line, asks_nothing, asks, Lines, no_line, blank, line, lines_of, TextOf}
use Rattle.texts.specs.Parsing.{Res, got, stop, mapped, bind, hedge, side_of, expr_of, literal_on, literal_of, added, literals_on, literals_from, literals, is_close, is_nothing, line_of}
use Rattle.texts.specs.Texts.{with_line, line_on, tokens_on, read_lines, parse}
use Rattle.texts.proofs.Hedges.{side-read, side-spelt, shorter}
use Rattle.texts.proofs.Hedges as Hedges
use Rattle.texts.proofs.Expressions as Expressions
use Rattle.texts.proofs.Expressions.{Ends, ends-calm, expr-read, expr-spelt}

-- ---- literals

pub literal-shorter : {l : Literal} {ts us : List Token} → Says l ts us → length us ≤ length ts
literal-shorter (equal d e) = let l = shorter d in let m = shorter e in omega arith
literal-shorter (member d e) = let l = shorter d in let m = Expressions.shorter e in omega arith

pub literal-read : {l : Literal} {ts us : List Token} → Says l ts us → Ends us → literal_of ts ≡ got l us
unfolding literal_of
literal-read (equal {l = l} {us = us} {vs = vs} d e) c = ap (λ r. bind r literal_on) (side-read d tt) ∙ ap (mapped (eqn l)) (side-read e (ends-calm vs c))
literal-read (member {h = h} {us = us} d e) c = ap (λ r. bind r literal_on) (side-read d tt) ∙ ap (mapped (mem h)) (expr-read e c)

abbrev pub Good : List Token → Res Literal → Type 0
Good ts (got l us) = Says l ts us
Good ts stop = Unit {0}

equal-good : (l : Hedge) (ss ts : List Token) → Spells (begins false) l ss (equals ∷ ts) → (r : Res Hedge) → Hedges.Good (begins false) ts r → Good ss (mapped (eqn l) r)
equal-good l ss ts d (got h us) e = equal d e
equal-good l ss ts d stop e = tt

member-good : (l : Hedge) (ss ts : List Token) → Spells (begins false) l ss (functor (symbol in_sym) ∷ ts) → (r : Res Expr) → Expressions.Good choice ts r → Good ss (mapped (mem l) r)
member-good l ss ts d (got h us) e = member d e
member-good l ss ts d stop e = tt

pub is-in : (g : Functor) → eq_f g (symbol in_sym) ≡ true → g ≡ symbol in_sym
is-in (symbol f) e = ap (λ n. symbol (record { 0 = n })) (eqb-true f.0 in_sym.0 e)
is-in (fvar X) e = absurd (let z : ◌≡◌ {A = ℕ} 0 1 = cc in omega arith)

in-good : (l : Hedge) (ss ts : List Token) (g : Functor) (b : Bool) → eq_f g (symbol in_sym) ≡ b → Spells (begins false) l ss (functor g ∷ ts) → Good ss (pick b (mapped (mem l) (expr_of ts)) stop)
in-good l ss ts g true e d = member-good l ss ts (subst (λ f. Spells (begins false) l ss (functor f ∷ ts)) (is-in g e) d) (expr_of ts) (expr-spelt ts)
in-good l ss ts g false e d = tt

literal-on : (l : Hedge) (ss ts : List Token) → Spells (begins false) l ss ts → Good ss (literal_on l ts)
literal-on l ss [] d = tt
literal-on l ss (one x ∷ ts) d = tt
literal-on l ss (run p ∷ ts) d = tt
literal-on l ss (functor g ∷ ts) d = in-good l ss ts g (eq_f g (symbol in_sym)) refl d
literal-on l ss (equals ∷ ts) d = equal-good l ss ts d (side_of ts) (side-spelt ts)
literal-on l ss (comma ∷ ts) d = tt
literal-on l ss (opens ∷ ts) d = tt
literal-on l ss (closes ∷ ts) d = tt
literal-on l ss (plus ∷ ts) d = tt
literal-on l ss (times ∷ ts) d = tt

literal-from : (ss : List Token) (r : Res Hedge) → Hedges.Good (begins false) ss r → Good ss (bind r literal_on)
literal-from ss (got l ts) d = literal-on l ss ts d
literal-from ss stop d = tt

pub literal-spelt : (ts : List Token) → Good ts (literal_of ts)
unfolding literal_of
literal-spelt ts = literal-from ts (side_of ts) (side-spelt ts)

-- ---- literals with commas between them

pub literals-read : {k : Conj} {ts : List Token} → Literals k ts → (n : ℕ) → length ts < n → literals n ts ≡ some k
unfolding literals
literals-read (final d) zero l = absurd (omega arith)
literals-read (final d) (suc n) l = ap (literals_from (literals n)) (literal-read d tt)
literals-read (another d e) zero l = absurd (omega arith)
literals-read (another {l = a} d e) (suc n) l = let m = literal-shorter d in ap (literals_from (literals n)) (literal-read d tt) ∙ ap (added a) (literals-read e n (omega arith))

abbrev GoodLine : (Conj → List Token → Type 0) → List Token → Option Conj → Type 0
GoodLine P ts none = Unit {0}
GoodLine P ts (some k) = P k ts

another-good : (l : Literal) (ss ts : List Token) → Says l ss (comma ∷ ts) → (r : Option Conj) → GoodLine Literals ts r → GoodLine Literals ss (added l r)
another-good l ss ts d none e = tt
another-good l ss ts d (some k) e = another d e

module _ (rec : List Token → Option Conj) (good : (ts : List Token) → GoodLine Literals ts (rec ts)) where
  literals-on : (l : Literal) (ss ts : List Token) → Says l ss ts → GoodLine Literals ss (literals_on rec l ts)
  literals-on l ss [] d = final d
  literals-on l ss (one x ∷ ts) d = tt
  literals-on l ss (run p ∷ ts) d = tt
  literals-on l ss (functor g ∷ ts) d = tt
  literals-on l ss (equals ∷ ts) d = tt
  literals-on l ss (comma ∷ ts) d = another-good l ss ts d (rec ts) (good ts)
  literals-on l ss (opens ∷ ts) d = tt
  literals-on l ss (closes ∷ ts) d = tt
  literals-on l ss (plus ∷ ts) d = tt
  literals-on l ss (times ∷ ts) d = tt

  literals-from : (ss : List Token) (r : Res Literal) → Good ss r → GoodLine Literals ss (literals_from rec r)
  literals-from ss (got l ts) d = literals-on l ss ts d
  literals-from ss stop d = tt

literals-spelt : (n : ℕ) (ts : List Token) → GoodLine Literals ts (literals n ts)
unfolding literals
literals-spelt zero ts = tt
literals-spelt (suc n) ts = literals-from (literals n) (literals-spelt n) ts (literal_of ts) (literal-spelt ts)

-- ---- a line

never : {A : Type 0} → false ≡ true → A
never e = absurd (let z : ◌≡◌ {A = ℕ} 0 1 = cc in omega arith)

one-close : (ts : List Token) → is_close ts ≡ true → ts ≡ closes ∷ []
one-close [] e = never e
one-close (one x ∷ ts) e = never e
one-close (run p ∷ ts) e = never e
one-close (functor g ∷ ts) e = never e
one-close (equals ∷ ts) e = never e
one-close (comma ∷ ts) e = never e
one-close (opens ∷ ts) e = never e
one-close (closes ∷ ts) e = on ts e
  where
    on : (us : List Token) → elim us as (λ z. Bool) [ [] ↦ true | ◌∷◌ t vs ↦ false ] ≡ true → closes ∷ us ≡ closes ∷ []
    on [] z = refl
    on (t ∷ vs) z = never z
one-close (plus ∷ ts) e = never e
one-close (times ∷ ts) e = never e

pub is-nothing : (ts : List Token) → is_nothing ts ≡ true → ts ≡ opens ∷ closes ∷ []
is-nothing [] e = never e
is-nothing (one x ∷ ts) e = never e
is-nothing (run p ∷ ts) e = never e
is-nothing (functor g ∷ ts) e = never e
is-nothing (equals ∷ ts) e = never e
is-nothing (comma ∷ ts) e = never e
is-nothing (opens ∷ ts) e = ap (λ us. opens ∷ us) (one-close ts e)
is-nothing (closes ∷ ts) e = never e
is-nothing (plus ∷ ts) e = never e
is-nothing (times ∷ ts) e = never e

nothing-no-literals : literals 3 (opens ∷ closes ∷ []) ≡ none
unfolding literals literal_of side_of hedge
nothing-no-literals = refl

none-some : {A : Type 0} (o : Option Conj) (k : Conj) → o ≡ none → o ≡ some k → A
none-some o k p q = absurd (let z : ◌≡◌ {A = ℕ} 0 1 = cc in omega arith)

pub line_read : {k : Conj} {ts : List Token} → Line k ts → line_of ts ≡ some k
unfolding line_of
line_read asks_nothing = refl
line_read (asks {k = k} {ts = ts} d) = on (is_nothing ts) refl
  where
    on : (b : Bool) → is_nothing ts ≡ b → pick b (some []) (literals (suc (length ts)) ts) ≡ some k
    on true e = none-some (literals 3 (opens ∷ closes ∷ [])) k nothing-no-literals (literals-read (subst (Literals k) (is-nothing ts e) d) 3 (omega arith))
    on false e = literals-read d (suc (length ts)) (omega arith)

line-good : (ts : List Token) (r : Option Conj) → GoodLine Literals ts r → GoodLine Line ts r
line-good ts none d = tt
line-good ts (some k) d = asks d

pub line-spelt : (ts : List Token) → GoodLine Line ts (line_of ts)
unfolding line_of
line-spelt ts = on (is_nothing ts) refl
  where
    on : (b : Bool) → is_nothing ts ≡ b → GoodLine Line ts (pick b (some []) (literals (suc (length ts)) ts))
    on true e = subst (Line []) (sym (is-nothing ts e)) asks_nothing
    on false e = line-good ts (literals (suc (length ts)) ts) (literals-spelt (suc (length ts)) ts)

-- ---- a text

no-empty : line_of [] ≡ none
unfolding line_of literals literal_of side_of hedge
no-empty = refl

lines-read : {ks : List Conj} {ls : List (List ℕ)} → Lines ks ls → read_lines ls ≡ some ks
unfolding read_lines
lines-read no_line = refl
lines-read (blank {ls = ls} e r) = ap (λ t. tokens_on t (read_lines ls)) e ∙ lines-read r
lines-read (line {k = k} {ks = ks} {ls = ls} {ts = ts} e d r) = ap (λ t. tokens_on t (read_lines ls)) e ∙ on ts d (lines-read r)
  where
    on : (ts : List Token) → Line k ts → read_lines ls ≡ some ks → line_on ts (read_lines ls) ≡ some (k ∷ ks)
    on [] d i = none-some (line_of []) k no-empty (line_read d)
    on (t ∷ ts) d i = ap (λ o. with_line o (read_lines ls)) (line_read d) ∙ ap (with_line (some k)) i

abbrev GoodLines : List (List ℕ) → Option (List Conj) → Type 0
GoodLines ls none = Unit {0}
GoodLines ls (some ks) = Lines ks ls

with-good : (l : List ℕ) (ls : List (List ℕ)) (ts : List Token) → tokens l ≡ some ts → (o : Option Conj) → GoodLine Line ts o → (r : Option (List Conj)) → GoodLines ls r → GoodLines (l ∷ ls) (with_line o r)
with-good l ls ts e none d r g = tt
with-good l ls ts e (some k) d none g = tt
with-good l ls ts e (some k) d (some ks) g = line e d g

blank-good : (l : List ℕ) (ls : List (List ℕ)) → tokens l ≡ some [] → (r : Option (List Conj)) → GoodLines ls r → GoodLines (l ∷ ls) r
blank-good l ls e none g = tt
blank-good l ls e (some ks) g = blank e g

tokens-good : (l : List ℕ) (ls : List (List ℕ)) (o : Tokens) → tokens l ≡ o → (r : Option (List Conj)) → GoodLines ls r → GoodLines (l ∷ ls) (tokens_on o r)
tokens-good l ls none e r g = tt
tokens-good l ls (some []) e r g = blank-good l ls e r g
tokens-good l ls (some (t ∷ ts)) e r g = with-good l ls (t ∷ ts) e (line_of (t ∷ ts)) (line-spelt (t ∷ ts)) r g

lines-spelt : (ls : List (List ℕ)) → GoodLines ls (read_lines ls)
unfolding read_lines
lines-spelt [] = no_line
lines-spelt (l ∷ ls) = tokens-good l ls (tokens l) refl (read_lines ls) (lines-spelt ls)

-- What the grammar spells is read.
pub text-read : (text : List ℕ) (ks : List Conj) → TextOf ks text → parse text ≡ some ks
unfolding parse
text-read text ks d = lines-read d

-- What is read, the grammar spells.
pub text-spelt : (text : List ℕ) (ks : List Conj) → parse text ≡ some ks → TextOf ks text
unfolding parse
text-spelt text ks e = subst (GoodLines (lines_of text)) e (lines-spelt (lines_of text))

-- A text has one reading.
pub one-reading : (text : List ℕ) (ks js : List Conj) → TextOf ks text → TextOf js text → ks ≡ js
one-reading text ks js d e = let a = text-read text ks d in let b = text-read text js e in cc

-- Where nothing is read, the text is not of the grammar: number 17 is given exactly then.
pub not-of-grammar : (text : List ℕ) → parse text ≡ none → (ks : List Conj) → TextOf ks text → ⊥
not-of-grammar text e ks d = let a = text-read text ks d in let z : ◌≡◌ {A = ℕ} 0 1 = cc in omega arith
