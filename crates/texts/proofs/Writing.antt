-- What the writer writes is of the grammar, and spells the question with the writer's names.
use Prim.Native.Nat.{ℕ, ◌+◌, ◌<◌}
use native.Mathlib.Omega.{arith}
use mathlib.Core.Path.{◌≡◌, refl, sym, ap, ◌∙◌, subst}
use mathlib.Core.Bool.{Bool, true, false}
use mathlib.Core.List.{List, [], ◌∷◌, ◌++◌}
use mathlib.Core.Option.{none, some}
use lib.Dec.{eqb}
use borrow.Author.Tests.{eqb-true}
use Rattle.language.specs.Limits.{Limits}
use Rattle.language.specs.Kinds.{pick}
use Rattle.language.specs.Trees.{Functor, symbol, fvar, Hedge, ε, tvar, hvar, node, Expr, eps, cat, alt, star, over, Literal, eqn, mem, Conj}
use Rattle.language.specs.Fine.{fine_functor, fine_hedge, fine_expr, fine_literal, fine_conj}
use Rattle.language.proofs.Alternatives.{fine_all}
use Rattle.grammar.specs.Tokens.{Token, one, run, functor, equals, comma, opens, closes, plus, times, name_byte, blank, begins_name, Tokens, letter, marked, star_or, byte, tokens}
use Rattle.grammar.specs.Grammar.{begins, follows, inside, Spells, empty, full, ends, more, alone, brackets, part, parts, leaf, tree, starred, choice, listed, Means, single, under, group, once, again, only, either, last, then, no-listed, some-listed, in_sym, Says, equal, member, Literals, final, another, Line, asks_nothing, asks, Lines, no_line, line, ahead, lines_of, TextOf}
use Rattle.grammar.specs.Grammar as Grammar
use Rattle.texts.specs.Numbering.{terms, hedges, name_f, name_hedge, name_expr, name_literal, name_conj, name_all}
use Rattle.texts.specs.Writer.{plain, functor_text, sep_text, child_text, inside_text, side_text, expr_text, literal_text, literals_text, line_text, all_text}
use Rattle.texts.specs.Writer as Writer
use Rattle.texts.proofs.Lexing.{Reads, by-step, by-space, by-star, by-symbol, by-term, by-run, by-function, name-tokens, equals-step, comma-step, opens-step, closes-step, plus_step}

-- a text whose tokens have the property P
abbrev pub Spelt : List ℕ → (List Token → Type 0) → Type 0
Spelt text P = (ts : List Token) × (tokens text ≡ some ts) × P ts

abbrev Free : List ℕ → (List Token → Type 0) → Type 0
Free text P = (ts : List Token) × Reads text ts × P ts

module _ (L : Limits) where
  small : (n : ℕ) → n < L.each → n < 1000
  small n p = let a = L.apart in omega arith

  by-functor : (f : Functor) → fine_functor L f → {k : List ℕ} {us : List Token} → Reads k us → tokens (functor_text f k) ≡ some (functor (name_f plain f) ∷ us)
  by-functor (symbol f) p {k} {us} r = by-symbol f.0 k us (small f.0 p) r
  by-functor (fvar X) p {k} {us} r = (by-function X.0 k us (small X.0 p) r).read

  -- ---- hedges

  -- the elements of a hedge that is not empty
  abbrev Row : Hedge → List Token → List Token → Type 0
  Row ε ts us = ts ≡ closes ∷ us
  Row (tvar x r) ts us = Spells (begins true) (name_hedge plain (tvar x r)) ts us
  Row (hvar p r) ts us = Spells (begins true) (name_hedge plain (hvar p r)) ts us
  Row (node f c r) ts us = Spells (begins true) (name_hedge plain (node f c r)) ts us

  inside-row : (h : Hedge) (ts us : List Token) → Row h ts us → Spells inside (name_hedge plain h) ts us
  inside-row ε ts us d = subst (λ z. Spells inside ε z us) (sym d) empty
  inside-row (tvar x r) ts us d = full d
  inside-row (hvar p r) ts us d = full d
  inside-row (node f c r) ts us d = full d

  by-comma : {k : List ℕ} {ts : List Token} → tokens k ≡ some ts → Reads (44 ∷ 32 ∷ k) (comma ∷ ts)
  by-comma e = by-step comma-step (by-space e).read

  follows-row : (r : Hedge) (k : List ℕ) (us : List Token) → tokens k ≡ some us → Spelt (inside_text r k) (λ ts. Row r ts us)
      → Free (sep_text r (inside_text r k)) (λ ts. Spells (follows true) (name_hedge plain r) ts us)
  follows-row ε k us e d = (closes ∷ us, by-step closes-step e, ends)
  follows-row (tvar x r) k us e d = (comma ∷ d.0, by-comma d.1, more d.2)
  follows-row (hvar p r) k us e d = (comma ∷ d.0, by-comma d.1, more d.2)
  follows-row (node f c r) k us e d = (comma ∷ d.0, by-comma d.1, more d.2)

  -- a functor, its children if it has any, and what follows
  node_row : (b : Bool) (f : Functor) (c : Hedge) (s : Hedge) (T : List ℕ) (us vs : List Token) → fine_functor L f → Reads T us
      → Spelt (inside_text c T) (λ ts. Row c ts us) → Spells (follows b) s us vs
      → Spelt (functor_text f (child_text c (inside_text c T) T)) (λ ts. Spells (begins b) (node (name_f plain f) (name_hedge plain c) s) ts vs)
  node_row b f ε s T us vs p r w d = (functor (name_f plain f) ∷ us, by-functor f p r, leaf d)
  node_row b f (tvar x q) s T us vs p r w d = (functor (name_f plain f) ∷ opens ∷ w.0, by-functor f p (by-step opens-step w.1), tree (full w.2) d)
  node_row b f (hvar x q) s T us vs p r w d = (functor (name_f plain f) ∷ opens ∷ w.0, by-functor f p (by-step opens-step w.1), tree (full w.2) d)
  node_row b f (node g c q) s T us vs p r w d = (functor (name_f plain f) ∷ opens ∷ w.0, by-functor f p (by-step opens-step w.1), tree (full w.2) d)

  row : (h : Hedge) (k : List ℕ) (us : List Token) → fine_hedge L h → tokens k ≡ some us → Spelt (inside_text h k) (λ ts. Row h ts us)
  row ε k us s e = (closes ∷ us, (by-step closes-step e).read, refl)
  row (tvar x r) k us s e =
      let w = follows-row r k us e (row r k us s.1 e) in
      (one (record { 0 = plain terms x.0 }) ∷ w.0, (by-term x.0 (sep_text r (inside_text r k)) w.0 (small x.0 s.0) w.1).read, part w.2)
  row (hvar p r) k us s e =
      let w = follows-row r k us e (row r k us s.1 e) in
      (run (record { 0 = plain hedges p.0 }) ∷ w.0, (by-run p.0 (sep_text r (inside_text r k)) w.0 (small p.0 s.0) w.1).read, parts w.2)
  row (node f c r) k us s e =
      let w = follows-row r k us e (row r k us s.2 e) in
      node_row true f c (name_hedge plain r) (sep_text r (inside_text r k)) w.0 us s.0 w.1 (row c (sep_text r (inside_text r k)) w.0 s.1 w.1.read) w.2

  -- in brackets
  bracketed : (h : Hedge) (k : List ℕ) (us : List Token) → fine_hedge L h → tokens k ≡ some us → Spelt (40 ∷ inside_text h k) (λ ts. Spells (begins false) (name_hedge plain h) ts us)
  bracketed h k us s e = let w = row h k us s e in (opens ∷ w.0, (by-step opens-step w.1).read, brackets (inside-row h w.0 us w.2))

  pub side : (h : Hedge) (k : List ℕ) (us : List Token) → fine_hedge L h → Reads k us → Spelt (side_text h k) (λ ts. Spells (begins false) (name_hedge plain h) ts us)
  side ε k us s r = bracketed ε k us s r.read
  side (tvar x ε) k us s r = (one (record { 0 = plain terms x.0 }) ∷ us, (by-term x.0 k us (small x.0 s.0) r).read, part alone)
  side (tvar x (tvar y q)) k us s r = bracketed (tvar x (tvar y q)) k us s r.read
  side (tvar x (hvar y q)) k us s r = bracketed (tvar x (hvar y q)) k us s r.read
  side (tvar x (node g d q)) k us s r = bracketed (tvar x (node g d q)) k us s r.read
  side (hvar p ε) k us s r = (run (record { 0 = plain hedges p.0 }) ∷ us, (by-run p.0 k us (small p.0 s.0) r).read, parts alone)
  side (hvar p (tvar y q)) k us s r = bracketed (hvar p (tvar y q)) k us s r.read
  side (hvar p (hvar y q)) k us s r = bracketed (hvar p (hvar y q)) k us s r.read
  side (hvar p (node g d q)) k us s r = bracketed (hvar p (node g d q)) k us s r.read
  side (node f c ε) k us s r = node_row false f c ε k us us s.0 r (row c k us s.1 r.read) alone
  side (node f c (tvar y q)) k us s r = bracketed (node f c (tvar y q)) k us s r.read
  side (node f c (hvar y q)) k us s r = bracketed (node f c (hvar y q)) k us s r.read
  side (node f c (node g d q)) k us s r = bracketed (node f c (node g d q)) k us s r.read

  -- ---- expressions

  record Wrote (R : Expr) : Type 0 where
    tight : (k : List ℕ) (us : List Token) → Reads k us → Spelt (expr_text R Writer.starred k) (λ ts. Means starred (name_expr plain R) ts us)
    mid : (k : List ℕ) (us : List Token) → Reads k us → Spelt (expr_text R Writer.chosen k) (λ ts. Means choice (name_expr plain R) ts us)
    loose : (k : List ℕ) (us : List Token) → Reads k us → Spelt (expr_text R Writer.listed (41 ∷ k)) (λ ts. Means listed (name_expr plain R) ts us)

  by-close : {k : List ℕ} {us : List Token} → Reads k us → Reads (41 ∷ k) (closes ∷ us)
  by-close r = by-step closes-step r.read

  by_plus : {k : List ℕ} {us : List Token} → tokens k ≡ some us → Reads (32 ∷ 43 ∷ 32 ∷ k) (plus ∷ us)
  by_plus e = by-space (by-step plus_step (by-space e).read).read

  wrote-symbol : (f : _) (a : Expr) → fine_functor L (symbol f) → Wrote a → (k : List ℕ) (us : List Token) → Reads k us
      → Spelt (expr_text (over f a) Writer.starred k) (λ ts. Means starred (name_expr plain (over f a)) ts us)
  wrote-symbol f eps p w k us r = (functor (name_f plain (symbol f)) ∷ us, by-functor (symbol f) p r, once single)
  wrote-symbol f (cat a b) p w k us r =
      let i = w.loose k us r in
      (functor (name_f plain (symbol f)) ∷ opens ∷ i.0, by-functor (symbol f) p (by-step opens-step i.1), once (under (some-listed i.2)))
  wrote-symbol f (alt a b) p w k us r =
      let i = w.loose k us r in
      (functor (name_f plain (symbol f)) ∷ opens ∷ i.0, by-functor (symbol f) p (by-step opens-step i.1), once (under (some-listed i.2)))
  wrote-symbol f (star a) p w k us r =
      let i = w.loose k us r in
      (functor (name_f plain (symbol f)) ∷ opens ∷ i.0, by-functor (symbol f) p (by-step opens-step i.1), once (under (some-listed i.2)))
  wrote-symbol f (over g a) p w k us r =
      let i = w.loose k us r in
      (functor (name_f plain (symbol f)) ∷ opens ∷ i.0, by-functor (symbol f) p (by-step opens-step i.1), once (under (some-listed i.2)))

  wrote : (R : Expr) → fine_expr L R → Wrote R
  wrote eps s = record {
    tight = λ k us r. (opens ∷ closes ∷ us, (by-step opens-step (by-close r).read).read, once (group no-listed));
    mid = λ k us r. (opens ∷ closes ∷ us, (by-step opens-step (by-close r).read).read, only (once (group no-listed)));
    loose = λ k us r. (opens ∷ closes ∷ closes ∷ us, (by-step opens-step (by-close (by-close r)).read).read, last (only (once (group no-listed))));
  }
  wrote (over f a) s =
      let t = wrote-symbol f a s.0 (wrote a s.1) in
      record {
        tight = t;
        mid = λ k us r. let i = t k us r in (i.0, i.1, only i.2);
        loose = λ k us r. let i = t (41 ∷ k) (closes ∷ us) (by-close r) in (i.0, i.1, last (only i.2));
      }
  wrote (star a) s =
      let w = wrote a s in
      record {
        tight = λ k us r. let i = w.tight (42 ∷ k) (times ∷ us) (by-star r) in (i.0, i.1, again i.2);
        mid = λ k us r. let i = w.tight (42 ∷ k) (times ∷ us) (by-star r) in (i.0, i.1, only (again i.2));
        loose = λ k us r. let i = w.tight (42 ∷ 41 ∷ k) (times ∷ closes ∷ us) (by-star (by-close r)) in (i.0, i.1, last (only (again i.2)));
      }
  wrote (alt a b) s =
      let v = wrote a s.0 in
      let w = wrote b s.1 in
      let m : (k : List ℕ) (us : List Token) → Reads k us → Spelt (expr_text (alt a b) Writer.chosen k) (λ ts. Means choice (name_expr plain (alt a b)) ts us) =
      λ k us r.
      let j = w.mid k us r in
      let i = v.tight (32 ∷ 43 ∷ 32 ∷ expr_text b Writer.chosen k) (plus ∷ j.0) (by_plus j.1) in
      (i.0, i.1, either i.2 j.2) in
      record {
        tight = λ k us r. let i = m (41 ∷ k) (closes ∷ us) (by-close r) in (opens ∷ i.0, (by-step opens-step i.1).read, once (group (some-listed (last i.2))));
        mid = m;
        loose = λ k us r. let i = m (41 ∷ k) (closes ∷ us) (by-close r) in (i.0, i.1, last i.2);
      }
  wrote (cat a b) s =
      let v = wrote a s.0 in
      let w = wrote b s.1 in
      let m : (k : List ℕ) (us : List Token) → Reads k us → Spelt (expr_text (cat a b) Writer.listed (41 ∷ k)) (λ ts. Means listed (name_expr plain (cat a b)) ts us) =
      λ k us r.
      let j = w.loose k us r in
      let i = v.mid (44 ∷ 32 ∷ expr_text b Writer.listed (41 ∷ k)) (comma ∷ j.0) (by-comma j.1) in
      (i.0, i.1, then i.2 j.2) in
      record {
        tight = λ k us r. let i = m k us r in (opens ∷ i.0, (by-step opens-step i.1).read, once (group (some-listed i.2)));
        mid = λ k us r. let i = m k us r in (opens ∷ i.0, (by-step opens-step i.1).read, only (once (group (some-listed i.2))));
        loose = m;
      }

  -- ---- literals, lines

  in-names : (name_byte 105 ≡ true) × ((name_byte 110 ≡ true) × Unit {0})
  unfolding name_byte
  in-names = (refl, (refl, tt))

  pub literal : (l : Literal) (k : List ℕ) (us : List Token) → fine_literal L l → Reads k us → Spelt (literal_text l k) (λ ts. Says (name_literal plain l) ts us)
  literal (eqn l r) k us s e =
      let j = side r k us s.1 e in
      let i = side l (32 ∷ 61 ∷ 32 ∷ side_text r k) (equals ∷ j.0) s.0 (by-space (by-step equals-step (by-space j.1).read).read) in
      (i.0, i.1, equal i.2 j.2)
  literal (mem h R) k us s e =
      let j = (wrote R s.1).mid k us e in
      let b = by-space j.1 in
      let i = side h (32 ∷ 105 ∷ 110 ∷ 32 ∷ expr_text R Writer.chosen k) (functor (symbol in_sym) ∷ j.0) s.0
      (by-space (name-tokens 105 (110 ∷ []) (32 ∷ expr_text R Writer.chosen k) j.0 in-names b.free b.read)) in
      (i.0, i.1, member i.2 j.2)

  no_bytes : Reads [] []
  unfolding tokens
  no_bytes = record { free = refl; read = refl }

  literals : (l : Literal) (k : Conj) → fine_conj L (l ∷ k) → Spelt (literals_text (l ∷ k)) (λ ts. Literals (name_conj plain (l ∷ k)) ts)
  literals l [] s = let i = literal l [] [] s.0 no_bytes in (i.0, i.1, final i.2)
  literals l (m ∷ k) s =
      let j = literals m k s.1 in
      let i = literal l (44 ∷ 32 ∷ literals_text (m ∷ k)) (comma ∷ j.0) s.0 (by-comma j.1) in
      (i.0, i.1, another i.2 j.2)

  nothing-tokens : tokens (40 ∷ 41 ∷ []) ≡ some (opens ∷ closes ∷ [])
  nothing-tokens = (by-step opens-step (by-step closes-step no_bytes.read).read).read

  pub conjunction : (k : Conj) → fine_conj L k → Spelt (line_text k) (λ ts. Line (name_conj plain k) ts)
  conjunction [] s = (opens ∷ closes ∷ [], nothing-tokens, asks_nothing)
  conjunction (l ∷ k) s = let i = literals l k s in (i.0, i.1, asks i.2)

-- ---- no byte of a line that is read is a newline

pick-none : (b : Bool) (x y : Tokens) → x ≡ none → y ≡ none → pick b x y ≡ none
pick-none true x y p q = p
pick-none false x y p q = q

letter-none : (b : ℕ) (n : Bool) → letter b n none ≡ none
unfolding letter
letter-none b true = refl
letter-none b false = refl

marked-none : (f : ℕ → Token) (n : Bool) → marked f n none ≡ none
unfolding marked
marked-none f true = refl
marked-none f false = refl

star-none : (n : Bool) → star_or n none ≡ none
unfolding star_or
star-none true = refl
star-none false = refl

byte-none : (b : ℕ) (n : Bool) → byte b n none ≡ none
unfolding byte
byte-none b n =
    pick-none (name_byte b) _ _ (letter-none b n)
    (pick-none (blank b) none _ refl
    (pick-none (eqb b 63) _ _ (marked-none _ n)
    (pick-none (eqb b 42) _ _ (star-none n)
    (pick-none (eqb b 37) _ _ (marked-none _ n)
    (pick-none (eqb b 61) none _ refl
    (pick-none (eqb b 44) none _ refl
    (pick-none (eqb b 40) none _ refl
    (pick-none (eqb b 41) none _ refl
    (pick-none (eqb b 43) none none refl refl)))))))))

newline-none : (n : Bool) (ts : Tokens) → byte 10 n ts ≡ none
unfolding byte name_byte blank
newline-none n ts = refl

abbrev Unbroken : List ℕ → Type 0
Unbroken [] = Unit {0}
Unbroken (b ∷ bs) = (eqb b 10 ≡ false) × Unbroken bs

not-both : {A : Type 0} (o : Tokens) (ts : List Token) → o ≡ none → o ≡ some ts → A
not-both o ts p q = absurd (let z : ◌≡◌ {A = ℕ} 0 1 = cc in omega arith)

unbroken : (l : List ℕ) (ts : List Token) → tokens l ≡ some ts → Unbroken l
unfolding tokens
unbroken [] ts e = tt
unbroken (b ∷ bs) ts e = on (tokens bs) refl (unbroken bs)
  where
    not-newline : (d : Bool) → eqb b 10 ≡ d → eqb b 10 ≡ false
    not-newline true f = not-both (byte b (begins_name bs) (tokens bs)) ts (ap (λ z. byte z (begins_name bs) (tokens bs)) (eqb-true b 10 f) ∙ newline-none (begins_name bs) (tokens bs)) e
    not-newline false f = f

    on : (o : Tokens) → tokens bs ≡ o → ((us : List Token) → tokens bs ≡ some us → Unbroken bs) → Unbroken (b ∷ bs)
    on none f i = not-both (byte b (begins_name bs) (tokens bs)) ts (ap (byte b (begins_name bs)) f ∙ byte-none b (begins_name bs)) e
    on (some us) f i = (not-newline (eqb b 10) refl, i us f)

first-line : (l rest : List ℕ) → Unbroken l → lines_of (l ++ (10 ∷ rest)) ≡ l ∷ lines_of rest
unfolding lines_of
first-line [] rest u = refl
first-line (b ∷ l) rest u = ap (λ d. pick d ([] ∷ lines_of (l ++ (10 ∷ rest))) (ahead b (lines_of (l ++ (10 ∷ rest))))) u.0 ∙ ap (ahead b) (first-line l rest u.1)

last_line : Lines [] (lines_of [])
unfolding lines_of tokens
last_line = Grammar.blank refl no_line

-- The writer's text spells the question with the writer's names.
pub written : (L : Limits) (ks : List Conj) → fine_all L ks → TextOf (name_all plain ks) (all_text ks)
written L [] s = last_line
written L (k ∷ ks) s =
    let i = conjunction L k s.0 in
    subst (Lines (name_all plain (k ∷ ks))) (sym (first-line (line_text k) (all_text ks) (unbroken (line_text k) i.0 i.1))) (line i.1 i.2 (written L ks s.1))
