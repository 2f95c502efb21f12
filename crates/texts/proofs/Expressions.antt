-- Expressions: what the grammar spells is read, and what is read is spelt so.
use Prim.Native.Nat.{ℕ, zero, suc, ◌+◌, ◌*◌, ◌<◌, ◌≤◌}
use native.Mathlib.Omega.{arith}
use mathlib.Core.Path.{◌≡◌, refl, ap, ◌∙◌}
use mathlib.Core.List.{List, [], ◌∷◌}
use lib.ListN.{length}
use Rattle.language.specs.declared.Sym.{Sym}
use Rattle.language.specs.Trees.{Functor, symbol, fvar, Expr, eps, cat, alt, star, over}
use Rattle.grammar.specs.Tokens.{Token, one, run, functor, equals, comma, opens, closes, plus, times}
use Rattle.grammar.specs.Grammar.{Level, atom, starred, choice, listed, within, Means, single, under, group, once, again, only, either, last, then, no-listed, some-listed}
use Rattle.texts.specs.Parsing.{Res, got, stop, mapped, bind, Exprs, symbol_on, atom_on, stars, choice_on, listed_on, within_on, expr, expr_of}
use Rattle.texts.proofs.Hedges.{Calm}

-- the end of a line, a comma, a bracket that closes: no expression goes on here
abbrev pub Ends : List Token → Type 0
Ends [] = Unit {0}
Ends (one x ∷ ts) = ⊥
Ends (run p ∷ ts) = ⊥
Ends (functor g ∷ ts) = ⊥
Ends (equals ∷ ts) = ⊥
Ends (comma ∷ ts) = Unit {0}
Ends (opens ∷ ts) = ⊥
Ends (closes ∷ ts) = Unit {0}
Ends (plus ∷ ts) = ⊥
Ends (times ∷ ts) = ⊥

pub ends-calm : (ts : List Token) → Ends ts → Calm ts
ends-calm [] c = tt
ends-calm (one x ∷ ts) c = absurd c
ends-calm (run p ∷ ts) c = absurd c
ends-calm (functor g ∷ ts) c = absurd c
ends-calm (equals ∷ ts) c = absurd c
ends-calm (comma ∷ ts) c = tt
ends-calm (opens ∷ ts) c = absurd c
ends-calm (closes ∷ ts) c = tt
ends-calm (plus ∷ ts) c = absurd c
ends-calm (times ∷ ts) c = absurd c

stars-end : (R : Expr) (ts : List Token) → Ends ts → stars R ts ≡ got R ts
stars-end R [] c = refl
stars-end R (one x ∷ ts) c = absurd c
stars-end R (run p ∷ ts) c = absurd c
stars-end R (functor g ∷ ts) c = absurd c
stars-end R (equals ∷ ts) c = absurd c
stars-end R (comma ∷ ts) c = refl
stars-end R (opens ∷ ts) c = absurd c
stars-end R (closes ∷ ts) c = refl
stars-end R (plus ∷ ts) c = absurd c
stars-end R (times ∷ ts) c = absurd c

choice-end : (rec : Exprs) (R : Expr) (ts : List Token) → Ends ts → choice_on rec R ts ≡ got R ts
choice-end rec R [] c = refl
choice-end rec R (one x ∷ ts) c = absurd c
choice-end rec R (run p ∷ ts) c = absurd c
choice-end rec R (functor g ∷ ts) c = absurd c
choice-end rec R (equals ∷ ts) c = absurd c
choice-end rec R (comma ∷ ts) c = refl
choice-end rec R (opens ∷ ts) c = absurd c
choice-end rec R (closes ∷ ts) c = refl
choice-end rec R (plus ∷ ts) c = absurd c
choice-end rec R (times ∷ ts) c = absurd c

on-single : (rec : Exprs) (f : Sym) (ts : List Token) → Calm ts → symbol_on rec (symbol f) ts ≡ got (over f eps) ts
on-single rec f [] c = refl
on-single rec f (one x ∷ ts) c = refl
on-single rec f (run p ∷ ts) c = refl
on-single rec f (functor g ∷ ts) c = refl
on-single rec f (equals ∷ ts) c = refl
on-single rec f (comma ∷ ts) c = refl
on-single rec f (opens ∷ ts) c = absurd c
on-single rec f (closes ∷ ts) c = refl
on-single rec f (plus ∷ ts) c = refl
on-single rec f (times ∷ ts) c = refl

abbrev weight : Level → ℕ
weight atom = 0
weight starred = 1
weight choice = 2
weight listed = 3
weight within = 4

-- what has to follow, and what is then read
abbrev Before : Level → List Token → Type 0
Before atom us = Calm us
Before starred us = Calm us
Before choice us = Ends us
Before listed us = Unit {0}
Before within us = Unit {0}

abbrev Reads : Level → Expr → List Token → Res Expr
Reads atom R us = got R us
Reads starred R us = stars R us
Reads choice R us = got R us
Reads listed R us = got R us
Reads within R us = got R us

pub shorter : {l : Level} {R : Expr} {ts us : List Token} → Means l R ts us → length us ≤ length ts
shorter single = omega arith
shorter (under d) = let l = shorter d in omega arith
shorter (group d) = let l = shorter d in omega arith
shorter (once d) = shorter d
shorter (again d) = let l = shorter d in omega arith
shorter (only d) = shorter d
shorter (either d e) = let l = shorter d in let m = shorter e in omega arith
shorter (last d) = let l = shorter d in omega arith
shorter (then d e) = let l = shorter d in let m = shorter e in omega arith
shorter no-listed = omega arith
shorter (some-listed d) = shorter d

-- something is spelt: no bracket closes here
abbrev Some : List Token → Type 0
Some [] = ⊥
Some (one x ∷ ts) = ⊥
Some (run p ∷ ts) = ⊥
Some (functor g ∷ ts) = Unit {0}
Some (equals ∷ ts) = ⊥
Some (comma ∷ ts) = ⊥
Some (opens ∷ ts) = Unit {0}
Some (closes ∷ ts) = ⊥
Some (plus ∷ ts) = ⊥
Some (times ∷ ts) = ⊥

abbrev SomeAt : Level → List Token → Type 0
SomeAt atom ts = Some ts
SomeAt starred ts = Some ts
SomeAt choice ts = Some ts
SomeAt listed ts = Some ts
SomeAt within ts = Unit {0}

some_at : {l : Level} {R : Expr} {ts us : List Token} → Means l R ts us → SomeAt l ts
some_at single = tt
some_at (under d) = tt
some_at (group d) = tt
some_at (once d) = some_at d
some_at (again d) = some_at d
some_at (only d) = some_at d
some_at (either d e) = some_at d
some_at (last d) = some_at d
some_at (then d e) = some_at d
some_at no-listed = tt
some_at (some-listed d) = tt

within-some : (rec : Exprs) (ts : List Token) → Some ts → within_on rec ts ≡ rec listed ts
within-some rec [] c = absurd c
within-some rec (one x ∷ ts) c = absurd c
within-some rec (run p ∷ ts) c = absurd c
within-some rec (functor g ∷ ts) c = refl
within-some rec (equals ∷ ts) c = absurd c
within-some rec (comma ∷ ts) c = absurd c
within-some rec (opens ∷ ts) c = refl
within-some rec (closes ∷ ts) c = absurd c
within-some rec (plus ∷ ts) c = absurd c
within-some rec (times ∷ ts) c = absurd c

pub complete : {l : Level} {R : Expr} {ts us : List Token} → Means l R ts us → Before l us → (n : ℕ) → 5 * length ts + weight l < n → expr n l ts ≡ Reads l R us
unfolding expr
complete single c zero l = absurd (omega arith)
complete (single {f = f} {ts = ts}) c (suc n) l = on-single (expr n) f ts c
complete (under d) c zero l = absurd (omega arith)
complete (under {f = f} d) c (suc n) l = ap (mapped (over f)) (complete d tt n (omega arith))
complete (group d) c zero l = absurd (omega arith)
complete (group d) c (suc n) l = complete d tt n (omega arith)
complete (once d) c zero l = absurd (omega arith)
complete (once d) c (suc n) l = ap (λ r. bind r stars) (complete d c n (omega arith))
complete (again d) c zero l = absurd (omega arith)
complete (again d) c (suc n) l = complete d tt (suc n) l
complete (only d) c zero l = absurd (omega arith)
complete (only {R = R} {us = us} d) c (suc n) l =
    ap (λ r. bind r (choice_on (expr n))) (complete d (ends-calm us c) n (omega arith) ∙ stars-end R us c)
    ∙ choice-end (expr n) R us c
complete (either d e) c zero l = absurd (omega arith)
complete (either {a = a} d e) c (suc n) l =
    let m = shorter d in
    ap (λ r. bind r (choice_on (expr n))) (complete d tt n (omega arith))
    ∙ ap (mapped (alt a)) (complete e c n (omega arith))
complete (last d) c zero l = absurd (omega arith)
complete (last d) c (suc n) l = ap (λ r. bind r (listed_on (expr n))) (complete d tt n (omega arith))
complete (then d e) c zero l = absurd (omega arith)
complete (then {a = a} d e) c (suc n) l =
    let m = shorter d in
    ap (λ r. bind r (listed_on (expr n))) (complete d tt n (omega arith))
    ∙ ap (mapped (cat a)) (complete e tt n (omega arith))
complete no-listed c zero l = absurd (omega arith)
complete no-listed c (suc n) l = refl
complete (some-listed d) c zero l = absurd (omega arith)
complete (some-listed {ts = ts} d) c (suc n) l = within-some (expr n) ts (some_at d) ∙ complete d tt n (omega arith)

-- ---- what is read is spelt so

abbrev pub Good : Level → List Token → Res Expr → Type 0
Good l ts (got R us) = Means l R ts us
Good l ts stop = Unit {0}

under-good : (f : Sym) (ts : List Token) (r : Res Expr) → Good within ts r → Good atom (functor (symbol f) ∷ opens ∷ ts) (mapped (over f) r)
under-good f ts (got R us) d = under d
under-good f ts stop d = tt

group-good : (ts : List Token) (r : Res Expr) → Good within ts r → Good atom (opens ∷ ts) r
group-good ts (got R us) d = group d
group-good ts stop d = tt

listed-good : (ts : List Token) (r : Res Expr) → Good listed ts r → Good within ts r
listed-good ts (got R us) d = some-listed d
listed-good ts stop d = tt

-- from an expression that is spelt up to here
either-good : (a : Expr) (ss ts : List Token) → Means starred a ss (plus ∷ ts) → (r : Res Expr) → Good choice ts r → Good choice ss (mapped (alt a) r)
either-good a ss ts d (got R us) e = either d e
either-good a ss ts d stop e = tt

then-good : (a : Expr) (ss ts : List Token) → Means choice a ss (comma ∷ ts) → (r : Res Expr) → Good listed ts r → Good listed ss (mapped (cat a) r)
then-good a ss ts d (got R us) e = then d e
then-good a ss ts d stop e = tt

stars-good : (R : Expr) (ss ts : List Token) → Means starred R ss ts → Good starred ss (stars R ts)
stars-good R ss [] d = d
stars-good R ss (one x ∷ ts) d = d
stars-good R ss (run p ∷ ts) d = d
stars-good R ss (functor g ∷ ts) d = d
stars-good R ss (equals ∷ ts) d = d
stars-good R ss (comma ∷ ts) d = d
stars-good R ss (opens ∷ ts) d = d
stars-good R ss (closes ∷ ts) d = d
stars-good R ss (plus ∷ ts) d = d
stars-good R ss (times ∷ ts) d = stars-good (star R) ss ts (again d)

module _ (rec : Exprs) (good : (l : Level) (ts : List Token) → Good l ts (rec l ts)) where
  symbol-good : (f : Functor) (ts : List Token) → Good atom (functor f ∷ ts) (symbol_on rec f ts)
  symbol-good (symbol f) [] = single
  symbol-good (symbol f) (one x ∷ ts) = single
  symbol-good (symbol f) (run p ∷ ts) = single
  symbol-good (symbol f) (functor g ∷ ts) = single
  symbol-good (symbol f) (equals ∷ ts) = single
  symbol-good (symbol f) (comma ∷ ts) = single
  symbol-good (symbol f) (opens ∷ ts) = under-good f ts (rec within ts) (good within ts)
  symbol-good (symbol f) (closes ∷ ts) = single
  symbol-good (symbol f) (plus ∷ ts) = single
  symbol-good (symbol f) (times ∷ ts) = single
  symbol-good (fvar X) ts = tt

  atom-good : (ts : List Token) → Good atom ts (atom_on rec ts)
  atom-good [] = tt
  atom-good (one x ∷ ts) = tt
  atom-good (run p ∷ ts) = tt
  atom-good (functor g ∷ ts) = symbol-good g ts
  atom-good (equals ∷ ts) = tt
  atom-good (comma ∷ ts) = tt
  atom-good (opens ∷ ts) = group-good ts (rec within ts) (good within ts)
  atom-good (closes ∷ ts) = tt
  atom-good (plus ∷ ts) = tt
  atom-good (times ∷ ts) = tt

  within-good : (ts : List Token) → Good within ts (within_on rec ts)
  within-good [] = tt
  within-good (one x ∷ ts) = listed-good (one x ∷ ts) (rec listed (one x ∷ ts)) (good listed (one x ∷ ts))
  within-good (run p ∷ ts) = listed-good (run p ∷ ts) (rec listed (run p ∷ ts)) (good listed (run p ∷ ts))
  within-good (functor g ∷ ts) = listed-good (functor g ∷ ts) (rec listed (functor g ∷ ts)) (good listed (functor g ∷ ts))
  within-good (equals ∷ ts) = listed-good (equals ∷ ts) (rec listed (equals ∷ ts)) (good listed (equals ∷ ts))
  within-good (comma ∷ ts) = listed-good (comma ∷ ts) (rec listed (comma ∷ ts)) (good listed (comma ∷ ts))
  within-good (opens ∷ ts) = listed-good (opens ∷ ts) (rec listed (opens ∷ ts)) (good listed (opens ∷ ts))
  within-good (closes ∷ ts) = no-listed
  within-good (plus ∷ ts) = listed-good (plus ∷ ts) (rec listed (plus ∷ ts)) (good listed (plus ∷ ts))
  within-good (times ∷ ts) = listed-good (times ∷ ts) (rec listed (times ∷ ts)) (good listed (times ∷ ts))

  starred-good : (ss : List Token) (r : Res Expr) → Good atom ss r → Good starred ss (bind r stars)
  starred-good ss (got R ts) d = stars-good R ss ts (once d)
  starred-good ss stop d = tt

  choice-on : (a : Expr) (ss ts : List Token) → Means starred a ss ts → Good choice ss (choice_on rec a ts)
  choice-on a ss [] d = only d
  choice-on a ss (one x ∷ ts) d = only d
  choice-on a ss (run p ∷ ts) d = only d
  choice-on a ss (functor g ∷ ts) d = only d
  choice-on a ss (equals ∷ ts) d = only d
  choice-on a ss (comma ∷ ts) d = only d
  choice-on a ss (opens ∷ ts) d = only d
  choice-on a ss (closes ∷ ts) d = only d
  choice-on a ss (plus ∷ ts) d = either-good a ss ts d (rec choice ts) (good choice ts)
  choice-on a ss (times ∷ ts) d = only d

  choice-good : (ss : List Token) (r : Res Expr) → Good starred ss r → Good choice ss (bind r (choice_on rec))
  choice-good ss (got R ts) d = choice-on R ss ts d
  choice-good ss stop d = tt

  listed-on : (a : Expr) (ss ts : List Token) → Means choice a ss ts → Good listed ss (listed_on rec a ts)
  listed-on a ss [] d = tt
  listed-on a ss (one x ∷ ts) d = tt
  listed-on a ss (run p ∷ ts) d = tt
  listed-on a ss (functor g ∷ ts) d = tt
  listed-on a ss (equals ∷ ts) d = tt
  listed-on a ss (comma ∷ ts) d = then-good a ss ts d (rec listed ts) (good listed ts)
  listed-on a ss (opens ∷ ts) d = tt
  listed-on a ss (closes ∷ ts) d = last d
  listed-on a ss (plus ∷ ts) d = tt
  listed-on a ss (times ∷ ts) d = tt

  list-good : (ss : List Token) (r : Res Expr) → Good choice ss r → Good listed ss (bind r (listed_on rec))
  list-good ss (got R ts) d = listed-on R ss ts d
  list-good ss stop d = tt

pub sound : (n : ℕ) (l : Level) (ts : List Token) → Good l ts (expr n l ts)
unfolding expr
sound zero l ts = tt
sound (suc n) atom ts = atom-good (expr n) (sound n) ts
sound (suc n) starred ts = starred-good (expr n) (sound n) ts (expr n atom ts) (sound n atom ts)
sound (suc n) choice ts = choice-good (expr n) (sound n) ts (expr n starred ts) (sound n starred ts)
sound (suc n) listed ts = list-good (expr n) (sound n) ts (expr n choice ts) (sound n choice ts)
sound (suc n) within ts = within-good (expr n) (sound n) ts

-- ---- an expression behind `in`

pub expr-read : {R : Expr} {ts us : List Token} → Means choice R ts us → Ends us → expr_of ts ≡ got R us
unfolding expr_of
expr-read {ts = ts} d c = complete d c (suc (5 * length ts + 2)) (omega arith)

pub expr-spelt : (ts : List Token) → Good choice ts (expr_of ts)
unfolding expr_of
expr-spelt ts = sound (suc (5 * length ts + 2)) choice ts
