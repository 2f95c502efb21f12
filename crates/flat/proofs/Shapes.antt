-- The loop over an expression does what the grammar says: it ends where the expression ends, and counts its words.
use Prim.Native.Nat.{ℕ, zero, suc, ◌+◌}
use native.Mathlib.Omega.{arith}
use mathlib.Core.Path.{◌≡◌, refl, sym, ap, ◌∙◌, subst}
use mathlib.Core.List.{List, [], ◌∷◌, ◌++◌}
use lib.ListN.{length, length-append}
use Rattle.language.specs.declared.Sym.{Sym}
use Rattle.language.specs.Trees.{Functor, symbol, fvar, Expr, eps, cat, alt, star, over}
use Rattle.language.specs.Writing.{expr_words}
use Rattle.grammar.specs.Tokens.{Token, one, run, functor, equals, comma, opens, closes, plus, times}
use Rattle.grammar.specs.Grammar.{Level, atom, starred, choice, listed, within, Means, single, under, group, once, again, only, either, last, then, no-listed, some-listed}
use Rattle.texts.specs.Parsing.{Res, got, stop}
use Rattle.flat.specs.declared.State.{State}
use Rattle.flat.specs.declared.State.TheVariants.{Opened, Wanted, Named, Ready}
use Rattle.flat.specs.Flat.{add, end_at, scan, flat_expr}
use Rattle.texts.proofs.Hedges.{Calm}
use Rattle.texts.proofs.Expressions.{Ends, ends-calm}

add-add : (n m : ℕ) (r : Res ℕ) → add n (add m r) ≡ add (n + m) r
add-add n m (got k us) = ap (λ z. got z us) (omega arith)
add-add n m stop = refl

abbrev pub size : Expr → ℕ
size R = length (expr_words R)

size-two : (a b : Expr) → length (expr_words a ++ expr_words b) ≡ size a + size b
size-two a b = length-append (expr_words a) (expr_words b)

-- a symbol by itself is two words
named-calm : (d : ℕ) (ts : List Token) → Calm ts → scan Named d ts ≡ add 1 (scan Ready d ts)
named-calm zero [] c = refl
named-calm (suc d) [] c = refl
named-calm zero (one x ∷ ts) c = refl
named-calm (suc d) (one x ∷ ts) c = refl
named-calm zero (run p ∷ ts) c = refl
named-calm (suc d) (run p ∷ ts) c = refl
named-calm zero (functor g ∷ ts) c = refl
named-calm (suc d) (functor g ∷ ts) c = refl
named-calm zero (equals ∷ ts) c = refl
named-calm (suc d) (equals ∷ ts) c = refl
named-calm zero (comma ∷ ts) c = refl
named-calm (suc d) (comma ∷ ts) c = sym (add-add 1 1 (scan Wanted (suc d) ts))
named-calm zero (opens ∷ ts) c = absurd c
named-calm (suc d) (opens ∷ ts) c = absurd c
named-calm zero (closes ∷ ts) c = refl
named-calm (suc d) (closes ∷ ts) c = refl
named-calm zero (plus ∷ ts) c = sym (add-add 1 1 (scan Wanted zero ts))
named-calm (suc d) (plus ∷ ts) c = sym (add-add 1 1 (scan Wanted (suc d) ts))
named-calm zero (times ∷ ts) c = sym (add-add 1 1 (scan Ready zero ts))
named-calm (suc d) (times ∷ ts) c = sym (add-add 1 1 (scan Ready (suc d) ts))

-- ---- what the grammar spells is counted

abbrev Counts : Level → Expr → List Token → List Token → Type 0
Counts atom R ts us = Calm us → (d : ℕ) → (scan Wanted d ts ≡ add (size R) (scan Ready d us)) × (scan Opened d ts ≡ add (size R) (scan Ready (suc d) us))
Counts starred R ts us = Calm us → (d : ℕ) → (scan Wanted d ts ≡ add (size R) (scan Ready d us)) × (scan Opened d ts ≡ add (size R) (scan Ready (suc d) us))
Counts choice R ts us = Calm us → (d : ℕ) → (scan Wanted d ts ≡ add (size R) (scan Ready d us)) × (scan Opened d ts ≡ add (size R) (scan Ready (suc d) us))
Counts listed R ts us = (d : ℕ) → (scan Wanted (suc d) ts ≡ add (size R) (scan Ready d us)) × (scan Opened d ts ≡ add (size R) (scan Ready d us))
Counts within R ts us = (d : ℕ) → scan Opened d ts ≡ add (size R) (scan Ready d us)

leaf-counts : (d : ℕ) (us : List Token) → Calm us → add 1 (scan Named d us) ≡ add 2 (scan Ready d us)
leaf-counts d us c = ap (add 1) (named-calm d us c) ∙ add-add 1 1 (scan Ready d us)

over-counts : (f : Sym) (R : Expr) (x y : Res ℕ) → x ≡ add (size R) y → add 1 x ≡ add (size (over f R)) y
over-counts f R x y e = ap (add 1) e ∙ add-add 1 (size R) y ∙ ap (λ m. add m y) (omega arith)

star-counts : (R : Expr) (x y : Res ℕ) → x ≡ add (size R) (add 1 y) → x ≡ add (size (star R)) y
star-counts R x y e = e ∙ add-add (size R) 1 y ∙ ap (λ m. add m y) (omega arith)

both-counts : (a b : Expr) (n : ℕ) (x y z : Res ℕ) → n ≡ suc (length (expr_words a ++ expr_words b)) → x ≡ add (size a) (add 1 y) → y ≡ add (size b) z → x ≡ add n z
both-counts a b n x y z e p q =
    p ∙ ap (λ r. add (size a) (add 1 r)) q ∙ ap (add (size a)) (add-add 1 (size b) z) ∙ add-add (size a) (1 + size b) z
    ∙ ap (λ m. add m z) (let s = size-two a b in let w : size a + (1 + size b) ≡ n = omega arith in w)

pub counts : {l : Level} {R : Expr} {ts us : List Token} → Means l R ts us → Counts l R ts us
counts (single {f} {ts}) = λ c d. (leaf-counts d ts c, leaf-counts (suc d) ts c)
counts (under {f} {R} {ts} {us} m) = λ c d. (over-counts f R (scan Opened d ts) (scan Ready d us) (counts m d), over-counts f R (scan Opened (suc d) ts) (scan Ready (suc d) us) (counts m (suc d)))
counts (group m) = λ c d. (counts m d, counts m (suc d))
counts (once m) = counts m
counts (again {R} {ts} {us} m) = λ c d. let i = counts m tt d in (star-counts R (scan Wanted d ts) (scan Ready d us) i.0, star-counts R (scan Opened d ts) (scan Ready (suc d) us) i.1)
counts (only m) = counts m
counts (either {a} {b} {ts} {us} {vs} m n) = λ c d.
    let i = counts m tt d in
    let j = counts n c d in
    let k = counts n c (suc d) in
    (both-counts a b (size (alt a b)) (scan Wanted d ts) (scan Wanted d us) (scan Ready d vs) refl i.0 j.0, both-counts a b (size (alt a b)) (scan Opened d ts) (scan Wanted (suc d) us) (scan Ready (suc d) vs) refl i.1 k.0)
counts (last m) = λ d. let i = counts m tt (suc d) in let j = counts m tt d in (i.0, j.1)
counts (then {a} {b} {ts} {us} {vs} m n) = λ d.
    let i = counts m tt (suc d) in
    let o = counts m tt d in
    let j = counts n d in
    (both-counts a b (size (cat a b)) (scan Wanted (suc d) ts) (scan Wanted (suc d) us) (scan Ready d vs) refl i.0 j.0, both-counts a b (size (cat a b)) (scan Opened d ts) (scan Wanted (suc d) us) (scan Ready d vs) refl o.1 j.0)
counts no-listed = λ d. refl
counts (some-listed m) = λ d. (counts m d).1

-- ---- what is counted, the grammar spells

-- behind a choice, with d brackets open
abbrev Tail : ℕ → List Token → List Token → Type 0
Tail zero ws us = ws ≡ us
Tail (suc d) ws us = (ss : List Token) (a : Expr) → Means choice a ss ws
    → (R : Expr) × (vs : List Token) × Means listed R ss vs × ((tt' : List Token) (b : Expr) → Means starred b tt' vs → (c : Expr) × (xs : List Token) × Means choice c tt' xs × Tail d xs us)

abbrev Goes : ℕ → List Token → List Token → Type 0
Goes d ts us = (ss : List Token) (a : Expr) → Means starred a ss ts → (b : Expr) × (ws : List Token) × Means choice b ss ws × Tail d ws us

abbrev Found : State → ℕ → List Token → List Token → Type 0
Found Opened d ts us = (R : Expr) × (vs : List Token) × Means within R ts vs × Goes d vs us
Found Wanted d ts us = (b : Expr) × (ws : List Token) × Means choice b ts ws × Tail d ws us
Found Named d ts us = (f : Sym) → (b : Expr) × (ws : List Token) × Means choice b (functor (symbol f) ∷ ts) ws × Tail d ws us
Found Ready d ts us = Goes d ts us

abbrev Good : State → ℕ → List Token → Res ℕ → Type 0
Good s d ts (got n us) = Found s d ts us
Good s d ts stop = Unit {0}

lift : (s s' : State) (d d' : ℕ) (ts ts' : List Token) → ((us : List Token) → Found s d ts us → Found s' d' ts' us) → (n : ℕ) (r : Res ℕ) → Good s d ts r → Good s' d' ts' (add n r)
lift s s' d d' ts ts' f n (got m us) g = f us g
lift s s' d d' ts ts' f n stop g = tt

same : (s s' : State) (d d' : ℕ) (ts ts' : List Token) → ((us : List Token) → Found s d ts us → Found s' d' ts' us) → (r : Res ℕ) → Good s d ts r → Good s' d' ts' r
same s s' d d' ts ts' f (got m us) g = f us g
same s s' d d' ts ts' f stop g = tt

-- from a choice to the list that it stands in
in_list : (d : ℕ) (ts us : List Token) → Found Wanted (suc d) ts us → Found Opened d ts us
in_list d ts us w = let l = w.3 ts w.0 w.2 in (l.0, l.1, some-listed l.2, l.3)

here : (ts : List Token) → Goes 0 ts ts
here ts = λ ss a m. (a, ts, only m, refl)

end-good : (d : ℕ) (ts : List Token) → Good Ready d ts (end_at Ready d ts)
end-good zero ts = here ts
end-good (suc d) ts = tt

module _ (ts : List Token) (i : (s : State) (d : ℕ) → Good s d ts (scan s d ts)) where
  comma-good : (d : ℕ) → Good Ready d (comma ∷ ts) (scan Ready d (comma ∷ ts))
  comma-good zero = here (comma ∷ ts)
  comma-good (suc e) = lift Wanted Ready (suc e) (suc e) ts (comma ∷ ts)
      (λ us w ss a m. (a, comma ∷ ts, only m, λ ss' a' ch. let l = w.3 ts w.0 w.2 in (cat a' l.0, l.1, then ch l.2, l.3))) 1 (scan Wanted (suc e) ts) (i Wanted (suc e))

  closes-good : (d : ℕ) → Good Ready d (closes ∷ ts) (scan Ready d (closes ∷ ts))
  closes-good zero = here (closes ∷ ts)
  closes-good (suc e) = same Ready Ready e (suc e) ts (closes ∷ ts) (λ us r ss a m. (a, closes ∷ ts, only m, λ ss' a' ch. (a', ts, last ch, r))) (scan Ready e ts) (i Ready e)

  plus-good : (d : ℕ) → Good Ready d (plus ∷ ts) (scan Ready d (plus ∷ ts))
  plus-good d = lift Wanted Ready d d ts (plus ∷ ts) (λ us w ss a m. (alt a w.0, w.1, either m w.2, w.3)) 1 (scan Wanted d ts) (i Wanted d)

  times-good : (d : ℕ) → Good Ready d (times ∷ ts) (scan Ready d (times ∷ ts))
  times-good d = lift Ready Ready d d ts (times ∷ ts) (λ us r ss a m. r ss (star a) (again m)) 1 (scan Ready d ts) (i Ready d)

  functor-good : (g : Functor) (d : ℕ) → Good Wanted d (functor g ∷ ts) (scan Wanted d (functor g ∷ ts))
  functor-good (symbol f) d = lift Named Wanted d d ts (functor (symbol f) ∷ ts) (λ us k. k f) 1 (scan Named d ts) (i Named d)
  functor-good (fvar X) d = tt

  functor-opened : (g : Functor) (d : ℕ) → Good Opened d (functor g ∷ ts) (scan Opened d (functor g ∷ ts))
  functor-opened g d = same Wanted Opened (suc d) d (functor g ∷ ts) (functor g ∷ ts) (in_list d (functor g ∷ ts)) (scan Wanted (suc d) (functor g ∷ ts)) (functor-good g (suc d))

  opens-good : (d : ℕ) → Good Wanted d (opens ∷ ts) (scan Wanted d (opens ∷ ts))
  opens-good d = same Opened Wanted d d ts (opens ∷ ts) (λ us w. w.3 (opens ∷ ts) w.0 (once (group w.2))) (scan Opened d ts) (i Opened d)

-- a symbol by itself, where no bracket follows
named-good : (d : ℕ) (ts : List Token) → Calm ts → Good Ready d ts (scan Ready d ts) → Good Named d ts (scan Named d ts)
named-good d ts c g =
    subst (Good Named d ts) (sym (named-calm d ts c)) (lift Ready Named d d ts ts (λ us r f. r (functor (symbol f) ∷ ts) (over f eps) (once single)) 1 (scan Ready d ts) g)

flat_good : (ts : List Token) (s : State) (d : ℕ) → Good s d ts (scan s d ts)
flat_good [] Opened d = tt
flat_good [] Wanted d = tt
flat_good [] Named d = named-good d [] tt (end-good d [])
flat_good [] Ready d = end-good d []
flat_good (one x ∷ ts) Opened d = tt
flat_good (one x ∷ ts) Wanted d = tt
flat_good (one x ∷ ts) Named d = named-good d (one x ∷ ts) tt (end-good d (one x ∷ ts))
flat_good (one x ∷ ts) Ready d = end-good d (one x ∷ ts)
flat_good (run p ∷ ts) Opened d = tt
flat_good (run p ∷ ts) Wanted d = tt
flat_good (run p ∷ ts) Named d = named-good d (run p ∷ ts) tt (end-good d (run p ∷ ts))
flat_good (run p ∷ ts) Ready d = end-good d (run p ∷ ts)
flat_good (functor g ∷ ts) Opened d = functor-opened ts (flat_good ts) g d
flat_good (functor g ∷ ts) Wanted d = functor-good ts (flat_good ts) g d
flat_good (functor g ∷ ts) Named d = named-good d (functor g ∷ ts) tt (end-good d (functor g ∷ ts))
flat_good (functor g ∷ ts) Ready d = end-good d (functor g ∷ ts)
flat_good (equals ∷ ts) Opened d = tt
flat_good (equals ∷ ts) Wanted d = tt
flat_good (equals ∷ ts) Named d = named-good d (equals ∷ ts) tt (end-good d (equals ∷ ts))
flat_good (equals ∷ ts) Ready d = end-good d (equals ∷ ts)
flat_good (comma ∷ ts) Opened d = tt
flat_good (comma ∷ ts) Wanted d = tt
flat_good (comma ∷ ts) Named d = named-good d (comma ∷ ts) tt (comma-good ts (flat_good ts) d)
flat_good (comma ∷ ts) Ready d = comma-good ts (flat_good ts) d
flat_good (opens ∷ ts) Opened d = same Wanted Opened (suc d) d (opens ∷ ts) (opens ∷ ts) (in_list d (opens ∷ ts)) (scan Wanted (suc d) (opens ∷ ts)) (opens-good ts (flat_good ts) (suc d))
flat_good (opens ∷ ts) Wanted d = opens-good ts (flat_good ts) d
flat_good (opens ∷ ts) Named d = same Opened Named d d ts (opens ∷ ts) (λ us w f. w.3 (functor (symbol f) ∷ opens ∷ ts) (over f w.0) (once (under w.2))) (scan Opened d ts) (flat_good ts Opened d)
flat_good (opens ∷ ts) Ready d = end-good d (opens ∷ ts)
flat_good (closes ∷ ts) Opened d = lift Ready Opened d d ts (closes ∷ ts) (λ us r. (eps, ts, no-listed, r)) 1 (scan Ready d ts) (flat_good ts Ready d)
flat_good (closes ∷ ts) Wanted d = tt
flat_good (closes ∷ ts) Named d = named-good d (closes ∷ ts) tt (closes-good ts (flat_good ts) d)
flat_good (closes ∷ ts) Ready d = closes-good ts (flat_good ts) d
flat_good (plus ∷ ts) Opened d = tt
flat_good (plus ∷ ts) Wanted d = tt
flat_good (plus ∷ ts) Named d = named-good d (plus ∷ ts) tt (plus-good ts (flat_good ts) d)
flat_good (plus ∷ ts) Ready d = plus-good ts (flat_good ts) d
flat_good (times ∷ ts) Opened d = tt
flat_good (times ∷ ts) Wanted d = tt
flat_good (times ∷ ts) Named d = named-good d (times ∷ ts) tt (times-good ts (flat_good ts) d)
flat_good (times ∷ ts) Ready d = times-good ts (flat_good ts) d

abbrev GoodExpr : List Token → Res ℕ → Type 0
GoodExpr ts (got n us) = (R : Expr) × Means choice R ts us
GoodExpr ts stop = Unit {0}

top-good : (ts : List Token) (r : Res ℕ) → Good Wanted 0 ts r → GoodExpr ts r
top-good ts (got n us) w = (w.0, subst (Means choice w.0 ts) w.3 w.2)
top-good ts stop w = tt

-- The loop finds an expression exactly where the grammar spells one.
pub flat-expr-spelt : (ts us : List Token) (n : ℕ) → flat_expr ts ≡ got n us → (R : Expr) × Means choice R ts us
flat-expr-spelt ts us n e = subst (GoodExpr ts) e (top-good ts (scan Wanted 0 ts) (flat_good ts Wanted 0))

ready-ends : (us : List Token) → Ends us → scan Ready 0 us ≡ got 0 us
ready-ends [] c = refl
ready-ends (one x ∷ ts) c = absurd c
ready-ends (run p ∷ ts) c = absurd c
ready-ends (functor g ∷ ts) c = absurd c
ready-ends (equals ∷ ts) c = absurd c
ready-ends (comma ∷ ts) c = refl
ready-ends (opens ∷ ts) c = absurd c
ready-ends (closes ∷ ts) c = refl
ready-ends (plus ∷ ts) c = absurd c
ready-ends (times ∷ ts) c = absurd c

pub flat-expr-read : {R : Expr} {ts us : List Token} → Means choice R ts us → Ends us → flat_expr ts ≡ got (size R) us
flat-expr-read {R} {ts} {us} m c = (counts m (ends-calm us c) 0).0 ∙ ap (add (size R)) (ready-ends us c) ∙ ap (λ n. got n us) (let z : size R + 0 ≡ size R = omega arith in z)
