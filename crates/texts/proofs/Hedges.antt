-- Hedges: what the grammar spells is read, and what is read is spelt so.
use Prim.Native.Nat.{ℕ, zero, suc, ◌+◌, ◌*◌, ◌<◌, ◌≤◌}
use native.Mathlib.Omega.{arith}
use mathlib.Core.Path.{◌≡◌, refl, ap, ◌∙◌}
use mathlib.Core.Bool.{Bool, true, false}
use mathlib.Core.List.{List, [], ◌∷◌}
use lib.ListN.{length}
use Rattle.language.specs.Trees.{Functor, Hedge, ε, tvar, hvar, node}
use Rattle.grammar.specs.Tokens.{Token, one, run, functor, equals, comma, opens, closes, plus, times}
use Rattle.grammar.specs.Grammar.{Place, begins, follows, inside, Spells, empty, full, ends, more, alone, brackets, part, parts, leaf, tree}
use Rattle.texts.specs.Parsing.{Res, got, stop, mapped, bind, Hedges, functor_on, begins_on, follows_on, inside_on, hedge, side_of}

-- no bracket opens here
abbrev pub Calm : List Token → Type 0
Calm [] = Unit {0}
Calm (one x ∷ ts) = Unit {0}
Calm (run p ∷ ts) = Unit {0}
Calm (functor g ∷ ts) = Unit {0}
Calm (equals ∷ ts) = Unit {0}
Calm (comma ∷ ts) = Unit {0}
Calm (opens ∷ ts) = ⊥
Calm (closes ∷ ts) = Unit {0}
Calm (plus ∷ ts) = Unit {0}
Calm (times ∷ ts) = Unit {0}

-- what has to follow
abbrev pub Before : Place → List Token → Type 0
Before (begins b) us = elim b [ true ↦ Unit {0} | false ↦ Calm us ]
Before (follows b) us = elim b [ true ↦ Unit {0} | false ↦ Calm us ]
Before inside us = Unit {0}

abbrev weight : Place → ℕ
weight (begins b) = 0
weight (follows b) = 0
weight inside = 1

pub shorter : {p : Place} {h : Hedge} {ts us : List Token} → Spells p h ts us → length us ≤ length ts
shorter empty = omega arith
shorter (full d) = shorter d
shorter ends = omega arith
shorter (more d) = let l = shorter d in omega arith
shorter alone = omega arith
shorter (brackets d) = let l = shorter d in omega arith
shorter (part d) = let l = shorter d in omega arith
shorter (parts d) = let l = shorter d in omega arith
shorter (leaf d) = let l = shorter d in omega arith
shorter (tree d e) = let l = shorter d in let m = shorter e in omega arith

calm-follows : {b : Bool} {h : Hedge} {ts us : List Token} → Spells (follows b) h ts us → Before (follows b) us → Calm ts
calm-follows ends c = tt
calm-follows (more d) c = tt
calm-follows alone c = c

on-leaf : (rec : Hedges) (b : Bool) (f : Functor) (ts : List Token) → Calm ts → functor_on rec b f ts ≡ mapped (node f ε) (rec (follows b) ts)
on-leaf rec b f [] c = refl
on-leaf rec b f (one x ∷ ts) c = refl
on-leaf rec b f (run p ∷ ts) c = refl
on-leaf rec b f (functor g ∷ ts) c = refl
on-leaf rec b f (equals ∷ ts) c = refl
on-leaf rec b f (comma ∷ ts) c = refl
on-leaf rec b f (opens ∷ ts) c = absurd c
on-leaf rec b f (closes ∷ ts) c = refl
on-leaf rec b f (plus ∷ ts) c = refl
on-leaf rec b f (times ∷ ts) c = refl

inside_of : {h : Hedge} {ts us : List Token} (rec : Hedges) → Spells (begins true) h ts us → inside_on rec ts ≡ rec (begins true) ts
inside_of rec (part d) = refl
inside_of rec (parts d) = refl
inside_of rec (leaf d) = refl
inside_of rec (tree d e) = refl

pub complete : {p : Place} {h : Hedge} {ts us : List Token} → Spells p h ts us → Before p us → (n : ℕ) → 2 * length ts + weight p < n → hedge n p ts ≡ got h us
unfolding hedge
complete empty c zero l = absurd (omega arith)
complete empty c (suc n) l = refl
complete (full d) c zero l = absurd (omega arith)
complete (full d) c (suc n) l = inside_of (hedge n) d ∙ complete d tt n (omega arith)
complete ends c zero l = absurd (omega arith)
complete ends c (suc n) l = refl
complete (more d) c zero l = absurd (omega arith)
complete (more d) c (suc n) l = complete d tt n (omega arith)
complete alone c zero l = absurd (omega arith)
complete alone c (suc n) l = refl
complete (brackets d) c zero l = absurd (omega arith)
complete (brackets d) c (suc n) l = complete d tt n (omega arith)
complete (part {b = b} {x = x} d) c zero l = absurd (omega arith)
complete (part {b = b} {x = x} d) c (suc n) l = ap (mapped (tvar x)) (complete d c n (omega arith))
complete (parts {b = b} {p = p} d) c zero l = absurd (omega arith)
complete (parts {b = b} {p = p} d) c (suc n) l = ap (mapped (hvar p)) (complete d c n (omega arith))
complete (leaf {b = b} {f = f} {ts = ts} d) c zero l = absurd (omega arith)
complete (leaf {b = b} {f = f} {ts = ts} d) c (suc n) l = on-leaf (hedge n) b f ts (calm-follows d c) ∙ ap (mapped (node f ε)) (complete d c n (omega arith))
complete (tree {b = b} {f = f} {c = k} d e) c zero l = absurd (omega arith)
complete (tree {b = b} {f = f} {c = k} d e) c (suc n) l =
    let m = shorter d in
    ap (λ z. bind z (λ c us. mapped (node f c) (hedge n (follows b) us))) (complete d tt n (omega arith))
    ∙ ap (mapped (node f k)) (complete e c n (omega arith))

-- ---- what is read is spelt so

abbrev pub Good : Place → List Token → Res Hedge → Type 0
Good p ts (got h us) = Spells p h ts us
Good p ts stop = Unit {0}

part-good : (b : Bool) (x : _) (ts : List Token) (r : Res Hedge) → Good (follows b) ts r → Good (begins b) (one x ∷ ts) (mapped (tvar x) r)
part-good b x ts (got h us) d = part d
part-good b x ts stop d = tt

parts-good : (b : Bool) (x : _) (ts : List Token) (r : Res Hedge) → Good (follows b) ts r → Good (begins b) (run x ∷ ts) (mapped (hvar x) r)
parts-good b x ts (got h us) d = parts d
parts-good b x ts stop d = tt

leaf-good : (b : Bool) (f : Functor) (ts : List Token) (r : Res Hedge) → Good (follows b) ts r → Good (begins b) (functor f ∷ ts) (mapped (node f ε) r)
leaf-good b f ts (got h us) d = leaf d
leaf-good b f ts stop d = tt

tree-good : (b : Bool) (f : Functor) (c : Hedge) (ts us : List Token) → Spells inside c ts us → (r : Res Hedge) → Good (follows b) us r → Good (begins b) (functor f ∷ opens ∷ ts) (mapped (node f c) r)
tree-good b f c ts us d (got h vs) e = tree d e
tree-good b f c ts us d stop e = tt

brackets-good : (b : Bool) (ts : List Token) (r : Res Hedge) → Good inside ts r → Good (begins b) (opens ∷ ts) (elim b [ true ↦ stop | false ↦ r ])
brackets-good true ts r d = tt
brackets-good false ts (got h us) d = brackets d
brackets-good false ts stop d = tt

more-good : (ts : List Token) (r : Res Hedge) → Good (begins true) ts r → Good (follows true) (comma ∷ ts) r
more-good ts (got h us) d = more d
more-good ts stop d = tt

full-good : (ts : List Token) (r : Res Hedge) → Good (begins true) ts r → Good inside ts r
full-good ts (got h us) d = full d
full-good ts stop d = tt

module _ (rec : Hedges) (good : (p : Place) (ts : List Token) → Good p ts (rec p ts)) where
  inside-then : (b : Bool) (f : Functor) (ts : List Token) (r : Res Hedge) → Good inside ts r → Good (begins b) (functor f ∷ opens ∷ ts) (bind r (λ c us. mapped (node f c) (rec (follows b) us)))
  inside-then b f ts (got c us) d = tree-good b f c ts us d (rec (follows b) us) (good (follows b) us)
  inside-then b f ts stop d = tt

  functor-good : (b : Bool) (f : Functor) (ts : List Token) → Good (begins b) (functor f ∷ ts) (functor_on rec b f ts)
  functor-good b f [] = leaf-good b f [] (rec (follows b) []) (good (follows b) [])
  functor-good b f (one x ∷ ts) = leaf-good b f (one x ∷ ts) (rec (follows b) (one x ∷ ts)) (good (follows b) (one x ∷ ts))
  functor-good b f (run p ∷ ts) = leaf-good b f (run p ∷ ts) (rec (follows b) (run p ∷ ts)) (good (follows b) (run p ∷ ts))
  functor-good b f (functor g ∷ ts) = leaf-good b f (functor g ∷ ts) (rec (follows b) (functor g ∷ ts)) (good (follows b) (functor g ∷ ts))
  functor-good b f (equals ∷ ts) = leaf-good b f (equals ∷ ts) (rec (follows b) (equals ∷ ts)) (good (follows b) (equals ∷ ts))
  functor-good b f (comma ∷ ts) = leaf-good b f (comma ∷ ts) (rec (follows b) (comma ∷ ts)) (good (follows b) (comma ∷ ts))
  functor-good b f (opens ∷ ts) = inside-then b f ts (rec inside ts) (good inside ts)
  functor-good b f (closes ∷ ts) = leaf-good b f (closes ∷ ts) (rec (follows b) (closes ∷ ts)) (good (follows b) (closes ∷ ts))
  functor-good b f (plus ∷ ts) = leaf-good b f (plus ∷ ts) (rec (follows b) (plus ∷ ts)) (good (follows b) (plus ∷ ts))
  functor-good b f (times ∷ ts) = leaf-good b f (times ∷ ts) (rec (follows b) (times ∷ ts)) (good (follows b) (times ∷ ts))

  begins-good : (b : Bool) (ts : List Token) → Good (begins b) ts (begins_on rec b ts)
  begins-good b [] = tt
  begins-good b (one x ∷ ts) = part-good b x ts (rec (follows b) ts) (good (follows b) ts)
  begins-good b (run p ∷ ts) = parts-good b p ts (rec (follows b) ts) (good (follows b) ts)
  begins-good b (functor g ∷ ts) = functor-good b g ts
  begins-good b (equals ∷ ts) = tt
  begins-good b (comma ∷ ts) = tt
  begins-good b (opens ∷ ts) = brackets-good b ts (rec inside ts) (good inside ts)
  begins-good b (closes ∷ ts) = tt
  begins-good b (plus ∷ ts) = tt
  begins-good b (times ∷ ts) = tt

  follows-good : (ts : List Token) → Good (follows true) ts (follows_on rec ts)
  follows-good [] = tt
  follows-good (one x ∷ ts) = tt
  follows-good (run p ∷ ts) = tt
  follows-good (functor g ∷ ts) = tt
  follows-good (equals ∷ ts) = tt
  follows-good (comma ∷ ts) = more-good ts (rec (begins true) ts) (good (begins true) ts)
  follows-good (opens ∷ ts) = tt
  follows-good (closes ∷ ts) = ends
  follows-good (plus ∷ ts) = tt
  follows-good (times ∷ ts) = tt

  inside-good : (ts : List Token) → Good inside ts (inside_on rec ts)
  inside-good [] = tt
  inside-good (one x ∷ ts) = full-good (one x ∷ ts) (rec (begins true) (one x ∷ ts)) (good (begins true) (one x ∷ ts))
  inside-good (run p ∷ ts) = full-good (run p ∷ ts) (rec (begins true) (run p ∷ ts)) (good (begins true) (run p ∷ ts))
  inside-good (functor g ∷ ts) = full-good (functor g ∷ ts) (rec (begins true) (functor g ∷ ts)) (good (begins true) (functor g ∷ ts))
  inside-good (equals ∷ ts) = full-good (equals ∷ ts) (rec (begins true) (equals ∷ ts)) (good (begins true) (equals ∷ ts))
  inside-good (comma ∷ ts) = full-good (comma ∷ ts) (rec (begins true) (comma ∷ ts)) (good (begins true) (comma ∷ ts))
  inside-good (opens ∷ ts) = full-good (opens ∷ ts) (rec (begins true) (opens ∷ ts)) (good (begins true) (opens ∷ ts))
  inside-good (closes ∷ ts) = empty
  inside-good (plus ∷ ts) = full-good (plus ∷ ts) (rec (begins true) (plus ∷ ts)) (good (begins true) (plus ∷ ts))
  inside-good (times ∷ ts) = full-good (times ∷ ts) (rec (begins true) (times ∷ ts)) (good (begins true) (times ∷ ts))

after-good : (rec : Hedges) → ((p : Place) (ts : List Token) → Good p ts (rec p ts)) → (b : Bool) (ts : List Token) → Good (follows b) ts (elim b [ true ↦ follows_on rec ts | false ↦ got ε ts ])
after-good rec good true ts = follows-good rec good ts
after-good rec good false ts = alone

pub sound : (n : ℕ) (p : Place) (ts : List Token) → Good p ts (hedge n p ts)
unfolding hedge
sound zero p ts = tt
sound (suc n) (begins b) ts = begins-good (hedge n) (sound n) b ts
sound (suc n) (follows b) ts = after-good (hedge n) (sound n) b ts
sound (suc n) inside ts = inside-good (hedge n) (sound n) ts

-- ---- a side

pub side-read : {h : Hedge} {ts us : List Token} → Spells (begins false) h ts us → Calm us → side_of ts ≡ got h us
unfolding side_of
side-read {ts = ts} d c = complete d c (suc (2 * length ts)) (omega arith)

pub side-spelt : (ts : List Token) → Good (begins false) ts (side_of ts)
unfolding side_of
side-spelt ts = sound (suc (2 * length ts)) (begins false) ts
