-- Read backwards, the tokens of an expression give its words.
use Prim.Native.Nat.{ℕ, zero, suc, ◌+◌, ◌-◌, ◌<◌}
use native.Mathlib.Omega.{arith}
use mathlib.Core.Path.{◌≡◌, refl, sym, ap, ap₂, ◌∙◌, subst}
use mathlib.Core.Bool.{Bool, true, false}
use mathlib.Core.List.{List, [], ◌∷◌, ◌++◌, append_assoc}
use borrow.Author.Tests.{eq-eqb, ne_eqb}
use Rattle.language.specs.Kinds.{pick}
use Rattle.language.specs.declared.Sym.{Sym}
use Rattle.language.specs.Trees.{symbol, Expr, eps, cat, alt, star, over}
use Rattle.language.specs.Writing.{expr_words}
use Rattle.grammar.specs.Tokens.{Token, functor, comma, opens, closes, plus, times}
use Rattle.grammar.specs.Grammar.{Level, atom, starred, choice, listed, within, Means, single, under, group, once, again, only, either, last, then, no-listed, some-listed}
use Rattle.texts.specs.Numbering.{symbols, Naming, name_expr}
use Rattle.flat.specs.Filling.{Frame, Filled, stars_on, operand_on, item_on, owes, enclosed, released, turn, turns, nothing}

module _ (ρ : Naming) where
  abbrev words : Expr → List ℕ
  words R = expr_words (name_expr ρ R)

  turns-++ : (ps qs : List Token) (f : Filled) → turns ρ (ps ++ qs) f ≡ turns ρ ps (turns ρ qs f)
  turns-++ [] qs f = refl
  turns-++ (p ∷ ps) qs f = ap (turn ρ p) (turns-++ ps qs f)

  -- what is owed stands at less depth
  abbrev Below : List Frame → ℕ → Type 0
  Below [] d = Unit {0}
  Below (g ∷ gs) d = g.depth < d

  below_suc : (gs : List Frame) (d : ℕ) → Below gs d → Below gs (suc d)
  below_suc [] d b = tt
  below_suc (g ∷ gs) d b = omega arith

  -- ---- into brackets and out of them again, all that was owed is owed

  abbrev kept : List ℕ → Filled → Filled
  kept ws f = record { words = ws; stars = f.stars; operand = f.operand; item = f.item; functor = true; bare = false; depth = f.depth; owed = f.owed }

  not-owed : (ws : List ℕ) (gs : List Frame) (d : ℕ) → Below gs d → released ws d gs ≡ record { words = ws; stars = 0; operand = false; item = false; functor = true; bare = false; depth = d; owed = gs }
  not-owed ws [] d b = refl
  not-owed ws (g ∷ gs) d b = rw (ne_eqb g.depth d (λ e. omega arith))

  out-again : (ws : List ℕ) (s : ℕ) (o i : Bool) (d : ℕ) (gs : List Frame) (b₁ b₂ : Bool) (vs : List ℕ) → Below gs d
      → released ws d (pick (owes s o i) (record { depth = d; stars = s; operand = o; item = i } ∷ gs) gs) ≡ record { words = ws; stars = s; operand = o; item = i; functor = true; bare = false; depth = d; owed = gs }
  out-again ws (suc s) o i d gs b₁ b₂ vs b = rw (eq-eqb d d refl)
  out-again ws zero true i d gs b₁ b₂ vs b = rw (eq-eqb d d refl)
  out-again ws zero false true d gs b₁ b₂ vs b = rw (eq-eqb d d refl)
  out-again ws zero false false d gs b₁ b₂ vs b = not-owed ws gs d b

  below-inner : (s : ℕ) (o i : Bool) (d : ℕ) (gs : List Frame) → Below gs d → Below (pick (owes s o i) (record { depth = d; stars = s; operand = o; item = i } ∷ gs) gs) (suc d)
  below-inner (suc s) o i d gs b = omega arith
  below-inner zero true i d gs b = omega arith
  below-inner zero false true d gs b = omega arith
  below-inner zero false false d gs b = below_suc gs d b

  inner_below : (f : Filled) → Below f.owed f.depth → Below (enclosed f).owed (suc f.depth)
  unfolding enclosed
  inner_below f b = below-inner f.stars f.operand f.item f.depth f.owed b

  -- ---- what the tokens of each level make of what is there

  abbrev Kept : Filled → Filled → Type 0
  Kept f g = (g.item ≡ f.item) × (g.depth ≡ f.depth) × (g.owed ≡ f.owed) × (g.bare ≡ false)

  abbrev Atom : Expr → List Token → Type 0
  Atom R ps = (f : Filled) → f.functor ≡ false → Below f.owed f.depth
      → ((turns ρ ps f).words ≡ words R ++ f.words) × ((turns ρ ps f).stars ≡ f.stars) × ((turns ρ ps f).operand ≡ f.operand) × Kept f (turns ρ ps f)

  abbrev Starred : Expr → List Token → Type 0
  Starred R ps = (f : Filled) → f.functor ≡ false → Below f.owed f.depth
      → (stars_on (turns ρ ps f).stars (turns ρ ps f).words ≡ stars_on f.stars (words R ++ f.words)) × ((turns ρ ps f).operand ≡ f.operand) × Kept f (turns ρ ps f)

  abbrev Choice : Expr → List Token → Type 0
  Choice R ps = (f : Filled) → f.functor ≡ false → f.stars ≡ 0 → f.operand ≡ false → Below f.owed f.depth
      → (operand_on (turns ρ ps f) ≡ words R ++ f.words) × Kept f (turns ρ ps f)

  -- the bracket that closes is the last of these
  abbrev Listed : Expr → List Token → Type 0
  Listed R ps = (f : Filled) → Below f.owed f.depth
      → (item_on (turns ρ ps f) ≡ words R ++ f.words) × ((turns ρ ps f).depth ≡ suc f.depth) × ((turns ρ ps f).owed ≡ (enclosed f).owed) × ((turns ρ ps f).bare ≡ false)

  -- and the bracket that opens comes before them
  abbrev Within : Expr → List Token → Type 0
  Within R ps = (f : Filled) → Below f.owed f.depth → turn ρ opens (turns ρ ps f) ≡ kept (words R ++ f.words) f

  abbrev Makes : Level → Expr → List Token → Type 0
  Makes atom R ps = Atom R ps
  Makes starred R ps = Starred R ps
  Makes choice R ps = Choice R ps
  Makes listed R ps = Listed R ps
  Makes within R ps = Within R ps

  abbrev Part : Level → Expr → List Token → List Token → Type 0
  Part l R ts us = (ps : List Token) × (ts ≡ ps ++ us) × Makes l R ps

  -- ---- one lemma for each production

  by-single : (s : Sym) → Atom (over s eps) (functor (symbol s) ∷ [])
  by-single s f e b = (ap (λ t. (3000 + ρ symbols s.0) ∷ pick t f.words (7000 ∷ f.words)) e, refl, refl, (refl, refl, refl, refl))

  by-group : (R : Expr) (ps : List Token) → Within R ps → Atom R (opens ∷ ps)
  by-group R ps w f e b = let z = w f b in (ap (λ g. g.words) z, ap (λ g. g.stars) z, ap (λ g. g.operand) z, (ap (λ g. g.item) z, ap (λ g. g.depth) z, ap (λ g. g.owed) z, ap (λ g. g.bare) z))

  by-under : (s : Sym) (R : Expr) (ps : List Token) → Within R ps → Atom (over s R) (functor (symbol s) ∷ opens ∷ ps)
  by-under s R ps w f e b =
      let z = ap (turn ρ (functor (symbol s))) (w f b) in
      (ap (λ g. g.words) z, ap (λ g. g.stars) z, ap (λ g. g.operand) z, (ap (λ g. g.item) z, ap (λ g. g.depth) z, ap (λ g. g.owed) z, ap (λ g. g.bare) z))

  by-once : (R : Expr) (ps : List Token) → Atom R ps → Starred R ps
  by-once R ps w f e b = let z = w f e b in (ap₂ stars_on z.1 z.0, z.2, z.3)

  by-again : (R : Expr) (ps : List Token) → Starred R ps → Starred (star R) (ps ++ (times ∷ []))
  by-again R ps w f e b =
      let q = turns-++ ps (times ∷ []) f in
      let z = w (turn ρ times f) refl b in
      let k = z.2 in
      (ap (λ g. stars_on g.stars g.words) q ∙ z.0, ap (λ g. g.operand) q ∙ z.1, (ap (λ g. g.item) q ∙ k.0, ap (λ g. g.depth) q ∙ k.1, ap (λ g. g.owed) q ∙ k.2, ap (λ g. g.bare) q ∙ k.3))

  by_only : (R : Expr) (ps : List Token) → Starred R ps → Choice R ps
  by_only R ps w f e n o b =
      let z = w f e b in
      let s = z.0 ∙ ap (λ n. stars_on n (words R ++ f.words)) n in
      (ap (λ t. pick t (7002 ∷ stars_on (turns ρ ps f).stars (turns ρ ps f).words) (stars_on (turns ρ ps f).stars (turns ρ ps f).words)) (z.1 ∙ o) ∙ s, z.2)

  by-either : (a c : Expr) (ps qs : List Token) → Starred a ps → Choice c qs → Choice (alt a c) (ps ++ (plus ∷ qs))
  by-either a c ps qs v w f e n o b =
      let q = turns-++ ps (plus ∷ qs) f in
      let y = w f e n o b in
      let h = turns ρ qs f in
      let k = y.1 in
      let g = turn ρ plus h in
      let z = v g refl (subst (λ l. Below l h.depth) (sym k.2) (subst (Below f.owed) (sym k.1) b)) in
      let m = z.2 in
      let s : stars_on (turns ρ ps g).stars (turns ρ ps g).words ≡ words a ++ (words c ++ f.words) = z.0 ∙ ap (λ l. words a ++ l) y.0 in (
        ap operand_on q ∙ ap (λ t. pick t (7002 ∷ stars_on (turns ρ ps g).stars (turns ρ ps g).words) (stars_on (turns ρ ps g).stars (turns ρ ps g).words)) z.1 ∙ ap (λ l. 7002 ∷ l) (s ∙ sym (append_assoc (words a) (words c) f.words)),
        (ap (λ u. u.item) q ∙ m.0 ∙ k.0, ap (λ u. u.depth) q ∙ m.1 ∙ k.1, ap (λ u. u.owed) q ∙ m.2 ∙ k.2, ap (λ u. u.bare) q ∙ m.3),
      )

  by_last : (R : Expr) (ps : List Token) → Choice R ps → Listed R (ps ++ (closes ∷ []))
  unfolding enclosed
  by_last R ps w f b =
      let q = turns-++ ps (closes ∷ []) f in
      let g = turn ρ closes f in
      let z = w g refl refl refl (below-inner f.stars f.operand f.item f.depth f.owed b) in
      let k = z.1 in
      (ap item_on q ∙ ap (λ t. pick t (7001 ∷ operand_on (turns ρ ps g)) (operand_on (turns ρ ps g))) k.0 ∙ z.0, ap (λ u. u.depth) q ∙ k.1, ap (λ u. u.owed) q ∙ k.2, ap (λ u. u.bare) q ∙ k.3)

  by-then : (a c : Expr) (ps qs : List Token) → Choice a ps → Listed c qs → Listed (cat a c) (ps ++ (comma ∷ qs))
  by-then a c ps qs v w f b =
      let q = turns-++ ps (comma ∷ qs) f in
      let y = w f b in
      let h = turns ρ qs f in
      let g = turn ρ comma h in
      let z = v g refl refl refl (subst (λ l. Below l h.depth) (sym y.2) (subst (Below (enclosed f).owed) (sym y.1) (inner_below f b))) in
      let k = z.1 in
      let s : operand_on (turns ρ ps g) ≡ words a ++ (words c ++ f.words) = z.0 ∙ ap (λ l. words a ++ l) y.0 in (
        ap item_on q ∙ ap (λ t. pick t (7001 ∷ operand_on (turns ρ ps g)) (operand_on (turns ρ ps g))) k.0 ∙ ap (λ l. 7001 ∷ l) (s ∙ sym (append_assoc (words a) (words c) f.words)),
        ap (λ u. u.depth) q ∙ k.1 ∙ y.1,
        ap (λ u. u.owed) q ∙ k.2 ∙ y.2,
        ap (λ u. u.bare) q ∙ k.3,
      )

  released-as : (f g : Filled) (ws : List ℕ) → Below f.owed f.depth → g.depth ≡ suc f.depth → g.owed ≡ (enclosed f).owed → released ws (g.depth - 1) g.owed ≡ kept ws f
  unfolding enclosed
  released-as f g ws b d o =
      ap₂ (λ n l. released ws n l) (ap (λ n. n - 1) d ∙ (let z : suc f.depth - 1 ≡ f.depth = omega arith in z)) o ∙ out-again ws f.stars f.operand f.item f.depth f.owed false false [] b

  by-empty : Within eps (closes ∷ [])
  unfolding enclosed
  by-empty f b = released-as f (turn ρ closes f) (7000 ∷ f.words) b refl refl

  by-some : (R : Expr) (ps : List Token) → Listed R ps → Within R ps
  by-some R ps w f b =
      let z = w f b in
      let g = turns ρ ps f in
      ap (λ t. released (pick t (7000 ∷ g.words) (item_on g)) (g.depth - 1) g.owed) z.3
      ∙ ap (λ l. released l (g.depth - 1) g.owed) z.0
      ∙ released-as f g (words R ++ f.words) b z.1 z.2

  -- ---- all of them

  split : (ps us vs ts : List Token) → ts ≡ ps ++ us → (qs : List Token) → us ≡ qs ++ vs → ts ≡ (ps ++ qs) ++ vs
  split ps us vs ts e qs d = e ∙ ap (λ l. ps ++ l) d ∙ sym (append_assoc ps qs vs)

  pub part : {l : Level} {R : Expr} {ts us : List Token} → Means l R ts us → Part l R ts us
  part (single {f} {ts}) = (functor (symbol f) ∷ [], refl, by-single f)
  part (under {f} {R} m) = let w = part m in (functor (symbol f) ∷ opens ∷ w.0, ap (λ l. functor (symbol f) ∷ opens ∷ l) w.1, by-under f R w.0 w.2)
  part (group {R} m) = let w = part m in (opens ∷ w.0, ap (λ l. opens ∷ l) w.1, by-group R w.0 w.2)
  part (once {R} m) = let w = part m in (w.0, w.1, by-once R w.0 w.2)
  part (again {R} {ts} {us} m) = let w = part m in (w.0 ++ (times ∷ []), split w.0 (times ∷ us) us ts w.1 (times ∷ []) refl, by-again R w.0 w.2)
  part (only {R} m) = let w = part m in (w.0, w.1, by_only R w.0 w.2)
  part (either {a} {b} {ts} {us} {vs} m n) = let w = part m in let v = part n in (w.0 ++ (plus ∷ v.0), split w.0 (plus ∷ us) vs ts w.1 (plus ∷ v.0) (ap (λ l. plus ∷ l) v.1), by-either a b w.0 v.0 w.2 v.2)
  part (last {R} {ts} {us} m) = let w = part m in (w.0 ++ (closes ∷ []), split w.0 (closes ∷ us) us ts w.1 (closes ∷ []) refl, by_last R w.0 w.2)
  part (then {a} {b} {ts} {us} {vs} m n) = let w = part m in let v = part n in (w.0 ++ (comma ∷ v.0), split w.0 (comma ∷ us) vs ts w.1 (comma ∷ v.0) (ap (λ l. comma ∷ l) v.1), by-then a b w.0 v.0 w.2 v.2)
  part no-listed = (closes ∷ [], refl, by-empty)
  part (some-listed {R} m) = let w = part m in (w.0, w.1, by-some R w.0 w.2)

  -- The tokens of an expression, read backwards from nothing, leave its words.
  pub filled : {R : Expr} {ts us : List Token} → Means choice R ts us → (ps : List Token) × (ts ≡ ps ++ us) × (operand_on (turns ρ ps nothing) ≡ expr_words (name_expr ρ R))
  filled {R} m =
      let w = part m in
      (w.0, w.1, (w.2 nothing refl refl refl tt).0 ∙ nothing-behind (words R))
    where
      nothing-behind : (l : List ℕ) → l ++ [] ≡ l
      nothing-behind [] = refl
      nothing-behind (n ∷ l) = ap (λ z. n ∷ z) (nothing-behind l)
