-- The loop over a side does what the grammar says: it ends where the side ends, and gives its words.
use Prim.Native.Nat.{ℕ, zero, suc, ◌+◌}
use mathlib.Core.Path.{◌≡◌, refl, sym, ap, ap₂, ◌∙◌, subst}
use mathlib.Core.Bool.{Bool, true, false}
use mathlib.Core.List.{List, [], ◌∷◌, ◌++◌, append_assoc}
use Rattle.language.specs.Trees.{Functor, Hedge, ε, tvar, hvar, node}
use Rattle.language.specs.Writing.{functor_word, hedge_words}
use Rattle.grammar.specs.Tokens.{Token, one, run, functor, equals, comma, opens, closes, plus, times}
use Rattle.grammar.specs.Grammar.{Place, begins, follows, inside, Spells, empty, full, ends, more, alone, brackets, part, parts, leaf, tree}
use Rattle.texts.specs.Parsing.{Res, got, stop}
use Rattle.texts.specs.Numbering.{terms, hedges, Naming, name_f, name_hedge}
use Rattle.texts.proofs.Hedges.{Calm}
use Rattle.flat.specs.declared.State.{State}
use Rattle.flat.specs.declared.State.TheVariants.{Opened, Wanted, Named, Ready}
use Rattle.flat.specs.Flat.{lay, shut, in_brackets, closed, flat_functor, flat_side}

lay-lay : (us vs : List ℕ) (r : Res (List ℕ)) → lay us (lay vs r) ≡ lay (us ++ vs) r
lay-lay us vs (got ws ts) = ap (λ l. got l ts) (sym (append_assoc us vs ws))
lay-lay us vs stop = refl

nothing-behind : (l : List ℕ) → l ++ [] ≡ l
nothing-behind [] = refl
nothing-behind (n ∷ l) = ap (λ z. n ∷ z) (nothing-behind l)

module _ (ρ : Naming) where
  abbrev words : Hedge → List ℕ
  words h = hedge_words (name_hedge ρ h)

  -- what is read behind the bracket that closes
  abbrev Behind : ℕ → List Token → Res (List ℕ)
  Behind zero us = got [] us
  Behind (suc d) us = in_brackets ρ Ready d us

  behind : (d : ℕ) (us : List Token) → shut (λ e. in_brackets ρ Ready e us) d us ≡ Behind d us
  behind zero us = refl
  behind (suc d) us = refl

  -- ---- what the grammar spells is read

  abbrev Writes : Place → Hedge → List Token → List Token → Type 0
  Writes (begins b) h ts us = elim b [
    | true ↦ (d : ℕ) → (in_brackets ρ Wanted d ts ≡ lay (words h) (Behind d us)) × (in_brackets ρ Opened d ts ≡ lay (words h) (Behind d us))
    | false ↦ Calm us → flat_side ρ ts ≡ got (words h) us
  ]
  Writes (follows b) h ts us = elim b [
    | true ↦ (d : ℕ) → (in_brackets ρ Ready d ts ≡ lay (words h) (Behind d us)) × (in_brackets ρ Named d ts ≡ lay (0 ∷ words h) (Behind d us))
    | false ↦ (ts ≡ us) × (words h ≡ 0 ∷ [])
  ]
  Writes inside h ts us = (d : ℕ) → in_brackets ρ Opened d ts ≡ lay (words h) (Behind d us)

  flat-leaf : (f : Functor) (ts : List Token) → Calm ts → flat_functor ρ f ts ≡ got (functor_word (name_f ρ f) ∷ 0 ∷ 0 ∷ []) ts
  flat-leaf f [] c = refl
  flat-leaf f (one x ∷ ts) c = refl
  flat-leaf f (run p ∷ ts) c = refl
  flat-leaf f (functor g ∷ ts) c = refl
  flat-leaf f (equals ∷ ts) c = refl
  flat-leaf f (comma ∷ ts) c = refl
  flat-leaf f (opens ∷ ts) c = absurd c
  flat-leaf f (closes ∷ ts) c = refl
  flat-leaf f (plus ∷ ts) c = refl
  flat-leaf f (times ∷ ts) c = refl

  element : (b : Bool) (w : ℕ) (h r : Hedge) (t : Token) (ts us : List Token) → words h ≡ w ∷ words r
      → ((d : ℕ) → in_brackets ρ Wanted d (t ∷ ts) ≡ lay (w ∷ []) (in_brackets ρ Ready d ts)) → ((d : ℕ) → in_brackets ρ Opened d (t ∷ ts) ≡ lay (w ∷ []) (in_brackets ρ Ready d ts)) → flat_side ρ (t ∷ ts) ≡ got (w ∷ 0 ∷ []) ts
      → Writes (follows b) r ts us → Writes (begins b) h (t ∷ ts) us
  element true w h r t ts us e x o s i = λ d.
      let a : lay (w ∷ []) (in_brackets ρ Ready d ts) ≡ lay (words h) (Behind d us) = ap (lay (w ∷ [])) (i d).0 ∙ lay-lay (w ∷ []) (words r) (Behind d us) ∙ ap (λ l. lay l (Behind d us)) (sym e) in
      (x d ∙ a, o d ∙ a)
  element false w h r t ts us e x o s i = λ c. s ∙ ap₂ (λ l u. got (w ∷ l) u) (sym i.1) i.0 ∙ ap (λ l. got l us) (sym e)

  leaf-writes : (b : Bool) (f : Functor) (r : Hedge) (ts us : List Token) → Writes (follows b) r ts us → Writes (begins b) (node f ε r) (functor f ∷ ts) us
  leaf-writes true f r ts us i = λ d.
      let a : lay (functor_word (name_f ρ f) ∷ []) (in_brackets ρ Named d ts) ≡ lay (words (node f ε r)) (Behind d us) = ap (lay (functor_word (name_f ρ f) ∷ [])) (i d).1 ∙ lay-lay (functor_word (name_f ρ f) ∷ []) (0 ∷ words r) (Behind d us) in
      (a, a)
  leaf-writes false f r ts us i = λ c. flat-leaf f ts (subst Calm (sym i.0) c) ∙ ap₂ (λ l u. got (functor_word (name_f ρ f) ∷ 0 ∷ l) u) (sym i.1) i.0

  tree-writes : (b : Bool) (f : Functor) (c r : Hedge) (ts us vs : List Token) → Writes inside c ts us → Writes (follows b) r us vs → Writes (begins b) (node f c r) (functor f ∷ opens ∷ ts) vs
  tree-writes true f c r ts us vs i j = λ d.
      let a : lay (functor_word (name_f ρ f) ∷ []) (in_brackets ρ Opened (suc d) ts) ≡ lay (words (node f c r)) (Behind d vs) =
      ap (lay (functor_word (name_f ρ f) ∷ [])) (i (suc d) ∙ ap (lay (words c)) (j d).0 ∙ lay-lay (words c) (words r) (Behind d vs)) ∙ lay-lay (functor_word (name_f ρ f) ∷ []) (words c ++ words r) (Behind d vs) in
      (a, a)
  tree-writes false f c r ts us vs i j = λ g.
      ap (λ z. lay (functor_word (name_f ρ f) ∷ []) (closed z)) (i 0)
      ∙ ap₂ (λ l u. got (functor_word (name_f ρ f) ∷ l) u) (ap (λ l. l ++ (0 ∷ [])) (nothing-behind (words c)) ∙ ap (λ l. words c ++ l) (sym j.1)) j.0

  writes : {p : Place} {h : Hedge} {ts us : List Token} → Spells p h ts us → Writes p h ts us
  writes (empty {ts}) = λ d. ap (lay (0 ∷ [])) (behind d ts)
  writes (full s) = λ d. (writes s d).1
  writes (ends {ts}) = λ d. (ap (lay (0 ∷ [])) (behind d ts), ap (lay (0 ∷ 0 ∷ [])) (behind d ts))
  writes (more {r} {ts} {us} s) = λ d. let i = (writes s d).0 in (i, ap (lay (0 ∷ [])) i ∙ lay-lay (0 ∷ []) (hedge_words (name_hedge ρ r)) (Behind d us))
  writes alone = (refl, refl)
  writes (brackets {h} {ts} {us} s) = λ c. writes s 0 ∙ ap (λ l. got l us) (nothing-behind (hedge_words (name_hedge ρ h)))
  writes (part {b} {x} {r} {ts} {us} s) = element b (1000 + ρ terms x.0) (tvar x r) r (one x) ts us refl (λ d. refl) (λ d. refl) refl (writes s)
  writes (parts {b} {p} {r} {ts} {us} s) = element b (2000 + ρ hedges p.0) (hvar p r) r (run p) ts us refl (λ d. refl) (λ d. refl) refl (writes s)
  writes (leaf {b} {f} {r} {ts} {us} s) = leaf-writes b f r ts us (writes s)
  writes (tree {b} {f} {c} {r} {ts} {us} {vs} s t) = tree-writes b f c r ts us vs (writes s) (writes t)

  -- ---- what is read, the grammar spells

  -- behind a bracket that closed, d more are closed up to `us`
  abbrev Left : ℕ → List Token → List Token → Type 0
  Left zero vs us = vs ≡ us
  Left (suc d) vs us = (r : Hedge) × (ws : List Token) × Spells (follows true) r vs ws × Left d ws us

  abbrev Found : State → ℕ → List Token → List Token → Type 0
  Found Opened d ts us = (c : Hedge) × (vs : List Token) × Spells inside c ts vs × Left d vs us
  Found Wanted d ts us = (h : Hedge) × (vs : List Token) × Spells (begins true) h ts vs × Left d vs us
  Found Named d ts us = (f : Functor) → (h : Hedge) × (vs : List Token) × Spells (begins true) h (functor f ∷ ts) vs × Left d vs us
  Found Ready d ts us = Left (suc d) ts us

  abbrev Good : State → ℕ → List Token → Res (List ℕ) → Type 0
  Good s d ts (got n us) = Found s d ts us
  Good s d ts stop = Unit {0}

  abbrev GoodLeft : ℕ → List Token → Res (List ℕ) → Type 0
  GoodLeft d ts (got n us) = Left d ts us
  GoodLeft d ts stop = Unit {0}

  lift : (s s' : State) (d d' : ℕ) (ts ts' : List Token) → ((us : List Token) → Found s d ts us → Found s' d' ts' us) → (ws : List ℕ) (r : Res (List ℕ)) → Good s d ts r → Good s' d' ts' (lay ws r)
  lift s s' d d' ts ts' f ws (got m us) g = f us g
  lift s s' d d' ts ts' f ws stop g = tt

  same : (s s' : State) (d d' : ℕ) (ts ts' : List Token) → ((us : List Token) → Found s d ts us → Found s' d' ts' us) → (r : Res (List ℕ)) → Good s d ts r → Good s' d' ts' r
  same s s' d d' ts ts' f (got m us) g = f us g
  same s s' d d' ts ts' f stop g = tt

  closing : (s : State) (d : ℕ) (ts ts' : List Token) → ((us : List Token) → Left d ts us → Found s d ts' us) → (ws : List ℕ) (r : Res (List ℕ)) → GoodLeft d ts r → Good s d ts' (lay ws r)
  closing s d ts ts' f ws (got m us) g = f us g
  closing s d ts ts' f ws stop g = tt

  as-left : (e : ℕ) (ts : List Token) (r : Res (List ℕ)) → Good Ready e ts r → GoodLeft (suc e) ts r
  as-left e ts (got n us) g = g
  as-left e ts stop g = tt

  shut-good : (d : ℕ) (ts : List Token) → ((e : ℕ) → Good Ready e ts (in_brackets ρ Ready e ts)) → GoodLeft d ts (shut (λ e. in_brackets ρ Ready e ts) d ts)
  shut-good zero ts i = refl
  shut-good (suc e) ts i = as-left e ts (in_brackets ρ Ready e ts) (i e)

  flat_good : (ts : List Token) (s : State) (d : ℕ) → Good s d ts (in_brackets ρ s d ts)
  flat_good [] s d = tt
  flat_good (one x ∷ ts) Opened d = lift Ready Opened d d ts (one x ∷ ts) (λ us w. (tvar x w.0, w.1, full (part w.2), w.3)) ((1000 + ρ terms x.0) ∷ []) (in_brackets ρ Ready d ts) (flat_good ts Ready d)
  flat_good (one x ∷ ts) Wanted d = lift Ready Wanted d d ts (one x ∷ ts) (λ us w. (tvar x w.0, w.1, part w.2, w.3)) ((1000 + ρ terms x.0) ∷ []) (in_brackets ρ Ready d ts) (flat_good ts Ready d)
  flat_good (one x ∷ ts) Named d = tt
  flat_good (one x ∷ ts) Ready d = tt
  flat_good (run p ∷ ts) Opened d = lift Ready Opened d d ts (run p ∷ ts) (λ us w. (hvar p w.0, w.1, full (parts w.2), w.3)) ((2000 + ρ hedges p.0) ∷ []) (in_brackets ρ Ready d ts) (flat_good ts Ready d)
  flat_good (run p ∷ ts) Wanted d = lift Ready Wanted d d ts (run p ∷ ts) (λ us w. (hvar p w.0, w.1, parts w.2, w.3)) ((2000 + ρ hedges p.0) ∷ []) (in_brackets ρ Ready d ts) (flat_good ts Ready d)
  flat_good (run p ∷ ts) Named d = tt
  flat_good (run p ∷ ts) Ready d = tt
  flat_good (functor g ∷ ts) Opened d = lift Named Opened d d ts (functor g ∷ ts) (λ us k. let w = k g in (w.0, w.1, full w.2, w.3)) (functor_word (name_f ρ g) ∷ []) (in_brackets ρ Named d ts) (flat_good ts Named d)
  flat_good (functor g ∷ ts) Wanted d = lift Named Wanted d d ts (functor g ∷ ts) (λ us k. k g) (functor_word (name_f ρ g) ∷ []) (in_brackets ρ Named d ts) (flat_good ts Named d)
  flat_good (functor g ∷ ts) Named d = tt
  flat_good (functor g ∷ ts) Ready d = tt
  flat_good (equals ∷ ts) Opened d = tt
  flat_good (equals ∷ ts) Wanted d = tt
  flat_good (equals ∷ ts) Named d = tt
  flat_good (equals ∷ ts) Ready d = tt
  flat_good (comma ∷ ts) Opened d = tt
  flat_good (comma ∷ ts) Wanted d = tt
  flat_good (comma ∷ ts) Named d = lift Wanted Named d d ts (comma ∷ ts) (λ us w f. (node f ε w.0, w.1, leaf (more w.2), w.3)) (0 ∷ []) (in_brackets ρ Wanted d ts) (flat_good ts Wanted d)
  flat_good (comma ∷ ts) Ready d = same Wanted Ready d d ts (comma ∷ ts) (λ us w. (w.0, w.1, more w.2, w.3)) (in_brackets ρ Wanted d ts) (flat_good ts Wanted d)
  flat_good (opens ∷ ts) Opened d = tt
  flat_good (opens ∷ ts) Wanted d = tt
  flat_good (opens ∷ ts) Named d = same Opened Named (suc d) d ts (opens ∷ ts) (λ us w f. (node f w.0 w.3.0, w.3.1, tree w.2 w.3.2, w.3.3)) (in_brackets ρ Opened (suc d) ts) (flat_good ts Opened (suc d))
  flat_good (opens ∷ ts) Ready d = tt
  flat_good (closes ∷ ts) Opened d = closing Opened d ts (closes ∷ ts) (λ us l. (ε, ts, empty, l)) (0 ∷ []) (shut (λ e. in_brackets ρ Ready e ts) d ts) (shut-good d ts (flat_good ts Ready))
  flat_good (closes ∷ ts) Wanted d = tt
  flat_good (closes ∷ ts) Named d = closing Named d ts (closes ∷ ts) (λ us l f. (node f ε ε, ts, leaf ends, l)) (0 ∷ 0 ∷ []) (shut (λ e. in_brackets ρ Ready e ts) d ts) (shut-good d ts (flat_good ts Ready))
  flat_good (closes ∷ ts) Ready d = closing Ready d ts (closes ∷ ts) (λ us l. (ε, ts, ends, l)) (0 ∷ []) (shut (λ e. in_brackets ρ Ready e ts) d ts) (shut-good d ts (flat_good ts Ready))
  flat_good (plus ∷ ts) Opened d = tt
  flat_good (plus ∷ ts) Wanted d = tt
  flat_good (plus ∷ ts) Named d = tt
  flat_good (plus ∷ ts) Ready d = tt
  flat_good (times ∷ ts) Opened d = tt
  flat_good (times ∷ ts) Wanted d = tt
  flat_good (times ∷ ts) Named d = tt
  flat_good (times ∷ ts) Ready d = tt

  abbrev GoodSide : List Token → Res (List ℕ) → Type 0
  GoodSide ts (got n us) = (h : Hedge) × Spells (begins false) h ts us
  GoodSide ts stop = Unit {0}

  side-brackets : (ts : List Token) (r : Res (List ℕ)) → Good Opened 0 ts r → GoodSide (opens ∷ ts) r
  side-brackets ts (got n us) w = (w.0, subst (λ z. Spells (begins false) w.0 (opens ∷ ts) z) w.3 (brackets w.2))
  side-brackets ts stop w = tt

  side-tree : (f : Functor) (ts : List Token) (r : Res (List ℕ)) → Good Opened 0 ts r → GoodSide (functor f ∷ opens ∷ ts) (lay (functor_word (name_f ρ f) ∷ []) (closed r))
  side-tree f ts (got n us) w = (node f w.0 ε, subst (λ z. Spells (begins false) (node f w.0 ε) (functor f ∷ opens ∷ ts) z) w.3 (tree w.2 alone))
  side-tree f ts stop w = tt

  side-functor : (f : Functor) (ts : List Token) → GoodSide (functor f ∷ ts) (flat_functor ρ f ts)
  side-functor f [] = (node f ε ε, leaf alone)
  side-functor f (one x ∷ ts) = (node f ε ε, leaf alone)
  side-functor f (run p ∷ ts) = (node f ε ε, leaf alone)
  side-functor f (functor g ∷ ts) = (node f ε ε, leaf alone)
  side-functor f (equals ∷ ts) = (node f ε ε, leaf alone)
  side-functor f (comma ∷ ts) = (node f ε ε, leaf alone)
  side-functor f (opens ∷ ts) = side-tree f ts (in_brackets ρ Opened 0 ts) (flat_good ts Opened 0)
  side-functor f (closes ∷ ts) = (node f ε ε, leaf alone)
  side-functor f (plus ∷ ts) = (node f ε ε, leaf alone)
  side-functor f (times ∷ ts) = (node f ε ε, leaf alone)

  flat-side-good : (ts : List Token) → GoodSide ts (flat_side ρ ts)
  flat-side-good [] = tt
  flat-side-good (one x ∷ ts) = (tvar x ε, part alone)
  flat-side-good (run p ∷ ts) = (hvar p ε, parts alone)
  flat-side-good (functor g ∷ ts) = side-functor g ts
  flat-side-good (equals ∷ ts) = tt
  flat-side-good (comma ∷ ts) = tt
  flat-side-good (opens ∷ ts) = side-brackets ts (in_brackets ρ Opened 0 ts) (flat_good ts Opened 0)
  flat-side-good (closes ∷ ts) = tt
  flat-side-good (plus ∷ ts) = tt
  flat-side-good (times ∷ ts) = tt

  -- The loop finds a side exactly where the grammar spells one.
  pub flat-side-spelt : (ts us : List Token) (ws : List ℕ) → flat_side ρ ts ≡ got ws us → (h : Hedge) × Spells (begins false) h ts us
  flat-side-spelt ts us ws e = subst (GoodSide ts) e (flat-side-good ts)

  pub flat-side-read : {h : Hedge} {ts us : List Token} → Spells (begins false) h ts us → Calm us → flat_side ρ ts ≡ got (hedge_words (name_hedge ρ h)) us
  flat-side-read d c = writes d c
