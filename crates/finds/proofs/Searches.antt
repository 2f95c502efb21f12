-- Searches along the elements of a hedge: a variable below a functor, the terms up to one that holds p, a p behind another element.
use mathlib.Core.Path.{◌≡◌, refl, sym, ap, ◌∙◌}
use mathlib.Core.Bool.{Bool, true, false, ◌||◌, or-false}
use mathlib.Core.List.{List, ◌++◌, append-nil}
use mathlib.Core.Option.{Option, none, some}
use Prim.Native.Nat.{ℕ, ◌+◌}
use native.Mathlib.Omega.{arith}
use lib.ListN.{length, get_or}
use lib.Seq.{slice}
use borrow.Author.Tests.{eq-eqb, ne_eqb}
use Rattle.language.specs.declared.HedgeVar.{HedgeVar}
use Rattle.language.specs.Limits.{desk}
use Rattle.language.specs.Kinds.{pick}
use Rattle.language.specs.Trees.{Functor, symbol, fvar, Hedge, ε, tvar, hvar, node, ◌⧺◌, Var, hv, in_functor, holds}
use Rattle.language.specs.Writing.{hedge_words}
use Rattle.language.specs.Fine.{fine_hedge}
use Rattle.rules.specs.Looks.{under, onto, around, inside, up_to}
use Rattle.views.specs.Looks.{head, tail, body_words}
use Rattle.words.specs.Spans.{member, element_end}
use Rattle.views.specs.Variables.{variable_word, fine_var}
use Rattle.views.specs.Standing.{Stands}
use Rattle.std.specs.Prelude.{Some, None}
use Rattle.std.specs.Prelude as told
use Rattle.rules.specs.Solved.{is_some}
use Rattle.finds.specs.Walks.{size, size_before, Ahead, place_from, Spotted}
use Rattle.words.proofs.Parts.{part_none, part_of}
use Rattle.views.proofs.Words.{join-nil, join-assoc, fine-head, first_word}
use Rattle.views.proofs.Spans.{stands_word, stands-split, stands-place}
use Rattle.views.proofs.Looks.{stands-children}
use Rattle.views.proofs.Members.{member-hedge, member-body}
use Rattle.finds.proofs.Walks.{begins_term, Passed}

-- ---- a variable below a functor at the top

abbrev below : Var → Hedge → Bool
below v ε = false
below v (tvar x r) = false
below v (hvar p r) = false
below v (node f c r) = holds v c

under_split : (v : Var) (h : Hedge) → under v h ≡ (below v h || under v (tail h))
under_split v ε = refl
under_split v (tvar x r) = refl
under_split v (hvar p r) = refl
under_split v (node f c r) = refl

-- the words of the first element but its first
below-part : {k : List ℕ} {i e : ℕ} (v : Var) (h : Hedge) {beyond : List ℕ} → fine_var desk v → Stands k i h beyond → e ≡ element_end k i → member (variable_word v) (slice (i + 1) e k) ≡ below v h
below-part {k} {i} {e} v ε f s d = ap (member (variable_word v)) (part_none k (i + 1) e (let a = stands-place s in omega arith))
below-part {k} {i} {e} v (tvar x r) f s d = ap (member (variable_word v)) (part_none k (i + 1) e (let a = stands-place s in omega arith))
below-part {k} {i} {e} v (hvar p r) f s d = ap (member (variable_word v)) (part_none k (i + 1) e (let a = stands-place s in omega arith))
below-part {k} {i} {e} v (node g c r) {beyond} f s d =
    ap (member (variable_word v)) (part_of k (i + 1) e (hedge_words c) (hedge_words r ++ beyond) (stands-children s).here (let a = stands-place s in let l = ap length (append-nil (hedge_words c)) in omega arith))
    ∙ member-hedge v f c s.fine.1

module _ {k : List ℕ} {i e x : ℕ} (v : Var) (h : Hedge) {beyond : List ℕ} {b : Bool} (f : fine_var desk v) (w : x ≡ variable_word v) (s : Stands k i h beyond) (d : e ≡ element_end k i) (m : b ≡ member x (slice (i + 1) e k)) where
  seen : b ≡ below v h
  seen = m ∙ ap (λ y. member y (slice (i + 1) e k)) w ∙ below-part v h f s d

  pub under-found : b ≡ true → true ≡ under v h
  under-found y = sym (under_split v h ∙ ap (λ c. c || under v (tail h)) (sym seen ∙ y))

  pub under-on : b ≡ false → under v (tail h) ≡ under v h
  under-on y = sym (under_split v h ∙ ap (λ c. c || under v (tail h)) (sym seen ∙ y))

pub under-end : {k : List ℕ} {i x : ℕ} (v : Var) (h : Hedge) {beyond : List ℕ} → Stands k i h beyond → x ≡ get_or k i 0 → x ≡ 0 → false ≡ under v h
under-end v ε s e z = refl
under-end v (tvar y r) s e z = absurd (let w = stands_word s in omega arith)
under-end v (hvar p r) s e z = absurd (let w = stands_word s in omega arith)
under-end v (node (symbol g) c r) s e z = absurd (let w : _ ≡ 3000 + g.0 = stands_word s in omega arith)
under-end v (node (fvar X) c r) s e z = absurd (let w : _ ≡ 4000 + X.0 = stands_word s in omega arith)

-- ---- hedges put before the first of two

abbrev Pair : Type 0
Pair = Option (Hedge × Hedge)

pub onto-none : (m : Pair) → m ≡ onto (λ h. ε ⧺ h) m
onto-none none = refl
onto-none (some a) = refl

onto-join : (d g : Hedge) (m : Pair) → onto (λ h. d ⧺ h) (onto (λ h. g ⧺ h) m) ≡ onto (λ h. (d ⧺ g) ⧺ h) m
onto-join d g none = refl
onto-join d g (some a) = ap (λ h. some (h, a.1)) (sym (join-assoc d g a.0))

pub size-join : (a b : Hedge) → size (a ⧺ b) ≡ size a + size b
size-join ε b = omega arith
size-join (tvar x r) b = let h = size-join r b in omega arith
size-join (hvar p r) b = let h = size-join r b in omega arith
size-join (node f c r) b = let h = size-join r b in omega arith

-- ---- the terms up to one that holds q

head-part : {k : List ℕ} {i e x : ℕ} {q : HedgeVar} {h : Hedge} {beyond : List ℕ} {b : Bool} → fine_var desk (hv q) → x ≡ variable_word (hv q) → Stands k i h beyond → e ≡ element_end k i → b ≡ member x (slice i e k) → b ≡ holds (hv q) (head h)
head-part {k} {i} {e} {x} {q} {h} {beyond} {b} f w s d m =
    m ∙ ap (λ y. member y (slice i e k)) w ∙ ap (member (variable_word (hv q))) (part_of k i e (body_words (head h)) (hedge_words (tail h) ++ beyond) (stands-split s) (d ∙ stands-place s))
    ∙ member-body (hv q) f (head h) (fine-head h s.fine)

no-functor : (q : HedgeVar) (f : Functor) → in_functor (hv q) f ≡ false
no-functor q (symbol g) = refl
no-functor q (fvar X) = refl

head-node : (q : HedgeVar) (f : Functor) (c r : Hedge) → holds (hv q) (head (node f c r)) ≡ holds (hv q) c
head-node q f c r = or-false (in_functor (hv q) f || holds (hv q) c) ∙ ap (λ b. b || holds (hv q) c) (no-functor q f)

up_to-on : (q : HedgeVar) (h : Hedge) → begins_term h ≡ true → holds (hv q) (head h) ≡ false → up_to q h ≡ onto (λ g. head h ⧺ g) (up_to q (tail h))
up_to-on q ε e d = absurd (let y : ◌≡◌ {A = ℕ} 0 1 = cc in omega arith)
up_to-on q (tvar x r) e d = refl
up_to-on q (hvar p r) e d = absurd (let y : ◌≡◌ {A = ℕ} 0 1 = cc in omega arith)
up_to-on q (node f c r) e d = ap (λ b. pick b (some (ε, node f c r)) (onto (node f c) (up_to q r))) (sym (head-node q f c r) ∙ d)

up_to-found : (q : HedgeVar) (h : Hedge) → begins_term h ≡ true → holds (hv q) (head h) ≡ true → up_to q h ≡ some (ε, h)
up_to-found q ε e d = absurd (let y : ◌≡◌ {A = ℕ} 0 1 = cc in omega arith)
up_to-found q (tvar x r) e d = absurd (let y : ◌≡◌ {A = ℕ} 0 1 = cc in omega arith)
up_to-found q (hvar p r) e d = absurd (let y : ◌≡◌ {A = ℕ} 0 1 = cc in omega arith)
up_to-found q (node f c r) e d = ap (λ b. pick b (some (ε, node f c r)) (onto (node f c) (up_to q r))) (sym (head-node q f c r) ∙ d)

up_to-none : (q : HedgeVar) (h : Hedge) → begins_term h ≡ false → up_to q h ≡ none
up_to-none q ε e = refl
up_to-none q (tvar x r) e = absurd (let y : ◌≡◌ {A = ℕ} 0 1 = cc in omega arith)
up_to-none q (hvar p r) e = refl
up_to-none q (node f c r) e = absurd (let y : ◌≡◌ {A = ℕ} 0 1 = cc in omega arith)

size-head : (h : Hedge) → begins_term h ≡ true → size (head h) ≡ 1
size-head ε e = absurd (let y : ◌≡◌ {A = ℕ} 0 1 = cc in omega arith)
size-head (tvar x r) e = refl
size-head (hvar p r) e = refl
size-head (node f c r) e = refl

-- what the walk keeps: n terms without q are done
pub record Without (q : HedgeVar) (n : ℕ) (h done left : Hedge) : Type 0 where
  pub same : up_to q h ≡ onto (λ g. done ⧺ g) (up_to q left)
  pub count : n ≡ size done

pub without-start : {q : HedgeVar} {h : Hedge} → Without q 0 h ε h
without-start {q} {h} = record { same = onto-none (up_to q h); count = refl }

module _ {k : List ℕ} {i e x n : ℕ} {q : HedgeVar} {h : Hedge} {beyond : List ℕ} {b : Bool} (f : fine_var desk (hv q)) (w : x ≡ variable_word (hv q)) (d : e ≡ element_end k i) (m : b ≡ member x (slice i e k)) where
  pub without_on : {done left : Hedge} → b ≡ false → Stands k i left beyond → begins_term left ≡ true → Without q n h done left → Without q (n + 1) h (done ⧺ head left) (tail left)
  without_on {done} {left} y s t p = record {
    same =
        p.same ∙ ap (onto (λ g. done ⧺ g)) (up_to-on q left t (sym (head-part f w s d m) ∙ y))
        ∙ onto-join done (head left) (up_to q (tail left));
    count = let a = size-join done (head left) in let c = size-head left t in let z = p.count in omega arith;
  }

  pub without-found : {done left : Hedge} → b ≡ true → Stands k i left beyond → begins_term left ≡ true → Without q n h done left → Ahead q (Some n) h
  without-found {done} {left} y s t p =
      let z : up_to q h ≡ some (done ⧺ ε, left) = p.same ∙ ap (onto (λ g. done ⧺ g)) (up_to-found q left t (sym (head-part f w s d m) ∙ y)) in
      record { is = ap Some (p.count ∙ ap size (sym (join-nil done))) ∙ ap size_before (sym z) }

pub without_end : {n : ℕ} {q : HedgeVar} {h done left : Hedge} → begins_term left ≡ false → Without q n h done left → Ahead q None h
without_end {n} {q} {h} {done} {left} t p =
    let z : up_to q h ≡ none = p.same ∙ ap (onto (λ g. done ⧺ g)) (up_to-none q left t) in
    record { is = ap size_before (sym z) }

-- one is found exactly where there is one
pub ahead-some : {q : HedgeVar} {t : told.Option ℕ} {h : Hedge} → Ahead q t h → told.is_some t ≡ is_some (up_to q h)
ahead-some {q} {t} {h} a = ap told.is_some a.is ∙ go (up_to q h)
  where
    go : (m : Pair) → told.is_some (size_before m) ≡ is_some m
    go none = refl
    go (some b) = refl

-- ---- q behind another element

pub inside-split : (q : HedgeVar) (h : Hedge) → inside q h ≡ onto (λ g. head h ⧺ g) (around q (tail h))
inside-split q ε = refl
inside-split q (tvar x r) = refl
inside-split q (hvar p r) = refl
inside-split q (node f c r) = refl

around-on : (q : HedgeVar) (h : Hedge) → (first_word h ≡ 0 → ⊥) → (first_word h ≡ 2000 + q.0 → ⊥) → around q h ≡ onto (λ g. head h ⧺ g) (around q (tail h))
around-on q ε a b = absurd (a refl)
around-on q (tvar x r) a b = refl
around-on q (hvar p r) a b = ap (λ c. pick c (some (ε, r)) (onto (hvar p) (around q r))) (ne_eqb q.0 p.0 (λ e. b (ap (λ n. 2000 + n) (sym e))))
around-on q (node f c r) a b = refl

around_here : (q : HedgeVar) (h : Hedge) → fine_var desk (hv q) → fine_hedge desk h → first_word h ≡ 2000 + q.0 → around q h ≡ some (ε, tail h)
around_here q ε g f e = absurd (omega arith)
around_here q (tvar x r) g f e = absurd (let w : 1000 + x.0 ≡ 2000 + q.0 = e in let z = f.0 in omega arith)
around_here q (hvar p r) g f e = ap (λ c. pick c (some (ε, r)) (onto (hvar p) (around q r))) (eq-eqb q.0 p.0 (let w : 2000 + p.0 ≡ 2000 + q.0 = e in omega arith))
around_here q (node (symbol d) c r) g f e = absurd (let w : 3000 + d.0 ≡ 2000 + q.0 = e in omega arith)
around_here q (node (fvar X) c r) g f e = absurd (let w : 4000 + X.0 ≡ 2000 + q.0 = e in omega arith)

around-none : (q : HedgeVar) (h : Hedge) → first_word h ≡ 0 → around q h ≡ none
around-none q ε e = refl
around-none q (tvar x r) e = absurd (let w : 1000 + x.0 ≡ 0 = e in omega arith)
around-none q (hvar p r) e = absurd (let w : 2000 + p.0 ≡ 0 = e in omega arith)
around-none q (node (symbol d) c r) e = absurd (let w : 3000 + d.0 ≡ 0 = e in omega arith)
around-none q (node (fvar X) c r) e = absurd (let w : 4000 + X.0 ≡ 0 = e in omega arith)

-- what the walk keeps: q is none of the elements done but the first
pub record Behind (q : HedgeVar) (h done left : Hedge) : Type 0 where
  pub same : inside q h ≡ onto (λ g. done ⧺ g) (around q left)

pub behind-start : {q : HedgeVar} {h : Hedge} → Behind q h (head h) (tail h)
behind-start {q} {h} = record { same = inside-split q h }

module _ {k : List ℕ} {i x y : ℕ} {q : HedgeVar} {h : Hedge} {beyond : List ℕ} (w : y ≡ variable_word (hv q)) (e : x ≡ get_or k i 0) where
  pub behind-on : {done left : Hedge} → (x ≡ 0 → ⊥) → (x ≡ y → ⊥) → Stands k i left beyond → Behind q h done left → Behind q h (done ⧺ head left) (tail left)
  behind-on {done} {left} a b s p = record {
    same =
        p.same ∙ ap (onto (λ g. done ⧺ g)) (around-on q left (λ z. a (e ∙ stands_word s ∙ z)) (λ z. b (e ∙ stands_word s ∙ z ∙ sym w)))
        ∙ onto-join done (head left) (around q (tail left));
  }

  pub behind-found : {at : ℕ} → fine_var desk (hv q) → x ≡ y → (p : Passed k at i beyond (Behind q h)) → Spotted q at (Some i) h
  behind-found {at} f b p =
      let z : inside q h ≡ some (p.done ⧺ ε, tail p.left) = p.keeps.same ∙ ap (onto (λ g. p.done ⧺ g)) (around_here q p.left f p.here.fine (sym (stands_word p.here) ∙ sym e ∙ b ∙ w)) in
      record { is = ap Some (p.place ∙ ap (λ g. at + length (body_words g)) (sym (join-nil p.done))) ∙ ap (place_from at) (sym z) }

  pub behind-end : {at : ℕ} → x ≡ 0 → (p : Passed k at i beyond (Behind q h)) → Spotted q at None h
  behind-end {at} b p =
      let z : inside q h ≡ none = p.keeps.same ∙ ap (onto (λ g. p.done ⧺ g)) (around-none q p.left (sym (stands_word p.here) ∙ sym e ∙ b)) in
      record { is = ap (place_from at) (sym z) }

pub spotted-some : {q : HedgeVar} {at : ℕ} {t : told.Option ℕ} {h : Hedge} → Spotted q at t h → told.is_some t ≡ is_some (inside q h)
spotted-some {q} {at} {t} {h} a = ap told.is_some a.is ∙ go (inside q h)
  where
    go : (m : Pair) → told.is_some (place_from at m) ≡ is_some m
    go none = refl
    go (some b) = refl
