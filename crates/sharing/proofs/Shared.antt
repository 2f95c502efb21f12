-- What is found in the words of two hedges is what is struck out of the trees, at its places.
use Prim.Native.Nat.{ℕ, zero, suc, ◌+◌, ◌<◌, ◌≤◌}
use mathlib.Core.Path.{◌≡◌, refl, sym, subst, ap, ◌∙◌}
use mathlib.Core.Bool.{Bool, true, false, ◌&&◌}
use mathlib.Core.List.{List, [], ◌∷◌, ◌++◌, append_assoc}
use mathlib.Core.Option as maybe
use mathlib.Core.Option.{none, some, map}
use native.Mathlib.Omega.{arith}
use lib.Dec.{eqb, ltb}
use lib.ListN.{length, get_or, drop, length-append, length-drop}
use lib.Seq.{slice}
use borrow.Author.Tests.{ne_eqb, le-ltb, lt-ltb}
use Rattle.language.specs.Limits.{desk}
use Rattle.language.specs.Kinds.{pick}
use Rattle.language.specs.Trees.{Hedge, ε, tvar, hvar, node, ◌⧺◌, same_words}
use Rattle.language.specs.Writing.{hedge_words}
use Rattle.language.specs.Fine.{fine_hedge}
use Rattle.rules.specs.Looks.{onto}
use Rattle.rules.specs.Solved as rules
use Rattle.rules.specs.Elements.{without, or_struck, struck, width}
use Rattle.rules.proofs.Tests.{true-test}
use Rattle.rules.proofs.Names.{same_words-is}
use Rattle.rules.proofs.Elements.{Without}
use Rattle.words.specs.Spans.{element_end}
use Rattle.words.specs.Places.{same_list}
use Rattle.words.proofs.Parts.{part_of, drop_of, below-of-word}
use Rattle.views.specs.Looks.{head, tail, body_words}
use Rattle.views.specs.Standing.{Stands}
use Rattle.views.proofs.Words.{words-body, words-join, body-join, join-assoc, fine-head, fine-parts, first_word}
use Rattle.views.proofs.Spans.{functor-some, stands_word, stands-split, stands-place, stands-next}
use Rattle.views.proofs.Same.{same-hedges}
use Rattle.std.specs.Prelude.{Option, Some, None, is_some}
use Rattle.sharing.specs.declared.Spots.{Spots}
use Rattle.sharing.specs.Shared.{equal_from, twice, shared_from, first_shared}
use Rattle.sharing.proofs.Walks.{equal_over, equal-step, shared-over, shared_step}

-- ---- what a caller is told

-- e stands in h, which stands at `at`, from `from` to `to`; r is h without it
pub record CutOut (at from to : ℕ) (e h r : Hedge) : Type 0 where
  pub out : Without e h r
  pub place : from ≡ at + length (body_words out.before)
  pub after : to ≡ from + length (body_words e)

-- both without one and the same, at its places
pub record BothCut (at by : ℕ) (t : Option Spots) (h k : Hedge) (a : Hedge × Hedge) : Type 0 where
  pub shared : Hedge
  pub spots : Spots
  pub told : t ≡ Some spots
  pub left : CutOut at spots.left spots.after shared h a.0
  pub right : CutOut by spots.right spots.behind shared k a.1

-- t tells of h and k, which stand at `at` and `by`, what is struck out of them
pub record Shares (at by : ℕ) (t : Option Spots) (h k : Hedge) : Type 0 where
  pub found : is_some t ≡ rules.is_some (struck h k)
  pub cut : (a : Hedge × Hedge) → struck h k ≡ some a → BothCut at by t h k a

-- ---- the words of an element

same_body : (ws us : List ℕ) → same_list (ws ++ (0 ∷ [])) (us ++ (0 ∷ [])) ≡ same_list ws us
same_body [] [] = refl
same_body [] (y ∷ us) = ap (λ b. eqb 0 y && b) (no_more us) ∙ never (eqb 0 y)
  where
    no_more : (us : List ℕ) → same_list [] (us ++ (0 ∷ [])) ≡ false
    no_more [] = refl
    no_more (y ∷ us) = refl

    never : (b : Bool) → (b && false) ≡ false
    never true = refl
    never false = refl
same_body (x ∷ ws) [] = ap (λ b. eqb x 0 && b) (no_more ws) ∙ never (eqb x 0)
  where
    no_more : (ws : List ℕ) → same_list (ws ++ (0 ∷ [])) [] ≡ false
    no_more [] = refl
    no_more (y ∷ ws) = refl

    never : (b : Bool) → (b && false) ≡ false
    never true = refl
    never false = refl
same_body (x ∷ ws) (y ∷ us) = ap (λ b. eqb x y && b) (same_body ws us)

same-bodies : (e h : Hedge) → fine_hedge desk e → fine_hedge desk h → same_list (body_words e) (body_words h) ≡ same_words e h
same-bodies e h f g =
    sym (same_body (body_words e) (body_words h))
    ∙ ap (λ w. same_list w (body_words h ++ (0 ∷ []))) (sym (words-body e)) ∙ ap (same_list (hedge_words e)) (sym (words-body h)) ∙ same-hedges e h f g

width-words : (h : Hedge) → width h ≤ length (body_words h)
width-words ε = omega arith
width-words (tvar x r) = let i = width-words r in omega arith
width-words (hvar p r) = let i = width-words r in omega arith
width-words (node f c r) = let i = width-words r in let l = length-append (hedge_words c) (body_words r) in omega arith

-- an element of a hedge that stands in the words
module _ {k : List ℕ} {i : ℕ} {h : Hedge} {beyond : List ℕ} (s : Stands k i h beyond) where
  -- fewer elements than words
  steps-enough : width h ≤ length k
  steps-enough =
      let a = width-words h in
      let b = ap length s.here ∙ length-append (hedge_words h) beyond in
      let c = length-drop i k in
      let d = ap length (words-body h) ∙ length-append (body_words h) (0 ∷ []) in
      omega arith

  head-words : slice i (element_end k i) k ≡ body_words (head h)
  head-words = part_of k i (element_end k i) (body_words (head h)) (hedge_words (tail h) ++ beyond) (stands-split s) (stands-place s)

  module _ (nz : first_word h ≡ 0 → ⊥) where
    more : eqb (get_or k i 0) 0 ≡ false
    more = ne_eqb _ 0 (λ q. nz (sym (stands_word s) ∙ q))

    within : i < length k
    within = below-of-word k i (λ q. nz (sym (stands_word s) ∙ q))

  same_here : (e : Hedge) → fine_hedge desk e → same_list (body_words e) (slice i (element_end k i) k) ≡ same_words e (head h)
  same_here e f = ap (same_list (body_words e)) head-words ∙ same-bodies e (head h) f (fine-head h s.fine)

-- ---- cut out

-- the first element, and one behind it
module _ {i j : ℕ} {h : Hedge} (w : h ≡ head h ⧺ tail h) (p : j ≡ i + length (body_words (head h))) where
  cut-first : (e : Hedge) → e ≡ head h → CutOut i i j e h (tail h)
  cut-first e d = record {
    out = record { before = ε; behind = tail h; whole = w ∙ ap (λ q. q ⧺ tail h) (sym d); left = refl };
    place = omega arith;
    after = p ∙ ap (λ q. i + length (body_words q)) (sym d);
  }

  cut_later : {e r : Hedge} {from to : ℕ} → CutOut j from to e (tail h) r → CutOut i from to e h (head h ⧺ r)
  cut_later {e} {r} c = record {
    out = record {
      before = head h ⧺ c.out.before;
      behind = c.out.behind;
      whole = w ∙ ap (λ q. head h ⧺ q) c.out.whole ∙ sym (join-assoc (head h) c.out.before (e ⧺ c.out.behind));
      left = ap (λ q. head h ⧺ q) c.out.left ∙ sym (join-assoc (head h) c.out.before c.out.behind);
    };
    place =
        let a = c.place in
        let l = ap length (body-join (head h) c.out.before) ∙ length-append (body_words (head h)) (body_words c.out.before) in
        omega arith;
    after = c.after;
  }

-- ---- an element of the other hedge

-- p is the place of the element that is taken out of h to leave r; or it is the length
abbrev Told : List ℕ → ℕ → Hedge → Hedge → maybe.Option Hedge → ℕ → Type 0
Told k i e h none p = ltb p (length k) ≡ false
Told k i e h (some r) p = (ltb p (length k) ≡ true) × CutOut i p (element_end k p) e h r

module _ {k : List ℕ} {i : ℕ} {h : Hedge} {beyond : List ℕ} (s : Stands k i h beyond) (nz : first_word h ≡ 0 → ⊥) (w : h ≡ head h ⧺ tail h) where
  module _ (e : Hedge) (p : ℕ) where
    equal-later : (o : maybe.Option Hedge) → Told k (element_end k i) e (tail h) o p → Told k i e h (map (λ r. head h ⧺ r) o) p
    equal-later none t = t
    equal-later (some r) t = (t.0, cut_later w (stands-place s) t.1)

    equal_by : (b : Bool) → (b ≡ true → e ≡ head h) → Told k (element_end k i) e (tail h) (without e (tail h)) p
        → Told k i e h (pick b (some (tail h)) (map (λ r. head h ⧺ r) (without e (tail h)))) (pick b i p)
    equal_by true d t = (lt-ltb i (length k) (within s nz), cut-first w (stands-place s) e (d refl))
    equal_by false d t = equal-later (without e (tail h)) t

  equal-one : (n : ℕ) (e : Hedge) → fine_hedge desk e → Told k (element_end k i) e (tail h) (without e (tail h)) (equal_from n k (body_words e) (element_end k i))
      → Told k i e h (pick (same_words e (head h)) (some (tail h)) (map (λ r. head h ⧺ r) (without e (tail h)))) (equal_from (suc n) k (body_words e) i)
  equal-one n e f t =
      subst (Told k i e h (pick (same_words e (head h)) (some (tail h)) (map (λ r. head h ⧺ r) (without e (tail h))))) (sym (equal-step k (body_words e) i (more s nz) (same_here s e f) n))
      (equal_by e (equal_from n k (body_words e) (element_end k i)) (same_words e (head h)) (λ y. same_words-is e (head h) (true-test _ y)) t)

module _ {k : List ℕ} (e : Hedge) (f : fine_hedge desk e) where
  equal-told : (n : ℕ) {i : ℕ} (h : Hedge) {beyond : List ℕ} → width h ≤ n → Stands k i h beyond → Told k i e h (without e h) (equal_from n k (body_words e) i)
  equal-told n {i} ε l s = le-ltb _ (length k) (let z = equal_over k (body_words e) i refl (stands_word s) n in omega arith)
  equal-told zero (tvar x r) l s = absurd (omega arith)
  equal-told zero (hvar p r) l s = absurd (omega arith)
  equal-told zero (node g c r) l s = absurd (omega arith)
  equal-told (suc n) (tvar x r) l s = equal-one s (λ z. absurd (omega arith)) refl n e f (equal-told n r (omega arith) (stands-next s))
  equal-told (suc n) (hvar p r) l s = equal-one s (λ z. absurd (omega arith)) refl n e f (equal-told n r (omega arith) (stands-next s))
  equal-told (suc n) (node g c r) l s = equal-one s (functor-some g) refl n e f (equal-told n r (omega arith) (stands-next s))

-- ---- an element of both

abbrev Tells : ℕ → ℕ → Hedge → Hedge → maybe.Option (Hedge × Hedge) → Option Spots → Type 0
Tells i j h g none t = t ≡ None
Tells i j h g (some a) t = BothCut i j t h g a

module _ {k : List ℕ} {j : ℕ} (g : Hedge) {after : List ℕ} (other : Stands k j g after) where
  module _ {i : ℕ} {h : Hedge} {beyond : List ℕ} (s : Stands k i h beyond) (nz : first_word h ≡ 0 → ⊥) (w : h ≡ head h ⧺ tail h) where
    module _ (rest : Option Spots) where
      shared-later : (m : maybe.Option (Hedge × Hedge)) → Tells (element_end k i) j (tail h) g m rest → Tells i j h g (onto (λ r. head h ⧺ r) m) rest
      shared-later none t = t
      shared-later (some a) t = record { shared = t.shared; spots = t.spots; told = t.told; left = cut_later w (stands-place s) t.left; right = t.right }

      shared-by : (p : ℕ) (o : maybe.Option Hedge) → Told k j (head h) g o p → Tells (element_end k i) j (tail h) g (struck (tail h) g) rest
          → Tells i j h g (or_struck (tail h) o (onto (λ r. head h ⧺ r) (struck (tail h) g))) (pick (ltb p (length k)) (Some (twice k i p)) rest)
      shared-by p none y t = subst (λ b. Tells i j h g (onto (λ r. head h ⧺ r) (struck (tail h) g)) (pick b (Some (twice k i p)) rest)) (sym y) (shared-later (struck (tail h) g) t)
      shared-by p (some r) y t =
          subst (λ b. Tells i j h g (some (tail h, r)) (pick b (Some (twice k i p)) rest)) (sym y.0)
          (record { shared = head h; spots = twice k i p; told = refl; left = cut-first w (stands-place s) (head h) refl; right = y.1 })

    shared-one : (n : ℕ) → Tells (element_end k i) j (tail h) g (struck (tail h) g) (shared_from n k (element_end k i) j)
        → Tells i j h g (or_struck (tail h) (without (head h) g) (onto (λ r. head h ⧺ r) (struck (tail h) g))) (shared_from (suc n) k i j)
    shared-one n t =
        subst (Tells i j h g (or_struck (tail h) (without (head h) g) (onto (λ r. head h ⧺ r) (struck (tail h) g)))) (sym (shared_step k i j (more s nz) (head-words s) n))
        (shared-by (shared_from n k (element_end k i) j) (equal_from (length k) k (body_words (head h)) j) (without (head h) g)
        (equal-told (head h) (fine-head h s.fine) (length k) g (steps-enough other) other) t)

  shared-told : (n : ℕ) {i : ℕ} (h : Hedge) {beyond : List ℕ} → width h ≤ n → Stands k i h beyond → Tells i j h g (struck h g) (shared_from n k i j)
  shared-told n {i} ε l s = shared-over k i j refl (stands_word s) n
  shared-told zero (tvar x r) l s = absurd (omega arith)
  shared-told zero (hvar p r) l s = absurd (omega arith)
  shared-told zero (node f c r) l s = absurd (omega arith)
  shared-told (suc n) (tvar x r) l s = shared-one s (λ z. absurd (omega arith)) refl n (shared-told n r (omega arith) (stands-next s))
  shared-told (suc n) (hvar p r) l s = shared-one s (λ z. absurd (omega arith)) refl n (shared-told n r (omega arith) (stands-next s))
  shared-told (suc n) (node f c r) l s = shared-one s (functor-some f) refl n (shared-told n r (omega arith) (stands-next s))

-- ---- the law

pub shares : {k : List ℕ} {i j : ℕ} (h g : Hedge) {beyond after : List ℕ} → Stands k i h beyond → Stands k j g after → Shares i j (first_shared k i j) h g
unfolding first_shared
shares {k} {i} {j} h g s o = go (struck h g) refl (shared-told g o (length k) h (steps-enough s) s)
  where
    go : (m : maybe.Option (Hedge × Hedge)) → struck h g ≡ m → Tells i j h g m (shared_from (length k) k i j) → Shares i j (shared_from (length k) k i j) h g
    go none e y = record { found = ap is_some y ∙ ap rules.is_some (sym e); cut = λ a d. absurd (let z : ◌≡◌ {A = ℕ} 0 1 = cc in omega arith) }
    go (some b) e y = record { found = ap is_some y.told ∙ ap rules.is_some (sym e); cut = λ a d. let z : b ≡ a = cc in subst (BothCut i j (shared_from (length k) k i j) h g) z y }

-- the words before what is cut out, and what stands behind it
module _ {k : List ℕ} {at from to : ℕ} {e h r : Hedge} {beyond : List ℕ} (s : Stands k at h beyond) (c : CutOut at from to e h r) where
  pieces : drop at k ≡ body_words c.out.before ++ (body_words e ++ (hedge_words c.out.behind ++ beyond))
  pieces =
      s.here ∙ ap (λ q. hedge_words q ++ beyond) c.out.whole
      ∙ ap (λ w. w ++ beyond) (words-join c.out.before (e ⧺ c.out.behind) ∙ ap (λ w. body_words c.out.before ++ w) (words-join e c.out.behind))
      ∙ append_assoc (body_words c.out.before) (body_words e ++ hedge_words c.out.behind) beyond
      ∙ ap (λ w. body_words c.out.before ++ w) (append_assoc (body_words e) (hedge_words c.out.behind) beyond)

  pub cut-before : slice at from k ≡ body_words c.out.before
  cut-before = part_of k at from (body_words c.out.before) (body_words e ++ (hedge_words c.out.behind ++ beyond)) pieces c.place

  pub cut-behind : Stands k to c.out.behind beyond
  cut-behind = record {
    fine = (fine-parts e c.out.behind (fine-parts c.out.before (e ⧺ c.out.behind) (subst (fine_hedge desk) c.out.whole s.fine)).1).1;
    here =
        drop_of k from to (body_words e) (hedge_words c.out.behind ++ beyond)
        (drop_of k at from (body_words c.out.before) (body_words e ++ (hedge_words c.out.behind ++ beyond)) pieces c.place) c.after;
  }
