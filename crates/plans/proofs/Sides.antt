-- The words of a side without its 0, and of a single F(H): the functor's word, the children, and 0.
use Prim.Native.Nat.{ℕ, ◌+◌, ◌-◌, ◌<◌}
use native.Mathlib.Omega.{arith}
use mathlib.Core.Path.{◌≡◌, refl, sym, ap, ◌∙◌, subst}
use mathlib.Core.List.{List, [], ◌∷◌, ◌++◌, append_assoc}
use lib.ListN.{length, drop, length-drop, length-append}
use lib.Seq.{slice}
use Rattle.language.specs.Trees.{Functor, Hedge, ε, node}
use Rattle.language.specs.Writing.{functor_word, hedge_words}
use Rattle.language.proofs.Sizes.{hedge-some}
use Rattle.words.proofs.Parts.{part_of, drop_of, below-of-word}
use Rattle.views.specs.declared.Side.{Side}
use Rattle.views.specs.Looks.{body_words}
use Rattle.views.specs.Standing.{Stands}
use Rattle.views.specs.Views.{Sided}
use Rattle.views.proofs.Words.{words-body}
use Rattle.views.proofs.Spans.{functor-some, stands_word}
use Rattle.views.proofs.Sides.{side-stands}
use Rattle.views.proofs.Looks.{stands-children}
use Rattle.plans.specs.Slots.{forth_in}
use Rattle.plans.proofs.Places.{forth-within}

-- a side without the 0 at its end
pub side-body : {k : List ℕ} {s : Side} {h : Hedge} → Sided k s h → slice s.from (s.to - 1) k ≡ body_words h
side-body {k} {s} {h} v =
    part_of k s.from (s.to - 1) (body_words h) (0 ∷ v.beyond) (v.here ∙ ap (λ l. l ++ v.beyond) (words-body h) ∙ append_assoc (body_words h) (0 ∷ []) v.beyond)
    (omega (arith, v.to, ap length (words-body h), length-append (body_words h) (0 ∷ [])))

-- ---- a single F(H)

module _ {k : List ℕ} {s : Side} {h : Hedge} (f : Functor) (c : Hedge) (v : Sided k s h) (e : h ≡ node f c ε) where
  node-words : drop s.from k ≡ (functor_word f ∷ []) ++ (hedge_words c ++ (0 ∷ v.beyond))
  node-words = v.here ∙ ap (λ (h : Hedge). hedge_words h ++ v.beyond) e ∙ ap (λ l. functor_word f ∷ l) (append_assoc (hedge_words c) (0 ∷ []) v.beyond)

  node-size : s.to ≡ s.from + length (hedge_words c) + 2
  node-size = omega (arith, v.to, ap (λ (h : Hedge). length (hedge_words h)) e, length-append (hedge_words c) (0 ∷ []))

  pub side-functor : slice s.from (s.from + 1) k ≡ functor_word f ∷ []
  side-functor = part_of k s.from (s.from + 1) (functor_word f ∷ []) _ node-words refl

  pub side-children : slice (s.from + 1) (s.to - 1) k ≡ hedge_words c
  side-children = part_of k (s.from + 1) (s.to - 1) (hedge_words c) (0 ∷ v.beyond) (drop_of k s.from (s.from + 1) (functor_word f ∷ []) _ node-words refl) (omega (arith, node-size))

-- ---- the next place after the first word of a side

-- a side stands within the words
side-below : {k : List ℕ} {s : Side} {h : Hedge} → Sided k s h → s.from < length k
side-below {k} {s} {h} v = omega (arith, ap length v.here, length-drop s.from k, length-append (hedge_words h) v.beyond, hedge-some h)

pub side-forth : {k : List ℕ} {s : Side} {h : Hedge} → Sided k s h → forth_in (length k) s.from ≡ s.from + 1
side-forth {k} {s} v = forth-within (length k) s.from (side-below v)

-- the children stand there
pub children-stand : {k : List ℕ} {i j : ℕ} {f : Functor} {c r : Hedge} {beyond : List ℕ} → Stands k i (node f c r) beyond → j ≡ forth_in (length k) i → Stands k j c (hedge_words r ++ beyond)
children-stand {k} {i} {j} {f} s e = rw (e ∙ forth-within (length k) i (below-of-word k i (λ q. functor-some f (sym (stands_word s) ∙ q)))) (stands-children s)

-- the children of a single F(H), behind its first word
pub inner-stands : {k : List ℕ} {s : Side} {h : Hedge} (f : Functor) (c : Hedge) (v : Sided k s h) → h ≡ node f c ε → Stands k (forth_in (length k) s.from) c (0 ∷ v.beyond)
inner-stands {k} {s} f c v e = subst (λ i. Stands k i c (0 ∷ v.beyond)) (sym (side-forth v)) (stands-children (subst (λ (g : Hedge). Stands k s.from g v.beyond) e (side-stands v)))
