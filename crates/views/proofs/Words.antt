-- The words of hedges and conjunctions: split at the end, at the first element, at a seam.
use mathlib.Core.Path.{◌≡◌, refl, sym, ap, ◌∙◌}
use mathlib.Core.List.{List, [], ◌∷◌, ◌++◌, append_assoc, append-nil}
use Prim.Native.Nat.{ℕ, ◌+◌}
use lib.ListN.{get_or}
use Rattle.language.specs.Limits.{desk}
use Rattle.language.specs.Trees.{Hedge, ε, tvar, hvar, node, Conj, ◌⧺◌}
use Rattle.language.specs.Writing.{functor_word, hedge_words, literal_words, conj_words}
use Rattle.language.specs.Fine.{fine_hedge}
use Rattle.views.specs.Looks.{head, tail, body_words}

-- a hedge's words end with its 0
pub words-body : (h : Hedge) → hedge_words h ≡ body_words h ++ (0 ∷ [])
words-body ε = refl
words-body (tvar x r) = ap (λ l. (1000 + x.0) ∷ l) (words-body r)
words-body (hvar p r) = ap (λ l. (2000 + p.0) ∷ l) (words-body r)
words-body (node f c r) = ap (λ l. functor_word f ∷ (hedge_words c ++ l)) (words-body r) ∙ ap (λ l. functor_word f ∷ l) (sym (append_assoc (hedge_words c) (body_words r) (0 ∷ [])))

-- two hedges in a row
pub words-join : (h k : Hedge) → hedge_words (h ⧺ k) ≡ body_words h ++ hedge_words k
words-join ε k = refl
words-join (tvar x r) k = ap (λ l. (1000 + x.0) ∷ l) (words-join r k)
words-join (hvar p r) k = ap (λ l. (2000 + p.0) ∷ l) (words-join r k)
words-join (node f c r) k = ap (λ l. functor_word f ∷ (hedge_words c ++ l)) (words-join r k) ∙ ap (λ l. functor_word f ∷ l) (sym (append_assoc (hedge_words c) (body_words r) (hedge_words k)))

pub body-join : (h k : Hedge) → body_words (h ⧺ k) ≡ body_words h ++ body_words k
body-join ε k = refl
body-join (tvar x r) k = ap (λ l. (1000 + x.0) ∷ l) (body-join r k)
body-join (hvar p r) k = ap (λ l. (2000 + p.0) ∷ l) (body-join r k)
body-join (node f c r) k = ap (λ l. functor_word f ∷ (hedge_words c ++ l)) (body-join r k) ∙ ap (λ l. functor_word f ∷ l) (sym (append_assoc (hedge_words c) (body_words r) (body_words k)))

-- the first element, and what follows it
pub words-split : (h : Hedge) → hedge_words h ≡ body_words (head h) ++ hedge_words (tail h)
words-split ε = refl
words-split (tvar x r) = refl
words-split (hvar p r) = refl
words-split (node f c r) = ap (λ t. functor_word f ∷ (t ++ hedge_words r)) (sym (append-nil (hedge_words c)))

pub words_append : (a b : Conj) → conj_words (a ++ b) ≡ conj_words a ++ conj_words b
words_append [] b = refl
words_append (l ∷ a) b = ap (λ w. literal_words l ++ w) (words_append a b) ∙ sym (append_assoc (literal_words l) (conj_words a) (conj_words b))

pub join-nil : (h : Hedge) → h ⧺ ε ≡ h
join-nil ε = refl
join-nil (tvar x r) = ap (tvar x) (join-nil r)
join-nil (hvar p r) = ap (hvar p) (join-nil r)
join-nil (node f c r) = ap (node f c) (join-nil r)

pub join-assoc : (g h k : Hedge) → (g ⧺ h) ⧺ k ≡ g ⧺ (h ⧺ k)
join-assoc ε h k = refl
join-assoc (tvar x r) h k = ap (tvar x) (join-assoc r h k)
join-assoc (hvar p r) h k = ap (hvar p) (join-assoc r h k)
join-assoc (node f c r) h k = ap (node f c) (join-assoc r h k)

pub fine-tail : (h : Hedge) → fine_hedge desk h → fine_hedge desk (tail h)
fine-tail ε f = f
fine-tail (tvar x r) f = f.1
fine-tail (hvar p r) f = f.1
fine-tail (node g c r) f = f.2

pub fine-head : (h : Hedge) → fine_hedge desk h → fine_hedge desk (head h)
fine-head ε f = f
fine-head (tvar x r) f = (f.0, tt)
fine-head (hvar p r) f = (f.0, tt)
fine-head (node g c r) f = (f.0, f.1, tt)

pub fine-join : (a b : Hedge) → fine_hedge desk a → fine_hedge desk b → fine_hedge desk (a ⧺ b)
fine-join ε b f g = g
fine-join (tvar x r) b f g = (f.0, fine-join r b f.1 g)
fine-join (hvar p r) b f g = (f.0, fine-join r b f.1 g)
fine-join (node h c r) b f g = (f.0, f.1, fine-join r b f.2 g)

-- the parts of a fine hedge are fine
pub fine-parts : (a b : Hedge) → fine_hedge desk (a ⧺ b) → fine_hedge desk a × fine_hedge desk b
fine-parts ε b f = (tt, f)
fine-parts (tvar x r) b f = let p = fine-parts r b f.1 in ((f.0, p.0), p.1)
fine-parts (hvar p r) b f = let q = fine-parts r b f.1 in ((f.0, q.0), q.1)
fine-parts (node h c r) b f = let p = fine-parts r b f.2 in ((f.0, f.1, p.0), p.1)

-- the first word: 0 of the empty hedge
abbrev pub first_word : Hedge → ℕ
first_word h = get_or (hedge_words h) 0 0

pub first-word : (h : Hedge) (ws : List ℕ) → get_or (hedge_words h ++ ws) 0 0 ≡ first_word h
first-word ε ws = refl
first-word (tvar x r) ws = refl
first-word (hvar p r) ws = refl
first-word (node f c r) ws = refl
