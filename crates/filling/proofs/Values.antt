-- The values of a filling in its words, and that every declared word is shown.
use Prim.Native.Nat.{ℕ, suc, ◌+◌, ◌-◌, ◌<◌, ◌≤◌}
use mathlib.Core.Path.{◌≡◌, refl, sym, ap, ◌∙◌}
use mathlib.Core.Bool.{true}
use mathlib.Core.List.{List, [], ◌∷◌, ◌++◌, append_assoc}
use native.Mathlib.Omega.{arith}
use borrow.Author.Tests.{ltb-true}
use lib.ListN.{length, get_or, take, drop, length-append, length-take, length-drop}
use lib.Seq.{take-take, take_at}
use Rattle.language.specs.declared.Kind.{Kind}
use Rattle.language.specs.declared.Kind.TheVariants.{End, Term, Run, Symbol, Function, Equation, Membership, Eps, Cat, Alt, Star, Other}
use Rattle.language.specs.Limits.{desk}
use Rattle.language.specs.Kinds.{kind_of}
use Rattle.language.specs.Trees.{Counts}
use Rattle.language.specs.Undeclared.{declared_kind, declared_word, declared_words}
use Rattle.language.proofs.Bools.{both_true}
use Rattle.meaning.specs.Complete.{Complete, nil, tree, complete_words}
use Rattle.meaning.specs.Values.{a_term, a_name, fits, variables}
use Rattle.language.specs.Between.{between}
use Rattle.filling.specs.Showing.{offset, ending, body_at, name_at, HasValue, ShowsOn, Shows}

-- the value numbered i is g
pub record Value (fs : List ℕ) (i : ℕ) (g : Complete) : Type 0 where
  pub there : i + 2 < length fs
  pub inside : ending fs i ≤ length fs
  pub words : between (offset fs i) (ending fs i) fs ≡ complete_words g

-- what a filling has for the variables of each kind
pub record Values (n : Counts) (fs : List ℕ) (vs : List Complete) : Type 0 where
  pub each : (i : ℕ) → i < variables n → Value fs i (get_or vs i nil)
  pub a-term : (i : ℕ) → i < n.terms → fits a_term (get_or vs i nil) ≡ true
  pub a-name : (i : ℕ) → n.terms + n.hedges ≤ i → i < variables n → fits a_name (get_or vs i nil) ≡ true

-- ---- words of a complete hedge

-- without the 0 that ends them
abbrev pub top_words : Complete → List ℕ
top_words nil = []
top_words (tree f c r) = (3000 + f.0) ∷ (complete_words c ++ top_words r)

pub top-end : (g : Complete) → complete_words g ≡ top_words g ++ (0 ∷ [])
top-end nil = refl
top-end (tree f c r) = ap (λ l. (3000 + f.0) ∷ (complete_words c ++ l)) (top-end r) ∙ ap (λ l. (3000 + f.0) ∷ l) (sym (append_assoc (complete_words c) (top_words r) (0 ∷ [])))

module _ {fs : List ℕ} {i : ℕ} {g : Complete} (v : Value fs i g) where
  size : ending fs i - offset fs i ≡ length (top_words g) + 1
  size =
      let l = length-take (ending fs i - offset fs i) (drop (offset fs i) fs) in
      let d = length-drop (offset fs i) fs in
      let w = ap length (v.words ∙ top-end g) in
      let a = length-append (top_words g) (0 ∷ []) in
      omega (arith, v.inside)

  pub has_value : HasValue fs i
  has_value = record { there = v.there; some_word = omega (arith, size); inside = v.inside }

  pub body-words : body_at fs i ≡ top_words g
  body-words =
      sym (take-take (ending fs i - 1 - offset fs i) (ending fs i - offset fs i) (drop (offset fs i) fs) (omega arith))
      ∙ ap (take (ending fs i - 1 - offset fs i)) (v.words ∙ top-end g)
      ∙ take_at (top_words g) (0 ∷ []) (ending fs i - 1 - offset fs i) (omega (arith, size))

  pub name-words : name_at fs i ≡ take 1 (complete_words g)
  name-words =
      let one : offset fs i + 1 - offset fs i ≡ 1 = omega arith in
      ap (λ n. take n (drop (offset fs i) fs)) one
      ∙ sym (take-take 1 (ending fs i - offset fs i) (drop (offset fs i) fs) (omega (arith, size)))
      ∙ ap (take 1) v.words

-- ---- every declared word is shown

module _ (n : Counts) where
  declared-at : (ws : List ℕ) → declared_words desk n ws ≡ true → (i : ℕ) → i < length ws → declared_word desk n (get_or ws i 0) ≡ true
  unfolding declared_words
  declared-at [] d i p = absurd (omega arith)
  declared-at (w ∷ ws) d ℕ.zero p = (both_true (declared_word desk n w) (declared_words desk n ws) d).0
  declared-at (w ∷ ws) d (suc i) p = declared-at ws (both_true (declared_word desk n w) (declared_words desk n ws) d).1 i (omega arith)

  module _ {fs : List ℕ} {vs : List Complete} (v : Values n fs vs) where
    shows-kind : (k : Kind) → declared_kind n k ≡ true → ShowsOn n.terms n.hedges fs k
    shows-kind (Term x) d = has_value (v.each x.0 (omega (arith, ltb-true x.0 n.terms d)))
    shows-kind (Run x) d = has_value (v.each (n.terms + x.0) (omega (arith, ltb-true x.0 n.hedges d)))
    shows-kind (Function x) d = has_value (v.each (n.terms + n.hedges + x.0) (omega (arith, ltb-true x.0 n.functions d)))
    shows-kind (Symbol f) d = tt
    shows-kind End d = tt
    shows-kind Equation d = tt
    shows-kind Membership d = tt
    shows-kind Eps d = tt
    shows-kind Cat d = tt
    shows-kind Alt d = tt
    shows-kind Star d = tt
    shows-kind Other d = tt

    pub declared-shows : (ws : List ℕ) → declared_words desk n ws ≡ true → Shows n.terms n.hedges fs ws
    unfolding declared_word
    declared-shows ws d = record { each = λ i p. shows-kind (kind_of desk (get_or ws i 0)) (declared-at ws d i p) }
