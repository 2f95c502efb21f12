-- What the small functions and the turns of the loops cite.
use Prim.Native.Nat.{ℕ, suc, ◌+◌, ◌-◌, ◌/◌, ◌%◌, ◌<◌, ◌≤◌}
use mathlib.Core.Path.{◌≡◌, refl, sym, ap, ◌∙◌}
use mathlib.Core.Bool.{Bool, true, false}
use mathlib.Core.List.{List, [], ◌∷◌, ◌++◌, map}
use native.Mathlib.Omega.{arith}
use native.Mathlib.Nat.{add-zero}
use native.Mathlib.Numerals.{add-one}
use borrow.Author.Tests.{eq-eqb, ne_eqb, lt-ltb, le-ltb, ltb-true, ltb-false}
use lib.Dec.{eqb, ltb}
use lib.ListN.{length, get_or, set, drop, length-map, drop_of_length-le}
use lib.Seq.{sets, drop-cons}
use Rattle.language.specs.declared.Kind.{Kind}
use Rattle.language.specs.declared.Kind.TheVariants.{End, Term, Run, Function}
use Rattle.language.specs.declared.TermVar.{TermVar}
use Rattle.language.specs.declared.HedgeVar.{HedgeVar}
use Rattle.language.specs.declared.FunVar.{FunVar}
use Rattle.language.specs.Limits.{desk}
use Rattle.language.specs.Kinds.{pick, kind_of}
use Rattle.language.proofs.Stores.{sets-append}
use Rattle.language.proofs.Arms.{Among, each-kind}
use Rattle.word_bytes.specs.Bytes.{words_of, words_in}
use Rattle.word_bytes.proofs.Pairs.{length-words_of, odd-holds-none, even-holds}
use Rattle.patterns.specs.declared.Numbers.{Numbers}
use Rattle.patterns.specs.Terms.{goes, goes_on, closing, begins, one_term}
use Rattle.patterns.proofs.OneTerm.{goes_on_lem}
use Rattle.patterns.specs.Tables.{at_hedges, at_functions, renumbered_on, renumbered_by, Entered, EnteredOn}

-- ---- the bytes of whole words

abbrev pub Whole : List ℕ → List ℕ → Type 0
Whole bs r = (words_of r ≡ words_in bs) × (length r / 2 ≡ length (words_in bs))

pub whole-even : (bs : List ℕ) → length bs % 2 ≡ 0 → Whole bs bs
whole-even bs e = (sym (even-holds bs e), sym (length-words_of bs) ∙ ap length (sym (even-holds bs e)))

pub whole-odd : (bs : List ℕ) → (length bs % 2 ≡ 0 → ⊥) → Whole bs []
unfolding words_of
whole-odd bs n = (sym (odd-holds-none bs n), ap length (sym (odd-holds-none bs n)))

-- ---- one blank

module _ (t : List ℕ) (place count : ℕ) where
  abbrev Noting : ℕ → List ℕ → Type 0
  Noting r t' = (r ≡ pick (eqb (get_or t place 0) 0) (count + 1) count) × (t' ≡ pick (eqb (get_or t place 0) 0) (set t place (count + 1)) t)

  pub notes-new : get_or t place 0 ≡ 0 → Noting (count + 1) (set t place (count + 1))
  notes-new e = rw (eq-eqb _ _ e) (refl, refl)

  pub notes-old : (get_or t place 0 ≡ 0 → ⊥) → Noting count t
  notes-old e = rw (ne_eqb _ _ e) (refl, refl)

-- ---- numbers together

pub past_first : (a b : ℕ) → desk.each < a → true ≡ ltb desk.each (a + b)
past_first a b h = sym (lt-ltb desk.each (a + b) (omega arith))

pub past-second : (a b : ℕ) → a ≤ desk.each → ltb (desk.each - a) b ≡ ltb desk.each (a + b)
past-second a b h = on (ltb (desk.each - a) b) refl
  where
    on : (r : Bool) → ltb (desk.each - a) b ≡ r → r ≡ ltb desk.each (a + b)
    on true e = let z : desk.each - a < b = ltb-true _ _ e in sym (lt-ltb desk.each (a + b) (omega (arith, z, h)))
    on false e = let z : b ≤ desk.each - a = ltb-false _ _ e in sym (le-ltb desk.each (a + b) (omega (arith, z, h)))

pub long-so : (n : ℕ) → desk.question < n → true ≡ ltb desk.question n
long-so n h = sym (lt-ltb desk.question n h)

-- ---- a word by the table

module _ (n : Numbers) (t : List ℕ) (w : ℕ) (k : Kind) (e : k ≡ kind_of desk w) where
  by_kind : (j : Kind) → k ≡ j → renumbered_on n t w j ≡ renumbered_by n t w
  unfolding renumbered_by
  by_kind j g = ap (renumbered_on n t w) (sym g ∙ e)

  on-kind : (j : Kind) → k ≡ j → EnteredOn n t (kind_of desk w) → EnteredOn n t j
  on-kind j g a = rw (sym e ∙ g) at a

  module _ (place : ℕ) where
    pub entered-term : {x : TermVar} → k ≡ Term x → place ≡ x.0 → EnteredOn n t (kind_of desk w) → Entered n.terms t place
    entered-term {x} g d a = rw d (on-kind (Term x) g a)

    pub entered-run : {x : HedgeVar} → k ≡ Run x → place ≡ x.0 → EnteredOn n t (kind_of desk w) → Entered n.hedges t (at_hedges + place)
    entered-run {x} g d a = rw d (on-kind (Run x) g a)

    pub entered-function : {x : FunVar} → k ≡ Function x → place ≡ x.0 → EnteredOn n t (kind_of desk w) → Entered n.functions t (at_functions + place)
    entered-function {x} g d a = rw d (on-kind (Function x) g a)

    module _ (r s v : ℕ) (er : r ≡ s) where
      pub by-term : {x : TermVar} → k ≡ Term x → place ≡ x.0 → s ≡ 1000 + v → v ≡ n.terms + get_or t place 0 - 1 → r ≡ renumbered_by n t w
      by-term {x} g d es ev = er ∙ es ∙ ap (λ v. 1000 + v) (ev ∙ ap (λ p. n.terms + get_or t p 0 - 1) d) ∙ by_kind (Term x) g

      pub by-run : {x : HedgeVar} → k ≡ Run x → place ≡ x.0 → s ≡ 2000 + v → v ≡ n.hedges + get_or t (at_hedges + place) 0 - 1 → r ≡ renumbered_by n t w
      by-run {x} g d es ev = er ∙ es ∙ ap (λ v. 2000 + v) (ev ∙ ap (λ p. n.hedges + get_or t (at_hedges + p) 0 - 1) d) ∙ by_kind (Run x) g

      pub by-function : {x : FunVar} → k ≡ Function x → place ≡ x.0 → s ≡ 4000 + v → v ≡ n.functions + get_or t (at_functions + place) 0 - 1 → r ≡ renumbered_by n t w
      by-function {x} g d es ev = er ∙ es ∙ ap (λ v. 4000 + v) (ev ∙ ap (λ p. n.functions + get_or t (at_functions + p) 0 - 1) d) ∙ by_kind (Function x) g

  pub by-other : Among (0 ∷ 3 ∷ 5 ∷ 6 ∷ 7 ∷ 8 ∷ 9 ∷ 10 ∷ 11 ∷ []) k → w ≡ renumbered_by n t w
  by-other o =
      each-kind (0 ∷ 3 ∷ 5 ∷ 6 ∷ 7 ∷ 8 ∷ 9 ∷ 10 ∷ 11 ∷ []) (λ j. w ≡ renumbered_on n t w j) refl tt tt (λ f. refl) tt refl refl refl refl refl refl refl k o ∙ by_kind k refl

-- ---- a turn of writing

pub write-more : (f : ℕ → ℕ) (ws q : List ℕ) (at i v : ℕ) → i < length ws → v ≡ f (get_or ws i 0)
    → sets (set q (at + i) v) (at + (i + 1)) (map f (drop (i + 1) ws)) ≡ sets q (at + i) (map f (drop i ws))
write-more f ws q at i v h e =
    let z : at + (i + 1) ≡ suc (at + i) = omega arith in
    rw (e, z, add-one i, drop-cons ws i 0 h)

pub all-written : (f : ℕ → ℕ) (ws q q' : List ℕ) (at i m : ℕ) → m ≡ length ws → length ws ≤ i → sets q (at + i) (map f (drop i ws)) ≡ sets q' at (map f ws)
    → set q (at + m) 0 ≡ sets q' at (map f ws ++ (0 ∷ []))
all-written f ws q q' at i m em h e =
    let same : q ≡ sets q' at (map f ws) = sym (rw (drop_of_length-le ws h) refl) ∙ e in
    rw (same, em, ← length-map ws f) (sym (sets-append (map f ws) (0 ∷ []) q' at))

pub first-written : (f : ℕ → ℕ) (ws q : List ℕ) (at : ℕ) → sets q (at + 0) (map f (drop 0 ws)) ≡ sets q at (map f ws)
first-written f ws q at = ap (λ i. sets q i (map f ws)) (add-zero at)

-- ---- a turn of the scan for one term

module _ (ws : List ℕ) (i depth : ℕ) (p : i < length ws) (k : Kind) (e : k ≡ kind_of desk (get_or ws i 0)) (some-depth : depth ≡ 0 → ⊥) where
  goes_by : (j : Kind) → k ≡ j → goes_on (λ d. closing d (drop (i + 1) ws)) (goes depth j) ≡ closing depth (drop i ws)
  goes_by j g = rw (add-one i) (goes_on_lem ws i depth p some-depth j (sym g ∙ e))

  pub closes-end : k ≡ End → closing (depth - 1) (drop (i + 1) ws) ≡ closing depth (drop i ws)
  closes-end g = goes_by End g

  pub closes-same : Among (1 ∷ 2 ∷ []) k → closing depth (drop (i + 1) ws) ≡ closing depth (drop i ws)
  closes-same o =
      each-kind (1 ∷ 2 ∷ []) (λ j. closing depth (drop (i + 1) ws) ≡ goes_on (λ d. closing d (drop (i + 1) ws)) (goes depth j)) tt (λ x. refl) (λ x. refl) tt tt tt tt tt tt tt tt tt k o ∙ goes_by k refl

  pub closes-more : Among (3 ∷ 4 ∷ []) k → closing (depth + 1) (drop (i + 1) ws) ≡ closing depth (drop i ws)
  closes-more o =
      ap (λ d. closing d (drop (i + 1) ws)) (add-one depth)
      ∙ each-kind (3 ∷ 4 ∷ []) (λ j. closing (suc depth) (drop (i + 1) ws) ≡ goes_on (λ d. closing d (drop (i + 1) ws)) (goes depth j)) tt tt tt (λ x. refl) (λ x. refl) tt tt tt tt tt tt tt k o ∙ goes_by k refl

  pub closes-not : Among (5 ∷ 6 ∷ 7 ∷ 8 ∷ 9 ∷ 10 ∷ 11 ∷ []) k → false ≡ closing depth (drop i ws)
  closes-not o =
      each-kind (5 ∷ 6 ∷ 7 ∷ 8 ∷ 9 ∷ 10 ∷ 11 ∷ []) (λ j. false ≡ goes_on (λ d. closing d (drop (i + 1) ws)) (goes depth j)) tt tt tt tt tt refl refl refl refl refl refl refl k o ∙ goes_by k refl

pub closes-done : (ws : List ℕ) (i depth : ℕ) → length ws ≤ i → eqb depth 0 ≡ closing depth (drop i ws)
unfolding closing
closes-done ws i depth h = rw (drop_of_length-le ws h)

-- ---- the first word of a pattern

module _ (ws : List ℕ) (p : 0 < length ws) (k : Kind) (e : k ≡ kind_of desk (get_or ws 0 0)) where
  abbrev starts : Kind → Bool
  starts j = goes_on (λ d. closing d (drop 1 ws)) (begins j)

  begins-by : starts k ≡ one_term ws
  unfolding one_term
  begins-by = on ws p e
    where
      on : (ws : List ℕ) → 0 < length ws → k ≡ kind_of desk (get_or ws 0 0) → goes_on (λ d. closing d (drop 1 ws)) (begins k) ≡ one_term ws
      on [] p e = absurd (omega arith)
      on (w ∷ ws) p e = ap (λ k. goes_on (λ d. closing d ws) (begins k)) e

  pub one-blank : {x : TermVar} → k ≡ Term x → closing 0 (drop 1 ws) ≡ one_term ws
  one-blank {x} g = ap starts (sym g) ∙ begins-by

  pub one_name : Among (3 ∷ 4 ∷ []) k → closing 1 (drop 1 ws) ≡ one_term ws
  one_name o = each-kind (3 ∷ 4 ∷ []) (λ j. closing 1 (drop 1 ws) ≡ starts j) tt tt tt (λ x. refl) (λ x. refl) tt tt tt tt tt tt tt k o ∙ begins-by

  pub no-term : Among (0 ∷ 2 ∷ 5 ∷ 6 ∷ 7 ∷ 8 ∷ 9 ∷ 10 ∷ 11 ∷ []) k → false ≡ one_term ws
  no-term o = each-kind (0 ∷ 2 ∷ 5 ∷ 6 ∷ 7 ∷ 8 ∷ 9 ∷ 10 ∷ 11 ∷ []) (λ j. false ≡ starts j) refl tt (λ x. refl) tt tt refl refl refl refl refl refl refl k o ∙ begins-by

pub nothing-no-term : (ws : List ℕ) → length ws ≡ 0 → false ≡ one_term ws
unfolding one_term
nothing-no-term [] e = refl
nothing-no-term (w ∷ ws) e = absurd (omega arith)
