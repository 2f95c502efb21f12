-- What a search gives back is the hedge itself, taken apart: the terms up to one that holds q, and what stands around q; and their words.
use mathlib.Core.Path.{◌≡◌, refl, sym, ap, ◌∙◌}
use mathlib.Core.Bool.{Bool, true, false}
use mathlib.Core.List.{List, [], ◌∷◌, ◌++◌, append_assoc}
use mathlib.Core.Option.{Option, none, some}
use Prim.Native.Nat.{ℕ, ◌+◌}
use native.Mathlib.Omega.{arith}
use lib.Dec.{eqb}
use lib.ListN.{length, drop, length-append}
use lib.Seq.{slice}
use borrow.Author.Tests.{eqb-true}
use Rattle.language.specs.declared.HedgeVar.{HedgeVar}
use Rattle.language.specs.Kinds.{pick}
use Rattle.language.specs.Trees.{Hedge, ε, tvar, hvar, node, ◌⧺◌, hv, holds}
use Rattle.language.specs.Writing.{hedge_words}
use Rattle.rules.specs.Looks.{onto, around, inside, up_to}
use Rattle.views.specs.Looks.{body_words}
use Rattle.views.specs.Standing.{Stands}
use Rattle.words.proofs.Parts.{part_of, drop_of}
use Rattle.views.proofs.Words.{words-join}

-- the two parts, joined by `glue`, are h
abbrev Joins : (Hedge → Hedge → Hedge) → Hedge → Option (Hedge × Hedge) → Type 0
Joins glue h m = (a b : Hedge) → m ≡ some (a, b) → h ≡ glue a b

abbrev glued : (Hedge → Hedge → Hedge) → Option (Hedge × Hedge) → Hedge
glued glue none = ε
glued glue (some c) = glue c.0 c.1

-- an element put before both
joins-onto : (glue : Hedge → Hedge → Hedge) (g r : Hedge) (m : Option (Hedge × Hedge)) → ((a b : Hedge) → glue (g ⧺ a) b ≡ g ⧺ glue a b) → Joins glue r m → Joins glue (g ⧺ r) (onto (λ h. g ⧺ h) m)
joins-onto glue g r none law j a b e = absurd (let y : ◌≡◌ {A = ℕ} 0 1 = cc in omega arith)
joins-onto glue g r (some c) law j a b e = ap (λ h. g ⧺ h) (j c.0 c.1 refl) ∙ sym (law c.0 c.1) ∙ ap (glued glue) e

joins-either : (glue : Hedge → Hedge → Hedge) (h : Hedge) (c : Bool) (a b : Hedge) (m : Option (Hedge × Hedge)) → (c ≡ true → h ≡ glue a b) → Joins glue h m → Joins glue h (pick c (some (a, b)) m)
joins-either glue h true a b m e j x y d = e refl ∙ ap (glued glue) d
joins-either glue h false a b m e j x y d = j x y d

-- ---- the terms up to one that holds q

pub up_to-whole : (q : HedgeVar) (h T rest : Hedge) → up_to q h ≡ some (T, rest) → h ≡ T ⧺ rest
up_to-whole q ε = λ a b e. absurd (let y : ◌≡◌ {A = ℕ} 0 1 = cc in omega arith)
up_to-whole q (tvar x r) = joins-onto (λ a b. a ⧺ b) (tvar x ε) r (up_to q r) (λ a b. refl) (up_to-whole q r)
up_to-whole q (hvar p r) = λ a b e. absurd (let y : ◌≡◌ {A = ℕ} 0 1 = cc in omega arith)
up_to-whole q (node f c r) =
    joins-either (λ a b. a ⧺ b) (node f c r) (holds (hv q) c) ε (node f c r) (onto (node f c) (up_to q r)) (λ _. refl)
    (joins-onto (λ a b. a ⧺ b) (node f c ε) r (up_to q r) (λ a b. refl) (up_to-whole q r))

-- ---- what stands around q

around-whole : (q : HedgeVar) (h a b : Hedge) → around q h ≡ some (a, b) → h ≡ a ⧺ hvar q b
around-whole q ε = λ a b e. absurd (let y : ◌≡◌ {A = ℕ} 0 1 = cc in omega arith)
around-whole q (tvar x r) = joins-onto (λ a b. a ⧺ hvar q b) (tvar x ε) r (around q r) (λ a b. refl) (around-whole q r)
around-whole q (hvar p r) =
    joins-either (λ a b. a ⧺ hvar q b) (hvar p r) (eqb q.0 p.0) ε r (onto (hvar p) (around q r)) (λ e. ap (λ n. hvar (record { 0 = n }) r) (sym (eqb-true q.0 p.0 e)))
    (joins-onto (λ a b. a ⧺ hvar q b) (hvar p ε) r (around q r) (λ a b. refl) (around-whole q r))
around-whole q (node f c r) = joins-onto (λ a b. a ⧺ hvar q b) (node f c ε) r (around q r) (λ a b. refl) (around-whole q r)

pub inside-whole : (q : HedgeVar) (h a b : Hedge) → inside q h ≡ some (a, b) → h ≡ a ⧺ hvar q b
inside-whole q ε = λ a b e. absurd (let y : ◌≡◌ {A = ℕ} 0 1 = cc in omega arith)
inside-whole q (tvar x r) = joins-onto (λ a b. a ⧺ hvar q b) (tvar x ε) r (around q r) (λ a b. refl) (around-whole q r)
inside-whole q (hvar p r) = joins-onto (λ a b. a ⧺ hvar q b) (hvar p ε) r (around q r) (λ a b. refl) (around-whole q r)
inside-whole q (node f c r) = joins-onto (λ a b. a ⧺ hvar q b) (node f c ε) r (around q r) (λ a b. refl) (around-whole q r)

-- the words before q, and those behind it to the end of the hedge
module _ {k : List ℕ} {at i to : ℕ} (q : HedgeVar) {h : Hedge} {beyond : List ℕ} (s : Stands k at h beyond) (t : to ≡ at + length (hedge_words h)) {a b : Hedge} (e : inside q h ≡ some (a, b)) (p : i ≡ at + length (body_words a)) where
  words : hedge_words h ≡ body_words a ++ ((2000 + q.0) ∷ hedge_words b)
  words = ap hedge_words (inside-whole q h a b e) ∙ words-join a (hvar q b)

  here : drop at k ≡ body_words a ++ ((2000 + q.0) ∷ (hedge_words b ++ beyond))
  here = s.here ∙ ap (λ w. w ++ beyond) words ∙ append_assoc (body_words a) ((2000 + q.0) ∷ hedge_words b) beyond

  pub inside-before : slice at i k ≡ body_words a
  inside-before = part_of k at i (body_words a) ((2000 + q.0) ∷ (hedge_words b ++ beyond)) here p

  pub inside-behind : slice (i + 1) to k ≡ hedge_words b
  inside-behind =
      let m = drop_of k at i (body_words a) ((2000 + q.0) ∷ (hedge_words b ++ beyond)) here p in
      let n = drop_of k i (i + 1) ((2000 + q.0) ∷ []) (hedge_words b ++ beyond) m refl in
      let l = ap length words ∙ length-append (body_words a) ((2000 + q.0) ∷ hedge_words b) in
      part_of k (i + 1) to (hedge_words b) beyond n (omega arith)
