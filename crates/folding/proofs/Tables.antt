-- The table of the literals passed: the chains have the first place of each, and nothing else.
use mathlib.Core.Path.{◌≡◌, refl, sym, ap, ◌∙◌, subst}
use mathlib.Core.Bool.{Bool, true, false, false≢true}
use mathlib.Core.List.{List, [], ◌∷◌, ◌++◌}
use mathlib.Core.Logic.{◌⊎◌, inl, inr}
use Prim.Native.Nat.{ℕ, suc, ◌+◌, ◌/◌, ◌<◌}
use native.Mathlib.Omega.{arith}
use lib.Dec.{eqb}
use lib.ListN.{length, get_or, set}
use lib.Seq.{get_or-set_same, get_or-set_other}
use borrow.Author.Tests.{eqb-true, eqb-false}
use Rattle.language.specs.Trees.{Literal, Conj}
use Rattle.language.specs.Writing.{literal_words, conj_words}
use Rattle.folding.specs.Twice.{again, until_same}
use Rattle.folding.specs.Chains.{bucket, Held, here, further, Falls, head_of}
use Rattle.folding.proofs.Twice.{again-more, again-last, again-either, until-more, until-last}
use Rattle.folding.proofs.Chains.{held_none, held-set, held-unset}

-- q is the first place of some literal
pub record First (done : Conj) (q : ℕ) : Type 0 where
  pub l : Literal
  pub among : again l done ≡ true
  pub place : q ≡ until_same l done

pub record Table (heads next : List ℕ) (done : Conj) : Type 0 where
  pub only : (h q : ℕ) → Held next (get_or heads h 0) q → First done q
  pub all : (l : Literal) → again l done ≡ true → Held next (head_of heads (literal_words l)) (until_same l done)

pub table_empty : (heads next : List ℕ) → ((h : ℕ) → get_or heads h 0 ≡ 0) → Table heads next []
table_empty heads next z = record { only = λ h q r. absurd (held_none (z h) r); all = λ l e. absurd (false≢true e) }

first_more : {done : Conj} {q : ℕ} (l : Literal) → First done q → First (done ++ (l ∷ [])) q
first_more {done} l f = record { l = f.l; among = again-more f.l done (l ∷ []) f.among; place = f.place ∙ sym (until-more f.l done (l ∷ []) f.among) }

-- ---- a literal that is there already

pub table-old : {heads next : List ℕ} {done : Conj} (l : Literal) → Table heads next done → again l done ≡ true → Table heads next (done ++ (l ∷ []))
table-old {heads} {next} {done} l t e = record {
  only = λ h q r. first_more l (t.only h q r);
  all = λ m a.
      let b : again m done ≡ true = known m (again-either m done l a) in
      subst (Held next (head_of heads (literal_words m))) (sym (until-more m done (l ∷ []) b)) (t.all m b);
}
  where
    known : (m : Literal) → (again m done ≡ true) ⊎ (m ≡ l) → again m done ≡ true
    known m (inl b) = b
    known m (inr d) = ap (λ x. again x done) d ∙ e

-- ---- a new one, at the head of its chain

module _ {heads next : List ℕ} {done : Conj} (l : Literal) (t : Table heads next done) (i h : ℕ) (f : Falls heads next i) (n : i / 3 < length next) (b : h < length heads)
    (e : again l done ≡ false) (p : i ≡ length (conj_words done)) (c : h ≡ bucket (literal_words l)) where
  abbrev heads' : List ℕ
  heads' = set heads h (i + 1)

  abbrev next' : List ℕ
  next' = set next (i / 3) (get_or heads h 0)

  old-place : (g q : ℕ) → Held next' (get_or heads g 0) q → First (done ++ (l ∷ [])) q
  old-place g q r = first_more l (t.only g q (held-unset next f.falls i (get_or heads h 0) (f.low g) r))

  first-place : First (done ++ (l ∷ [])) i
  first-place = record { l = l; among = again-last l done; place = p ∙ sym (until-last l done e) }

  in-chain : (x q : ℕ) → x ≡ i + 1 → Held next' x q → First (done ++ (l ∷ [])) q
  in-chain x q d (here s) = subst (First (done ++ (l ∷ []))) (let z : i ≡ q = omega arith in z) first-place
  in-chain x q d (further m s r) =
      let z : m ≡ i = omega arith in
      old-place h q (subst (λ y. Held next' y q) (ap (λ y. get_or next' (y / 3) 0) z ∙ get_or-set_same next (i / 3) (get_or heads h 0) 0 n) r)

  only-new : (g q : ℕ) → Held next' (get_or heads' g 0) q → First (done ++ (l ∷ [])) q
  only-new g q r = go (eqb g h) refl
    where
      go : (t : Bool) → eqb g h ≡ t → First (done ++ (l ∷ [])) q
      go true d = in-chain _ q (ap (λ y. get_or heads' y 0) (eqb-true g h d) ∙ get_or-set_same heads h (i + 1) 0 b) r
      go false d = old-place g q (subst (λ y. Held next' y q) (get_or-set_other heads h g (i + 1) 0 (eqb-false g h d)) r)

  -- what was in a chain still is
  kept : (g q : ℕ) → Held next (get_or heads g 0) q → Held next' (get_or heads' g 0) q
  kept g q r = go (eqb g h) refl
    where
      r' : Held next' (get_or heads g 0) q
      r' = held-set next f.falls i (get_or heads h 0) (f.low g) r

      go : (t : Bool) → eqb g h ≡ t → Held next' (get_or heads' g 0) q
      go true d =
          further i (ap (λ y. get_or heads' y 0) (eqb-true g h d) ∙ get_or-set_same heads h (i + 1) 0 b ∙ (let z : i + 1 ≡ suc i = omega arith in z))
          (subst (λ y. Held next' y q) (ap (λ y. get_or heads y 0) (eqb-true g h d) ∙ sym (get_or-set_same next (i / 3) (get_or heads h 0) 0 n)) r')
      go false d = subst (λ y. Held next' y q) (sym (get_or-set_other heads h g (i + 1) 0 (eqb-false g h d))) r'

  new-head : Held next' (get_or heads' h 0) i
  new-head = here (get_or-set_same heads h (i + 1) 0 b ∙ (let z : i + 1 ≡ suc i = omega arith in z))

  all_new : (m : Literal) → (again m done ≡ true) ⊎ (m ≡ l) → Held next' (head_of heads' (literal_words m)) (until_same m (done ++ (l ∷ [])))
  all_new m (inl a) = subst (Held next' (head_of heads' (literal_words m))) (sym (until-more m done (l ∷ []) a)) (kept (bucket (literal_words m)) (until_same m done) (t.all m a))
  all_new m (inr d) =
      subst (λ x. Held next' (head_of heads' (literal_words x)) (until_same x (done ++ (l ∷ [])))) (sym d)
      (subst (λ g. Held next' (get_or heads' g 0) (until_same l (done ++ (l ∷ [])))) c
      (subst (Held next' (get_or heads' h 0)) (p ∙ sym (until-last l done e)) new-head))

  pub table-new : Table (set heads h (i + 1)) (set next (i / 3) (get_or heads h 0)) (done ++ (l ∷ []))
  table-new = record { only = only-new; all = λ m a. all_new m (again-either m done l a) }
