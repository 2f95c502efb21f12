-- One literal more in the table: whether it was there already, and where first.
use mathlib.Core.Path.{◌≡◌, refl, sym, ap, ap₂, ◌∙◌, subst}
use mathlib.Core.Bool.{Bool, true, false, true≢false}
use mathlib.Core.List.{List, [], ◌∷◌, ◌++◌, append_assoc}
use Prim.Native.Nat.{ℕ, zero, suc, ◌+◌, ◌*◌, ◌-◌, ◌/◌, ◌<◌, ◌≤◌, min}
use native.Mathlib.Nat.{min-eq_left}
use native.Mathlib.Omega.{arith}
use lib.Dec.{eqb}
use lib.ListN.{length, get_or, set, replicate, length-set, length-append}
use lib.Seq.{slice, get_or-set_same, get_or-set_other}
use borrow.Author.Tests.{eqb-true, eqb-false}
use Rattle.language.specs.Limits.{desk}
use Rattle.language.specs.Kinds.{pick}
use Rattle.language.specs.Trees.{Literal, Conj, same_literal}
use Rattle.language.specs.Writing.{literal_words, conj_words}
use Rattle.language.specs.Fine.{fine_conj}
use Rattle.rules.proofs.FineParts.{fine-split}
use Rattle.words.proofs.Parts.{drop_of}
use Rattle.views.specs.Standing.{LiteralAt}
use Rattle.views.proofs.Words.{words_append}
use Rattle.folding.specs.Twice.{again, until_same}
use Rattle.folding.specs.Chains.{bucket, Held, Falls, same_at, head_of, Sought, met, unmet, Noted, old, new}
use Rattle.folding.proofs.Same.{same_refl, same-is, literal-words, same_at_lem}
use Rattle.folding.proofs.Twice.{cut, twice_from, twice-within, twice-more}
use Rattle.folding.proofs.Chains.{held_below, in_row}
use Rattle.folding.proofs.Tables.{First, Table, table-old, table-new}

-- ---- what is found in the chain of the literal's words, and stored

module _ (k heads next : List ℕ) (at end r h x : ℕ) (b : h ≡ bucket (slice at end k)) (e : x ≡ get_or heads h 0) (s : Sought k next x at end r) where
  head : x ≡ head_of heads (slice at end k)
  head = e ∙ ap (λ g. get_or heads g 0) b

  pub note-old : r < length k → Noted k heads next at end r heads next
  note-old p = go s
    where
      go : Sought k next x at end r → Noted k heads next at end r heads next
      go (met a t) = old (subst (λ n. Held next n r) head a) t refl refl
      go (unmet z u) = absurd (omega arith)

  pub note-new : length k ≤ r → at < length k → Falls heads next at → h < length heads → at / 3 < length next → (y v : ℕ) → y ≡ at + 1 → v ≡ x
      → Noted k heads next at end r (set heads h y) (set next (at / 3) v)
  note-new p q f i n y v ey ev = go s
    where
      go : Sought k next x at end r → Noted k heads next at end r (set heads h y) (set next (at / 3) v)
      go (met a t) = absurd (let z = held_below next f.falls a in let w = f.low h in omega arith)
      go (unmet z u) =
          new z (λ q a. u q (subst (λ n. Held next n q) (sym head) a)) (subst (λ g. g < length heads) b i) n (ap₂ (set heads) b ey) (ap (set next (at / 3)) (ev ∙ head))

-- ---- the places fall as before

pub zeros : (n h : ℕ) → ◌≡◌ {A = ℕ} (get_or (replicate n 0) h 0) 0
zeros zero h = refl
zeros (suc n) zero = refl
zeros (suc n) (suc h) = zeros n h

pub falls-empty : (heads next : List ℕ) (at : ℕ) → length heads ≡ 1024 → length next ≡ desk.question / 3 → ((h : ℕ) → get_or heads h 0 ≡ 0) → ((q : ℕ) → get_or next q 0 ≡ 0) → Falls heads next at
falls-empty heads next at p q f g = record { chains = p; room = q; low = λ h. let z = f h in omega arith; falls = λ q. let z = g q in omega arith }

set-low : (l : List ℕ) (h x b : ℕ) → ((g : ℕ) → get_or l g 0 ≤ b) → x ≤ b → h < length l → (g : ℕ) → get_or (set l h x) g 0 ≤ b
set-low l h x b f p n g = go (eqb g h) refl
  where
    go : (t : Bool) → eqb g h ≡ t → get_or (set l h x) g 0 ≤ b
    go true d = let z = ap (λ y. get_or (set l h x) y 0) (eqb-true g h d) ∙ get_or-set_same l h x 0 n in omega arith
    go false d = let z = get_or-set_other l h g x 0 (eqb-false g h d) in let y = f g in omega arith

set-falls : (l : List ℕ) (i x : ℕ) → ((q : ℕ) → get_or l q 0 ≤ 3 * q) → x ≤ 3 * i → i < length l → (q : ℕ) → get_or (set l i x) q 0 ≤ 3 * q
set-falls l i x f p n q = go (eqb q i) refl
  where
    go : (t : Bool) → eqb q i ≡ t → get_or (set l i x) q 0 ≤ 3 * q
    go true d = let e = eqb-true q i d in let z = ap (λ y. get_or (set l i x) y 0) e ∙ get_or-set_same l i x 0 n in omega arith
    go false d = let z = get_or-set_other l i q x 0 (eqb-false q i d) in let y = f q in omega arith

pub falls-on : {k heads next heads' next' : List ℕ} {at end r : ℕ} → Noted k heads next at end r heads' next' → at + 3 ≤ end → Falls heads next at → Falls heads' next' end
falls-on (old r s d e) h f = rw (d, e) (record { chains = f.chains; room = f.room; low = λ g. let z = f.low g in omega arith; falls = f.falls })
falls-on {k} {heads} {next} {heads'} {next'} {at} {end} (new z u b n d e) h f =
    rw (d, e)
    (record {
      chains = length-set heads _ (at + 1) ∙ f.chains;
      room = length-set next (at / 3) _ ∙ f.room;
      low = set-low heads (bucket _) (at + 1) (end - 2) (λ g. let z = f.low g in omega arith) (omega arith) b;
      falls = set-falls next (at / 3) (head_of heads _) f.falls (let y = f.low (bucket (slice at end k)) in let z = in_row at in omega arith) n;
    })

-- ---- the literal at `at`, those of `done` before it

pub literal-within : {k : List ℕ} {at : ℕ} {before : Conj} {l : Literal} {behind : Conj} → LiteralAt k at before l behind → (end : ℕ) → end ≡ at + length (literal_words l) → end ≤ length k
literal-within {k} {at} {before} {l} {behind} s end d =
    let a = ap length s.words ∙ length-append (conj_words before) (literal_words l ++ conj_words behind) in
    let b = length-append (literal_words l) (conj_words behind) in
    let p = s.place in
    omega arith

module _ {k : List ℕ} {at : ℕ} {done : Conj} {l : Literal} {rest : Conj} (s : LiteralAt k at done l rest) (end : ℕ) (d : end ≡ at + length (literal_words l)) where
  -- the words compared at the first place of an earlier one
  earlier : (m : Literal) → again m done ≡ true → (q : ℕ) → q ≡ until_same m done → same_at k at end q ≡ same_literal l m
  earlier m a q e =
      let x = cut m done a in
      let g = fine-split desk x.before (m ∷ x.behind) (subst (fine_conj desk) x.whole s.fine_before) in
      let ws = conj_words x.before in
      let us = literal_words m in
      let vs = conj_words x.behind in
      let ts = literal_words l ++ conj_words rest in
      same_at_lem s end d q m g.1.0 (vs ++ ts)
      (drop_of k 0 q ws ((us ++ vs) ++ ts) (s.words ∙ ap (λ w. w ++ ts) (ap conj_words x.whole ∙ words_append x.before (m ∷ x.behind)) ∙ append_assoc ws (us ++ vs) ts)
      (let z = x.place in omega arith)
      ∙ append_assoc us vs ts)

  module _ {heads next : List ℕ} (t : Table heads next done) (f : Falls heads next at) (best : ℕ) (b : best ≡ twice_from (length k) 0 done) where
    within : 0 + length (conj_words done) ≤ length k
    within = let z = ap length s.words ∙ length-append (conj_words done) (literal_words l ++ conj_words rest) in omega arith

    -- it was there
    was-there : (r : ℕ) → First done r → same_at k at end r ≡ true → (again l done ≡ true) × (r ≡ until_same l done)
    was-there r x e =
        let q : l ≡ x.l = same-is l x.l (sym (earlier x.l x.among r x.place) ∙ e) in
        (ap (λ m. again m done) q ∙ x.among, x.place ∙ ap (λ m. until_same m done) (sym q))

    was-not : ((q : ℕ) → Held next (head_of heads (literal_words l)) q → same_at k at end q ≡ false) → (a : Bool) → again l done ≡ a → again l done ≡ false
    was-not u true e = absurd (true≢false (sym (same_refl l) ∙ sym (earlier l e _ refl) ∙ u (until_same l done) (t.all l e)))
    was-not u false e = e

    pub noted : (r : ℕ) (heads' next' : List ℕ) → Noted k heads next at end r heads' next'
        → Table heads' next' (done ++ (l ∷ [])) × (min best r ≡ twice_from (length k) 0 (done ++ (l ∷ [])))
    noted r heads' next' (old h e p q) =
        let (a, x) = was-there r (t.only _ r h) e in (
          rw (p, q) (table-old l t a),
          ap (λ n. min n r) b ∙ ap (min (twice_from (length k) 0 done)) (x ∙ (let z : until_same l done ≡ 0 + until_same l done = omega arith in z))
              ∙ sym (twice-more (length k) 0 done l within ∙ ap (λ t. pick t (min (twice_from (length k) 0 done) (0 + until_same l done)) (twice_from (length k) 0 done)) a),
        )
    noted r heads' next' (new z u i n p q) =
        let w = literal-words s end d in
        let a = was-not (λ q h. u q (subst (λ ws. Held next (head_of heads ws) q) (sym w) h)) _ refl in (
          rw (p, q) (table-new l t at (bucket _) f n i a s.place (ap bucket w)),
          ap (min best) z ∙ min-eq_left (let y = (twice-within (length k) 0 done within).1 in omega arith) ∙ b
              ∙ sym (twice-more (length k) 0 done l within ∙ ap (λ t. pick t (min (twice_from (length k) 0 done) (0 + until_same l done)) (twice_from (length k) 0 done)) a),
        )
