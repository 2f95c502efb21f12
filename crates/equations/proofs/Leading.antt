-- An equation whose left side begins with a hedge variable: what each test says of the first rule.
use Prim.Native.Nat.{ℕ, ◌+◌, ◌<◌}
use native.Mathlib.Omega.{arith}
use mathlib.Core.Path.{◌≡◌, refl, sym, ap, ◌∙◌, subst}
use mathlib.Core.Bool.{Bool, true, false, not, ◌&&◌, ◌||◌, false≢true}
use mathlib.Core.List.{List}
use borrow.Author.Tests.{eq-eqb, ne_eqb}
use lib.Dec.{ltb}
use lib.Seq.{slice}
use Rattle.language.specs.declared.TermVar.{TermVar}
use Rattle.language.specs.declared.HedgeVar.{HedgeVar}
use Rattle.language.specs.declared.Name.{Name}
use Rattle.language.specs.Limits.{desk}
use Rattle.language.specs.Kinds.{pick}
use Rattle.language.specs.declared.Signature.{Signature}
use Rattle.language.specs.Trees.{Hedge, ε, tvar, hvar, node, Conj, eq_h, same_words, hv, holds, in_conj}
use Rattle.rules.specs.Looks.{empty, has_term, all_terms, inside, up_to, lone, lone_h}
use Rattle.rules.specs.Rules.{too}
use Rattle.rules.specs.Solved.{is_some}
use Rattle.rules.specs.Places.{at_r1, at_f2, at_del1, at_del3, at_e2, at_e3, at_e4, no_rule}
use Rattle.views.specs.declared.Look.TheVariants.{Empty, Term, Run, Node}
use Rattle.views.specs.declared.Side.{Side}
use Rattle.views.specs.Looks.{look_of}
use Rattle.views.specs.Views.{Sided}
use Rattle.words.specs.Spans.{member}
use Rattle.views.proofs.Members.{eqb-sym, member-hedge}
use Rattle.views.proofs.Sides.{side-whole}
use Rattle.counts.specs.Tables.{count_at, Beside}
use Rattle.counts.proofs.Own.{Own, among-others, own-run, own-turned}
use Rattle.equations.specs.Rank.{lonely, leading, rank_of}
use Rattle.equations.specs.Ranked.{Begins}
use Rattle.equations.proofs.Looked.{at-empty, at-term, at-run, at-node}

-- a hedge variable that the equation has once stands elsewhere
pub run-elsewhere : {table : List ℕ} {K : Conj} {l r : Hedge} → Beside table K l r → (q : HedgeVar) → q.0 < desk.each → Own (hv q) l r → {x : ℕ} → x ≡ 2000 + q.0
    → ltb 1 (count_at table x) ≡ in_conj (hv q) K
run-elsewhere b q f o e = among-others (hv q) b f o e

pub lone-run : (q : HedgeVar) (s r : Hedge) → empty s ≡ true → holds (hv q) r ≡ false → Own (hv q) (hvar q s) r
lone-run q ε r e h = own-run q r h
lone-run q (tvar x s) r e h = absurd (false≢true e)
lone-run q (hvar x s) r e h = absurd (false≢true e)
lone-run q (node f c s) r e h = absurd (false≢true e)

pub run-empty : (q : HedgeVar) (s r : Hedge) → empty s ≡ true → Empty ≡ look_of r → Own (hv q) (hvar q s) r
run-empty q s r e d = at-empty (λ m. Own (hv q) (hvar q s) m) r d (lone-run q s ε e refl)

or_left : (a b : Bool) → (a || b) ≡ false → a ≡ false
or_left true b e = e
or_left false b e = refl

-- the other variable, where it is one
pub other-run : (l : Hedge) (w : HedgeVar) (t r : Hedge) → r ≡ hvar w t → empty t ≡ true → holds (hv w) l ≡ false → Own (hv w) l r
other-run l w t r i e h = subst (λ m. Own (hv w) l m) (sym i) (own-turned (lone-run w t l e h))

pub not-other : (q w : HedgeVar) (s t : Hedge) → empty s ≡ true → holds (hv q) (hvar w t) ≡ false → holds (hv w) (hvar q s) ≡ false
not-other q w s t e h = go s e
  where
    i : eq_h w q ≡ false
    i = eqb-sym w.0 q.0 ∙ or_left (eq_h q w) (holds (hv q) t) h

    go : (s : Hedge) → empty s ≡ true → holds (hv w) (hvar q s) ≡ false
    go ε e = ap (λ b. b || false) i
    go (tvar x s) e = absurd (false≢true e)
    go (hvar x s) e = absurd (false≢true e)
    go (node f c s) e = absurd (false≢true e)

-- and in a side
pub run-held : {k : List ℕ} {s : Side} {h : Hedge} → Sided k s h → (q : HedgeVar) → q.0 < desk.each → {p : ℕ} → p ≡ 2000 + q.0 → member p (slice s.from s.to k) ≡ holds (hv q) h
run-held {k} {s} {h} v q b {p} e = ap (λ z. member z (slice s.from s.to k)) e ∙ ap (member (2000 + q.0)) (side-whole v) ∙ member-hedge (hv q) b h v.fine

-- ---- the right side is one hedge variable

lone-too : (q : HedgeVar) (t : Hedge) (K : Conj) → empty t ≡ true → too hv (lone q t) K ≡ in_conj (hv q) K
lone-too q ε K e = refl
lone-too q (tvar x t) K e = absurd (let z : ◌≡◌ {A = ℕ} 0 1 = cc in omega arith)
lone-too q (hvar p t) K e = absurd (let z : ◌≡◌ {A = ℕ} 0 1 = cc in omega arith)
lone-too q (node f c t) K e = absurd (let z : ◌≡◌ {A = ℕ} 0 1 = cc in omega arith)

not-lone : (q : HedgeVar) (t : Hedge) (K : Conj) → empty t ≡ false → too hv (lone q t) K ≡ true
not-lone q ε K e = absurd (let z : ◌≡◌ {A = ℕ} 0 1 = cc in omega arith)
not-lone q (tvar x t) K e = refl
not-lone q (hvar p t) K e = refl
not-lone q (node f c t) K e = refl

module _ (K : Conj) (r : Hedge) where
  pub too-empty : Empty ≡ look_of r → true ≡ too hv (lone_h r) K
  too-empty e = at-empty (λ m. true ≡ too hv (lone_h m) K) r e refl

  pub too-term : {w : TermVar} {b : Bool} → Term w b ≡ look_of r → true ≡ too hv (lone_h r) K
  too-term e = at-term (λ m. true ≡ too hv (lone_h m) K) r e (λ t _. refl)

  pub too-node : {w : Name} {b c : Bool} → Node w b c ≡ look_of r → true ≡ too hv (lone_h r) K
  too-node e = at-node (λ m. true ≡ too hv (lone_h m) K) r e (λ f d t _ _ _. refl)

-- ---- lonely and leading, by single tests

module _ (K : Conj) (q : HedgeVar) (r : Hedge) where
  pub lonely-fails : holds (hv q) r ≡ true → has_term r ≡ true → at_f2 ≡ lonely K q r
  lonely-fails a b = rw (a, b)

  pub lonely-inside : holds (hv q) r ≡ true → has_term r ≡ false → is_some (inside q r) ≡ true → at_del3 ≡ lonely K q r
  lonely-inside a b c = rw (a, b, c)

  pub lonely-open : holds (hv q) r ≡ true → has_term r ≡ false → is_some (inside q r) ≡ false → no_rule ≡ lonely K q r
  lonely-open a b c = rw (a, b, c)

  pub lonely-solves : holds (hv q) r ≡ false → in_conj (hv q) K ≡ true → too hv (lone_h r) K ≡ true → at_e2 ≡ lonely K q r
  lonely-solves a b c = rw (a, b, c)

  pub lonely-rests : holds (hv q) r ≡ false → in_conj (hv q) K ≡ true → too hv (lone_h r) K ≡ false → no_rule ≡ lonely K q r
  lonely-rests a b c = rw (a, b, c)

  pub lonely-nowhere : holds (hv q) r ≡ false → in_conj (hv q) K ≡ false → no_rule ≡ lonely K q r
  lonely-nowhere a b = rw (a, b)

module _ (q : HedgeVar) (r : Hedge) where
  pub leading-cuts : (all_terms r && not (holds (hv q) r)) ≡ true → at_e3 ≡ leading q r
  leading-cuts a = rw a

  pub leading-up-to : (all_terms r && not (holds (hv q) r)) ≡ false → is_some (up_to q r) ≡ true → at_e4 ≡ leading q r
  leading-up-to a b = rw (a, b)

  pub leading-open : (all_terms r && not (holds (hv q) r)) ≡ false → is_some (up_to q r) ≡ false → no_rule ≡ leading q r
  leading-open a b = rw (a, b)

  pub terms-held : all_terms r ≡ true → holds (hv q) r ≡ true → false ≡ (all_terms r && not (holds (hv q) r))
  terms-held a b = rw (a, b)

  pub terms-free : all_terms r ≡ true → holds (hv q) r ≡ false → true ≡ (all_terms r && not (holds (hv q) r))
  terms-free a b = rw (a, b)

  pub terms-not : all_terms r ≡ false → false ≡ (all_terms r && not (holds (hv q) r))
  terms-not a = rw a

-- ---- two hedge variables in front

self : (q : HedgeVar) → eq_h q q ≡ true
self q = eq-eqb q.0 q.0 refl

module _ (σ : Signature) (K : Conj) (q : HedgeVar) (s t : Hedge) where
  struck-words : same_words (hvar q s) (hvar q t) ≡ same_words s t
  struck-words = ap (λ z. z && same_words s t) (self q)

  pub struck-same : same_words (hvar q s) (hvar q t) ≡ true → at_r1 ≡ rank_of σ K (hvar q s) (hvar q t)
  struck-same e = let d : same_words s t ≡ true = sym struck-words ∙ e in rw (self q, d)

  pub struck-fails : same_words (hvar q s) (hvar q t) ≡ false → empty s ≡ true → has_term (hvar q t) ≡ true → at_f2 ≡ rank_of σ K (hvar q s) (hvar q t)
  struck-fails e a b = let d : same_words s t ≡ false = sym struck-words ∙ e in rw (self q, d, a, b)

  pub struck-lone : same_words (hvar q s) (hvar q t) ≡ false → empty s ≡ true → has_term (hvar q t) ≡ false → at_del1 ≡ rank_of σ K (hvar q s) (hvar q t)
  struck-lone e a b = let d : same_words s t ≡ false = sym struck-words ∙ e in rw (self q, d, a, b)

  pub struck-more : same_words (hvar q s) (hvar q t) ≡ false → empty s ≡ false → at_del1 ≡ rank_of σ K (hvar q s) (hvar q t)
  struck-more e a = let d : same_words s t ≡ false = sym struck-words ∙ e in rw (self q, d, a)

pub same-run : (q w : HedgeVar) → q.0 ≡ w.0 → q ≡ w
same-run q w i = ap (λ (m : ℕ). let v : HedgeVar = record { 0 = m } in v) i

module _ (σ : Signature) (K : Conj) (q w : HedgeVar) (s t : Hedge) (i : q.0 ≡ w.0 → ⊥) where
  apart : eq_h q w ≡ false
  apart = ne_eqb q.0 w.0 i

  pub runs-lonely : empty s ≡ true → {n : ℕ} → n ≡ lonely K q (hvar w t) → n ≡ rank_of σ K (hvar q s) (hvar w t)
  runs-lonely a n =
      n
      ∙ sym (ap (λ b. pick b (lonely K q (hvar w t)) no_rule) a)
      ∙ sym (ap (λ b. pick b (pick (same_words s t) at_r1 (pick (empty s && has_term t) at_f2 at_del1)) (pick (empty s) (lonely K q (hvar w t)) no_rule)) apart)

  pub runs-open : empty s ≡ false → no_rule ≡ rank_of σ K (hvar q s) (hvar w t)
  runs-open a = rw (apart, a)

-- ---- a run against a term, or against nothing

module _ (σ : Signature) (K : Conj) (q : HedgeVar) (s : Hedge) where
  pub run-lonely : (r : Hedge) → Begins r → empty s ≡ true → {n : ℕ} → n ≡ lonely K q r → n ≡ rank_of σ K (hvar q s) r
  run-lonely ε b a n = absurd b
  run-lonely (tvar x r) b a n = rw a n
  run-lonely (hvar p r) b a n = absurd b
  run-lonely (node f c r) b a n = rw a n

  pub run-leading : (r : Hedge) → Begins r → empty s ≡ false → {n : ℕ} → n ≡ leading q r → n ≡ rank_of σ K (hvar q s) r
  run-leading ε b a n = absurd b
  run-leading (tvar x r) b a n = rw a n
  run-leading (hvar p r) b a n = absurd b
  run-leading (node f c r) b a n = rw a n

  pub run_ends : (r : Hedge) → Empty ≡ look_of r → empty s ≡ true → in_conj (hv q) K ≡ true → at_e2 ≡ rank_of σ K (hvar q s) r
  run_ends r e a b = at-empty (λ m. at_e2 ≡ rank_of σ K (hvar q s) m) r e (rw (a, b))

  pub run-rests : (r : Hedge) → Empty ≡ look_of r → empty s ≡ true → in_conj (hv q) K ≡ false → no_rule ≡ rank_of σ K (hvar q s) r
  run-rests r e a b = at-empty (λ m. no_rule ≡ rank_of σ K (hvar q s) m) r e (rw (a, b))

  pub run-vanishes : (r : Hedge) → Empty ≡ look_of r → empty s ≡ false → at_e3 ≡ rank_of σ K (hvar q s) r
  run-vanishes r e a = at-empty (λ m. at_e3 ≡ rank_of σ K (hvar q s) m) r e (rw a)

pub begins-term : (r : Hedge) {w : TermVar} {b : Bool} → Term w b ≡ look_of r → Begins r
begins-term r e = at-term Begins r e (λ t _. tt)

pub begins-node : (r : Hedge) {w : Name} {b c : Bool} → Node w b c ≡ look_of r → Begins r
begins-node r e = at-node Begins r e (λ f d t _ _ _. tt)

pub too-run : (K : Conj) (r : Hedge) {w : HedgeVar} {b : Bool} → Run w b ≡ look_of r → b ≡ false → true ≡ too hv (lone_h r) K
too-run K r {w} {b} e = at-run (λ m. b ≡ false → true ≡ too hv (lone_h m) K) r e (λ t i f. sym (not-lone w t K (sym i ∙ f)))

pub too-alone : (K : Conj) (r : Hedge) {w : HedgeVar} {b u : Bool} → Run w b ≡ look_of r → b ≡ true → ((t : Hedge) → r ≡ hvar w t → empty t ≡ true → u ≡ in_conj (hv w) K) → u ≡ too hv (lone_h r) K
too-alone K r {w} {b} {u} e = at-run (λ m. b ≡ true → ((t : Hedge) → m ≡ hvar w t → empty t ≡ true → u ≡ in_conj (hv w) K) → u ≡ too hv (lone_h m) K) r e
    (λ t i f h. h t refl (sym i ∙ f) ∙ sym (lone-too w t K (sym i ∙ f)))
