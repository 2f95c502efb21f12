-- The rule itself, over trees: a literal and those behind it come to what its tests come to.
use mathlib.Core.Path.{◌≡◌, refl, ap, ap₂, ◌∙◌}
use mathlib.Core.Bool.{Bool, true, false, ◌||◌}
use mathlib.Core.List.{List, [], ◌∷◌}
use mathlib.Core.Option.{none, some}
use Rattle.language.specs.declared.Signature.{Signature}
use Rattle.language.specs.declared.TermVar.{TermVar}
use Rattle.language.specs.declared.HedgeVar.{HedgeVar}
use Rattle.language.specs.declared.Refusal.TheVariants.{LongWalk}
use Rattle.language.specs.Limits.{walked_pairs}
use Rattle.language.specs.Kinds.{pick}
use Rattle.language.specs.Trees.{Hedge, ε, tvar, hvar, node, Expr, Literal, eqn, mem, Conj, is_unordered, tv, hv, eq_v}
use Rattle.rules.specs.Looks.{empty}
use Rattle.rules.specs.Solved.{given}
use Rattle.rules.specs.Walk.{long_walk, common_hedge, common_term}
use Rattle.rules.specs.Reply.{Reply, nothing, results, stops, or_next}
use Rattle.rules.specs.Clash.{mentions, is_lone, try_pair, try_behind}
use Rattle.rules.specs.Rules.{Clash}
use Rattle.clash.specs.declared.Verdict.{Verdict}
use Rattle.clash.specs.declared.Verdict.TheVariants.{Shares, Clashes, Long}
use Rattle.clash.specs.Judging.{verdict_of}
use Rattle.clashes.specs.declared.Lone.TheVariants.{Nothing, Term, Run}
use Rattle.clashes.specs.Pairs.{lone_in, same_lone, test_of, then_of, behind_of, reply_of, answer_of}

-- ---- two tests

by : Bool → Bool → Bool → Verdict
by m w c = pick m Shares (elim w [ true ↦ Long | false ↦ elim c [ true ↦ Shares | false ↦ Clashes ] ])

answered : (m w c : Bool)
    → ◌≡◌ {A = Reply (List Conj)} (elim m [ true ↦ nothing | false ↦ elim w [ true ↦ stops LongWalk | false ↦ elim c [ true ↦ nothing | false ↦ results [] ] ] ])
    (answer_of (by m w c))
unfolding by
answered true w c = refl
answered false true c = refl
answered false false true = refl
answered false false false = refl

judged : (σ : Signature) (term : Bool) (R S : Expr)
    → by (mentions (is_unordered σ) R || mentions (is_unordered σ) S) (long_walk walked_pairs R S) (pick term (common_term R S) (common_hedge R S)) ≡ test_of σ term R S
unfolding by test_of verdict_of
judged σ term R S = refl

term-pair : (σ : Signature) (x : TermVar) (R S : Expr) → try_pair walked_pairs (is_unordered σ) (tv x) R S ≡ answer_of (test_of σ true R S)
term-pair σ x R S =
    answered (mentions (is_unordered σ) R || mentions (is_unordered σ) S) (long_walk walked_pairs R S) (common_term R S) ∙ ap answer_of (judged σ true R S)

run-pair : (σ : Signature) (p : HedgeVar) (R S : Expr) → try_pair walked_pairs (is_unordered σ) (hv p) R S ≡ answer_of (test_of σ false R S)
run-pair σ p R S =
    answered (mentions (is_unordered σ) R || mentions (is_unordered σ) S) (long_walk walked_pairs R S) (common_hedge R S) ∙ ap answer_of (judged σ false R S)

-- ---- a test and those behind it

then-answers : (a b : Verdict) → or_next (answer_of a) (λ _. answer_of b) ≡ answer_of (then_of a b)
then-answers Shares b = refl
then-answers Clashes b = refl
then-answers Long b = refl

module _ (σ : Signature) where
  term-lone : (x : TermVar) (h : Hedge) → is_lone (tv x) h ≡ same_lone (Term x) (lone_in h)
  term-lone x ε = refl
  term-lone x (tvar y r) = go (empty r)
    where
      go : (t : Bool) → elim (given t (tv y)) [ none ↦ false | some w ↦ eq_v (tv x) w ] ≡ same_lone (Term x) (pick t (Term y) Nothing)
      go true = refl
      go false = refl
  term-lone x (hvar p r) = go (empty r)
    where
      go : (t : Bool) → elim (given t (hv p)) [ none ↦ false | some w ↦ eq_v (tv x) w ] ≡ same_lone (Term x) (pick t (Run p) Nothing)
      go true = refl
      go false = refl
  term-lone x (node f c r) = refl

  run-lone : (p : HedgeVar) (h : Hedge) → is_lone (hv p) h ≡ same_lone (Run p) (lone_in h)
  run-lone p ε = refl
  run-lone p (tvar y r) = go (empty r)
    where
      go : (t : Bool) → elim (given t (tv y)) [ none ↦ false | some w ↦ eq_v (hv p) w ] ≡ same_lone (Run p) (pick t (Term y) Nothing)
      go true = refl
      go false = refl
  run-lone p (hvar q r) = go (empty r)
    where
      go : (t : Bool) → elim (given t (hv q)) [ none ↦ false | some w ↦ eq_v (hv p) w ] ≡ same_lone (Run p) (pick t (Run q) Nothing)
      go true = refl
      go false = refl
  run-lone p (node f c r) = refl

  -- one more behind it, by what the two come to and by what the others do
  one_more : (t : Bool) (pair others : Reply (List Conj)) (a b : Verdict) → pair ≡ answer_of a → others ≡ answer_of b
      → elim t [ true ↦ or_next pair (λ _. others) | false ↦ others ] ≡ answer_of (pick t (then_of a b) b)
  one_more true pair others a b e d = ap₂ (λ x y. or_next x (λ _. y)) e d ∙ then-answers a b
  one_more false pair others a b e d = d

  term-behind : (x : TermVar) (R : Expr) (k : Conj) → try_behind walked_pairs (is_unordered σ) (tv x) R k ≡ answer_of (behind_of σ (Term x) R k)
  term-behind x R [] = refl
  term-behind x R (eqn l r ∷ k) = term-behind x R k
  term-behind x R (mem h S ∷ k) =
      ap (λ t. elim t [ true ↦ or_next (try_pair walked_pairs (is_unordered σ) (tv x) R S) (λ _. try_behind walked_pairs (is_unordered σ) (tv x) R k) | false ↦ try_behind walked_pairs (is_unordered σ) (tv x) R k ])
      (term-lone x h)
      ∙ one_more (same_lone (Term x) (lone_in h)) _ _ (test_of σ true R S) (behind_of σ (Term x) R k) (term-pair σ x R S) (term-behind x R k)

  run-behind : (p : HedgeVar) (R : Expr) (k : Conj) → try_behind walked_pairs (is_unordered σ) (hv p) R k ≡ answer_of (behind_of σ (Run p) R k)
  run-behind p R [] = refl
  run-behind p R (eqn l r ∷ k) = run-behind p R k
  run-behind p R (mem h S ∷ k) =
      ap (λ t. elim t [ true ↦ or_next (try_pair walked_pairs (is_unordered σ) (hv p) R S) (λ _. try_behind walked_pairs (is_unordered σ) (hv p) R k) | false ↦ try_behind walked_pairs (is_unordered σ) (hv p) R k ])
      (run-lone p h)
      ∙ one_more (same_lone (Run p) (lone_in h)) _ _ (test_of σ false R S) (behind_of σ (Run p) R k) (run-pair σ p R S) (run-behind p R k)

  nothing-behind : (R : Expr) (k : Conj) → nothing ≡ answer_of (behind_of σ Nothing R k)
  nothing-behind R [] = refl
  nothing-behind R (eqn l r ∷ k) = nothing-behind R k
  nothing-behind R (mem h S ∷ k) = nothing-behind R k

  -- ---- the rule

  pub clash-replies : (l : Literal) (behind : Conj) → Clash σ l behind ≡ answer_of (reply_of σ l behind)
  clash-replies (eqn l r) behind = refl
  clash-replies (mem ε R) behind = nothing-behind R behind
  clash-replies (mem (tvar x r) R) behind = go (empty r)
    where
      go : (t : Bool) → elim (given t (tv x)) [ none ↦ nothing | some v ↦ try_behind walked_pairs (is_unordered σ) v R behind ] ≡ answer_of (behind_of σ (pick t (Term x) Nothing) R behind)
      go true = term-behind x R behind
      go false = nothing-behind R behind
  clash-replies (mem (hvar p r) R) behind = go (empty r)
    where
      go : (t : Bool) → elim (given t (hv p)) [ none ↦ nothing | some v ↦ try_behind walked_pairs (is_unordered σ) v R behind ] ≡ answer_of (behind_of σ (pick t (Run p) Nothing) R behind)
      go true = run-behind p R behind
      go false = nothing-behind R behind
  clash-replies (mem (node f c r) R) behind = nothing-behind R behind
