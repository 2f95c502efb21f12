-- The clash drops a conjunction exactly where two tests of one variable, alone, have nothing in common, gives 21 exactly where a walk is too long, and is exact.
use Prim.Native.Nat.{ℕ}
use mathlib.Core.Path.{◌≡◌, refl, sym, ◌∙◌, subst}
use mathlib.Core.Logic.{◌↔◌}
use mathlib.Core.Bool.{Bool, true, false, ◌||◌}
use mathlib.Core.List.{List, [], ◌∷◌}
use mathlib.Core.Option.{Option, none, some, some-ne-none}
use lib.Dec.{T}
use Rattle.language.specs.declared.Refusal.TheVariants.{LongWalk}
use Rattle.language.specs.declared.Signature.{Signature}
use Rattle.language.specs.Limits.{walked_pairs}
use Rattle.language.specs.Trees.{Hedge, ε, tvar, hvar, node, Expr, Literal, eqn, mem, Conj, is_unordered, Var, tv, hv, fv, eq_v}
use Rattle.meaning.specs.Complete.{Complete, nil, tree, ◌·◌}
use Rattle.meaning.specs.Meaning.{Filling, fill, Member, MeetsAll}
use Rattle.meaning.proofs.Complete.{·-nil}
use Rattle.rules.specs.Looks.{empty}
use Rattle.rules.specs.Each.{Each}
use Rattle.rules.specs.Reply.{Reply, nothing, results, stops, or_next}
use Rattle.rules.specs.Solved.{given, lone_var}
use Rattle.rules.specs.Walk.{long_walk}
use Rattle.rules.specs.Clash.{mentions, agree, is_lone, try_pair, try_behind, ClashBy}
use Rattle.rules.specs.Rules.{Clash}
use Rattle.rules.proofs.Each.{each-imp}
use Rattle.rules.proofs.Tests.{neither, true-test}
use Rattle.rules.proofs.Names.{eq_v-is, eq_v-self}
use Rattle.rules.proofs.Answers.{Where, where-some}
use Rattle.rules.proofs.Looks.{empty-is}
use Rattle.rules.proofs.Steps.{Gives}
use Rattle.walk.specs.Reach.{ReachesMore}
use Rattle.walk.proofs.Reached.{long-exact}
use Rattle.exact.specs.Places.{SameFillings}
use Rattle.exact.specs.Clashes.{InBoth, Clashing, Passed, First, here, later, Says, Together}
use Rattle.exact.proofs.Pairs.{ExactPair}
use Rattle.exact.proofs.Shared.{agree-exact}

-- ---- a variable, alone

some_same : {A : Type 0} {x y : A} → ◌≡◌ {A = Option A} (some x) (some y) → x ≡ y
some_same e = cc

lone_is : (v : Var) (h : Hedge) → T (is_lone v h) ↔ (lone_var h ≡ some v)
lone_is v h = go (lone_var h)
  where
    go : (w : Option Var) → T (elim w [ none ↦ false | some x ↦ eq_v v x ]) ↔ (w ≡ some v)
    go none = (λ t. absurd t, λ e. absurd (some-ne-none v (sym e)))
    go (some x) = (λ t. rw (eq_v-is v x t) refl, λ e. subst (λ y. T (eq_v v y)) (sym (some_same e)) (eq_v-self v))

-- what stands for it
abbrev value : Filling → Var → Complete
value ρ (tv x) = tree (ρ.root x) (ρ.children x) nil
value ρ (hv p) = ρ.run p
value ρ (fv X) = nil

lone-fills : (ρ : Filling) (h : Hedge) → Where (λ v. fill ρ h ≡ value ρ v) (lone_var h)
lone-fills ρ ε = tt
lone-fills ρ (tvar x r) = go (empty r) (empty-is r)
  where
    go : (b : Bool) → (T b → r ≡ ε) → Where (λ v. fill ρ (tvar x r) ≡ value ρ v) (given b (tv x))
    go true e = rw (e tt) refl
    go false e = tt
lone-fills ρ (hvar p r) = go (empty r) (empty-is r)
  where
    go : (b : Bool) → (T b → r ≡ ε) → Where (λ v. fill ρ (hvar p r) ≡ value ρ v) (given b (hv p))
    go true e = rw (e tt) (·-nil (ρ.run p))
    go false e = tt
lone-fills ρ (node f c r) = tt

-- its value lies in both
value_in : (σ : Signature) (ρ : Filling) (v : Var) (R S : Expr) → Member σ R (value ρ v) → Member σ S (value ρ v) → InBoth σ v R S
value_in σ ρ (tv x) R S a b = (ρ.root x, ρ.children x, a, b)
value_in σ ρ (hv p) R S a b = (ρ.run p, a, b)
value_in σ ρ (fv X) R S a b = tt

-- ---- what the rule says

module _ (limit : ℕ) (σ : Signature) (v : Var) (R : Expr) where
  -- the first literal behind
  says-pair : (h : Hedge) (S : Expr) (k : Conj) (m : Reply (List Conj)) → lone_var h ≡ some v → Says limit σ v R k m
      → Says limit σ v R (mem h S ∷ k) (or_next (try_pair limit (is_unordered σ) v R S) (λ _. m))
  says-pair h S k m l p = go (mentions (is_unordered σ) R || mentions (is_unordered σ) S) refl (long_walk limit R S) refl (agree v R S) refl
    where
      pass : Passed limit σ v R (mem h S) → Says limit σ v R (mem h S ∷ k) m
      pass q = on m p
        where
          on : (m : Reply (List Conj)) → Says limit σ v R k m → Says limit σ v R (mem h S ∷ k) m
          on nothing p = (q, p)
          on (results ks) p = (p.0, later q p.1)
          on (stops r) p = (p.0, later q p.1)

      differ : {A : Type 0} → true ≡ false → A
      differ e = absurd (subst T e tt)

      go : (a : Bool) → (mentions (is_unordered σ) R || mentions (is_unordered σ) S) ≡ a → (b : Bool) → long_walk limit R S ≡ b → (c : Bool) → agree v R S ≡ c
          → Says limit σ v R (mem h S ∷ k) (or_next (elim a [ true ↦ nothing | false ↦ elim b [ true ↦ stops LongWalk | false ↦ elim c [ true ↦ nothing | false ↦ results [] ] ] ]) (λ _. m))
      go true ea b eb c ec = pass λ _ o r. differ (sym ea ∙ rw (o, r) refl)
      go false ea true eb c ec =
          let (o, r) = neither (mentions (is_unordered σ) R) (mentions (is_unordered σ) S) ea in
          (refl, here {l = mem h S} (l, o, r, (long-exact R S limit).0 (true-test (long_walk limit R S) eb)))
      go false ea false eb true ec = pass λ _ o r. (λ d. short eb d, (agree-exact σ R S o r v).0 (true-test (agree v R S) ec))
        where
          short : long_walk limit R S ≡ false → ReachesMore limit R S → ⊥
          short e d = rw e at ((long-exact R S limit).1 d)
      go false ea false eb false ec =
          let (o, r) = neither (mentions (is_unordered σ) R) (mentions (is_unordered σ) S) ea in
          (refl, here {l = mem h S} (l, o, r, (λ d. rw eb at ((long-exact R S limit).1 d), λ d. rw ec at ((agree-exact σ R S o r v).1 d))))

  says-behind : (k : Conj) → Says limit σ v R k (try_behind limit (is_unordered σ) v R k)
  says-behind [] = tt
  says-behind (eqn l r ∷ k) = on (try_behind limit (is_unordered σ) v R k) (says-behind k)
    where
      on : (m : Reply (List Conj)) → Says limit σ v R k m → Says limit σ v R (eqn l r ∷ k) m
      on nothing p = (tt, p)
      on (results ks) p = (p.0, later tt p.1)
      on (stops r) p = (p.0, later tt p.1)
  says-behind (mem h S ∷ k) = go (is_lone v h) refl (says-behind k)
    where
      go : (b : Bool) → is_lone v h ≡ b → Says limit σ v R k (try_behind limit (is_unordered σ) v R k)
          → Says limit σ v R (mem h S ∷ k) (elim b [ true ↦ or_next (try_pair limit (is_unordered σ) v R S) (λ _. try_behind limit (is_unordered σ) v R k) | false ↦ try_behind limit (is_unordered σ) v R k ])
      go true e p = says-pair h S k (try_behind limit (is_unordered σ) v R k) ((lone_is v h).0 (true-test (is_lone v h) e)) p
      go false e p = on (try_behind limit (is_unordered σ) v R k) p
        where
          other : Passed limit σ v R (mem h S)
          other d o r = absurd (rw e at ((lone_is v h).1 d))

          on : (m : Reply (List Conj)) → Says limit σ v R k m → Says limit σ v R (mem h S ∷ k) m
          on nothing p = (other, p)
          on (results ks) p = (p.0, later other p.1)
          on (stops r) p = (p.0, later other p.1)

  -- ---- no filling meets two tests that have nothing in common

  never_both : (ρ : Filling) (k : Conj) → First limit σ v R (Clashing limit σ v R) k → Member σ R (value ρ v) → MeetsAll σ ρ k → ⊥
  never_both ρ (eqn l r ∷ k) (here z) a m = z
  never_both ρ (mem h S ∷ k) (here c) a m = c.3.1 (value_in σ ρ v R S a (rw (where-some (λ w. fill ρ h ≡ value ρ w) (lone_var h) v (lone-fills ρ h) c.0) at m.0))
  never_both ρ (l ∷ k) (later p f) a m = never_both ρ k f a m.1
  never_both ρ [] x3 a m = elim x3 [ ]

-- The rule, at a test of a lone variable, says of the literals behind it what it should; at any other literal it does not apply.
pub clash-says : (limit : ℕ) (σ : Signature) (h : Hedge) (R : Expr) (behind : Conj) (v : Var) → lone_var h ≡ some v
    → Says limit σ v R behind (ClashBy limit (is_unordered σ) (mem h R) behind)
clash-says limit σ h R behind v e =
    subst (λ w. Says limit σ v R behind (elim w [ none ↦ nothing | some x ↦ try_behind limit (is_unordered σ) x R behind ])) (sym e) (says-behind limit σ v R behind)

-- It is exact.
pub Clash-exact : (limit : ℕ) (σ : Signature) → ExactPair σ (ClashBy limit (is_unordered σ))
Clash-exact limit σ (eqn l r) behind = tt
Clash-exact limit σ (mem h R) behind = go (lone_var h) refl
  where
    none_left : (v : Var) → lone_var h ≡ some v → (m : Reply (List Conj)) → Says limit σ v R behind m → Gives (SameFillings σ (mem h R ∷ behind)) m
    none_left v e nothing p = tt
    none_left v e (results ks) p = rw p.0 λ ρ. (
      λ m. absurd (never_both limit σ v R ρ behind p.1 (rw (where-some (λ w. fill ρ h ≡ value ρ w) (lone_var h) v (lone-fills ρ h) e) at m.0) m.1),
      λ z. absurd z,
    )
    none_left v e (stops r) p = tt

    go : (w : Option Var) → lone_var h ≡ w → Gives (SameFillings σ (mem h R ∷ behind)) (elim w [ none ↦ nothing | some v ↦ try_behind limit (is_unordered σ) v R behind ])
    go none e = tt
    go (some v) e = none_left v e (try_behind limit (is_unordered σ) v R behind) (says-behind limit σ v R behind)

-- Where it does not apply, something lies in both of any two tests that mention no unordered symbol.
pub idle-agrees : (σ : Signature) (h : Hedge) (R : Expr) (behind : Conj) (v : Var) → lone_var h ≡ some v → Clash σ (mem h R) behind ≡ nothing → Each (Together σ v R) behind
idle-agrees σ h R behind v e d =
    each-imp (Passed walked_pairs σ v R) (Together σ v R) together behind
    (subst (Says walked_pairs σ v R behind) d (clash-says walked_pairs σ h R behind v e))
  where
    together : (l : Literal) → Passed walked_pairs σ v R l → Together σ v R l
    together (eqn l r) p = tt
    together (mem g S) p = λ e o r. (p e o r).1
