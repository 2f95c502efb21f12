-- Each rule is exact wherever it applies: its results, in place and with their substitutions made, say what the conjunction says.
use mathlib.Core.Logic.Iff
use mathlib.Core.Logic.{inl, inr, ◌↔◌}
use mathlib.Core.List.{List, [], ◌∷◌, ◌++◌, map}
use mathlib.Core.Option.{none, some}
use Rattle.language.specs.Limits.{walked_pairs}
use Rattle.language.specs.declared.Signature.{Signature}
use Rattle.language.specs.Trees.{Hedge, Literal, eqn, mem, Conj}
use Rattle.meaning.specs.Meaning.{Filling, MeetsAll, MeetsOne}
use Rattle.meaning.proofs.Same.{same-sym}
use Rattle.rules.specs.Substitution.{put_c}
use Rattle.rules.specs.Reply.{Reply}
use Rattle.rules.specs.Rules.{Branch, plain, elims, Answer, Rule, on_eqn, on_mem, on_pair, rules}
use Rattle.rules.specs.Step.{each, place, placed}
use Rattle.rules.specs.Each.{Each, Some}
use Rattle.rules.specs.Sides.{AtSides}
use Rattle.rules.proofs.Each.{◌also◌, each-imp, some-map, some_same}
use Rattle.rules.proofs.Steps.{Gives, gives-each, gives-imp, OnSides, at-sides}
use Rattle.exact.specs.Places.{SameFillings}
use Rattle.exact.proofs.Fillings.{put_c-meets, put_e-meets, all_named, each-++-all, all-++, one-some}
use Rattle.exact.proofs.Answers.{MeetsBranch, MeetsBranches, Faithful, ExactAnswer}
use Rattle.exact.proofs.Equations.{ExactEqn, R1-exact, F1-exact, F2-exact, F3-exact, F4-exact, Del1-exact, Del2-exact, Del3-exact, D1-exact, D2-exact, D0-exact, E1-exact, E2-exact, E3-exact, E4-exact, E5-exact, E6-exact, E7-exact}
use Rattle.exact.proofs.Memberships.{ExactMem, R2-exact, F5-exact, F6-exact, F7-exact, M1-exact, M2-exact, M3-exact, M4-exact, M5-exact, M6-exact, M7-exact, M10-exact, M11-exact, M12-exact}
use Rattle.exact.proofs.Pairs.{ExactPair, Fold-exact}
use Rattle.exact.proofs.Clashes.{Clash-exact}

module _ (σ : Signature) where
  -- ---- a result in its place

  -- a result in its place says what it says beside the other literals
  place_same : (ρ : Filling) (before behind : Conj) (b : Branch) → Faithful σ b
      → MeetsAll σ ρ (place before behind b) ↔ (MeetsAll σ ρ before × MeetsBranch σ ρ b × MeetsAll σ ρ behind)
  place_same ρ before behind (plain ls) f = (
    λ m. let (a, c) = (all-++ σ ρ before (ls ++ behind)).0 m in let (d, e) = (each-++-all σ ρ ls behind).0 c in (a, d, e),
    λ m. (all-++ σ ρ before (ls ++ behind)).1 (m.0, (each-++-all σ ρ ls behind).1 (m.1, m.2)),
  )
  place_same ρ before behind (elims es ls s) f = (
    λ m.
        let (a, c) = (all-++ σ ρ (put_c s before) _).0 m in
        let (d, e) = (each-++-all σ ρ es _).0 c in
        let (g, h) = (each-++-all σ ρ (put_c s ls) _).0 e in
        let r = f ρ d in
        ((put_c-meets σ ρ s r before).0 a, (d, (put_e-meets σ ρ s r ls).0 g), (put_c-meets σ ρ s r behind).0 h),
    λ m.
        let r = f ρ m.1.0 in
        (all-++ σ ρ (put_c s before) _).1 (
          (put_c-meets σ ρ s r before).1 m.0,
          (each-++-all σ ρ es _).1 (m.1.0, (each-++-all σ ρ (put_c s ls) _).1 ((put_e-meets σ ρ s r ls).1 m.1.1, (put_c-meets σ ρ s r behind).1 m.2)),
        ),
  )

  -- one of several beside two others
  some-beside : {X : Type 0} (A B : Type 0) (P : X → Type 0) (xs : List X) → Some (λ x. A × P x × B) xs ↔ (A × Some P xs × B)
  some-beside A B P [] = (λ z. absurd z, λ m. m.1)
  some-beside A B P (x ∷ xs) = (
    λ o. elim o [ inl m ↦ (m.0, inl m.1, m.2) | inr s ↦ let (a, p, b) = (some-beside A B P xs).0 s in (a, inr p, b) ],
    λ m. elim m.1 [ inl p ↦ inl (m.0, p, m.2) | inr s ↦ inr ((some-beside A B P xs).1 (m.0, s, m.2)) ],
  )

  places_same : (ρ : Filling) (before behind : Conj) (bs : List Branch) → Each (Faithful σ) bs
      → MeetsOne σ ρ (map (place before behind) bs) ↔ (MeetsAll σ ρ before × MeetsBranches σ ρ bs × MeetsAll σ ρ behind)
  places_same ρ before behind bs f =
      Iff.trans (one-some σ ρ (map (place before behind) bs))
      (Iff.trans (some-map (MeetsAll σ ρ) (place before behind) bs)
      (Iff.trans (some_same (λ b. MeetsAll σ ρ (place before behind b)) Beside bs (each-imp (Faithful σ) _ (place_same ρ before behind) bs f))
      (some-beside (MeetsAll σ ρ before) (MeetsAll σ ρ behind) (MeetsBranch σ ρ) bs)))
    where
      Beside : Branch → Type 0
      Beside b = MeetsAll σ ρ before × MeetsBranch σ ρ b × MeetsAll σ ρ behind

  pub at_literal : (before behind : Conj) (l : Literal) (w : Answer) → ExactAnswer σ l w
      → Gives (SameFillings σ (before ++ (l ∷ behind))) (placed before behind w)
  at_literal before behind l none p = tt
  at_literal before behind l (some bs) p = λ ρ.
      Iff.trans (all-++ σ ρ before (l ∷ behind)) (
        λ m. (places_same ρ before behind bs p.given.faithful).1 (m.0, (p.given.same ρ (all_named σ ρ before m.0)).0 m.1.0, m.1.1),
        λ m. let (x, y, z) = (places_same ρ before behind bs p.given.faithful).0 m in (x, ((p.given.same ρ (all_named σ ρ before x)).1 y, z)),
      )

  -- ---- a rule at a literal and those behind it

  -- what stands before them says what it said
  behind-same : (ρ : Filling) (before : Conj) (ks : List Conj) → MeetsOne σ ρ (map (λ (k : Conj). before ++ k) ks) ↔ (MeetsAll σ ρ before × MeetsOne σ ρ ks)
  behind-same ρ before [] = (λ z. absurd z, λ m. m.1)
  behind-same ρ before (k ∷ ks) = (
    λ o. elim o [
      | inl m ↦ let (a, b) = (all-++ σ ρ before k).0 m in (a, inl b)
      | inr m ↦ let (a, b) = (behind-same ρ before ks).0 m in (a, inr b)
    ],
    λ m. elim m.1 [ inl b ↦ inl ((all-++ σ ρ before k).1 (m.0, b)) | inr b ↦ inr ((behind-same ρ before ks).1 (m.0, b)) ],
  )

  at_pair : (before behind : Conj) (l : Literal) (m : Reply (List Conj)) → Gives (SameFillings σ (l ∷ behind)) m
      → Gives (SameFillings σ (before ++ (l ∷ behind))) (each (map (λ (k : Conj). before ++ k)) m)
  at_pair before behind l m p =
      gives-each (SameFillings σ (before ++ (l ∷ behind))) _ m (gives-imp (SameFillings σ (l ∷ behind)) _ m (λ ks e ρ.
      Iff.trans (all-++ σ ρ before (l ∷ behind))
      (Iff.trans (λ (m : MeetsAll σ ρ before × MeetsAll σ ρ (l ∷ behind)). (m.0, (e ρ).0 m.1), λ (m : MeetsAll σ ρ before × MeetsOne σ ρ ks). (m.0, (e ρ).1 m.1))
      (Iff.symm (behind-same ρ before ks)))) p)

  -- ---- a rule at a place, its sides as written or swapped

  abbrev RuleExact : Rule → Type 0
  RuleExact (on_eqn rule) = ExactEqn σ rule
  RuleExact (on_mem rule) = ExactMem σ rule
  RuleExact (on_pair rule) = ExactPair σ rule

  exchanged : (l r : Hedge) (w : Answer) → ExactAnswer σ (eqn r l) w → ExactAnswer σ (eqn l r) w
  exchanged l r none p = record { given = tt }
  exchanged l r (some bs) p =
      record { given = record { same = λ ρ n. Iff.trans (λ e. same-sym σ _ _ e, λ e. same-sym σ _ _ e) (p.given.same ρ n); faithful = p.given.faithful } }

  sides-exact : (rule : Rule) → RuleExact rule → (before : Conj) (l : Literal) (behind : Conj) → OnSides (SameFillings σ (before ++ (l ∷ behind))) before behind rule l
  sides-exact (on_eqn rule) p before (eqn l r) behind = (
    at_literal before behind (eqn l r) (rule (before ++ behind) l r) (p (before ++ behind) l r),
    at_literal before behind (eqn l r) (rule (before ++ behind) r l) (exchanged l r (rule (before ++ behind) r l) (p (before ++ behind) r l)),
  )
  sides-exact (on_eqn rule) p before (mem h R) behind = tt
  sides-exact (on_mem rule) p before (eqn l r) behind = tt
  sides-exact (on_mem rule) p before (mem h R) behind = at_literal before behind (mem h R) (rule (before ++ behind) h R) (p (before ++ behind) h R)
  sides-exact (on_pair rule) p before l behind = at_pair before behind l (rule l behind) (p l behind)

  rule-exact : (rule : Rule) → RuleExact rule → AtSides (SameFillings σ) rule
  rule-exact rule p = at-sides (SameFillings σ) rule (sides-exact rule p)

  -- ---- the rules in their order

  pub each-rule-exact : Each (AtSides (SameFillings σ)) (rules σ)
  each-rule-exact =
      each-imp RuleExact (AtSides (SameFillings σ)) rule-exact (rules σ)
      (R1-exact σ also R2-exact σ also Fold-exact σ
      also F1-exact σ also F2-exact σ also F3-exact σ also F4-exact σ also F5-exact σ also F6-exact σ also F7-exact σ
      also Del1-exact σ also Del2-exact σ also Del3-exact σ
      also D1-exact σ also D2-exact σ also D0-exact σ
      also E1-exact σ also E2-exact σ also E3-exact σ also E4-exact σ also E5-exact σ also E6-exact σ also E7-exact σ
      also M1-exact σ also M2-exact σ also M3-exact σ also M4-exact σ also M5-exact σ also M6-exact σ also M7-exact σ also M10-exact σ also M11-exact σ also M12-exact σ
      also Clash-exact walked_pairs σ
      also tt)
