-- A step and a run that finishes keep the fillings, number by number.
use Prim.Native.Nat.{ℕ, suc, ◌+◌, ◌<◌}
use mathlib.Core.Path.{◌≡◌, refl, sym, subst}
use mathlib.Core.Logic.Iff
use mathlib.Core.Logic.{◌⊎◌, inl, inr, ◌↔◌}
use mathlib.Core.List.{List, [], ◌∷◌, ◌++◌, append_assoc, append-nil}
use native.Mathlib.Nat.{zero-add, add-zero, add-suc, suc-add}
use native.Mathlib.Omega.{arith}
use Rattle.language.specs.Limits.{Limits}
use Rattle.language.specs.declared.Signature.{Signature}
use Rattle.language.specs.Trees.{Conj}
use Rattle.meaning.specs.Meaning.{Filling, MeetsAll, MeetsOne}
use Rattle.rules.specs.Reply.{results}
use Rattle.rules.specs.Step.{step}
use Rattle.rules.specs.Run.{Numbered, all_of, numbered, unnumbered, finished, run}
use Rattle.rules.specs.Each.{Some}
use Rattle.rules.proofs.Each.{some-++}
use Rattle.rules.proofs.Invariant.{along}
use Rattle.rules.proofs.Steps.{step-at-sides}
use Rattle.exact.specs.Places.{SameFillings}
use Rattle.exact.specs.Numbers.{MeetsAt, MeetsNumbered}
use Rattle.exact.proofs.Places.{each-rule-exact}

module _ (σ : Signature) where
  pub step_same : (k : Conj) (ks : List Conj) → step σ k ≡ results ks → SameFillings σ k ks
  step_same = step-at-sides σ (SameFillings σ) (each-rule-exact σ)

  -- ---- the run, number by number

  -- of the number n, and met
  abbrev Of : Filling → ℕ → Numbered → Type 0
  Of ρ n k = (k.number ≡ n) × MeetsAll σ ρ k.literals

  numbered-some : (ρ : Filling) (n : ℕ) (ks : List Numbered) → MeetsNumbered σ ρ n ks ↔ Some (Of ρ n) ks
  numbered-some ρ n [] = (λ z. z, λ z. z)
  numbered-some ρ n (k ∷ ks) =
      (λ o. elim o [ inl m ↦ inl m | inr s ↦ inr ((numbered-some ρ n ks).0 s) ], λ o. elim o [ inl m ↦ inl m | inr s ↦ inr ((numbered-some ρ n ks).1 s) ])

  numbered-++ : (ρ : Filling) (n : ℕ) (c d : List Numbered) → MeetsNumbered σ ρ n (c ++ d) ↔ (MeetsNumbered σ ρ n c ⊎ MeetsNumbered σ ρ n d)
  numbered-++ ρ n c d =
      Iff.trans (numbered-some ρ n (c ++ d))
      (Iff.trans (some-++ (Of ρ n) c d)
      (λ o. elim o [ inl s ↦ inl ((numbered-some ρ n c).1 s) | inr s ↦ inr ((numbered-some ρ n d).1 s) ], λ o. elim o [ inl s ↦ inl ((numbered-some ρ n c).0 s) | inr s ↦ inr ((numbered-some ρ n d).0 s) ]))

  -- results of one alternative
  all-numbered : (ρ : Filling) (n m : ℕ) (ks : List Conj) → MeetsNumbered σ ρ n (all_of m ks) ↔ ((m ≡ n) × MeetsOne σ ρ ks)
  all-numbered ρ n m [] = (λ z. absurd z, λ z. z.1)
  all-numbered ρ n m (k ∷ ks) = (
    λ o. elim o [ inl a ↦ (a.0, inl a.1) | inr s ↦ let (a, b) = (all-numbered ρ n m ks).0 s in (a, inr b) ],
    λ a. elim a.1 [ inl b ↦ inl (a.0, b) | inr s ↦ inr ((all-numbered ρ n m ks).1 (a.0, s)) ],
  )

  -- its results in the place of a conjunction
  pub in_place : (ρ : Filling) (n : ℕ) (ls : List Numbered) (ks : List Conj) (w : List Numbered) (k : Numbered) → MeetsAll σ ρ k.literals ↔ MeetsOne σ ρ ks
      → MeetsNumbered σ ρ n (ls ++ (k ∷ w)) ↔ MeetsNumbered σ ρ n (ls ++ (all_of k.number ks ++ w))
  in_place ρ n ls ks w k e =
      let back = numbered-++ ρ n (all_of k.number ks) w in
      let made = all-numbered ρ n k.number ks in
      Iff.trans (numbered-++ ρ n ls (k ∷ w))
      (Iff.trans (
        λ o. elim o [ inl x ↦ inl x | inr x ↦ inr (back.1 (elim x [ inl m ↦ inl (made.1 (m.0, e.0 m.1)) | inr m ↦ inr m ])) ],
        λ o. elim o [ inl x ↦ inl x | inr x ↦ inr (elim (back.0 x) [ inl m ↦ let (a, b) = made.0 m in inl (a, e.1 b) | inr m ↦ inr m ]) ],
      )
      (Iff.symm (numbered-++ ρ n ls (all_of k.number ks ++ w))))

  -- none has a lesser number
  above : (ρ : Filling) (n m : ℕ) (ks : List Conj) → n < m → ¬ MeetsNumbered σ ρ n (numbered m ks)
  above ρ n m [] h z = z
  above ρ n m (k ∷ ks) h (inl a) = let e = a.0 in omega arith
  above ρ n m (k ∷ ks) h (inr s) = above ρ n (suc m) ks (omega arith) s

  -- the alternatives, numbered from m on
  pub numbered-at : (ρ : Filling) (n m : ℕ) (ks : List Conj) → MeetsAt σ ρ n ks ↔ MeetsNumbered σ ρ (m + n) (numbered m ks)
  numbered-at ρ n m [] = (λ z. z, λ z. z)
  numbered-at ρ ℕ.zero m (k ∷ ks) = (
    λ a. inl (rw add-zero, a),
    λ o. elim o [ inl a ↦ a.1 | inr s ↦ absurd (above ρ m (suc m) ks (omega arith) (subst (λ x. MeetsNumbered σ ρ x (numbered (suc m) ks)) (add-zero m) s)) ],
  )
  numbered-at ρ (ℕ.suc n) m (k ∷ ks) =
      let e = numbered-at ρ n (suc m) ks in
      let p : suc m + n ≡ m + suc n = omega arith in (
        λ a. inr (subst (λ x. MeetsNumbered σ ρ x (numbered (suc m) ks)) p (e.0 a)),
        λ o. elim o [ inl a ↦ absurd (let z = a.0 in omega arith) | inr s ↦ e.1 (subst (λ x. MeetsNumbered σ ρ x (numbered (suc m) ks)) (sym p) s) ],
      )

  -- A filling meets the alternative of a number exactly when it meets a line of that number.
  pub run-numbered : (L : Limits) (w : List Conj) (ls : List Numbered) (s : ℕ) → run L σ w ≡ finished ls s → (ρ : Filling) (n : ℕ) → MeetsAt σ ρ n w ↔ MeetsNumbered σ ρ n ls
  unfolding run
  run-numbered L w ls s e ρ n =
      rw append-nil at
      (along (step σ) (λ ms v. MeetsAt σ ρ n w ↔ MeetsNumbered σ ρ n (ms ++ v))
      (λ ms k v ks p d. Iff.trans p (in_place ρ n ms ks v k (step_same k.literals ks d ρ)))
      (λ ms k v p d. rw append_assoc p)
      L w ls s e (rw zero-add at (numbered-at ρ n 0 w)))

  -- ---- and of all numbers

  one_at : (ρ : Filling) (ks : List Conj) → MeetsOne σ ρ ks → (n : ℕ) × MeetsAt σ ρ n ks
  one_at ρ [] z = absurd z
  one_at ρ (k ∷ ks) (inl m) = (0, m)
  one_at ρ (k ∷ ks) (inr s) = let (n, a) = one_at ρ ks s in (suc n, a)

  at_one : (ρ : Filling) (ks : List Conj) (n : ℕ) → MeetsAt σ ρ n ks → MeetsOne σ ρ ks
  at_one ρ [] n z = z
  at_one ρ (k ∷ ks) ℕ.zero m = inl m
  at_one ρ (k ∷ ks) (ℕ.suc n) m = inr (at_one ρ ks n m)

  numbered-one : (ρ : Filling) (ks : List Numbered) → MeetsOne σ ρ (unnumbered ks) ↔ ((n : ℕ) × MeetsNumbered σ ρ n ks)
  numbered-one ρ [] = (λ z. absurd z, λ a. a.1)
  numbered-one ρ (k ∷ ks) = (
    λ o. elim o [ inl m ↦ (k.number, inl (refl, m)) | inr s ↦ let (n, a) = (numbered-one ρ ks).0 s in (n, inr a) ],
    λ a. elim a.1 [ inl m ↦ inl m.1 | inr s ↦ inr ((numbered-one ρ ks).1 (a.0, s)) ],
  )

  -- Where it is so of every number, a filling meets one of the alternatives exactly when it meets a line.
  pub whatever-number : (ρ : Filling) (w : List Conj) (ls : List Numbered) → ((n : ℕ) → MeetsAt σ ρ n w ↔ MeetsNumbered σ ρ n ls)
      → MeetsOne σ ρ w ↔ MeetsOne σ ρ (unnumbered ls)
  whatever-number ρ w ls same =
      Iff.trans (one_at ρ w, λ (a : (n : ℕ) × MeetsAt σ ρ n w). at_one ρ w a.0 a.1)
      (Iff.trans (λ (a : (n : ℕ) × MeetsAt σ ρ n w). (a.0, (same a.0).0 a.1), λ (a : (n : ℕ) × MeetsNumbered σ ρ n ls). (a.0, (same a.0).1 a.1))
      (Iff.symm (numbered-one ρ ls)))

  pub run-same : (L : Limits) (w : List Conj) (ls : List Numbered) (s : ℕ) → run L σ w ≡ finished ls s → (ρ : Filling) → MeetsOne σ ρ w ↔ MeetsOne σ ρ (unnumbered ls)
  run-same L w ls s e ρ = whatever-number ρ w ls (run-numbered L w ls s e ρ)
