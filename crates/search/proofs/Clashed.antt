-- The clash among all literals: where the first clash is, the search by the rule finds it, and nothing before it.
use Prim.Native.Nat.{ℕ, suc, ◌+◌}
use native.Mathlib.Omega.{arith}
use mathlib.Core.Path.{◌≡◌, refl, ap, ◌∙◌}
use mathlib.Core.Bool.{true, false}
use mathlib.Core.List.{List, [], ◌∷◌, ◌++◌, map}
use lib.ListN.{length, length-append}
use Rattle.language.specs.declared.Signature.{Signature}
use Rattle.language.specs.declared.Refusal.TheVariants.{LongWalk}
use Rattle.language.specs.Trees.{Literal, Conj}
use Rattle.language.specs.Writing.{literal_words, conj_words}
use Rattle.rules.specs.Places.{at_clash}
use Rattle.rules.specs.Reply.{Reply, nothing, results, stops}
use Rattle.rules.specs.Rules.{Clash, on_pair}
use Rattle.rules.specs.Step.{or_next, each, Spot, found, earliest}
use Rattle.clash.specs.declared.Verdict.{Verdict}
use Rattle.clash.specs.declared.Verdict.TheVariants.{Shares, Clashes, Long}
use Rattle.clashes.specs.declared.Clashing.{Clashing}
use Rattle.clashes.specs.declared.Clashing.TheVariants.{Nowhere, At, Stopped}
use Rattle.clashes.specs.Pairs.{reply_of, answer_of, first_clash}
use Rattle.clashes.proofs.Replies.{clash-replies}

-- What the rule finds among the literals of `rest`, before which i stand, and the first of which stands at `at`.
pub data Seen (σ : Signature) (i at : ℕ) (done rest : Conj) (v : Clashing) : Type 0 where
  none-there : v ≡ Nowhere → earliest at_clash (on_pair (Clash σ)) i done rest ≡ nothing → Seen σ i at done rest v
  one-there : (mid : Conj) (l : Literal) (behind : Conj) → rest ≡ mid ++ (l ∷ behind) → v ≡ At (at + length (conj_words mid)) → Clash σ l behind ≡ results []
      → earliest at_clash (on_pair (Clash σ)) i done rest ≡ results (record { rule = at_clash; literal = i + length mid; swapped = false }, [])
      → Seen σ i at done rest v
  not-told : v ≡ Stopped → earliest at_clash (on_pair (Clash σ)) i done rest ≡ stops LongWalk → Seen σ i at done rest v

module _ (σ : Signature) where
  -- at a literal, and else at those behind it
  by : ℕ → Conj → Literal → Conj → Reply (List Conj) → Reply (Spot × List Conj)
  by i done l rest m =
      or_next (found at_clash i false (each (map (λ (k : Conj). done ++ k)) m)) (λ _. or_next (found at_clash i true nothing) (λ _. earliest at_clash (on_pair (Clash σ)) (suc i) (done ++ (l ∷ [])) rest))

  at_literal : (i : ℕ) (done : Conj) (l : Literal) (rest : Conj) (v : Verdict) → reply_of σ l rest ≡ v → earliest at_clash (on_pair (Clash σ)) i done (l ∷ rest) ≡ by i done l rest (answer_of v)
  unfolding by
  at_literal i done l rest v e = ap (by i done l rest) (clash-replies σ l rest ∙ ap answer_of e)

  -- what is seen behind a literal that shares something is seen from it on
  one-before : (i at : ℕ) (done : Conj) (l : Literal) (rest : Conj) (v : Clashing)
      → earliest at_clash (on_pair (Clash σ)) i done (l ∷ rest) ≡ earliest at_clash (on_pair (Clash σ)) (suc i) (done ++ (l ∷ [])) rest
      → Seen σ (suc i) (at + length (literal_words l)) (done ++ (l ∷ [])) rest v → Seen σ i at done (l ∷ rest) v
  one-before i at done l rest v e (none-there d f) = none-there d (e ∙ f)
  one-before i at done l rest v e (one-there mid m behind w d c f) =
      one-there (l ∷ mid) m behind (ap (λ k. l ∷ k) w) (d ∙ ap At (let z = length-append (literal_words l) (conj_words mid) in omega arith)) c
      (e ∙ f ∙ ap (λ n. results (record { rule = at_clash; literal = n; swapped = false }, [])) (omega arith))
  one-before i at done l rest v e (not-told d f) = not-told d (e ∙ f)

  pub seen : (i at : ℕ) (done rest : Conj) → Seen σ i at done rest (first_clash σ at rest)
  unfolding by
  seen i at done [] = none-there refl refl
  seen i at done (l ∷ rest) = go (reply_of σ l rest) refl (seen (suc i) (at + length (literal_words l)) (done ++ (l ∷ [])) rest)
    where
      go : (v : Verdict) → reply_of σ l rest ≡ v → Seen σ (suc i) (at + length (literal_words l)) (done ++ (l ∷ [])) rest (first_clash σ (at + length (literal_words l)) rest)
          → Seen σ i at done (l ∷ rest) (elim v [ Shares ↦ first_clash σ (at + length (literal_words l)) rest | Clashes ↦ At at | Long ↦ Stopped ])
      go Shares e s = one-before i at done l rest _ (at_literal i done l rest Shares e) s
      go Clashes e s =
          one-there [] l rest refl (ap At (omega arith)) (clash-replies σ l rest ∙ ap answer_of e)
          (at_literal i done l rest Clashes e ∙ ap (λ n. results (record { rule = at_clash; literal = n; swapped = false }, [])) (omega arith))
      go Long e s = not-told refl (at_literal i done l rest Long e)
