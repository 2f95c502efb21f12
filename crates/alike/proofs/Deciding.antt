-- The call: equal words are the same, where all symbols are ordered nothing else is, and where some are not the trees decide.
use Prim.Native.Nat.{ℕ, ◌+◌, ◌-◌, ◌≤◌}
use mathlib.Core.Path.{◌≡◌, refl, sym, ap, ◌∙◌}
use mathlib.Core.Logic.{◌↔◌}
use mathlib.Core.Bool.{Bool, true, false, not}
use mathlib.Core.List.{List, [], append-nil}
use native.Mathlib.Omega.{arith}
use lib.Dec.{T}
use lib.ListN.{length, take, drop, length-append}
use lib.Seq.{take_at, drop_at}
use Rattle.language.specs.declared.Signature.{Signature}
use Rattle.language.specs.Between.{between}
use Rattle.language.specs.Trees.{any_unordered}
use Rattle.meaning.specs.Complete.{Complete, complete_words}
use Rattle.meaning.specs.Deciding.{same_test}
use Rattle.meaning.proofs.Complete.{words-apart}
use Rattle.meaning.proofs.Same.{same-≡, same-words, none_any}
use Rattle.meaning.proofs.Deciding.{same-decided}
use Rattle.passing.specs.Places.{Holds, Hedge}
use Rattle.passing.proofs.Words.{holds_of}
use Rattle.alike.specs.Tasks.{SameWords, Compared, Two, Pair, Decided}
use Rattle.alike.proofs.Finding.{is_false}

-- a test that stands for a fact
as-test : {P : Type 0} (b : Bool) → T b ↔ P → (b ≡ true) ↔ P
as-test true p = (λ _. p.0 tt, λ _. refl)
as-test false p = (λ e. absurd (let z : ◌≡◌ {A = ℕ} 0 1 = cc in omega arith), λ x. absurd (p.1 x))

module _ {w : List ℕ} {m : ℕ} where
  module _ {g h : Complete} (t : Two w m g h) where
    first-is : between 0 m w ≡ complete_words g
    first-is = ap (take (m - 0)) t.words ∙ take_at (complete_words g) (complete_words h) (m - 0) (omega (arith, t.middle))

    second-words : drop m w ≡ complete_words h
    second-words = ap (drop m) t.words ∙ drop_at (complete_words g) (complete_words h) m (omega (arith, t.middle))

    second_is : between m (length w) w ≡ complete_words h
    second_is =
        let l : length w ≡ length (complete_words g) + length (complete_words h) = ap length t.words ∙ length-append (complete_words g) (complete_words h) in
        ap (take (length w - m)) (second-words ∙ sym (append-nil (complete_words h))) ∙ take_at (complete_words h) [] (length w - m) (omega (arith, t.middle))

    first_holds : Holds w 0 g
    first_holds = holds_of (record { others = complete_words h; words = t.words })

    second_holds : Holds w m h
    second_holds = holds_of (record { others = []; words = second-words ∙ sym (append-nil (complete_words h)) })

  pub first-hedge : Pair w m → Hedge w 0
  first-hedge p = record { g = p.g; here = first_holds p.it }

  pub second-hedge : Pair w m → Hedge w m
  second-hedge p = record { g = p.h; here = second_holds p.it }

  pub middle-within : Pair w m → m ≤ length w
  middle-within p = omega (arith, p.it.middle, ap length p.it.words, length-append (complete_words p.g) (complete_words p.h))

  module _ {σ : Signature} where
    pub equal-same : {r : Bool} → SameWords (between 0 m w) (between m (length w) w) r → r ≡ true → Decided σ w m true
    equal-same s e = record { means = λ g h t. (λ _. same-≡ σ g h (words-apart g h (sym (first-is t) ∙ s.same e ∙ second_is t)), λ _. refl) }

    pub other-ordered : {r u : Bool} → SameWords (between 0 m w) (between m (length w) w) r → r ≡ false → u ≡ any_unordered σ → not u ≡ true → Decided σ w m false
    other-ordered {r} {u} s e d n = record {
      means = λ g h t. (
        λ z. absurd (let z : ◌≡◌ {A = ℕ} 0 1 = cc in omega arith),
        λ k. absurd (s.other e (first-is t ∙ (same-words σ (none_any σ (sym d ∙ is_false u n)) g h).0 k ∙ sym (second_is t))),
      );
    }

    pub trees-decide : {k k' : List Bool} {r : Bool} → Compared σ w 0 m k false k' r → Decided σ w m r
    unfolding same_test
    trees-decide {r = r} c = record { means = λ g h t. as-test r (rw (c.each g h (first_holds t) (second_holds t)) (same-decided σ g h)) }
