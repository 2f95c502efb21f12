-- What the returns of desk_place cite: the words lent have the mistake that the bytes have, and it is among them.
use Prim.Native.Nat.{ℕ, ◌≤◌}
use mathlib.Core.Path.{◌≡◌, refl, sym, ap, ◌∙◌}
use mathlib.Core.Bool.{Bool, true, false}
use mathlib.Core.List.{List, []}
use native.Mathlib.Omega.{arith}
use lib.Dec.{leb, eqb}
use lib.ListN.{length}
use borrow.Author.Tests.{leb-true, eqb-true, eqb-false}
use Rattle.language.specs.declared.Refusal.{Refusal}
use Rattle.language.specs.Kinds.{pick}
use Rattle.language.specs.Limits.{Limits, desk}
use Rattle.language.specs.Numbers.{number_of, place_of}
use Rattle.language.specs.Question.{refuses, asked_place, read_question}
use Rattle.language.specs.Mistakes.{RightPlace}
use Rattle.language.proofs.Mistakes.{place-right}
use Rattle.std.specs.Prelude.{Result, Ok, Err}
use Rattle.outcomes.specs.Numbers.{checked_numbers}
use Rattle.reader.specs.Checking.{asked_numbers}
use Rattle.reader.proofs.Answers.{as-checked, question-asked, question-refused}
use Rattle.word_bytes.specs.Bytes.{words_in, fitting}
use Rattle.try_host.specs.Host.{place_bytes}
use Rattle.word_bytes.proofs.Fitting.{fitting-question}

-- a right place is among the words, or right behind them
inside : (L : Limits) (ws : List ℕ) (r : Refusal) → RightPlace L ws r → place_of r ≤ length ws
inside L ws r p = on (eqb (number_of r) 5) refl (eqb (number_of r) 6) refl
  where
    on : (a : Bool) → eqb (number_of r) 5 ≡ a → (b : Bool) → eqb (number_of r) 6 ≡ b → place_of r ≤ length ws
    on true e b f = let h = p.five (eqb-true _ _ e) in omega (arith, h.high, h.inside)
    on false e true f = let h = p.six (eqb-true _ _ f) in omega (arith, h.high)
    on false e false f = let z = p.others (eqb-false _ _ e) (eqb-false _ _ f) in omega arith

fitting-short : (n : ℕ) (ws : List ℕ) → length (fitting n ws) ≤ n
unfolding fitting
fitting-short n ws = on (leb (length ws) n) refl
  where
    on : (b : Bool) → leb (length ws) n ≡ b → length (pick b ws []) ≤ n
    on true e = leb-true (length ws) n e
    on false e = omega arith

module _ (q ws : List ℕ) (lent : ws ≡ fitting desk.question (words_in q)) (c : Result (Unit {0}) Refusal) (read : checked_numbers c ≡ asked_numbers (read_question desk ws)) where
  same : read_question desk ws ≡ read_question desk (words_in q)
  same = ap (read_question desk) lent ∙ fitting-question (words_in q)

  pub no-mistake : c ≡ Ok tt → 0 ≡ place_bytes desk q
  unfolding place_bytes
  no-mistake f = let (a, i) = question-asked ws (sym f ∙ as-checked c _ read) in sym (ap asked_place (sym same ∙ i))

  module _ {r : Refusal} (f : c ≡ Err r) where
    refused : read_question desk ws ≡ refuses r
    refused = question-refused ws r (sym f ∙ as-checked c _ read)

    pub its-place : place_of r ≡ place_bytes desk q
    unfolding place_bytes
    its-place = sym (ap asked_place (sym same ∙ refused))

    pub place_short : place_of r ≤ desk.question
    place_short = omega (arith, inside desk ws r (place-right desk ws r refused), ap length lent, fitting-short desk.question (words_in q))
