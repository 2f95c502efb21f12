-- A named step at a conjunction: what was chosen, and what taking it leaves.
use Prim.Native.Nat.{ℕ, ◌+◌, ◌<◌}
use native.Mathlib.Omega.{arith}
use mathlib.Core.Path.{◌≡◌, refl, sym, ap, ◌∙◌, subst}
use mathlib.Core.Bool.{Bool, true, false}
use mathlib.Core.List.{List, [], ◌∷◌, ◌++◌, map}
use lib.Dec.{ltb}
use lib.ListN.{length, length-append}
use borrow.Author.Tests.{lt-ltb, le-ltb}
use Rattle.std.specs.Prelude.{Some, Result, Ok, Err}
use Rattle.language.specs.declared.Refusal.{Refusal}
use Rattle.language.specs.declared.Refusal.TheVariants.{LongResult, LongWaiting, BadStep}
use Rattle.language.specs.declared.Signature.{Signature}
use Rattle.language.specs.Limits.{desk}
use Rattle.language.specs.Trees.{Conj}
use Rattle.language.specs.Writing.{literal_words, conj_words}
use Rattle.language.specs.Fine.{fine_conj}
use Rattle.rules.specs.Reply.{Reply, nothing, results, stops}
use Rattle.rules.specs.Run.{all_of, waiting_size}
use Rattle.replay.specs.Replay.{Triple}
use Rattle.plans.specs.Sizes.{sized}
use Rattle.taking.proofs.Sizing.{fits-exact, fits-past, over-any_long, fits-any_long}
use Rattle.views.specs.Standing.{LiteralAt}
use Rattle.views.proofs.LiteralWalks.{stands_here, literal-some}
use Rattle.search.specs.declared.Best.{Best}
use Rattle.steps.specs.Asking.{RuleAt}
use Rattle.taking.specs.Taking.{Took, long, room, done}
use Rattle.telling.specs.Telling.{named_reply, chosen_of, chosen_by, Applies}
use Rattle.telling.specs.Telling as telling
use Rattle.telling.proofs.Laws.{named-applies}
use Rattle.named_steps.specs.Naming.{Naming, made, given-up, checked, replied, named_at}
use Rattle.named_steps.specs.Leaves.{result_words, Leaves, refuses, makes}

-- ---- what was chosen

-- a step, with its results
pub record Chooses (σ : Signature) (c : Conj) (t : Triple) (b : Best) : Type 0 where
  pub ks : List Conj
  pub applies : Applies σ c b ks
  pub reply : named_reply σ t c ≡ results ks

module _ (σ : Signature) (c : Conj) (t : Triple) (r : Result Best Refusal) (chosen : r ≡ chosen_by σ c t) where
  pub chosen-step : (b : Best) → r ≡ Ok b → Chooses σ c t b
  unfolding chosen_by
  chosen-step b e = go (named_reply σ t c) refl chosen
    where
      go : (m : Reply (List Conj)) → named_reply σ t c ≡ m → r ≡ chosen_of (telling.named c t) m → Chooses σ c t b
      go nothing i d = absurd (let z : ◌≡◌ {A = ℕ} 0 1 = cc in omega arith)
      go (stops x) i d = absurd (let z : ◌≡◌ {A = ℕ} 0 1 = cc in omega arith)
      go (results ks) i d =
          let z : telling.named c t ≡ b = cc in
          record { ks = ks; applies = subst (λ x. Applies σ c x ks) z (named-applies σ c t ks i); reply = i }

  pub chosen-not : (number : ℕ) (x : Refusal) → r ≡ Err x → named_at desk number σ t c ≡ given-up x
  unfolding chosen_by
  chosen-not number x e = go (named_reply σ t c) refl chosen
    where
      go : (m : Reply (List Conj)) → named_reply σ t c ≡ m → r ≡ chosen_of (telling.named c t) m → named_at desk number σ t c ≡ given-up x
      go nothing i d = ap (replied desk number) i ∙ ap given-up (let z : BadStep ≡ x = cc in z)
      go (stops y) i d = ap (replied desk number) i ∙ ap given-up (let z : y ≡ x = cc in z)
      go (results ks) i d = absurd (let z : ◌≡◌ {A = ℕ} 0 1 = cc in omega arith)

-- the literal that it is made at
module _ (σ : Signature) (k : List ℕ) (c : Conj) (fine : fine_conj desk c) (words : k ≡ conj_words c) (t : Triple) (b : Best) (p : Chooses σ c t b) where
  pub here : LiteralAt k b.at p.applies.before p.applies.l p.applies.behind
  here = stands_here k c fine words b.at p.applies.before p.applies.l p.applies.behind p.applies.whole p.applies.place

  pub rule-here : RuleAt σ k b
  rule-here = record { before = p.applies.before; l = p.applies.l; behind = p.applies.behind; made = p.ks; stands = here; applies = p.applies.makes }

  pub inside : b.at < length k
  inside =
      let x = ap length here.words in
      let y = length-append (conj_words p.applies.before) (literal_words p.applies.l ++ conj_words p.applies.behind) in
      let z = length-append (literal_words p.applies.l) (conj_words p.applies.behind) in
      let v = literal-some p.applies.l in
      let q = p.applies.place in
      omega arith

-- ---- what taking it leaves

-- results that wait alone take the words of their frames
waiting-words : (number : ℕ) (ks : List Conj) → waiting_size (all_of number ks) ≡ length (result_words number ks)
waiting-words number [] = refl
waiting-words number (k ∷ ks) =
    let a = waiting-words number ks in
    let l = length-append (conj_words k) (result_words number ks) in
    omega arith

-- 7 and 8 by two tests
abbrev checked_by : Bool → Bool → List Conj → Naming
checked_by a b ks = elim a [ true ↦ given-up LongResult | false ↦ elim b [ true ↦ given-up LongWaiting | false ↦ made ks ] ]

module _ (number : ℕ) (ks : List Conj) (old new : List ℕ) (r : Result ℕ Refusal) (took : Took number (map conj_words ks) old desk.room r new) where
  abbrev v : Naming
  v = checked desk number ks

  -- 7 does not hold
  fits : (n : ℕ) → sized (map conj_words ks) ≡ Some n → v ≡ checked_by false (ltb desk.room (waiting_size (all_of number ks))) ks
  fits n o = ap (λ a. checked_by a (ltb desk.room (waiting_size (all_of number ks))) ks) (fits-any_long ks (map conj_words ks) refl n o)

  pub leaves-taken : Leaves number v old r new
  leaves-taken = go took
    where
      go : Took number (map conj_words ks) old desk.room r new → Leaves number v old r new
      go (long d o y) = refuses LongResult d (ap (λ a. checked_by a (ltb desk.room (waiting_size (all_of number ks))) ks) (over-any_long ks (map conj_words ks) refl o)) y
      go (room n d o i y) =
          let x = fits-past number (map conj_words ks) n o i in
          let w = waiting-words number ks in
          refuses LongWaiting d (fits n o ∙ ap (λ b. checked_by false b ks) (lt-ltb desk.room (waiting_size (all_of number ks)) (omega arith))) y
      go (done n at d o i y) =
          let x = fits-exact number (map conj_words ks) n o (omega arith) in
          let w = waiting-words number ks in
          makes ks at d (fits n o ∙ ap (λ b. checked_by false b ks) (le-ltb desk.room (waiting_size (all_of number ks)) (omega arith))) (omega arith) y

-- by the reply
pub leaves-as : (number : ℕ) (v u : Naming) (old : List ℕ) (r : Result ℕ Refusal) (new : List ℕ) → v ≡ u → Leaves number u old r new → Leaves number v old r new
leaves-as number v u old r new e p = subst (λ x. Leaves number x old r new) (sym e) p
