-- The first literal that clashes with a later one: none of those passed does.
use Prim.Native.Nat.{ℕ, ◌+◌, ◌<◌, ◌≤◌}
use mathlib.Core.Path.{◌≡◌, refl, sym, ap, ◌∙◌}
use mathlib.Core.List.{List, [], ◌∷◌, ◌++◌}
use native.Mathlib.Omega.{arith}
use lib.ListN.{length, drop, length-append}
use Rattle.language.specs.declared.Signature.{Signature}
use Rattle.language.specs.Limits.{desk}
use Rattle.language.specs.Trees.{Literal, Conj}
use Rattle.language.specs.Writing.{literal_words, conj_words}
use Rattle.language.specs.Fine.{fine_conj}
use Rattle.words.specs.Places.{until_literal}
use Rattle.views.specs.Standing.{LiteralAt, SomeLiteral}
use Rattle.views.proofs.Seen.{literal-next}
use Rattle.views.proofs.LiteralWalks.{Walked, literal-some, walk-starts, walk_here, walk-to, walk_ends}
use Rattle.clash.specs.declared.Verdict.{Verdict}
use Rattle.clash.specs.declared.Verdict.TheVariants.{Shares, Clashes, Long}
use Rattle.clashes.specs.declared.Clashing.{Clashing}
use Rattle.clashes.specs.declared.Clashing.TheVariants.{Nowhere, At, Stopped}
use Rattle.clashes.specs.Pairs.{reply_of, first_clash}

-- the first among those to come, the first of which stands at i, is the first of all
abbrev pub Passed : Signature → Conj → ℕ → Conj → Conj → Type 0
Passed σ c i done rest = first_clash σ 0 c ≡ first_clash σ i rest

-- by what a literal and those behind it come to
abbrev by : Signature → ℕ → Literal → Conj → Verdict → Clashing
by σ i l rest v = elim v [ Shares ↦ first_clash σ (i + length (literal_words l)) rest | Clashes ↦ At i | Long ↦ Stopped ]

pub first-starts : (σ : Signature) (c : Conj) → Walked (Passed σ c 0) c 0
first-starts σ c = walk-starts (Passed σ c 0) c refl

module _ (k : List ℕ) (c : Conj) (fine : fine_conj desk c) (words : k ≡ conj_words c) (σ : Signature) (i : ℕ) (w : Walked (Passed σ c i) c i) where
  pub first-literal : i < length k → SomeLiteral k i
  first-literal lt = walk_here k c fine words i (Passed σ c i) (SomeLiteral k i) w lt λ done l rest p q. record { before = done; l = l; behind = rest; stands = p }

  pub first_ends : length k ≤ i → Nowhere ≡ first_clash σ 0 c
  first_ends h = sym (walk_ends k c fine words i (Passed σ c i) w h)

  module _ (lt : i < length k) {r : Verdict} (v : (before : Conj) (l : Literal) (behind : Conj) → LiteralAt k i before l behind → r ≡ reply_of σ l behind) where
    found : (x : Verdict) → r ≡ x → (done : Conj) (l : Literal) (rest : Conj) → LiteralAt k i done l rest → Passed σ c i done (l ∷ rest) → first_clash σ 0 c ≡ by σ i l rest x
    found x e done l rest p q = q ∙ ap (by σ i l rest) (sym (v done l rest p) ∙ e)

    pub first-clashes : r ≡ Clashes → At i ≡ first_clash σ 0 c
    first-clashes e = walk_here k c fine words i (Passed σ c i) (At i ≡ first_clash σ 0 c) w lt λ done l rest p q. sym (found Clashes e done l rest p q)

    pub first-long : r ≡ Long → Stopped ≡ first_clash σ 0 c
    first-long e = walk_here k c fine words i (Passed σ c i) (Stopped ≡ first_clash σ 0 c) w lt λ done l rest p q. sym (found Long e done l rest p q)

    pub first_on : r ≡ Shares → {j : ℕ} → j ≡ i + 1 + until_literal (drop (i + 1) k) → Walked (Passed σ c j) c j
    first_on e {j} n =
        walk-to k c fine words i (Passed σ c i) (Passed σ c j) j w lt
        λ done l rest p q. let z = n ∙ literal-next p in (z, found Shares e done l rest p q ∙ ap (λ m. first_clash σ m rest) (sym z))

-- where one is found, it is within the words
at_same : {i j : ℕ} → At i ≡ At j → i ≡ j
at_same e = cc

pub clash-within : (σ : Signature) (at : ℕ) (c : Conj) (i : ℕ) → At i ≡ first_clash σ at c → i < at + length (conj_words c)
clash-within σ at [] i e = absurd (let z : ◌≡◌ {A = ℕ} 0 1 = cc in omega arith)
clash-within σ at (l ∷ k) i e = go (reply_of σ l k) e (clash-within σ (at + length (literal_words l)) k i)
  where
    go : (v : Verdict) → At i ≡ by σ at l k v → (At i ≡ first_clash σ (at + length (literal_words l)) k → i < at + length (literal_words l) + length (conj_words k))
        → i < at + length (literal_words l ++ conj_words k)
    go Shares e f = let z = f e in let y = length-append (literal_words l) (conj_words k) in omega arith
    go Clashes e f = let z = at_same e in let y = length-append (literal_words l) (conj_words k) in let x = literal-some l in omega arith
    go Long e f = absurd (let z : ◌≡◌ {A = ℕ} 0 1 = cc in omega arith)
