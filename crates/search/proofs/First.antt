-- The first rule that applies, and for it the earliest literal, are those of the least rank, where no rule of two literals applies before it: for any
-- list of rules.
use Prim.Native.Nat.{ℕ, zero, suc, ◌+◌, ◌<◌, ◌≤◌}
use native.Mathlib.Omega.{arith}
use mathlib.Core.Path.{◌≡◌, refl, sym, ap, ap₂, ◌∙◌, subst}
use mathlib.Core.Bool.{Bool, true, false}
use mathlib.Core.List.{List, [], ◌∷◌, ◌++◌, append_assoc, append-nil}
use lib.ListN.{length, drop}
use Rattle.language.specs.Kinds.{pick}
use Rattle.language.specs.Trees.{Literal, Conj}
use Rattle.rules.specs.Reply.{Reply, nothing, results, stops}
use Rattle.rules.specs.Rules.{Rule, on_eqn, on_mem, on_pair}
use Rattle.rules.specs.Step.{or_next, each, results_at, Spot, found, earliest, first}
use Rattle.rules.specs.Step as step
use Rattle.search.specs.Ranking.{Tried, sided, sides, tried, applies, first_reply, reply_at, Each}

-- ---- each literal of a part

pub each_map : (P Q : Conj → Literal → Conj → Type 0) → ((before : Conj) (l : Literal) (behind : Conj) → P before l behind → Q before l behind)
    → (before mid behind : Conj) → Each P before mid behind → Each Q before mid behind
each_map P Q f before [] behind e = tt
each_map P Q f before (l ∷ mid) behind e = (f before l (mid ++ behind) e.0, each_map P Q f (before ++ (l ∷ [])) mid behind e.1)

pub each_append : (P : Conj → Literal → Conj → Type 0) (before m n behind : Conj) → Each P before m (n ++ behind) → Each P (before ++ m) n behind → Each P before (m ++ n) behind
each_append P before [] n behind e f = rw append-nil at f
each_append P before (l ∷ m) n behind e f = (
  subst (λ k. P before l k) (sym (append_assoc m n behind)) e.0,
  each_append P (before ++ (l ∷ [])) m n behind e.1 (subst (λ k. Each P k n behind) (sym (append_assoc before (l ∷ []) m)) f),
)

-- ---- a rule at one literal, and where it is found

abbrev pub spotted : ℕ → ℕ → Bool × List Conj → Spot × List Conj
spotted n i f = (record { rule = n; literal = i; swapped = f.0 }, f.1)

one-literal : (n i : ℕ) (x y : Reply (List Conj)) (more : Unit {0} → step.Found)
    → or_next (found n i false x) (λ _. or_next (found n i true y) more) ≡ or_next (each (spotted n i) (or_next (sided false x) (λ _. sided true y))) more
one-literal n i nothing nothing more = refl
one-literal n i nothing (results b) more = refl
one-literal n i nothing (stops r) more = refl
one-literal n i (results a) y more = refl
one-literal n i (stops r) y more = refl

earliest-sides : (n : ℕ) (rule : Rule) (i : ℕ) (before : Conj) (l : Literal) (behind : Conj)
    → earliest n rule i before (l ∷ behind) ≡ or_next (each (spotted n i) (sides rule before l behind)) (λ _. earliest n rule (suc i) (before ++ (l ∷ [])) behind)
earliest-sides n rule i before l behind = one-literal n i (results_at false rule before l behind) (results_at true rule before l behind) _

module _ (n : ℕ) (rule : Rule) where
  -- what the rule comes to at the literal, and else at those behind it
  here : (i : ℕ) (before : Conj) (l : Literal) (behind : Conj) (m : Tried) → sides rule before l behind ≡ m
      → earliest n rule i before (l ∷ behind) ≡ or_next (each (spotted n i) m) (λ _. earliest n rule (suc i) (before ++ (l ∷ [])) behind)
  here i before l behind m e =
      earliest-sides n rule i before l behind ∙ ap (λ m. or_next (each (spotted n i) m) (λ _. earliest n rule (suc i) (before ++ (l ∷ [])) behind)) e

  -- a rule that applies to none of the first literals
  pass : (i j : ℕ) (before mid behind : Conj) → j ≡ i + length mid → Each (λ before l behind. sides rule before l behind ≡ nothing) before mid behind
      → earliest n rule i before (mid ++ behind) ≡ earliest n rule j (before ++ mid) behind
  pass i j before [] behind d e = ap₂ (λ i k. earliest n rule i k behind) (omega arith) (sym (append-nil before))
  pass i j before (l ∷ mid) behind d e =
      here i before l (mid ++ behind) nothing e.0
      ∙ pass (suc i) j (before ++ (l ∷ [])) mid behind (omega arith) e.1
      ∙ ap (λ k. earliest n rule j k behind) (append_assoc before (l ∷ []) mid)

-- ---- a rule of two literals among all of a conjunction

abbrev pub Idle : Conj → Rule → Type 0
Idle c (on_eqn rule) = Unit {0}
Idle c (on_mem rule) = Unit {0}
Idle c (on_pair rule) = (n : ℕ) → earliest n (on_pair rule) 0 [] c ≡ nothing

-- those among the first n of the list come to nothing
abbrev pub PairsIdle : Conj → ℕ → List Rule → Type 0
PairsIdle c zero rs = Unit {0}
PairsIdle c (suc n) [] = Unit {0}
PairsIdle c (suc n) (rule ∷ rs) = Idle c rule × PairsIdle c n rs

-- a rule that applies nowhere, and one of one literal that applies at a literal and at none before it
abbrev Silent : Rule → Conj → Literal → Conj → Type 0
Silent rule before l behind = tried rule before l behind ≡ nothing

quiet : (n : ℕ) (rule : Rule) (c : Conj) → Each (Silent rule) [] c [] → Idle c rule → earliest n rule 0 [] c ≡ nothing
quiet n (on_eqn rule) c e i = ap (earliest n (on_eqn rule) 0 []) (sym (append-nil c)) ∙ pass n (on_eqn rule) 0 (length c) [] c [] (omega arith) e
quiet n (on_mem rule) c e i = ap (earliest n (on_mem rule) 0 []) (sym (append-nil c)) ∙ pass n (on_mem rule) 0 (length c) [] c [] (omega arith) e
quiet n (on_pair rule) c e i = i n

met : (n : ℕ) (rule : Rule) (before : Conj) (l : Literal) (behind : Conj) (f : Bool × List Conj) → Each (Silent rule) [] before (l ∷ behind) → tried rule before l behind ≡ results f
    → earliest n rule 0 [] (before ++ (l ∷ behind)) ≡ results (spotted n (length before) f)
met n (on_eqn rule) before l behind f e a =
    pass n (on_eqn rule) 0 (length before) [] before (l ∷ behind) (omega arith) e ∙ here n (on_eqn rule) (length before) before l behind (results f) a
met n (on_mem rule) before l behind f e a =
    pass n (on_mem rule) 0 (length before) [] before (l ∷ behind) (omega arith) e ∙ here n (on_mem rule) (length before) before l behind (results f) a
met n (on_pair rule) before l behind f e a = absurd (let z : ◌≡◌ {A = ℕ} 0 1 = cc in omega arith)

-- ---- by the rank of each literal

abbrev rank : List Rule → Conj → Literal → Conj → ℕ
rank rs before l behind = first_reply (λ rule. tried rule before l behind) rs

-- a rank above 0 says that the first rule is silent, and goes by the others
silent : (x : Tried) (n m : ℕ) → n < pick (applies x) 0 (suc m) → (x ≡ nothing) × (n ≤ m)
silent nothing n m h = (refl, omega arith)
silent (results a) n m h = absurd (omega arith)
silent (stops r) n m h = absurd (omega arith)

equal : (x : Tried) (n m : ℕ) → suc n ≡ pick (applies x) 0 (suc m) → (x ≡ nothing) × (n ≡ m)
equal nothing n m h = (refl, omega arith)
equal (results a) n m h = absurd (omega arith)
equal (stops r) n m h = absurd (omega arith)

module _ (rule : Rule) (rs : List Rule) where
  -- of all literals of a part
  all-silent : (n : ℕ) (before mid behind : Conj) → Each (λ before l behind. n < rank (rule ∷ rs) before l behind) before mid behind
      → Each (λ before l behind. tried rule before l behind ≡ nothing) before mid behind
  all-silent n = each_map _ _ (λ before l behind h. (silent (tried rule before l behind) n (rank rs before l behind) h).0)

  all_after : (n : ℕ) (before mid behind : Conj) → Each (λ before l behind. n < rank (rule ∷ rs) before l behind) before mid behind
      → Each (λ before l behind. n ≤ rank rs before l behind) before mid behind
  all_after n = each_map _ _ (λ before l behind h. (silent (tried rule before l behind) n (rank rs before l behind) h).1)

-- rules that apply nowhere are passed
pub skip : (m n : ℕ) (rs : List Rule) (c : Conj) → n ≤ length rs → Each (λ before l behind. n ≤ rank rs before l behind) [] c [] → PairsIdle c n rs
    → first m rs c ≡ first (m + n) (drop n rs) c
skip m zero rs c h e p = ap (λ i. first i rs c) (omega arith)
skip m (suc n) [] c h e p = absurd (omega arith)
skip m (suc n) (rule ∷ rs) c h e p =
    ap (λ a. or_next a (λ _. first (suc m) rs c)) (quiet m rule c (all-silent rule rs n [] c [] e) p.0)
    ∙ skip (suc m) n rs c (omega arith) (all_after rule rs n [] c [] e) p.1 ∙ ap (λ i. first i (drop n rs) c) (omega arith)

pub found_first : (m s : ℕ) (rs : List Rule) (before : Conj) (l : Literal) (behind : Conj) (n : ℕ) (f : Bool × List Conj) → s ≡ m + n
    → n ≡ rank rs before l behind → reply_at (λ rule. tried rule before l behind) rs n ≡ results f
    → Each (λ before l behind. n < rank rs before l behind) [] before (l ∷ behind) → Each (λ before l behind. n ≤ rank rs before l behind) (before ++ (l ∷ [])) behind []
    → PairsIdle (before ++ (l ∷ behind)) n rs
    → first m rs (before ++ (l ∷ behind)) ≡ results (spotted s (length before) f)
found_first m s [] before l behind n f d r a low high p = absurd (let z : ◌≡◌ {A = ℕ} 0 1 = cc in omega arith)
found_first m s (rule ∷ rs) before l behind zero f d r a low high p =
    ap (λ k. or_next k (λ _. first (suc m) rs (before ++ (l ∷ behind)))) (met m rule before l behind f (all-silent rule rs 0 [] before (l ∷ behind) low) a)
    ∙ ap (λ n. results (spotted n (length before) f)) (omega arith)
found_first m s (rule ∷ rs) before l behind (suc n) f d r a low high p =
    let q = equal (tried rule before l behind) n (rank rs before l behind) r in
    let all : Each (Silent rule) [] (before ++ (l ∷ behind)) [] =
    each_append (Silent rule) [] before (l ∷ behind) []
    (subst (λ k. Each (Silent rule) [] before (l ∷ k)) (sym (append-nil behind)) (all-silent rule rs (suc n) [] before (l ∷ behind) low))
    (subst (λ k. Silent rule before l k) (sym (append-nil behind)) q.0, all-silent rule rs n (before ++ (l ∷ [])) behind [] high)
    in
    ap (λ k. or_next k (λ _. first (suc m) rs (before ++ (l ∷ behind)))) (quiet m rule (before ++ (l ∷ behind)) all p.0)
    ∙ found_first (suc m) s rs before l behind n f (omega arith) q.1 a
    (each_map (λ before l behind. suc n ≤ rank rs before l behind) (λ before l behind. n < rank rs before l behind) (λ before l behind h. omega arith) [] before (l ∷ behind) (all_after rule rs (suc n) [] before (l ∷ behind) low))
    (all_after rule rs n (before ++ (l ∷ [])) behind [] high)
    p.1
