-- The rank of a literal between others: the place of the first rule of one literal that comes to anything there. The search of a step by one pass over
-- the literals, and beside it the rules of two.
use Rattle.std.specs.Prelude.{ℕ, suc, ◌<◌, ◌≤◌, ◌≡◌, Bool, true, false, List, [], ◌∷◌, ◌++◌, map, length}
use Rattle.language.specs.declared.Signature.{Signature}
use Rattle.language.specs.declared.Refusal.TheVariants.{LongWalk}
use Rattle.language.specs.Kinds.{pick}
use Rattle.language.specs.Trees.{Literal, eqn, mem, Conj}
use Rattle.language.specs.Writing.{conj_words}
use Rattle.rules.specs.Reply.{Reply, nothing, results, stops}
use Rattle.rules.specs.Rules.{Answer, Rule, on_eqn, on_mem, on_pair, rules}
use Rattle.rules.specs.Step.{or_next, each, placed, results_at, search}
use Rattle.rules.specs.Places.{no_rule, stops_rule}
use Rattle.rules.specs.Ranks.{eqn_answer, mem_answer}

-- ---- the rules at one literal

-- what a rule comes to at a literal, and whether the sides are swapped
abbrev pub Tried : Type 0
Tried = Reply (Bool × List Conj)

abbrev pub sided : Bool → Reply (List Conj) → Tried
sided swap m = each (λ (ks : List Conj). (swap, ks)) m

-- an equation as it is written first, then swapped
abbrev pub sides : Rule → Conj → Literal → Conj → Tried
sides rule before l behind = or_next (sided false (results_at false rule before l behind)) (λ _. sided true (results_at true rule before l behind))

-- a rule of one literal; one of two is looked for among all literals, and nothing here
abbrev pub tried : Rule → Conj → Literal → Conj → Tried
tried (on_eqn rule) before l behind = sides (on_eqn rule) before l behind
tried (on_mem rule) before l behind = sides (on_mem rule) before l behind
tried (on_pair rule) before l behind = nothing

abbrev pub applies : Tried → Bool
applies nothing = false
applies (results f) = true
applies (stops r) = true

-- the place of the first that applies, or their number
abbrev pub first_reply : (Rule → Tried) → List Rule → ℕ
first_reply at [] = 0
first_reply at (rule ∷ rs) = pick (applies (at rule)) 0 (suc (first_reply at rs))

-- what the rule of a place comes to
abbrev pub reply_at : (Rule → Tried) → List Rule → ℕ → Tried
reply_at at [] n = nothing
reply_at at (rule ∷ rs) n = elim n [ ℕ.zero ↦ at rule | ℕ.suc m ↦ reply_at at rs m ]

-- the place of the first rule that applies at the literal between the others
unfoldable pub lit_rank : Signature → Conj → Literal → Conj → ℕ
lit_rank σ before l behind = first_reply (λ rule. tried rule before l behind) (rules σ)

-- what the rule of a place answers, an equation being seen as it is written or swapped
abbrev pub side_answer : Signature → Bool → ℕ → Conj → Literal → Answer
side_answer σ swap n K (eqn l r) = pick swap (eqn_answer σ n K r l) (eqn_answer σ n K l r)
side_answer σ swap n K (mem h R) = mem_answer σ n K h R

-- what a rule of two literals makes of a literal and those behind it
abbrev pub at_pair : Rule → Literal → Conj → Reply (List Conj)
at_pair (on_eqn rule) l behind = nothing
at_pair (on_mem rule) l behind = nothing
at_pair (on_pair rule) l behind = rule l behind

abbrev pub pair_at : List Rule → ℕ → Literal → Conj → Reply (List Conj)
pair_at [] n l behind = nothing
pair_at (rule ∷ rs) n l behind = elim n [ ℕ.zero ↦ at_pair rule l behind | ℕ.suc m ↦ pair_at rs m l behind ]

unfoldable pub pair_answer : Signature → ℕ → Literal → Conj → Reply (List Conj)
pair_answer σ n l behind = pair_at (rules σ) n l behind

-- what the rule of a place comes to at the literal between the others: a rule of one literal from its side, a rule of two with those behind it
abbrev pub side_results : Signature → Bool → ℕ → Conj → Literal → Conj → Reply (List Conj)
side_results σ swap n before l behind =
    or_next (placed before behind (side_answer σ swap n (before ++ behind) l)) (λ _. each (map (λ (k : Conj). before ++ k)) (pair_answer σ n l behind))

-- the rank of a literal, and from which side its rule answers
pub record Ranked (σ : Signature) (before : Conj) (l : Literal) (behind : Conj) (n : ℕ) (swap : Bool) : Type 0 where
  pub rank : n ≡ lit_rank σ before l behind
  pub side : reply_at (λ rule. tried rule before l behind) (rules σ) n ≡ sided swap (placed before behind (side_answer σ swap n (before ++ behind) l))

-- ---- all literals

-- P of each literal of `mid`, which stands between the two others, with those before it and those behind it
abbrev pub Each : (Conj → Literal → Conj → Type 0) → Conj → Conj → Conj → Type 0
Each P before [] behind = Unit {0}
Each P before (l ∷ mid) behind = P before l (mid ++ behind) × Each P (before ++ (l ∷ [])) mid behind

-- a rank of each that is not below n, and one above n
abbrev pub NotBelow : Signature → ℕ → Conj → Literal → Conj → Type 0
NotBelow σ n before l behind = n ≤ lit_rank σ before l behind

abbrev pub Above : Signature → ℕ → Conj → Literal → Conj → Type 0
Above σ n before l behind = n < lit_rank σ before l behind

-- Among the literals `done`, before those of `rest`: none of a rank below n and none at all, or the earliest of the least rank n, at this place.
pub data Sought (σ : Signature) (done rest : Conj) (n at : ℕ) (swap : Bool) : Type 0 where
  unmet : n ≡ no_rule → Each (NotBelow σ no_rule) [] done rest → Sought σ done rest n at swap
  least : (before : Conj) (l : Literal) (mid : Conj) → done ≡ before ++ (l ∷ mid) → at ≡ length (conj_words before)
      → n < no_rule → Ranked σ before l (mid ++ rest) n swap
      → Each (Above σ n) [] before (l ∷ (mid ++ rest))
      → Each (NotBelow σ n) (before ++ (l ∷ [])) mid rest
      → Sought σ done rest n at swap

-- What is found in the whole conjunction: no rule applies; it cannot be told whether one does; or the literal at this place, and the search finds the rule of rank n there, at that
-- literal by its number, with these results.
pub data Found (σ : Signature) (c : Conj) (n at : ℕ) (swap : Bool) : Type 0 where
  nowhere : n ≡ no_rule → search σ c ≡ nothing → Found σ c n at swap
  halted : n ≡ stops_rule → search σ c ≡ stops LongWalk → Found σ c n at swap
  somewhere : (before : Conj) (l : Literal) (behind : Conj) (ks : List Conj) → c ≡ before ++ (l ∷ behind) → at ≡ length (conj_words before)
      → n < no_rule → side_results σ swap n before l behind ≡ results ks
      → search σ c ≡ results (record { rule = n; literal = length before; swapped = swap }, ks)
      → Found σ c n at swap
