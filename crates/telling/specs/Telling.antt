-- What three words name at a conjunction, and what is made of it.
use Rattle.std.specs.Prelude.{ℕ, ◌≡◌, Bool, List, [], ◌∷◌, ◌++◌, eqb, length, Result, Ok, Err}
use Rattle.std.proofs.Math.Option.{none, some}
use Rattle.language.specs.declared.Refusal.{Refusal}
use Rattle.language.specs.declared.Refusal.TheVariants.{BadStep, LongWalk}
use Rattle.language.specs.declared.Signature.{Signature}
use Rattle.language.specs.Trees.{Literal, Conj}
use Rattle.language.specs.Writing.{conj_words}
use Rattle.rules.specs.Reply.{Reply, nothing, results, stops}
use Rattle.rules.specs.Places.{at_clash}
use Rattle.rules.specs.Step.{step_at}
use Rattle.literals.specs.Places.{words_before}
use Rattle.naming.specs.Naming.{named_at}
use Rattle.replay.specs.Replay.{Triple, spot_of}
use Rattle.search.specs.declared.Best.{Best}
use Rattle.search.specs.Ranking.{side_results}

abbrev pub triple_of : ℕ → ℕ → ℕ → Triple
triple_of rule literal side = record { rule = rule; literal = literal; side = side }

-- what three words come to at a conjunction
abbrev pub named_reply : Signature → Triple → Conj → Reply (List Conj)
named_reply σ t k = elim (spot_of t) [ none ↦ nothing | some s ↦ step_at σ s k ]

-- the rule, the place in the words and the side that they name
abbrev pub named : Conj → Triple → Best
named c t = record { rank = t.rule; at = words_before t.literal c; swap = eqb t.side 1 }

-- that step where the rule applies; 26 where it does not; or why it cannot be told
abbrev pub chosen_of : Best → Reply (List Conj) → Result Best Refusal
chosen_of b (results ks) = Ok b
chosen_of b nothing = Err BadStep
chosen_of b (stops x) = Err x

unfoldable pub chosen_by : Signature → Conj → Triple → Result Best Refusal
chosen_by σ c t = chosen_of (named c t) (named_reply σ t c)

-- the rule that b has applies at its literal, with these results
pub record Applies (σ : Signature) (c : Conj) (b : Best) (ks : List Conj) : Type 0 where
  pub before : Conj
  pub l : Literal
  pub behind : Conj
  pub whole : c ≡ before ++ (l ∷ behind)
  pub place : b.at ≡ length (conj_words before)
  pub makes : side_results σ b.swap b.rank before l behind ≡ results ks

-- what the clash that is named at a literal comes to
pub data ClashNamed (σ : Signature) (at : ℕ) (swap : Bool) (before : Conj) (l : Literal) (behind : Conj) (r : Result Best Refusal) : Type 0 where
  unnamed : r ≡ Err BadStep → named_at σ swap at_clash before l behind ≡ nothing → ClashNamed σ at swap before l behind r
  too_long : r ≡ Err LongWalk → named_at σ swap at_clash before l behind ≡ stops LongWalk → ClashNamed σ at swap before l behind r
  clashes : r ≡ Ok (record { rank = at_clash; at = at; swap = swap }) → named_at σ swap at_clash before l behind ≡ results [] → ClashNamed σ at swap before l behind r
