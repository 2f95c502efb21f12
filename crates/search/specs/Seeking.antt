-- The first rule of the list that applies to any literal, and for it the earliest literal; an equation as it is written, then swapped.
use Rattle.std.specs.Prelude.{ℕ, Bool, true, false, [], ◌∷◌, ◌++◌, ltb, length}
use Rattle.language.specs.declared.Signature.{Signature}
use Rattle.language.specs.Kinds.{pick}
use Rattle.language.specs.Trees.{Literal, eqn, mem, Conj}
use Rattle.language.specs.Writing.{conj_words}
use Rattle.rules.specs.Places.{at_fold, at_clash, no_rule, stops_rule}
use Rattle.rules.specs.Ranks.{eqn_rank, mem_rank}
use Rattle.folding.specs.Twice.{first_twice}
use Rattle.clashes.specs.declared.Clashing.{Clashing}
use Rattle.clashes.specs.declared.Clashing.TheVariants.{Nowhere, At, Stopped}
use Rattle.clashes.specs.Pairs.{first_clash}
use Rattle.search.specs.declared.Best.{Best}

abbrev pub best : ℕ → ℕ → Bool → Best
best rank at swap = record { rank = rank; at = at; swap = swap }

-- the one of the lesser rank, the first where they are equal
abbrev pub lesser_of : Best → Best → Best
lesser_of a b = pick (ltb b.rank a.rank) b a

-- the rank of a literal between others, its place, and from which side
unfoldable pub best_at : Signature → Conj → Literal → Conj → Best
best_at σ before (eqn l r) behind =
    lesser_of (best (eqn_rank σ (before ++ behind) l r) (length (conj_words before)) false) (best (eqn_rank σ (before ++ behind) r l) (length (conj_words before)) true)
best_at σ before (mem h R) behind = best (mem_rank σ (before ++ behind) h R) (length (conj_words before)) false

-- the best so far, and then the literals after those of `before`
abbrev pub best_from : Signature → Best → Conj → Conj → Best
best_from σ b before [] = b
best_from σ b before (l ∷ behind) = best_from σ (lesser_of b (best_at σ before l behind)) (before ++ (l ∷ [])) behind

-- the best by the rules of one literal
unfoldable pub best_alone : Signature → Conj → Best
best_alone σ c = best_from σ (best no_rule 0 false) [] c

-- the fold, at the earliest literal that stands there again
unfoldable pub best_fold : Conj → Best
best_fold c = best (pick (ltb (first_twice c) (length (conj_words c))) at_fold no_rule) (first_twice c) false

-- by the rules of one literal and the fold
unfoldable pub best_before_clash : Signature → Conj → Best
best_before_clash σ c = lesser_of (best_alone σ c) (best_fold c)

-- the clash, at the earliest literal whose test clashes with a later one, or that it cannot be told
abbrev pub clash_best : Clashing → Best
clash_best Nowhere = best no_rule 0 false
clash_best (At at) = best at_clash at false
clash_best Stopped = best stops_rule 0 false

unfoldable pub best_clash : Signature → Conj → Best
best_clash σ c = clash_best (first_clash σ 0 c)

-- of a whole conjunction; rank `no_rule`, where no rule applies, and `stops_rule`, where that cannot be told
unfoldable pub best_of : Signature → Conj → Best
best_of σ c = pick (ltb (best_before_clash σ c).rank at_clash) (best_before_clash σ c) (best_clash σ c)
