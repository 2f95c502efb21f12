-- One pass over the literals: what it knows at its start, after a literal that is no better, after a better one, and at the end.
use Prim.Native.Nat.{ℕ, suc, ◌<◌, ◌≤◌}
use native.Mathlib.Omega.{arith}
use mathlib.Core.Path.{◌≡◌, refl, sym, ap, ◌∙◌, subst}
use mathlib.Core.Bool.{Bool, true, false}
use mathlib.Core.List.{List, [], ◌∷◌, ◌++◌, map, append_assoc, append-nil}
use mathlib.Core.Option.{none, some}
use native.Mathlib.Nat.{zero-add}
use lib.ListN.{length, drop}
use Rattle.language.specs.declared.Signature.{Signature}
use Rattle.language.specs.declared.Refusal.TheVariants.{LongWalk}
use Rattle.language.specs.Trees.{Literal, Conj}
use Rattle.language.specs.Writing.{conj_words}
use Rattle.rules.specs.Reply.{Reply, nothing, results, stops}
use Rattle.rules.specs.Rules.{Branch, Answer, folded, Clash, on_pair, rules}
use Rattle.rules.specs.Step.{or_next, each, place, placed, Spot, earliest, first, search, step}
use Rattle.rules.specs.Places.{at_r2, at_fold, at_m12, at_clash, no_rule}
use Rattle.folding.specs.Twice.{Once}
use Rattle.folding.proofs.Folds.{strike-some, FoldAt, fold_of, fold-found}
use Rattle.clashes.specs.declared.Clashing.{Clashing}
use Rattle.clashes.specs.Pairs.{first_clash}
use Rattle.search.specs.Ranking.{Tried, sided, tried, applies, reply_at, lit_rank, side_answer, Ranked, Each, NotBelow, Above, Sought, unmet, least, Found, nowhere, halted, somewhere}
use Rattle.search.specs.Seeking.{clash_best}
use Rattle.search.proofs.Ranks.{rank-applies}
use Rattle.search.proofs.First.{each_map, each_append, PairsIdle, skip, found_first}
use Rattle.search.proofs.Applied.{idle-low, idle-once, answer-results, fold_results, clash-results}
use Rattle.search.proofs.Clashed.{Seen, none-there, one-there, not-told, seen}

pub start : (σ : Signature) (c : Conj) (at : ℕ) (swap : Bool) → Sought σ [] c no_rule at swap
start σ c at swap = unmet refl tt

pub below : (σ : Signature) (done rest : Conj) (n at : ℕ) (swap : Bool) → Sought σ done rest n at swap → n ≤ no_rule
below σ done rest n at swap (unmet e all) = omega arith
below σ done rest n at swap (least before x mid e p m ranked low high) = omega arith

-- every literal passed has a rank above r
passed : (σ : Signature) (done rest : Conj) (n at : ℕ) (swap : Bool) (r : ℕ) → r < n → Sought σ done rest n at swap → Each (Above σ r) [] done rest
passed σ done rest n at swap r h (unmet e all) = each_map (NotBelow σ no_rule) (Above σ r) (λ before l behind g. omega arith) [] done rest all
passed σ done rest n at swap r h (least before x mid e p m ranked low high) =
    subst (λ d. Each (Above σ r) [] d rest) (sym e)
    (each_append (Above σ r) [] before (x ∷ mid) rest
    (each_map (Above σ n) (Above σ r) (λ before l behind g. omega arith) [] before (x ∷ (mid ++ rest)) low)
    (let q = ranked.rank in omega arith, each_map (NotBelow σ n) (Above σ r) (λ before l behind g. omega arith) (before ++ (x ∷ [])) mid rest high))

module _ (σ : Signature) (done : Conj) (l : Literal) (rest : Conj) (n at : ℕ) (swap : Bool) where
  pub keep : (r : ℕ) (turned : Bool) → Ranked σ done l rest r turned → n ≤ r → Sought σ done (l ∷ rest) n at swap → Sought σ (done ++ (l ∷ [])) rest n at swap
  keep r turned k h (unmet e all) =
      unmet e (each_append (NotBelow σ no_rule) [] done (l ∷ []) rest all (let q = k.rank in (omega arith, tt)))
  keep r turned k h (least before x mid e p m ranked low high) =
      let q : n ≤ lit_rank σ ((before ++ (x ∷ [])) ++ mid) l rest =
      subst (λ d. n ≤ lit_rank σ d l rest) (e ∙ sym (append_assoc before (x ∷ []) mid)) (let q = k.rank in omega arith)
      in
      let a : mid ++ (l ∷ rest) ≡ (mid ++ (l ∷ [])) ++ rest = sym (append_assoc mid (l ∷ []) rest) in
      least before x (mid ++ (l ∷ []))
      (ap (λ d. d ++ (l ∷ [])) e ∙ append_assoc before (x ∷ mid) (l ∷ []))
      p m
      (subst (λ b. Ranked σ before x b n swap) a ranked)
      (subst (λ b. Each (Above σ n) [] before (x ∷ b)) a low)
      (each_append (NotBelow σ n) (before ++ (x ∷ [])) mid (l ∷ []) rest high (q, tt))

  pub better : (r : ℕ) (turned : Bool) → Ranked σ done l rest r turned → r < n → Sought σ done (l ∷ rest) n at swap
      → Sought σ (done ++ (l ∷ [])) rest r (length (conj_words done)) turned
  better r turned k h s = least done l [] refl refl (let b = below σ done (l ∷ rest) n at swap s in omega arith) k (passed σ done (l ∷ rest) n at swap r h s) tt

-- what applies and is a rule's answer in its place is an answer
there : (before behind : Conj) (swap : Bool) (w : Answer) (m : Tried) → m ≡ sided swap (placed before behind w) → applies m ≡ true
    → (bs : List Branch) × (w ≡ some bs) × (m ≡ results (swap, map (place before behind) bs))
there before behind swap none m e a = absurd (let z : ◌≡◌ {A = Bool} (applies nothing) true = sym (ap applies e) ∙ a in let y : ◌≡◌ {A = ℕ} 0 1 = cc in omega arith)
there before behind swap (some bs) m e a = (bs, refl, e)

-- where no rule of two literals applies before it
pub finish : (σ : Signature) (c : Conj) (n at : ℕ) (swap : Bool) → PairsIdle c n (rules σ) → Sought σ c [] n at swap → Found σ c n at swap
unfolding lit_rank search
finish σ c n at swap idle (unmet e all) = nowhere e (skip 0 no_rule (rules σ) c (omega arith) all (subst (λ n. PairsIdle c n (rules σ)) e idle))
finish σ c n at swap idle (least before l mid e p m ranked low high) =
    let ranked' : Ranked σ before l mid n swap = subst (λ b. Ranked σ before l b n swap) (append-nil mid) ranked in
    let (bs, w, a) = there before mid swap (side_answer σ swap n (before ++ mid) l) (reply_at (λ rule. tried rule before l mid) (rules σ) n)
    ranked'.side (rank-applies (λ rule. tried rule before l mid) (rules σ) n ranked'.rank m) in
    somewhere before l mid (map (place before mid) bs) e p m (answer-results σ swap n before l mid bs w)
    (ap (search σ) e ∙ found_first 0 n (rules σ) before l mid n (swap, map (place before mid) bs) (sym (zero-add n)) ranked'.rank a
    (subst (λ b. Each (Above σ n) [] before (l ∷ b)) (append-nil mid) low) high (subst (λ c. PairsIdle c n (rules σ)) e idle))

-- the fold, where no rule applies before it
pub finish-fold : (σ : Signature) (c : Conj) (n at : ℕ) (swap : Bool) → at_fold ≤ n → Sought σ c [] n at swap → (place : ℕ) → FoldAt c place → Found σ c at_fold place false
unfolding lit_rank search
finish-fold σ c n at swap h s place f =
    somewhere f.before f.l f.behind (fold_of f ∷ []) f.whole f.place (omega arith)
    (fold_results σ false f.before f.l f.behind ∙ ap (λ w. each (map (λ (k : Conj). f.before ++ k)) (folded f.l w)) (strike-some f.l f.behind f.twice).is)
    (skip 0 at_fold (rules σ) c (omega arith) (passed σ c [] n at swap at_r2 h s) (idle-low σ c at_fold (omega arith))
    ∙ ap (λ a. or_next a (λ _. first (suc at_fold) (drop (suc at_fold) (rules σ)) c)) (fold-found at_fold c place f))

-- the clash, where no rule applies before it
pub finish-clash : (σ : Signature) (c : Conj) (n at : ℕ) (swap : Bool) → at_clash ≤ n → Sought σ c [] n at swap → Once c []
    → Found σ c (clash_best (first_clash σ 0 c)).rank (clash_best (first_clash σ 0 c)).at (clash_best (first_clash σ 0 c)).swap
unfolding lit_rank search
finish-clash σ c n at swap h s o = go (first_clash σ 0 c) (seen σ 0 0 [] c)
  where
    reach : (m : Reply (Spot × List Conj)) → earliest at_clash (on_pair (Clash σ)) 0 [] c ≡ m → search σ c ≡ or_next m (λ _. nothing)
    reach m e =
        skip 0 at_clash (rules σ) c (omega arith) (passed σ c [] n at swap at_m12 h s) (idle-once σ c o at_clash (omega arith))
        ∙ ap (λ a. or_next a (λ _. nothing)) e

    go : (v : Clashing) → Seen σ 0 0 [] c v → Found σ c (clash_best v).rank (clash_best v).at (clash_best v).swap
    go v (none-there e f) = subst (λ v. Found σ c (clash_best v).rank (clash_best v).at (clash_best v).swap) (sym e) (nowhere refl (reach nothing f))
    go v (one-there mid l behind w d a f) =
        subst (λ v. Found σ c (clash_best v).rank (clash_best v).at (clash_best v).swap) (sym d)
        (somewhere mid l behind [] w (zero-add (length (conj_words mid))) (omega arith) (clash-results σ false mid l behind ∙ ap (each (map (λ (k : Conj). mid ++ k))) a)
        (reach _ f ∙ ap (λ i. results (record { rule = at_clash; literal = i; swapped = false }, [])) (zero-add (length mid))))
    go v (not-told e f) = subst (λ v. Found σ c (clash_best v).rank (clash_best v).at (clash_best v).swap) (sym e) (halted refl (reach (stops LongWalk) f))

-- the step is what the search finds, without its place
pub searched : (σ : Signature) (c : Conj) (m : Reply (Spot × List Conj)) → search σ c ≡ m → step σ c ≡ each (λ (f : Spot × List Conj). f.1) m
unfolding step
searched σ c m e = ap (each (λ (f : Spot × List Conj). f.1)) e
