-- What the rule of a place comes to at a literal: of every rule of one literal its answer, and of the fold and the clash what they make of those behind.
use Prim.Native.Nat.{ℕ, zero, suc, ◌-◌, ◌<◌, ◌≤◌}
use native.Mathlib.Omega.{arith}
use mathlib.Core.Path.{◌≡◌, refl, sym, ap, ◌∙◌}
use mathlib.Core.Bool.{Bool, true, false, false≢true}
use mathlib.Core.List.{List, [], ◌∷◌, ◌++◌, map}
use mathlib.Core.Option.{none, some}
use lib.Dec.{ltb}
use lib.ListN.{length, drop}
use borrow.Author.Tests.{ltb-true, ltb-false}
use Rattle.language.specs.declared.Signature.{Signature}
use Rattle.language.specs.Trees.{Literal, eqn, mem, Conj}
use Rattle.rules.specs.Reply.{Reply, nothing, results, stops}
use Rattle.rules.specs.Rules.{Branch, Answer, Fold, Clash, Rule, on_eqn, on_mem, on_pair, rules}
use Rattle.rules.specs.Step.{or_next, each, place, placed}
use Rattle.rules.specs.Places.{at_fold, at_clash}
use Rattle.rules.specs.Ranks.{eqn_answer, mem_answer}
use Rattle.folding.specs.Twice.{Once}
use Rattle.folding.proofs.Folds.{fold-nowhere}
use Rattle.clash.specs.declared.Verdict.{Verdict}
use Rattle.clash.specs.declared.Verdict.TheVariants.{Shares, Clashes, Long}
use Rattle.clashes.specs.Pairs.{reply_of, answer_of}
use Rattle.clashes.proofs.Replies.{clash-replies}
use Rattle.search.specs.Ranking.{side_answer, pair_at, pair_answer, side_results}
use Rattle.search.proofs.First.{PairsIdle}

-- ---- the fold and the clash are the rules of two literals

-- none among the first n of the list
abbrev alone : ℕ → List Rule → Bool
alone zero rs = true
alone (suc n) [] = true
alone (suc n) (on_eqn rule ∷ rs) = alone n rs
alone (suc n) (on_mem rule ∷ rs) = alone n rs
alone (suc n) (on_pair rule ∷ rs) = false

alone-idle : (c : Conj) (n m : ℕ) (rs : List Rule) → n ≤ m → alone m rs ≡ true → PairsIdle c n rs
alone-idle c zero m rs h e = tt
alone-idle c (suc n) zero rs h e = absurd (omega arith)
alone-idle c (suc n) (suc m) [] h e = tt
alone-idle c (suc n) (suc m) (on_eqn rule ∷ rs) h e = (tt, alone-idle c n m rs (omega arith) e)
alone-idle c (suc n) (suc m) (on_mem rule ∷ rs) h e = (tt, alone-idle c n m rs (omega arith) e)
alone-idle c (suc n) (suc m) (on_pair rule ∷ rs) h e = absurd (false≢true e)

alone-none : (m : ℕ) (rs : List Rule) → alone m rs ≡ true → (n : ℕ) → n < m → (l : Literal) (behind : Conj) → pair_at rs n l behind ≡ nothing
alone-none zero rs e n h l behind = absurd (omega arith)
alone-none (suc m) [] e n h l behind = refl
alone-none (suc m) (on_eqn rule ∷ rs) e zero h l behind = refl
alone-none (suc m) (on_eqn rule ∷ rs) e (suc n) h l behind = alone-none m rs e n (omega arith) l behind
alone-none (suc m) (on_mem rule ∷ rs) e zero h l behind = refl
alone-none (suc m) (on_mem rule ∷ rs) e (suc n) h l behind = alone-none m rs e n (omega arith) l behind
alone-none (suc m) (on_pair rule ∷ rs) e n h l behind = absurd (false≢true e)

-- past the end of a list there is none
past-none : (rs : List Rule) (n : ℕ) → length rs ≤ n → (l : Literal) (behind : Conj) → pair_at rs n l behind ≡ nothing
past-none [] n h l behind = refl
past-none (rule ∷ rs) zero h l behind = absurd (omega arith)
past-none (rule ∷ rs) (suc n) h l behind = past-none rs n (omega arith) l behind

-- how many stand between the two
abbrev between : ℕ
between = at_clash - suc at_fold

-- before the fold's place there is none, and between the two all are idle where the fold is
pub idle-low : (σ : Signature) (c : Conj) (n : ℕ) → n ≤ at_fold → PairsIdle c n (rules σ)
idle-low σ c zero h = tt
idle-low σ c (suc zero) h = (tt, tt)
idle-low σ c (suc (suc zero)) h = (tt, (tt, tt))
idle-low σ c (suc (suc (suc n))) h = absurd (omega arith)

pub idle-once : (σ : Signature) (c : Conj) → Once c [] → (n : ℕ) → n ≤ at_clash → PairsIdle c n (rules σ)
idle-once σ c o zero h = tt
idle-once σ c o (suc zero) h = (tt, tt)
idle-once σ c o (suc (suc zero)) h = (tt, (tt, tt))
idle-once σ c o (suc (suc (suc n))) h = (tt, (tt, (λ m. fold-nowhere m c o, alone-idle c n between (drop (suc at_fold) (rules σ)) (omega arith) refl)))

pair-none : (σ : Signature) (n : ℕ) → (n ≡ at_fold → ⊥) → (n ≡ at_clash → ⊥) → (l : Literal) (behind : Conj) → pair_answer σ n l behind ≡ nothing
unfolding pair_answer
pair-none σ zero z y l behind = refl
pair-none σ (suc zero) z y l behind = refl
pair-none σ (suc (suc zero)) z y l behind = absurd (z refl)
pair-none σ (suc (suc (suc n))) z y l behind = go (ltb n between) refl
  where
    go : (t : Bool) → ltb n between ≡ t → pair_at (drop (suc at_fold) (rules σ)) n l behind ≡ nothing
    go true h = alone-none between (drop (suc at_fold) (rules σ)) refl n (ltb-true n between h) l behind
    go false h = past-none (drop (suc at_fold) (rules σ)) n (let x = ltb-false n between h in omega (arith, y)) l behind

pair-fold : (σ : Signature) (l : Literal) (behind : Conj) → pair_answer σ at_fold l behind ≡ Fold l behind
unfolding pair_answer
pair-fold σ l behind = refl

pair-clash : (σ : Signature) (l : Literal) (behind : Conj) → pair_answer σ at_clash l behind ≡ Clash σ l behind
unfolding pair_answer
pair-clash σ l behind = refl

-- they answer nothing of one literal
no_answer : (σ : Signature) (swap : Bool) (K : Conj) (l : Literal) → side_answer σ swap at_fold K l ≡ none
unfolding eqn_answer mem_answer
no_answer σ true K (eqn l r) = refl
no_answer σ false K (eqn l r) = refl
no_answer σ swap K (mem h R) = refl

no-answer-clash : (σ : Signature) (swap : Bool) (K : Conj) (l : Literal) → side_answer σ swap at_clash K l ≡ none
unfolding eqn_answer mem_answer
no-answer-clash σ true K (eqn l r) = refl
no-answer-clash σ false K (eqn l r) = refl
no-answer-clash σ swap K (mem h R) = refl

-- ---- what a rule comes to

same : {A : Type 0} {x y : A} → ◌≡◌ {A = Reply A} (results x) (results y) → x ≡ y
same e = cc

-- a rule of one literal by its answer
pub answer-results : (σ : Signature) (swap : Bool) (n : ℕ) (before : Conj) (l : Literal) (behind : Conj) (bs : List Branch) → side_answer σ swap n (before ++ behind) l ≡ some bs
    → side_results σ swap n before l behind ≡ results (map (place before behind) bs)
answer-results σ swap n before l behind bs e = ap (λ w. or_next (placed before behind w) (λ _. each (map (λ (k : Conj). before ++ k)) (pair_answer σ n l behind))) e

-- the answer of a rule, and its results by it
pub record Answered (σ : Signature) (swap : Bool) (n : ℕ) (before : Conj) (l : Literal) (behind : Conj) (ks : List Conj) : Type 0 where
  pub branches : List Branch
  pub answer : side_answer σ swap n (before ++ behind) l ≡ some branches
  pub made : ks ≡ map (place before behind) branches

pub results-answer : (σ : Signature) (swap : Bool) (n : ℕ) (before : Conj) (l : Literal) (behind : Conj) (ks : List Conj) → (n ≡ at_fold → ⊥) → (n ≡ at_clash → ⊥)
    → side_results σ swap n before l behind ≡ results ks → Answered σ swap n before l behind ks
results-answer σ swap n before l behind ks z y e = go (side_answer σ swap n (before ++ behind) l) refl e
  where
    go : (w : Answer) → side_answer σ swap n (before ++ behind) l ≡ w
        → or_next (placed before behind w) (λ _. each (map (λ (k : Conj). before ++ k)) (pair_answer σ n l behind)) ≡ results ks → Answered σ swap n before l behind ks
    go none d e =
        absurd (let x = sym (ap (each (map (λ (k : Conj). before ++ k))) (pair-none σ n z y l behind)) ∙ e in let z : ◌≡◌ {A = ℕ} 0 1 = cc in omega arith)
    go (some bs) d e = record { branches = bs; answer = d; made = sym (same e) }

-- the fold
pub fold_results : (σ : Signature) (swap : Bool) (before : Conj) (l : Literal) (behind : Conj) → side_results σ swap at_fold before l behind ≡ each (map (λ (k : Conj). before ++ k)) (Fold l behind)
fold_results σ swap before l behind =
    ap (λ w. or_next (placed before behind w) (λ _. each (map (λ (k : Conj). before ++ k)) (pair_answer σ at_fold l behind))) (no_answer σ swap (before ++ behind) l)
    ∙ ap (each (map (λ (k : Conj). before ++ k))) (pair-fold σ l behind)

pub record Folded (before : Conj) (l : Literal) (behind : Conj) (ks : List Conj) : Type 0 where
  pub folds : List Conj
  pub applies : Fold l behind ≡ results folds
  pub made : ks ≡ map (λ (k : Conj). before ++ k) folds

pub results-fold : (σ : Signature) (swap : Bool) (n : ℕ) (before : Conj) (l : Literal) (behind : Conj) (ks : List Conj) → n ≡ at_fold → side_results σ swap n before l behind ≡ results ks
    → Folded before l behind ks
results-fold σ swap n before l behind ks d e =
    go (Fold l behind) refl (sym (fold_results σ swap before l behind) ∙ ap (λ n. side_results σ swap n before l behind) (sym d) ∙ e)
  where
    go : (m : Reply (List Conj)) → Fold l behind ≡ m → each (map (λ (k : Conj). before ++ k)) m ≡ results ks → Folded before l behind ks
    go nothing a e = absurd (let z : ◌≡◌ {A = ℕ} 0 1 = cc in omega arith)
    go (results js) a e = record { folds = js; applies = a; made = sym (same e) }
    go (stops r) a e = absurd (let z : ◌≡◌ {A = ℕ} 0 1 = cc in omega arith)

-- the clash
pub clash-results : (σ : Signature) (swap : Bool) (before : Conj) (l : Literal) (behind : Conj)
    → side_results σ swap at_clash before l behind ≡ each (map (λ (k : Conj). before ++ k)) (Clash σ l behind)
clash-results σ swap before l behind =
    ap (λ w. or_next (placed before behind w) (λ _. each (map (λ (k : Conj). before ++ k)) (pair_answer σ at_clash l behind))) (no-answer-clash σ swap (before ++ behind) l)
    ∙ ap (each (map (λ (k : Conj). before ++ k))) (pair-clash σ l behind)

-- it leaves nothing
pub results-clash : (σ : Signature) (swap : Bool) (n : ℕ) (before : Conj) (l : Literal) (behind : Conj) (ks : List Conj) → n ≡ at_clash
    → side_results σ swap n before l behind ≡ results ks → ks ≡ []
results-clash σ swap n before l behind ks d e =
    go (reply_of σ l behind)
    (sym (ap (each (map (λ (k : Conj). before ++ k))) (clash-replies σ l behind)) ∙ sym (clash-results σ swap before l behind) ∙ ap (λ n. side_results σ swap n before l behind) (sym d) ∙ e)
  where
    go : (v : Verdict) → each (map (λ (k : Conj). before ++ k)) (answer_of v) ≡ results ks → ks ≡ []
    go Shares e = absurd (let z : ◌≡◌ {A = ℕ} 0 1 = cc in omega arith)
    go Clashes e = sym (same e)
    go Long e = absurd (let z : ◌≡◌ {A = ℕ} 0 1 = cc in omega arith)
