-- The best literal makes the step: its rank is the rank of the literal, from the side that comes first, and one pass over the literals finds it.
use Prim.Native.Nat.{ℕ, ◌+◌, ◌-◌, ◌<◌, ◌≤◌}
use native.Mathlib.Omega.{arith}
use mathlib.Core.Path.{◌≡◌, refl, sym, ap, ap₂, ◌∙◌, subst}
use mathlib.Core.Bool.{Bool, true, false}
use mathlib.Core.List.{List, [], ◌∷◌, ◌++◌, append_assoc, append-nil}
use lib.Dec.{ltb, leb}
use lib.ListN.{length, drop, length-append, length-drop}
use borrow.Author.Tests.{ltb-true, ltb-false, leb-true, leb-false, lt-ltb, le-ltb}
use Rattle.language.specs.declared.Signature.{Signature}
use Rattle.language.specs.Kinds.{pick}
use Rattle.language.specs.Trees.{Hedge, Expr, Literal, eqn, mem, Conj}
use Rattle.language.specs.Writing.{literal_words, conj_words}
use Rattle.rules.specs.Places.{at_fold, at_clash, no_rule}
use Rattle.views.specs.Standing.{LiteralAt}
use Rattle.rules.specs.Ranks.{eqn_rank, mem_rank}
use Rattle.search.specs.Ranking.{Ranked, Sought, Found}
use Rattle.search.proofs.Ranks.{rank-written, rank-swapped, rank-member}
use Rattle.views.proofs.LiteralWalks.{literal-some}
use Rattle.folding.specs.Twice.{first_twice, Once}
use Rattle.folding.proofs.Folds.{found_none, found_at}
use Rattle.clashes.specs.declared.Clashing.{Clashing}
use Rattle.clashes.specs.Pairs.{first_clash}
use Rattle.search.proofs.Applied.{idle-low, idle-once}
use Rattle.search.proofs.Pass.{start, below, keep, better, finish, finish-fold, finish-clash}
use Rattle.search.specs.declared.Best.{Best}
use Rattle.search.specs.Seeking.{best, lesser_of, best_at, best_from, best_alone, best_fold, best_before_clash, clash_best, best_clash, best_of}

-- ---- one literal

-- an equation by the lesser of the ranks of its two sides
module _ (σ : Signature) (before : Conj) (l r : Hedge) (behind : Conj) (at a b : ℕ) (ep : at ≡ length (conj_words before))
    (ea : a ≡ eqn_rank σ (before ++ behind) l r) (eb : b ≡ eqn_rank σ (before ++ behind) r l) where
  by-ranks : lesser_of (best a at false) (best b at true) ≡ best_at σ before (eqn l r) behind
  unfolding best_at
  by-ranks =
      ap (λ n. lesser_of (best a n false) (best b n true)) ep ∙ ap (λ n. lesser_of (best n (length (conj_words before)) false) (best b (length (conj_words before)) true)) ea
      ∙ ap (λ n. lesser_of (best (eqn_rank σ (before ++ behind) l r) (length (conj_words before)) false) (best n (length (conj_words before)) true)) eb

  pub best-swapped : b < a → best b at true ≡ best_at σ before (eqn l r) behind
  best-swapped h = ap (λ t. pick t (best b at true) (best a at false)) (sym (lt-ltb b a h)) ∙ by-ranks

  pub best-written : a ≤ b → best a at false ≡ best_at σ before (eqn l r) behind
  best-written h = ap (λ t. pick t (best b at true) (best a at false)) (sym (le-ltb b a h)) ∙ by-ranks

pub best-member : (σ : Signature) (before : Conj) (h : Hedge) (R : Expr) (behind : Conj) (at a : ℕ) → at ≡ length (conj_words before) → a ≡ mem_rank σ (before ++ behind) h R
    → best a at false ≡ best_at σ before (mem h R) behind
unfolding best_at
best-member σ before h R behind at a ep ea = ap (λ n. best a n false) ep ∙ ap (λ n. best n (length (conj_words before)) false) ea

module _ (σ : Signature) (before : Conj) (l r : Hedge) (behind : Conj) where
  abbrev written : Best
  written = best (eqn_rank σ (before ++ behind) l r) (length (conj_words before)) false

  abbrev other : Best
  other = best (eqn_rank σ (before ++ behind) r l) (length (conj_words before)) true

  one_place : (t : Bool) → (pick t other written).at ≡ length (conj_words before)
  one_place true = refl
  one_place false = refl

  lesser-ranked : (t : Bool) → ltb other.rank written.rank ≡ t → Ranked σ before (eqn l r) behind (pick t other written).rank (pick t other written).swap
  lesser-ranked true e = rank-swapped σ before l r behind _ _ refl refl (ltb-true _ _ e)
  lesser-ranked false e = rank-written σ before l r behind _ _ refl refl (ltb-false _ _ e)

best-place : (σ : Signature) (before : Conj) (l : Literal) (behind : Conj) → (best_at σ before l behind).at ≡ length (conj_words before)
unfolding best_at
best-place σ before (eqn l r) behind = one_place σ before l r behind (ltb (eqn_rank σ (before ++ behind) r l) (eqn_rank σ (before ++ behind) l r))
best-place σ before (mem h R) behind = refl

best-ranked : (σ : Signature) (before : Conj) (l : Literal) (behind : Conj) → Ranked σ before l behind (best_at σ before l behind).rank (best_at σ before l behind).swap
unfolding best_at
best-ranked σ before (eqn l r) behind = lesser-ranked σ before l r behind _ refl
best-ranked σ before (mem h R) behind = rank-member σ before h R behind _ refl

-- the place after it, by the words behind it
reach : (t : Bool) (n e r at a b : ℕ) → leb n e ≡ t → n ≡ at + (a + b) → 0 < a → n - e ≡ b → (at < e → e ≤ n → r ≡ e) → (n ≤ e → r ≡ n) → r ≡ at + a
reach true n e r at a b d p q m f g = let y = leb-true n e d in let z = g y in omega arith
reach false n e r at a b d p q m f g = let y = leb-false n e d in let z = f (omega arith) (omega arith) in omega arith

pub passed_to : (k : List ℕ) (at e r : ℕ) (before : Conj) (l : Literal) (behind : Conj) → LiteralAt k at before l behind → drop e k ≡ conj_words behind
    → (at < e → e ≤ length k → r ≡ e) → (length k ≤ e → r ≡ length k) → r ≡ at + length (literal_words l)
passed_to k at e r before l behind p d f g =
    let n = ap length p.words ∙ length-append (conj_words before) (literal_words l ++ conj_words behind) in
    let m = length-append (literal_words l) (conj_words behind) in
    let w = p.place in
    reach (leb (length k) e) (length k) e r at (length (literal_words l)) (length (conj_words behind)) refl (omega arith) (literal-some l) (sym (length-drop e k) ∙ ap length d) f g

-- ---- all literals

abbrev Seeks : Signature → Conj → Conj → Best → Type 0
Seeks σ done rest b = Sought σ done rest b.rank b.at b.swap

pass_on : (σ : Signature) (done : Conj) (l : Literal) (rest : Conj) (a b : Best) → b.at ≡ length (conj_words done) → Ranked σ done l rest b.rank b.swap
    → Seeks σ done (l ∷ rest) a → Seeks σ (done ++ (l ∷ [])) rest (lesser_of a b)
pass_on σ done l rest a b p k s = go (ltb b.rank a.rank) refl
  where
    go : (t : Bool) → ltb b.rank a.rank ≡ t → Seeks σ (done ++ (l ∷ [])) rest (pick t b a)
    go true d = rw p (better σ done l rest a.rank a.at a.swap b.rank b.swap k (ltb-true b.rank a.rank d) s)
    go false d = keep σ done l rest a.rank a.at a.swap b.rank b.swap k (ltb-false b.rank a.rank d) s

pass_all : (σ : Signature) (b : Best) (done rest : Conj) → Seeks σ done rest b → Seeks σ (done ++ rest) [] (best_from σ b done rest)
pass_all σ b done [] s = subst (λ d. Seeks σ d [] b) (sym (append-nil done)) s
pass_all σ b done (l ∷ rest) s =
    subst (λ d. Seeks σ d [] (best_from σ (lesser_of b (best_at σ done l rest)) (done ++ (l ∷ [])) rest)) (append_assoc done (l ∷ []) rest)
    (pass_all σ (lesser_of b (best_at σ done l rest)) (done ++ (l ∷ [])) rest (pass_on σ done l rest b (best_at σ done l rest) (best-place σ done l rest) (best-ranked σ done l rest) s))

-- the pass, and the fold beside it
alone-sought : (σ : Signature) (c : Conj) → Seeks σ c [] (best_alone σ c)
unfolding best_alone
alone-sought σ c = pass_all σ (best no_rule 0 false) [] c (start σ c 0 false)

abbrev Finds : Signature → Conj → Best → Type 0
Finds σ c b = Found σ c b.rank b.at b.swap

-- what is found before the clash: by the pass's best, whether a literal stands twice, and which of the two is less
found-by : (σ : Signature) (c : Conj) (a : Best) → Seeks σ c [] a → (twice less : Bool) → ltb (first_twice c) (length (conj_words c)) ≡ twice → ltb (pick twice at_fold no_rule) a.rank ≡ less
    → (pick less (best (pick twice at_fold no_rule) (first_twice c) false) a).rank < at_clash
    → Finds σ c (pick less (best (pick twice at_fold no_rule) (first_twice c) false) a)
found-by σ c a s true true d e h =
    finish-fold σ c a.rank a.at a.swap (let h = ltb-true at_fold a.rank e in omega arith) s (first_twice c) (found_at c (first_twice c) refl (ltb-true _ _ d))
found-by σ c a s true false d e h = finish σ c a.rank a.at a.swap (idle-low σ c a.rank (ltb-false at_fold a.rank e)) s
found-by σ c a s false true d e h = absurd (omega arith)
found-by σ c a s false false d e h = finish σ c a.rank a.at a.swap (idle-once σ c (found_none c (first_twice c) refl (ltb-false _ _ d)) a.rank (omega arith)) s

-- where nothing is: no literal stands twice, and no rule of one literal applies
none-by : (c : Conj) (a : Best) → a.rank ≤ no_rule → (twice less : Bool) → ltb (first_twice c) (length (conj_words c)) ≡ twice → ltb (pick twice at_fold no_rule) a.rank ≡ less
    → at_clash ≤ (pick less (best (pick twice at_fold no_rule) (first_twice c) false) a).rank
    → Once c [] × (at_clash ≤ a.rank)
none-by c a b true true d e h = absurd (omega arith)
none-by c a b true false d e h = absurd (let z = ltb-false at_fold a.rank e in omega arith)
none-by c a b false true d e h = absurd (let z = ltb-true no_rule a.rank e in omega arith)
none-by c a b false false d e h = (found_none c (first_twice c) refl (ltb-false _ _ d), h)

before-found : (σ : Signature) (c : Conj) → (best_before_clash σ c).rank < at_clash → Finds σ c (best_before_clash σ c)
unfolding best_before_clash best_fold
before-found σ c = found-by σ c (best_alone σ c) (alone-sought σ c) (ltb (first_twice c) (length (conj_words c))) _ refl refl

clash-found : (σ : Signature) (c : Conj) → at_clash ≤ (best_before_clash σ c).rank → Finds σ c (best_clash σ c)
unfolding best_before_clash best_fold best_clash
clash-found σ c h =
    let a = best_alone σ c in
    let s = alone-sought σ c in
    let (o, n) = none-by c a (below σ c [] a.rank a.at a.swap s) (ltb (first_twice c) (length (conj_words c))) _ refl refl h in
    finish-clash σ c a.rank a.at a.swap n s o

pub best-found : (σ : Signature) (c : Conj) (b : Best) → b ≡ best_of σ c → Found σ c b.rank b.at b.swap
unfolding best_of
best-found σ c b e = subst (Finds σ c) (sym e) (go (ltb (best_before_clash σ c).rank at_clash) refl)
  where
    go : (t : Bool) → ltb (best_before_clash σ c).rank at_clash ≡ t → Finds σ c (pick t (best_before_clash σ c) (best_clash σ c))
    go true d = before-found σ c (ltb-true _ _ d)
    go false d = clash-found σ c (ltb-false _ _ d)

-- ---- the clash beside what stands before it

-- where a rule before it applies, it is not looked for
pub before-best : (σ : Signature) (c : Conj) (b : Best) → b ≡ best_before_clash σ c → b.rank < at_clash → b ≡ best_of σ c
unfolding best_of
before-best σ c b e h =
    e ∙ ap (λ t. pick t (best_before_clash σ c) (best_clash σ c)) (sym (lt-ltb (best_before_clash σ c).rank at_clash (let d = ap (λ b. b.rank) e in omega arith)))

pub clash-best : (σ : Signature) (c : Conj) (b r : Best) → b ≡ best_before_clash σ c → at_clash ≤ b.rank → r ≡ best_clash σ c → r ≡ best_of σ c
unfolding best_of
clash-best σ c b r e h d =
    d ∙ ap (λ t. pick t (best_before_clash σ c) (best_clash σ c)) (sym (le-ltb (best_before_clash σ c).rank at_clash (let z = ap (λ b. b.rank) e in omega arith)))

pub clash-of : (σ : Signature) (c : Conj) (v : Clashing) → v ≡ first_clash σ 0 c → clash_best v ≡ best_clash σ c
unfolding best_clash
clash-of σ c v e = ap clash_best e

-- ---- the fold beside the pass

fold-rank : (c : Conj) → at_fold ≤ (best_fold c).rank
unfolding best_fold
fold-rank c = go (ltb (first_twice c) (length (conj_words c)))
  where
    go : (t : Bool) → at_fold ≤ pick t at_fold no_rule
    go true = omega arith
    go false = omega arith

-- where a rule before the fold applies, the fold is not looked for
pub alone-best : (σ : Signature) (c : Conj) (a : Best) → a ≡ best_alone σ c → a.rank < at_fold → a ≡ best_before_clash σ c
unfolding best_before_clash
alone-best σ c a e h =
    e ∙ ap (λ t. pick t (best_fold c) (best_alone σ c)) (sym (le-ltb (best_fold c).rank (best_alone σ c).rank (let f = fold-rank c in let d = ap (λ b. b.rank) e in omega arith)))

pub both-best : (σ : Signature) (c : Conj) (a f r : Best) → a ≡ best_alone σ c → f ≡ best_fold c → r ≡ lesser_of a f → r ≡ best_before_clash σ c
unfolding best_before_clash
both-best σ c a f r e d g = g ∙ ap₂ lesser_of e d

pub fold-there : (c : Conj) (at : ℕ) → at ≡ first_twice c → at < length (conj_words c) → best at_fold at false ≡ best_fold c
unfolding best_fold
fold-there c at e h = ap (λ n. best at_fold n false) e ∙ ap (λ t. best (pick t at_fold no_rule) (first_twice c) false) (sym (lt-ltb (first_twice c) (length (conj_words c)) (omega arith)))

pub fold-absent : (c : Conj) (at : ℕ) → at ≡ first_twice c → length (conj_words c) ≤ at → best no_rule at false ≡ best_fold c
unfolding best_fold
fold-absent c at e h = ap (λ n. best no_rule n false) e ∙ ap (λ t. best (pick t at_fold no_rule) (first_twice c) false) (sym (le-ltb (first_twice c) (length (conj_words c)) (omega arith)))

-- ---- places

pub placed_on : (n : ℕ) (a b r : Best) → r ≡ lesser_of a b → (a.rank < no_rule → a.at < n) → (b.rank < no_rule → b.at < n) → r.rank < no_rule → r.at < n
placed_on n a b r e f g = rw e (go (ltb b.rank a.rank))
  where
    go : (t : Bool) → (pick t b a).rank < no_rule → (pick t b a).at < n
    go true h = g h
    go false h = f h
