-- What is found in the words, said of the fold: it applies nowhere, or at the literal found, and its one result has the words but for those of the
-- later literal.
use mathlib.Core.Path.{◌≡◌, refl, sym, ap, ap₂, ◌∙◌, subst}
use mathlib.Core.Bool.{Bool, true, false, ◌||◌, false≢true}
use mathlib.Core.List.{List, [], ◌∷◌, ◌++◌, map, append_assoc, append-nil}
use mathlib.Core.Option
use mathlib.Core.Option.{Option, none, some}
use Prim.Native.Nat.{ℕ, suc, ◌+◌, ◌<◌, ◌≤◌}
use native.Mathlib.Omega.{arith}
use lib.ListN.{length, take, drop, length-append}
use lib.Seq.{take-append-add, drop-append-add, drop-append_seam}
use Rattle.language.specs.Limits.{desk}
use Rattle.language.specs.Kinds.{pick}
use Rattle.language.specs.Trees.{Literal, Conj, same_literal}
use Rattle.language.specs.Writing.{literal_words, conj_words}
use Rattle.language.specs.Fine.{fine_conj}
use Rattle.rules.specs.Reply.{Reply, nothing, results}
use Rattle.rules.specs.Rules.{strike, folded, Fold, on_pair}
use Rattle.rules.specs.Step.{or_next, each, found, earliest}
use Rattle.rules.proofs.FineParts.{fine-append}
use Rattle.words.specs.Places.{until_literal}
use Rattle.views.specs.Standing.{LiteralAt}
use Rattle.views.proofs.Words.{words_append}
use Rattle.views.proofs.Seen.{literal-next}
use Rattle.views.proofs.LiteralWalks.{literal-some, stands_here}
use Rattle.folding.specs.Twice.{again, until_same, first_twice, Once}
use Rattle.folding.proofs.Same.{same-is}
use Rattle.folding.proofs.Twice.{or-false, cut}
use Rattle.folding.proofs.Noting.{literal-within}

-- ---- at one literal

pub strike-none : (l : Literal) (k : Conj) → again l k ≡ false → strike l k ≡ none
strike-none l [] e = refl
strike-none l (m ∷ k) e =
    let p = or-false (same_literal l m) (again l k) e in
    ap (λ b. pick b (some k) (Option.map (λ (c : Conj). m ∷ c) (strike l k))) p.0 ∙ ap (Option.map (λ (c : Conj). m ∷ c)) (strike-none l k p.1)

pub fold-none : (l : Literal) (k : Conj) → again l k ≡ false → Fold l k ≡ nothing
fold-none l k e = ap (folded l) (strike-none l k e)

-- what is left of the literals k without the first that has the words of l, as a result s of striking, and its words
pub record Struck (l : Literal) (k : Conj) (s : Option Conj) (n : ℕ) : Type 0 where
  pub left : Conj
  pub is : s ≡ some left
  pub words : take n (conj_words k) ++ drop (n + length (literal_words l)) (conj_words k) ≡ conj_words left

pub strike-some : (l : Literal) (k : Conj) → again l k ≡ true → Struck l k (strike l k) (until_same l k)
strike-some l [] e = absurd (false≢true e)
strike-some l (m ∷ k) e = go (same_literal l m) refl e (strike-some l k)
  where
    go : (b : Bool) → same_literal l m ≡ b → (b || again l k) ≡ true → (again l k ≡ true → Struck l k (strike l k) (until_same l k))
        → Struck l (m ∷ k) (pick b (some k) (Option.map (λ (c : Conj). m ∷ c) (strike l k))) (pick b 0 (length (literal_words m) + until_same l k))
    go true d e ih = record {
      left = k;
      is = refl;
      words =
          let n : 0 + length (literal_words l) ≡ length (literal_words l) = omega arith in
          ap (λ n. drop n (literal_words m ++ conj_words k)) (n ∙ ap (λ x. length (literal_words x)) (same-is l m d)) ∙ drop-append_seam (literal_words m) (conj_words k);
    }
    go false d e ih =
        let r = ih e in
        let n : length (literal_words m) + until_same l k + length (literal_words l) ≡ length (literal_words m) + (until_same l k + length (literal_words l)) = omega arith in
        record {
          left = m ∷ r.left;
          is = ap (Option.map (λ (c : Conj). m ∷ c)) r.is;
          words =
              ap₂ ◌++◌ (take-append-add (literal_words m) (conj_words k) (until_same l k))
              (ap (λ j. drop j (literal_words m ++ conj_words k)) n ∙ drop-append-add (literal_words m) (conj_words k) (until_same l k + length (literal_words l)))
              ∙ append_assoc (literal_words m) (take (until_same l k) (conj_words k)) (drop (until_same l k + length (literal_words l)) (conj_words k))
              ∙ ap (λ w. literal_words m ++ w) r.words;
        }

-- where the fold applies, the literal stands there again, and this is its one result
pub fold-some : (l : Literal) (k : Conj) (ks : List Conj) → Fold l k ≡ results ks → (t : again l k ≡ true) × (ks ≡ (l ∷ (strike-some l k t).left) ∷ [])
fold-some l k ks e = go (again l k) refl
  where
    go : (b : Bool) → again l k ≡ b → (t : again l k ≡ true) × (ks ≡ (l ∷ (strike-some l k t).left) ∷ [])
    go true t = (t, same (sym e ∙ ap (folded l) (strike-some l k t).is))
      where
        same : {x y : List Conj} → ◌≡◌ {A = Reply (List Conj)} (results x) (results y) → x ≡ y
        same e = cc
    go false t = absurd (let d = sym (fold-none l k t) ∙ e in let z : ◌≡◌ {A = ℕ} 0 1 = cc in omega arith)

-- ---- the earliest literal

-- at none of the first literals
pass : (n i j : ℕ) (before mid rest : Conj) → j ≡ i + length mid → Once mid rest → earliest n (on_pair Fold) i before (mid ++ rest) ≡ earliest n (on_pair Fold) j (before ++ mid) rest
pass n i j before [] rest d o = ap₂ (λ i k. earliest n (on_pair Fold) i k rest) (omega arith) (sym (append-nil before))
pass n i j before (l ∷ mid) rest d o =
    ap
    (λ r.
    or_next (found n i false (each (map (λ (k : Conj). before ++ k)) r))
    (λ _. or_next (found n i true nothing) (λ _. earliest n (on_pair Fold) (suc i) (before ++ (l ∷ [])) (mid ++ rest))))
    (fold-none l (mid ++ rest) o.0)
    ∙ pass n (suc i) j (before ++ (l ∷ [])) mid rest (omega arith) o.1
    ∙ ap (λ k. earliest n (on_pair Fold) j k rest) (append_assoc before (l ∷ []) mid)

-- the literal l that stands there again, the earliest, and what the fold makes of the conjunction
pub record FoldAt (c : Conj) (at : ℕ) : Type 0 where
  pub before : Conj
  pub l : Literal
  pub behind : Conj
  pub whole : c ≡ before ++ (l ∷ behind)
  pub place : at ≡ length (conj_words before)
  pub twice : again l behind ≡ true
  pub once : Once before (l ∷ behind)

abbrev pub left_of : {c : Conj} {at : ℕ} → FoldAt c at → Conj
left_of f = (strike-some f.l f.behind f.twice).left

-- the fold's one result
abbrev pub fold_of : {c : Conj} {at : ℕ} → FoldAt c at → Conj
fold_of f = f.before ++ (f.l ∷ left_of f)

pub data Folding (c : Conj) (at : ℕ) : Type 0 where
  nowhere : at ≡ length (conj_words c) → Once c [] → Folding c at
  somewhere : at < length (conj_words c) → FoldAt c at → Folding c at

pub twice-splits : (c : Conj) → Folding c (first_twice c)
twice-splits [] = nowhere refl tt
twice-splits (l ∷ k) = go (again l k) refl (twice-splits k)
  where
    n : length (literal_words l ++ conj_words k) ≡ length (literal_words l) + length (conj_words k)
    n = length-append (literal_words l) (conj_words k)

    go : (b : Bool) → again l k ≡ b → Folding k (first_twice k) → Folding (l ∷ k) (pick b 0 (length (literal_words l) + first_twice k))
    go true e s = somewhere (let y = n in let z = literal-some l in omega arith) (record { before = []; l = l; behind = k; whole = refl; place = refl; twice = e; once = tt })
    go false e (nowhere d o) = nowhere (let y = n in omega arith) (ap (again l) (append-nil k) ∙ e, o)
    go false e (somewhere h f) =
        somewhere (let y = n in omega arith)
        (record {
          before = l ∷ f.before;
          l = f.l;
          behind = f.behind;
          whole = ap (λ c. l ∷ c) f.whole;
          place = let z = f.place in let y = length-append (literal_words l) (conj_words f.before) in omega arith;
          twice = f.twice;
          once = (ap (again l) (sym f.whole) ∙ e, f.once);
        })

-- the same by the place that is found
pub found_none : (c : Conj) (at : ℕ) → at ≡ first_twice c → length (conj_words c) ≤ at → Once c []
found_none c at e h = go (twice-splits c)
  where
    go : Folding c (first_twice c) → Once c []
    go (nowhere d o) = o
    go (somewhere p f) = absurd (omega arith)

pub found_at : (c : Conj) (at : ℕ) → at ≡ first_twice c → at < length (conj_words c) → FoldAt c at
found_at c at e h = go (twice-splits c)
  where
    go : Folding c (first_twice c) → FoldAt c at
    go (nowhere d o) = absurd (omega arith)
    go (somewhere p f) = subst (FoldAt c) (sym e) f

pub fold-nowhere : (n : ℕ) (c : Conj) → Once c [] → earliest n (on_pair Fold) 0 [] c ≡ nothing
fold-nowhere n c o = ap (earliest n (on_pair Fold) 0 []) (sym (append-nil c)) ∙ pass n 0 (length c) [] c [] (omega arith) o

pub fold-found : (n : ℕ) (c : Conj) (at : ℕ) (f : FoldAt c at)
    → earliest n (on_pair Fold) 0 [] c ≡ results (record { rule = n; literal = length f.before; swapped = false }, fold_of f ∷ [])
fold-found n c at f =
    ap (earliest n (on_pair Fold) 0 []) f.whole ∙ pass n 0 (length f.before) [] f.before (f.l ∷ f.behind) (omega arith) f.once
    ∙ ap
    (λ w.
    or_next (found n (length f.before) false (each (map (λ (k : Conj). f.before ++ k)) (folded f.l w)))
    (λ _. or_next (found n (length f.before) true nothing) (λ _. earliest n (on_pair Fold) (suc (length f.before)) (f.before ++ (f.l ∷ [])) f.behind)))
    (strike-some f.l f.behind f.twice).is

-- ---- in the words

-- the same literal stands at a later place
pub record LaterAt (k : List ℕ) (from : ℕ) (l : Literal) : Type 0 where
  pub before : Conj
  pub behind : Conj
  pub stands : LiteralAt k from before l behind

pub fold-stands : (k : List ℕ) (c : Conj) → fine_conj desk c → k ≡ conj_words c → (at : ℕ) (f : FoldAt c at) → LiteralAt k at f.before f.l f.behind
fold-stands k c fine words at f = stands_here k c fine words at f.before f.l f.behind f.whole f.place

module _ {k : List ℕ} {at : ℕ} {before : Conj} {l : Literal} {behind : Conj} (s : LiteralAt k at before l behind) (twice : again l behind ≡ true) where
  module _ (from : ℕ) (d : from ≡ at + length (literal_words l) + until_same l behind) where
    pub fold-later : LaterAt k from l
    fold-later =
        let x = cut l behind twice in
        record {
          before = before ++ (l ∷ x.before);
          behind = x.behind;
          stands =
              stands_here k (before ++ (l ∷ behind)) (fine-append desk before (l ∷ behind) s.fine_before (s.fine, s.fine_behind)) (s.words ∙ sym (words_append before (l ∷ behind))) from
              (before ++ (l ∷ x.before)) l x.behind
              (ap (λ b. before ++ (l ∷ b)) x.whole ∙ sym (append_assoc before (l ∷ x.before) (l ∷ x.behind)))
              (let a = ap length (words_append before (l ∷ x.before)) ∙ length-append (conj_words before) (literal_words l ++ conj_words x.before) in
              let b = length-append (literal_words l) (conj_words x.before) in
              let p = s.place in
              let q = x.place in
              omega arith);
        }

    module _ (to : ℕ) (e : to ≡ from + 1 + until_literal (drop (from + 1) k)) where
      ends : to ≡ from + length (literal_words l)
      ends = e ∙ literal-next fold-later.stands

      -- the two literals stand one behind the other within the words
      pub fold-places : (at < from) × (from < to) × (to ≤ length k)
      fold-places =
          let z = literal-some l in
          let y = ends in
          (omega arith, omega arith, literal-within fold-later.stands to ends)

      -- the words without those of the later one
      pub fold_words : take from k ++ drop to k ≡ conj_words (before ++ (l ∷ (strike-some l behind twice).left))
      fold_words =
          let ws = conj_words before in
          let us = literal_words l in
          let vs = conj_words behind in
          let u = until_same l behind in
          let w = s.words in
          let p = s.place in
          let y = ends in
          let m : from ≡ length ws + (length us + u) = omega arith in
          let n : to ≡ length ws + (length us + (u + length us)) = omega arith in
          ap₂ ◌++◌
          (ap₂ take m w ∙ take-append-add ws (us ++ vs) (length us + u) ∙ ap (λ w. ws ++ w) (take-append-add us vs u))
          (ap₂ drop n w ∙ drop-append-add ws (us ++ vs) (length us + (u + length us)) ∙ drop-append-add us vs (u + length us))
          ∙ append_assoc ws (us ++ take u vs) (drop (u + length us) vs)
          ∙ ap (λ w. ws ++ w) (append_assoc us (take u vs) (drop (u + length us) vs) ∙ ap (λ w. us ++ w) (strike-some l behind twice).words)
          ∙ sym (words_append before (l ∷ (strike-some l behind twice).left))
