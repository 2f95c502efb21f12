-- A walk from literal to literal in a line's words.
use Prim.Native.Nat.{ℕ, ◌+◌, ◌<◌, ◌≤◌}
use mathlib.Core.Path.{◌≡◌, refl, sym, ap, ◌∙◌}
use mathlib.Core.List.{List, [], ◌∷◌, ◌++◌, append_assoc}
use native.Mathlib.Omega.{arith}
use lib.ListN.{length, drop, length-append}
use lib.Seq.{drop-append_seam}
use Rattle.language.specs.Limits.{desk}
use Rattle.language.specs.Trees.{Literal, eqn, mem, Conj}
use Rattle.language.specs.Writing.{literal_words, conj_words}
use Rattle.language.specs.Fine.{fine_conj}
use Rattle.words.specs.Places.{until_literal}
use Rattle.views.specs.Standing.{LiteralAt}
use Rattle.views.proofs.Words.{words_append}
use Rattle.views.proofs.Literals.{next-literal}
use Rattle.values.specs.Lines.{Line, Walk}

fine-parts : (a b : Conj) → fine_conj desk (a ++ b) → fine_conj desk a × fine_conj desk b
fine-parts [] b f = (tt, f)
fine-parts (l ∷ a) b f = let g = fine-parts a b f.1 in ((f.0, g.0), g.1)

some_words : (l : Literal) → 0 < length (literal_words l)
some_words (eqn l r) = omega arith
some_words (mem h R) = omega arith

-- a literal between the others
pub literal-at : {k : List ℕ} {at : ℕ} {c : Conj} (before : Conj) (l : Literal) (behind : Conj) → Line k c → c ≡ before ++ (l ∷ behind) → at ≡ length (conj_words before) → LiteralAt k at before l behind
literal-at {k} {at} {c} before l behind s e p =
    let f = fine-parts before (l ∷ behind) (rw e at s.fine) in
    record {
      words = s.words ∙ ap conj_words e ∙ words_append before (l ∷ behind);
      place = p;
      fine_before = f.0;
      fine = f.1.0;
      fine_behind = f.1.1;
    }

pub literal-here : {k : List ℕ} {at : ℕ} {before behind : Conj} {l : Literal} → LiteralAt k at before l behind → drop at k ≡ literal_words l ++ conj_words behind
literal-here {k} {at} {before} {behind} {l} a =
    ap (λ i. drop i k) a.place ∙ ap (drop (length (conj_words before))) a.words ∙ drop-append_seam (conj_words before) (literal_words l ++ conj_words behind)

pub literal-ends : {k : List ℕ} {at : ℕ} {before behind : Conj} {l : Literal} → LiteralAt k at before l behind → at + 1 + until_literal (drop (at + 1) k) ≡ at + length (literal_words l)
literal-ends {k} {at} {before} {behind} {l} a = next-literal k at l behind a.fine (literal-here a)

pub walk_start : {k : List ℕ} {c : Conj} {P : Conj → Conj → Type 0} → P [] c → Walk k 0 c P
walk_start {k} {c} p = record { before = []; behind = c; split = refl; place = refl; kept = p }

some_left : {k : List ℕ} {c : Conj} → Line k c → (before behind : Conj) → c ≡ before ++ behind → length k ≡ length (conj_words before) + length (conj_words behind)
some_left s before behind e = ap length (s.words ∙ ap conj_words e ∙ words_append before behind) ∙ length-append (conj_words before) (conj_words behind)

module _ {k : List ℕ} {at : ℕ} {c : Conj} {P : Conj → Conj → Type 0} (s : Line k c) where
  -- at a place before the end a literal stands
  pub walk-literal : {X : Type 0} → Walk k at c P → at < length k → ((before : Conj) (l : Literal) (behind : Conj) → LiteralAt k at before l behind → P before (l ∷ behind) → X) → X
  walk-literal {X} w i go = cases w.behind w.split w.kept
    where
      cases : (d : Conj) → c ≡ w.before ++ d → P w.before d → X
      cases [] e p = absurd (let n = some_left s w.before [] e in let m = w.place in omega arith)
      cases (l ∷ d) e p = go w.before l d (literal-at w.before l d s e w.place) p

  -- past it the next
  pub walk-next : {next : ℕ} → Walk k at c P → at < length k → next ≡ at + 1 + until_literal (drop (at + 1) k)
      → ((before : Conj) (l : Literal) (behind : Conj) → LiteralAt k at before l behind → P before (l ∷ behind) → P (before ++ (l ∷ [])) behind) → Walk k next c P
  walk-next {next} w i n go = cases w.behind w.split w.kept
    where
      cases : (d : Conj) → c ≡ w.before ++ d → P w.before d → Walk k next c P
      cases [] e p = absurd (let n = some_left s w.before [] e in let m = w.place in omega arith)
      cases (l ∷ d) e p =
          let a = literal-at w.before l d s e w.place in
          let t = literal-ends a in
          let m = w.place in
          let q = ap length (words_append w.before (l ∷ [])) ∙ length-append (conj_words w.before) (conj_words (l ∷ [])) in
          let r = length-append (literal_words l) [] in
          record {
            before = w.before ++ (l ∷ []);
            behind = d;
            split = e ∙ sym (append_assoc w.before (l ∷ []) d);
            place = omega arith;
            kept = go w.before l d a p;
          }

  -- at the end nothing is left
  pub walk_end : {X : Type 0} → Walk k at c P → length k ≤ at → ((before : Conj) → P before [] → X) → X
  walk_end {X} w i go = cases w.behind w.split w.kept
    where
      cases : (d : Conj) → c ≡ w.before ++ d → P w.before d → X
      cases [] e p = go w.before p
      cases (l ∷ d) e p = absurd (
          let n = some_left s w.before (l ∷ d) e in
          let m = w.place in
          let q = length-append (literal_words l) (conj_words d) in
          let z = some_words l in
          omega arith
          )
