-- What writing literals, lines and all lines finds.
use Prim.Native.Nat.{ℕ, ◌+◌, ◌<◌, ◌≤◌}
use mathlib.Core.Path.{◌≡◌, refl, sym, ap, ◌∙◌}
use mathlib.Core.List.{List, [], ◌∷◌, ◌++◌, append_assoc}
use native.Mathlib.Omega.{arith}
use native.Mathlib.Numerals.{add-one}
use lib.ListN.{length, get_or, drop, length-append, length-drop, drop_of_length-le}
use lib.Seq.{drop-cons}
use Rattle.language.specs.Limits.{desk}
use Rattle.language.specs.Trees.{Hedge, Literal, eqn, mem, Conj, Question}
use Rattle.language.specs.Writing.{hedge_words, expr_words, literal_words, conj_words}
use Rattle.language.specs.Fine.{fine_hedge, fine_conj}
use Rattle.language.specs.Between.{between}
use Rattle.language.specs.Question.{alternatives_of, asks, read_question}
use Rattle.language.proofs.Asking.{passed, ranges, how-many, alternative}
use Rattle.language.proofs.Offsets.{laid-length}
use Rattle.texts.specs.Writer.{line_text, all_text}
use Rattle.words.proofs.Parts.{drop_of}
use Rattle.expressions.proofs.Standing.{word-of, tail_of}
use Rattle.write_text.specs.declared.Wrote.{Wrote}
use Rattle.write_text.specs.Laid.{Laid}
use Rattle.write_text.specs.Pieces.{given, four, first_of, second_of, side_piece, shape, literal_piece, literals_piece}
use Rattle.write_text.specs.Standing.{Side, Test, Done, Sided, Shaped, Tested, IsQuestion, Lined, AllLined}
use Rattle.write_text.proofs.Laid.{laid_as, laid-row, laid_none, given-one}
use Rattle.write_text.proofs.Joining.{line-is}

pub question-long : {w : List ℕ} → IsQuestion w → 6 ≤ length w
question-long {w} q = (ranges desk w q.question q.read).long

pub question-few : {w : List ℕ} → IsQuestion w → alternatives_of w ≤ desk.alternatives
question-few {w} q = (ranges desk w q.question q.read).alternatives

-- ---- a literal

first-side : (w : List ℕ) (at : ℕ) (x : ℕ) (l : Hedge) (us beyond : List ℕ) → fine_hedge desk l → drop at w ≡ (x ∷ (hedge_words l ++ us)) ++ beyond → Side w (at + 1) l (us ++ beyond)
first-side w at x l us beyond fine e = record { fine = fine; words = tail_of w at e ∙ append_assoc (hedge_words l) us beyond }

module _ {stop at to : ℕ} {w old l₁ l₂ new : List ℕ} {a r : Wrote} {m : ℕ} (s : Sided stop w (at + 1) old to l₁ a) where
  pub tested-equation : get_or w at 0 ≡ 5000 → Laid stop l₁ a.to (four 32 61 32 0) l₂ m → Sided stop w a.end l₂ m new r → Tested stop w at old to new r
  tested-equation z l t = record { after = let y = s.after in let y' = t.after in omega arith; each = on }
    where
      on : (k : Literal) (beyond : List ℕ) → Test w at k beyond → Done stop at (literal_words k) (literal_piece k) old to new r
      on (mem h R) beyond k = absurd (let y = word-of w at k.words in omega arith)
      on (eqn h g) beyond k =
          let i = first-side w at 5000 h (hedge_words g) beyond k.fine.0 k.words in
          let p = s.each h _ i in
          let d = p.end in
          let q = t.each g beyond (record { fine = k.fine.1; words = drop_of w (at + 1) a.end (hedge_words h) (hedge_words g ++ beyond) i.words d }) in
          let e = q.end in
          let n = length-append (hedge_words h) (hedge_words g) in
          record { end = omega arith; laid = laid-row (side_piece h) (four 32 61 32 0 ++ side_piece g) p.laid (laid-row (four 32 61 32 0) (side_piece g) l q.laid) }

  pub tested-membership : (get_or w at 0 ≡ 5000 → ⊥) → Laid stop l₁ a.to (four 32 105 110 32) l₂ m → Shaped stop w a.end 1 l₂ m new r → Tested stop w at old to new r
  tested-membership z l t = record { after = let y = s.after in let y' = t.after in omega arith; each = on }
    where
      on : (k : Literal) (beyond : List ℕ) → Test w at k beyond → Done stop at (literal_words k) (literal_piece k) old to new r
      on (eqn h g) beyond k = absurd (z (word-of w at k.words))
      on (mem h R) beyond k =
          let i = first-side w at 6000 h (expr_words R) beyond k.fine.0 k.words in
          let p = s.each h _ i in
          let d = p.end in
          let q = t.each R beyond (record { fine = k.fine.1; words = drop_of w (at + 1) a.end (hedge_words h) (expr_words R ++ beyond) i.words d }) in
          let e = q.end in
          let n = length-append (hedge_words h) (expr_words R) in
          record { end = omega arith; laid = laid-row (side_piece h) (four 32 105 110 32 ++ shape 1 R) p.laid (laid-row (four 32 105 110 32) (shape 1 R) l q.laid) }

-- ---- a line

some_words : (l : Literal) → 1 ≤ length (literal_words l)
some_words (eqn l r) = omega arith
some_words (mem h R) = omega arith

empty-line : four 40 41 10 0 ≡ 40 ∷ 41 ∷ 10 ∷ []
unfolding given four
empty-line = refl

pub lined-empty : {stop to e : ℕ} {w old new : List ℕ} → length w ≡ 0 → Laid stop old to (four 40 41 10 0) new e → Lined stop w old to new e
lined-empty z l [] i q = laid_as empty-line l
lined-empty z l (k ∷ ks) i q = absurd (let n = length-append (literal_words k) (conj_words ks) in let s = some_words k in let y = ap length q in omega arith)

-- the literals that are left, and that they make the whole line
pub record Left (stop : ℕ) (w old : List ℕ) (to i s : ℕ) (now : List ℕ) (n : ℕ) (k : Conj) : Type 0 where
  pub left : Conj
  pub fine : fine_conj desk left
  pub words : drop i w ≡ conj_words left
  pub on : (new : List ℕ) (e : ℕ) → Laid stop now n (literals_piece s left ++ (10 ∷ [])) new e → Laid stop old to (line_text k ++ (10 ∷ [])) new e

pub record Lining (stop : ℕ) (w old : List ℕ) (to i s : ℕ) (now : List ℕ) (n : ℕ) : Type 0 where
  pub same : length now ≡ length old
  pub each : (k : Conj) → fine_conj desk k → w ≡ conj_words k → Left stop w old to i s now n k

pub lining-starts : {stop : ℕ} {w old : List ℕ} {to : ℕ} → (length w ≡ 0 → ⊥) → Lining stop w old to 0 0 old to
lining-starts {stop} {w} {old} {to} z = record { same = refl; each = on }
  where
    on : (k : Conj) → fine_conj desk k → w ≡ conj_words k → Left stop w old to 0 0 old to k
    on [] i q = absurd (z (ap length q))
    on (l ∷ ls) i q = record { left = l ∷ ls; fine = i; words = q; on = λ new e a. laid_as (ap (λ t. t ++ (10 ∷ [])) (sym (line-is l ls i))) a }

module _ {stop : ℕ} {w old : List ℕ} {to i s n : ℕ} {now : List ℕ} (g : Lining stop w old to i s now n) where
  pub lining-on : {m : ℕ} {l₁ l₂ : List ℕ} {r : Wrote} (a b : ℕ) → i < length w → a ≡ first_of s → b ≡ second_of s → Laid stop now n (four a b 0 0) l₁ m → Tested stop w i l₁ m l₂ r → length l₂ ≡ length old → Lining stop w old to r.end 2 l₂ r.to
  lining-on {m} {l₁} {l₂} {r} a b p pa pb l t same = record { same = same; each = λ k f q. on k (g.each k f q) }
    where
      next : (k : Conj) (ls : Conj) → fine_conj desk ls → drop i w ≡ conj_words ls → ((new : List ℕ) (e : ℕ) → Laid stop now n (literals_piece s ls ++ (10 ∷ [])) new e → Laid stop old to (line_text k ++ (10 ∷ [])) new e)
          → Left stop w old to r.end 2 l₂ r.to k
      next k [] f q h = absurd (let y = ap length q in omega (arith, length-drop i w))
      next k (x ∷ ls) f q h =
          let d = t.each x (conj_words ls) (record { fine = f.0; words = q }) in
          record {
            left = ls;
            fine = f.1;
            words = drop_of w i r.end (literal_words x) (conj_words ls) q d.end;
            on = λ new e z.
                h new e
                (laid_as
                (sym (append_assoc (four (first_of s) (second_of s) 0 0) (literal_piece x ++ literals_piece 2 ls) (10 ∷ []) ∙ ap (λ v. four (first_of s) (second_of s) 0 0 ++ v) (append_assoc (literal_piece x) (literals_piece 2 ls) (10 ∷ []))))
                (laid-row (four (first_of s) (second_of s) 0 0) (literal_piece x ++ (literals_piece 2 ls ++ (10 ∷ []))) (laid_as (ap (λ a. four a b 0 0) pa ∙ ap (λ b. four (first_of s) b 0 0) pb) l)
                (laid-row (literal_piece x) (literals_piece 2 ls ++ (10 ∷ [])) d.laid z)));
          }

      on : (k : Conj) → Left stop w old to i s now n k → Left stop w old to r.end 2 l₂ r.to k
      on k f = next k f.left f.fine f.words f.on

  pub lining_ends : {new : List ℕ} {e : ℕ} → length w ≤ i → Laid stop now n (given 10) new e → Lined stop w old to new e
  lining_ends {new} {e} p l k f q = on (g.each k f q)
    where
      last : (ls : Conj) → drop i w ≡ conj_words ls → ((new : List ℕ) (e : ℕ) → Laid stop now n (literals_piece s ls ++ (10 ∷ [])) new e → Laid stop old to (line_text k ++ (10 ∷ [])) new e) → Laid stop old to (line_text k ++ (10 ∷ [])) new e
      last [] q h = h new e (laid_as (given-one 10 (omega arith)) l)
      last (x ∷ ls) q h = absurd (let y = ap length q in let m = some_words x in let c = length-append (literal_words x) (conj_words ls) in omega (arith, length-drop i w))

      on : Left stop w old to i s now n k → Laid stop old to (line_text k ++ (10 ∷ [])) new e
      on z = last z.left z.words z.on

-- ---- all lines

pub record Listing (stop : ℕ) (w old : List ℕ) (i : ℕ) (now : List ℕ) (n : ℕ) : Type 0 where
  pub same : length now ≡ length old
  pub high : i ≤ alternatives_of w
  pub each : (q : Question) → read_question desk w ≡ asks q → (new : List ℕ) (e : ℕ) → Laid stop now n (all_text (drop i q.alternatives)) new e → Laid stop old 0 (all_text q.alternatives) new e

pub within-question : {w : List ℕ} (q : IsQuestion w) (i from to : ℕ) → i < alternatives_of w → from ≡ get_or w (5 + i) 0 → to ≡ get_or w (6 + i) 0 → (from ≤ to) × (to ≤ length w)
within-question {w} q i from to p ef et = let a = alternative desk w q.question q.read i p in let r = a.rises in let s = a.inside in (omega arith, omega arith)

pub table-within : {w : List ℕ} → IsQuestion w → 6 + alternatives_of w ≤ length w
table-within {w} q = omega (arith, laid-length 5 (alternatives_of w) w (passed desk w q.question q.read).laid_out)

module _ {stop : ℕ} {w old : List ℕ} {i n : ℕ} {now : List ℕ} (g : Listing stop w old i now n) where
  pub listing-on : {m : ℕ} {next : List ℕ} (from to : ℕ) → i < alternatives_of w → from ≡ get_or w (5 + i) 0 → to ≡ get_or w (6 + i) 0 → Lined stop (between from to w) now n next m → length next ≡ length old → Listing stop w old (i + 1) next m
  listing-on {m} {next} from to p ef et l same = record {
    same = same;
    high = omega arith;
    each = λ q e new z c.
        let a = alternative desk w q e i p in
        let k = get_or q.alternatives i [] in
        let words : between from to w ≡ conj_words k = ap (λ f. between f to w) ef ∙ ap (λ t. between (get_or w (5 + i) 0) t w) et ∙ a.words in
        let h = how-many desk w q e in
        g.each q e new z
        (laid_as
        (append_assoc (line_text k) (10 ∷ []) (all_text (drop (i + 1) q.alternatives))
        ∙ sym (ap all_text (drop-cons q.alternatives i [] (omega arith) ∙ ap (λ j. k ∷ drop j q.alternatives) (sym (add-one i)))))
        (laid-row (line_text k ++ (10 ∷ [])) (all_text (drop (i + 1) q.alternatives)) (l k a.fine words) c));
  }

  pub listing-ends : alternatives_of w ≤ i → AllLined stop w old now n
  listing-ends p q e =
      let h = how-many desk w q e in
      g.each q e now n (laid_as (sym (ap all_text (drop_of_length-le q.alternatives {i = i} (omega arith)))) laid_none)
