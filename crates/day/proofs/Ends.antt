-- What solving leaves in the answer slice, read up to the end of its last line.
use Prim.Native.Nat.{ℕ, suc, ◌+◌, ◌-◌, ◌<◌, ◌≤◌}
use mathlib.Core.Path.{◌≡◌, refl, sym, ap, subst, ◌∙◌}
use mathlib.Core.Bool.{false}
use mathlib.Core.List.{List, [], ◌∷◌, ◌++◌, map, append_assoc}
use native.Mathlib.Omega.{arith}
use lib.Dec.{leb, eqb}
use lib.ListN.{length, take, drop, get_or, replicate, length-append, length-replicate, length-map, length-drop, get_or-append}
use lib.Seq.{take_at, drop_at}
use borrow.Author.Tests.{leb-true, eq-eqb, ne_eqb}
use Rattle.language.specs.declared.Refusal.{Refusal}
use Rattle.language.specs.Kinds.{pick}
use Rattle.language.specs.Limits.{desk}
use Rattle.language.specs.Trees.{signature}
use Rattle.language.specs.Numbers.{number_of}
use Rattle.language.proofs.Bools.{both_true}
use Rattle.language.proofs.Numbering.{each_number}
use Rattle.meaning.specs.Values.{offsets_of, joined}
use Rattle.rules.specs.Run.{Numbered, lines_at, lines_size}
use Rattle.rules.specs.Answer.{Solving, answered, unread, given-up, solving, line_words, answer_body, answer_words, zeros, overwritten}
use Rattle.rules.proofs.Invariant.{answered-run}
use Rattle.exact.proofs.Wider.{lines_fit_lem}
use Rattle.answers.proofs.Rows.{header, length-header, length-lines, length-answer}
use Rattle.outcomes.specs.Numbers.{SolveNumbers}
use Rattle.solver.specs.Leaves.{told_leaves}
use Rattle.word_bytes.specs.Bytes.{fitting}
use Rattle.sheets.specs.Day.{answer_part}
use Rattle.day.specs.Written.{Kept}
use Rattle.day.proofs.Fitting.{fitting-solving}

-- ---- an answer's words up to the end of its last line

last-offset : (at : ℕ) (ps : List (List ℕ)) → get_or (offsets_of at ps) (length ps) 0 ≡ at + length (joined ps)
last-offset at [] = let z : at ≡ at + 0 = omega arith in z
last-offset at (p ∷ ps) = last-offset (at + length p) ps ∙ (let e = length-append p (joined ps) in let z : at + length p + length (joined ps) ≡ at + length (p ++ joined ps) = omega arith in z)

module _ (ls : List Numbered) (few : length ls ≤ desk.lines) where
  abbrev gap : List ℕ
  gap = replicate (lines_at desk - length (header ls)) 0

  abbrev all : List ℕ
  all = joined (map line_words ls)

  length-body : length (answer_body desk ls) ≡ lines_at desk + length (joined (map line_words ls))
  length-body =
      let a = length-append (header ls ++ gap) all in
      let b = length-append (header ls) gap in
      let c = length-replicate {A = ℕ} (lines_at desk - length (header ls)) 0 in
      let d = length-header ls in
      omega arith

  -- the last offset says where it ends
  end-there : (rest : List ℕ) → get_or (answer_body desk ls ++ rest) (length ls + 2) 0 ≡ length (answer_body desk ls)
  end-there rest =
      let h = length-header ls in
      let m : length ls ≡ length (map line_words ls) = sym (length-map ls line_words) in
      ap (λ w. get_or w (length ls + 2) 0) (append_assoc (header ls ++ gap) all rest ∙ append_assoc (header ls) gap (all ++ rest))
      ∙ get_or-append (header ls) (gap ++ (all ++ rest)) 0 (length ls + 2) (omega arith)
      ∙ ap (λ j. get_or (header ls) j 0) (let z : length ls + 2 ≡ suc (suc (length ls)) = omega arith in z)
      ∙ ap (λ j. get_or (offsets_of (lines_at desk) (map line_words ls)) j 0) m
      ∙ last-offset (lines_at desk) (map line_words ls) ∙ sym length-body

  long-enough : (rest : List ℕ) → length ls + 2 < length (answer_body desk ls ++ rest)
  long-enough rest = let a = length-append (answer_body desk ls) rest in let b = length-body in omega arith

-- ---- no refusal has the number 0

pub some_number : (r : Refusal) → eqb (number_of r) 0 ≡ false
some_number r = ne_eqb (number_of r) 0 (λ z. absurd (let b = each_number r in omega arith))

-- ---- where an answer ends

pub end-answered : (number at r : ℕ) → number ≡ 0 → r ≡ at → r ≡ pick (eqb number 0) at 0
end-answered number at r e d = d ∙ sym (ap (λ b. pick b at 0) (eq-eqb number 0 e))

pub end_refused : (number at : ℕ) → (number ≡ 0 → ⊥) → 0 ≡ pick (eqb number 0) at 0
end_refused number at h = sym (ap (λ b. pick b at 0) (ne_eqb number 0 h))

-- ---- the part of an answer

pub part_of : (work answer : ℕ) (q r p : List ℕ) → q ≡ r → p ≡ answer_part desk (solving desk work answer q) → p ≡ answer_part desk (solving desk work answer r)
part_of work answer q r p e d = d ∙ ap (λ z. answer_part desk (solving desk work answer z)) e

-- in the answer slice stands what the part of s consists of, where the number and the count of lines have come back
pub record Told (s : Solving) (number lines : ℕ) (answer : List ℕ) : Type 0 where
  pub inside : lines + 2 < length answer
  pub part : (len : ℕ) → len ≡ pick (eqb number 0) (get_or answer (lines + 2) 0) 0 → (len ≤ desk.room) × (len ≤ length answer) × (number ∷ take len answer ≡ answer_part desk s)

pub kept_same : (old : List ℕ) → Kept old old
kept_same old = record { long = refl; past = refl }

pub kept_on : (old mid new : List ℕ) → Kept old mid → Kept mid new → Kept old new
kept_on old mid new h k = record { long = k.long ∙ h.long; past = k.past ∙ h.past }

pub kept-over : (ws old : List ℕ) → length ws ≡ desk.room → desk.room ≤ length old → Kept old (overwritten desk ws old)
kept-over ws old e h = record {
  long = let a = length-append ws (drop desk.room old) in let b = length-drop desk.room old in omega arith;
  past = drop_at ws (drop desk.room old) desk.room e;
}

length-zeros : length (zeros desk) ≡ desk.room
unfolding zeros
length-zeros = length-replicate {A = ℕ} desk.room 0

refused-told : (s : Solving) (r : Refusal) (answer : List ℕ) → answer_part desk s ≡ number_of r ∷ [] → desk.room ≤ length answer → Told s (number_of r) 0 answer
refused-told s r answer e h = record {
  inside = omega arith;
  part = λ len d.
      let z : len ≡ 0 = d ∙ ap (λ b. pick b (get_or answer 2 0) 0) (some_number r) in
      (omega arith, omega arith, ap (λ n. number_of r ∷ take n answer) z ∙ sym e);
}

pub answered-told : (ls : List Numbered) (n : ℕ) (rest answer : List ℕ) → length ls ≤ desk.lines → lines_at desk + lines_size ls ≤ desk.room → answer ≡ answer_words desk ls ++ rest → Told (answered ls n) 0 (length ls) answer
unfolding answer_words
answered-told ls n rest answer few size e =
    let zs : List ℕ = replicate (desk.room - length (answer_body desk ls)) 0 in
    let f : answer ≡ answer_body desk ls ++ (zs ++ rest) = e ∙ append_assoc (answer_body desk ls) zs rest in
    record {
      inside = subst (λ (w : List ℕ). length ls + 2 < length w) (sym f) (long-enough ls few (zs ++ rest));
      part = λ len d.
          let z : len ≡ length (answer_body desk ls) = d ∙ ap (λ w. get_or w (length ls + 2) 0) f ∙ end-there ls few (zs ++ rest) in
          let k : length answer ≡ length (answer_body desk ls) + length (zs ++ rest) = ap length f ∙ length-append (answer_body desk ls) (zs ++ rest) in
          (omega (arith, length-body ls few, length-lines ls), omega arith, ap (λ w. 0 ∷ take len w) f ∙ ap (λ w. 0 ∷ w) (take_at (answer_body desk ls) (zs ++ rest) len (sym z)));
    }

pub answered-fits : (work answer : ℕ) (q : List ℕ) (ls : List Numbered) (n : ℕ) → solving desk work answer q ≡ answered ls n → (length ls ≤ desk.lines) × (lines_at desk + lines_size ls ≤ desk.room)
answered-fits work answer q ls n e =
    let (x, asked, ran) = answered-run desk work answer q ls n e in
    let f = both_true (leb (length ls) desk.lines) (leb (lines_at desk + lines_size ls) desk.room) (lines_fit_lem desk refl (signature x.counts) x.alternatives ls n ran) in
    (leb-true _ _ f.0, leb-true _ _ f.1)

abbrev Back : Type 0
Back = SolveNumbers × List ℕ × List ℕ

pub record Off (s : Solving) (r : SolveNumbers) (w a w' a' : List ℕ) : Type 0 where
  pub told : Told s r.number r.lines a'
  pub work : Kept w w'
  pub answer : Kept a a'

module _ (w a : List ℕ) (hw : desk.room ≤ length w) (ha : desk.room ≤ length a) where
  read_off : (s : Solving) (r : SolveNumbers) (w' a' : List ℕ) → ((ls : List Numbered) (n : ℕ) → s ≡ answered ls n → (length ls ≤ desk.lines) × (lines_at desk + lines_size ls ≤ desk.room))
      → (r, w', a') ≡ told_leaves s w a → Off s r w a w' a'
  read_off (answered ls n) r w' a' fit e =
      let f = fit ls n refl in
      subst (λ (t : Back). Off (answered ls n) t.0 w a t.1 t.2) (sym e)
      (record {
        told = answered-told ls n (drop desk.room a) (overwritten desk (answer_words desk ls) a) f.0 f.1 refl;
        work = kept-over (zeros desk) w length-zeros hw;
        answer = kept-over (answer_words desk ls) a (length-answer ls f.0 f.1) ha;
      })
  read_off (unread x) r w' a' fit e =
      subst (λ (t : Back). Off (unread x) t.0 w a t.1 t.2) (sym e) (record { told = refused-told (unread x) x a refl ha; work = kept_same w; answer = kept_same a })
  read_off (given-up x) r w' a' fit e =
      let k = kept-over (zeros desk) a length-zeros ha in
      let l = k.long in
      subst (λ (t : Back). Off (given-up x) t.0 w a t.1 t.2) (sym e)
      (record { told = refused-told (given-up x) x (overwritten desk (zeros desk) a) refl (omega arith); work = kept-over (zeros desk) w length-zeros hw; answer = k })

  -- of a question that fits
  pub solved-off : (q : List ℕ) (v : List ℕ) → v ≡ fitting desk.question q → (r : SolveNumbers) (w' a' : List ℕ)
      → (r, w', a') ≡ told_leaves (solving desk (length w) (length a) v) w a → Off (solving desk (length w) (length a) q) r w a w' a'
  solved-off q v d r w' a' e =
      let same : solving desk (length w) (length a) v ≡ solving desk (length w) (length a) q = ap (solving desk (length w) (length a)) d ∙ fitting-solving (length w) (length a) q in
      read_off (solving desk (length w) (length a) q) r w' a' (answered-fits (length w) (length a) q) (e ∙ ap (λ (s : Solving). told_leaves s w a) same)

module _ {s : Solving} {r : SolveNumbers} {w a w' a' : List ℕ} (o : Off s r w a w' a') where
  pub part-told : (number len : ℕ) → number ≡ r.number → len ≡ pick (eqb number 0) (get_or a' (r.lines + 2) 0) 0 → (len ≤ desk.room) × (len ≤ length a') × (number ∷ take len a' ≡ answer_part desk s)
  part-told number len e d =
      let p = o.told.part len (d ∙ ap (λ n. pick (eqb n 0) (get_or a' (r.lines + 2) 0) 0) e) in
      (p.0, p.1, ap (λ n. n ∷ take len a') e ∙ p.2)
