-- A question of one conjunction: what stands behind its table, and what the call leaves by how it was read.
use Prim.Native.Nat.{ℕ, ◌+◌, ◌-◌, ◌<◌, ◌≤◌}
use native.Mathlib.Omega.{arith}
use mathlib.Core.Path.{◌≡◌, refl, sym, ap, ◌∙◌}
use mathlib.Core.Bool.{Bool, true, false}
use mathlib.Core.List.{List, [], ◌∷◌, ◌++◌, map, append_assoc, append-nil}
use lib.ListN.{length, take, drop, replicate, get_or, length-append, length-drop, length-replicate, replicate-append-replicate}
use lib.Seq.{sets, sets-eq, take_at, drop_at}
use borrow.Author.Tests.{lt-ltb, le-ltb}
use Rattle.std.specs.Prelude.{Result, Ok, Err}
use Rattle.language.specs.declared.Refusal.{Refusal}
use Rattle.language.specs.declared.Refusal.TheVariants.{ShortSlice, CountRange}
use Rattle.language.specs.declared.Signature.{Signature}
use Rattle.language.specs.Limits.{Limits, desk}
use Rattle.language.specs.Trees.{Conj, signature, Question}
use Rattle.language.specs.Writing.{conj_words}
use Rattle.language.specs.Fine.{fine_conj}
use Rattle.language.specs.Question.{asks, parts, counts_of, alternatives_of, read_question}
use Rattle.language.specs.Between.{between}
use Rattle.language.proofs.Alternatives.{all_words, read-all, parts_join}
use Rattle.language.proofs.Asking.{passed, ranges, how-many, alternative}
use Rattle.language.proofs.Offsets.{length-between, laid-length, laid-rises, parts-start}
use Rattle.rules.specs.Answer.{zeros, overwritten}
use Rattle.header.specs.declared.Header.{Header}
use Rattle.header.specs.Heading.{header_of}
use Rattle.reader.specs.Checking.{checked, asked_numbers}
use Rattle.reader.proofs.Answers.{as-checked, question-asked, question-refused}
use Rattle.outcomes.specs.Numbers.{checked_numbers}
use Rattle.replay.specs.Replay.{Triple}
use Rattle.named_steps.specs.Naming.{Naming, unread, named_at, of_one, naming_of, naming}
use Rattle.named_steps.specs.Leaves.{result_words, begins, room_of, leaves, Leaves, makes}
use Rattle.named_steps.specs.Leaves as left

-- ---- the conjunction

one_of : (ks : List Conj) → length ks ≡ 1 → ks ≡ get_or ks 0 [] ∷ []
one_of [] e = absurd (omega arith)
one_of (k ∷ []) e = refl
one_of (k ∷ j ∷ ks) e = absurd (omega arith)

not-one : (L : Limits) (number : ℕ) (σ : Signature) (t : Triple) (ks : List Conj) → (length ks ≡ 1 → ⊥) → of_one L number σ t ks ≡ unread CountRange
not-one L number σ t [] h = refl
not-one L number σ t (k ∷ []) h = absurd (h refl)
not-one L number σ t (k ∷ j ∷ ks) h = refl

-- as many words as there are
all_of : (n : ℕ) (ws : List ℕ) → length ws ≡ n → take n ws ≡ ws
all_of n ws e = ap (take n) (sym (append-nil ws)) ∙ take_at ws [] n e

-- the words behind the header and the two offsets
pub record One (ws : List ℕ) : Type 0 where
  pub conj : Conj
  pub fine : fine_conj desk conj
  pub words : between 7 (length ws) ws ≡ conj_words conj
  pub long : 7 ≤ length ws
  pub short : length (between 7 (length ws) ws) ≤ desk.question
  pub asked : (number : ℕ) (t : Triple) → naming_of desk number t (read_question desk ws) ≡ named_at desk number (signature (counts_of ws)) t conj

module _ (ws : List ℕ) (e : Ok tt ≡ checked (read_question desk ws)) where
  abbrev q : Question
  q = (question-asked ws e).0

  abbrev is : read_question desk ws ≡ asks q
  is = (question-asked ws e).1

  pub long-enough : 5 ≤ length ws
  long-enough = let r = (ranges desk ws q is).long in omega arith

  pub of-none-or-more : (alternatives_of ws ≡ 1 → ⊥) → (number : ℕ) (t : Triple) → naming_of desk number t (read_question desk ws) ≡ unread CountRange
  of-none-or-more h number t =
      ap (naming_of desk number t) is ∙ not-one desk number (signature q.counts) t q.alternatives (λ z. h (sym (how-many desk ws q is) ∙ z))

  pub of_one_lem : alternatives_of ws ≡ 1 → One ws
  of_one_lem h =
      let p = passed desk ws q is in
      let a = alternative desk ws q is 0 (omega arith) in
      let l = laid-length 5 (alternatives_of ws) ws p.laid_out in
      let r = ranges desk ws q is in
      record {
        conj = get_or q.alternatives 0 [];
        fine = a.fine;
        words =
            all_of (length ws - 7) (drop 7 ws) (length-drop 7 ws)
            ∙ let f = read-all desk (parts 5 (alternatives_of ws) ws) q.alternatives p.words p.read in
            ap (λ n. drop (5 + n + 1) ws) (sym h)
            ∙ sym (parts_join (5 + alternatives_of ws + 1) (between 6 (5 + alternatives_of ws + 1) ws) ws (laid-rises 5 (alternatives_of ws) ws p.laid_out))
            ∙ ap all_words (sym (parts-start 5 (alternatives_of ws) ws p.laid_out) ∙ f.1)
            ∙ ap (λ ks. all_words (map conj_words ks)) (one_of q.alternatives (how-many desk ws q is ∙ h))
            ∙ append-nil (conj_words (get_or q.alternatives 0 []));
        long = omega arith;
        short = let d = length-between 7 (length ws) ws (omega arith) in let s = r.short in omega arith;
        asked = λ number t.
            ap (naming_of desk number t) is ∙ ap (of_one desk number (signature q.counts) t) (one_of q.alternatives (how-many desk ws q is ∙ h))
            ∙ ap (λ n. named_at desk number (signature n) t (get_or q.alternatives 0 [])) p.counts;
      }

-- the same from what the calls said
module _ (ws : List ℕ) (r : Result (Unit {0}) Refusal) (n : checked_numbers r ≡ asked_numbers (read_question desk ws)) (e : r ≡ Ok tt) where
  pub was-fine : Ok tt ≡ checked (read_question desk ws)
  was-fine = sym e ∙ as-checked r (read_question desk ws) n

  pub is_one : (h : Header) → h ≡ header_of ws → h.alternatives ≡ 1 → One ws
  is_one h d k = of_one_lem ws was-fine (sym (ap (λ (h : Header). h.alternatives) d) ∙ k)

-- what comes back, and what the lent slice then holds
abbrev pub Left : Type 0
Left = Result ℕ Refusal × List ℕ

-- ---- before the step

module _ (number : ℕ) (t : Triple) (ws work : List ℕ) where
  abbrev by : Bool → Naming
  by b = elim b [ true ↦ unread ShortSlice | false ↦ naming_of desk number t (read_question desk ws) ]

  pub unread-leaves : (x : Refusal) → naming desk (length work) number t ws ≡ unread x → ◌≡◌ {A = Left} (Err x, work) (leaves number (naming desk (length work) number t ws) work)
  unread-leaves x e = sym (ap (λ v. leaves number v work) e)

  pub short-work : length work < desk.room → naming desk (length work) number t ws ≡ unread ShortSlice
  unfolding naming
  short-work h = ap by (lt-ltb (length work) desk.room h)

  pub long-work : desk.room ≤ length work → naming desk (length work) number t ws ≡ naming_of desk number t (read_question desk ws)
  unfolding naming
  long-work h = ap by (le-ltb (length work) desk.room h)

  pub refused-unread : (x : Refusal) → Err x ≡ checked (read_question desk ws) → naming_of desk number t (read_question desk ws) ≡ unread x
  refused-unread x e = ap (naming_of desk number t) (question-refused ws x e)

-- ---- after the step, in a cleared room

abbrev cleared : List ℕ → List ℕ
cleared work = overwritten desk (zeros desk) work

-- words stored at the end of n zeros
zeros-before : (n at : ℕ) (vs rest : List ℕ) → at + length vs ≡ n → sets (replicate n 0 ++ rest) at vs ≡ (replicate (n - length vs) 0 ++ vs) ++ rest
zeros-before n at vs rest e =
    let whole : replicate at 0 ++ (replicate (length vs) 0 ++ rest) ≡ replicate n 0 ++ rest =
    sym (append_assoc (replicate at 0) (replicate (length vs) 0) rest) ∙ ap (λ us. us ++ rest) (replicate-append-replicate at (length vs) 0) ∙ ap (λ m. replicate m 0 ++ rest) e in
    let long = length-append (replicate n 0) rest in
    let all = length-replicate {A = ℕ} n 0 in
    sets-eq vs (replicate n 0 ++ rest) at (omega arith)
    ∙ ap (λ us. us ++ vs ++ drop (at + length vs) (replicate n 0 ++ rest)) (ap (take at) (sym whole) ∙ take_at (replicate at 0) (replicate (length vs) 0 ++ rest) at (length-replicate at 0))
    ∙ ap (λ us. replicate at 0 ++ vs ++ us) (drop_at (replicate n 0) rest (at + length vs) (length-replicate n 0 ∙ sym e))
    ∙ ap (λ m. replicate m 0 ++ vs ++ rest) (let z : at ≡ n - length vs = omega arith in z)

room-kept : (work vs : List ℕ) (at : ℕ) → at + length vs ≡ desk.room → sets (cleared work) at vs ≡ overwritten desk (room_of vs) work
unfolding zeros
room-kept work vs at e = zeros-before desk.room at vs (drop desk.room work) e

pub step-leaves : (number : ℕ) (v : Naming) (work : List ℕ) (r : Result ℕ Refusal) (old new : List ℕ) → old ≡ cleared work → Leaves number v old r new → (r, new) ≡ leaves number v work
step-leaves number v work r old new e (left.refuses x d i y) =
    ap (λ r. (r, new)) d ∙ ap {B = Left} (λ n. (Err x, n)) (y ∙ e) ∙ sym (ap (λ v. leaves number v work) i)
step-leaves number v work r old new e (makes ks at d i g y) =
    let z : at ≡ begins (result_words number ks) = omega arith in
    ap (λ r. (r, new)) (d ∙ ap {B = Result ℕ Refusal} Ok z) ∙ ap {B = Left} (λ n. (Ok (begins (result_words number ks)), n)) (y ∙ ap (λ o. sets o at (result_words number ks)) e ∙ room-kept work (result_words number ks) at g)
    ∙ sym (ap (λ v. leaves number v work) i)
