-- A line of an answer, read back: its offset, its mark and its words.
use Prim.Native.Nat.{ℕ, zero, suc, ◌+◌, ◌-◌, ◌<◌, ◌≤◌}
use mathlib.Core.Path.{◌≡◌, refl, sym, ap, ◌∙◌}
use mathlib.Core.List.{List, [], ◌∷◌, ◌++◌, map, append_assoc, map-append}
use mathlib.Core.Option.{none, some}
use native.Mathlib.Omega.{arith}
use lib.ListN.{length, get_or, drop, length-append, get_or-append, replicate, length-replicate}
use lib.Seq.{drop-append-add, drop-append_seam}
use Rattle.language.specs.Limits.{desk}
use Rattle.language.specs.Writing.{conj_words}
use Rattle.meaning.specs.Values.{offsets_of, joined}
use Rattle.rules.specs.Run.{Numbered, EachLine, lines_size, lines_at}
use Rattle.rules.specs.Answer.{line_words, answer_words}
use Rattle.rules.specs.Calls.{line_at}
use Rattle.answers.proofs.Rows.{header, in_a_row, length-header, length-lines, length-answer}
use Rattle.answer_example.specs.Answers.{Good, Answer}
use Rattle.line_example.proofs.Tables.{joined-row}

-- ---- the line of a number

record Split (ls : List Numbered) (i : ℕ) : Type 0 where
  before : List Numbered
  l : Numbered
  behind : List Numbered
  split : ls ≡ before ++ (l ∷ behind)
  place : i ≡ length before
  is : line_at i ls ≡ some l
  good : Good l.literals

split_at : (ls : List Numbered) (i : ℕ) → i < length ls → EachLine Good ls → Split ls i
split_at [] i p g = absurd (omega arith)
split_at (k ∷ ls) zero p g = record { before = []; l = k; behind = ls; split = refl; place = refl; is = refl; good = g.0 }
split_at (k ∷ ls) (suc i) p g =
    let s = split_at ls i (omega arith) g.1 in
    record { before = k ∷ s.before; l = s.l; behind = s.behind; split = ap (λ r. k ∷ r) s.split; place = ap suc s.place; is = s.is; good = s.good }

pub no_line : (ls : List Numbered) (i : ℕ) → length ls ≤ i → line_at i ls ≡ none
no_line [] i p = refl
no_line (k ∷ ls) zero p = absurd (omega arith)
no_line (k ∷ ls) (suc i) p = no_line ls i (omega arith)

-- ---- offsets

offset_at : (at : ℕ) (before : List Numbered) (l : Numbered) (behind : List Numbered) → get_or (offsets_of at (map line_words (before ++ (l ∷ behind)))) (length before) 0 ≡ at + lines_size before
offset_at at [] l behind = let z : at ≡ at + 0 = omega arith in z
offset_at at (k ∷ before) l behind = let e = offset_at (at + length (line_words k)) before l behind in let z : at + suc (suc (length (conj_words k.literals))) + lines_size before ≡ at + (suc (suc (length (conj_words k.literals))) + lines_size before) = omega arith in e ∙ z

offset-next : (at : ℕ) (before : List Numbered) (l : Numbered) (behind : List Numbered) → get_or (offsets_of at (map line_words (before ++ (l ∷ behind)))) (suc (length before)) 0 ≡ at + lines_size before + suc (suc (length (conj_words l.literals)))
offset-next at [] l behind = first behind
  where
    first : (behind : List Numbered) → get_or (offsets_of (at + suc (suc (length (conj_words l.literals)))) (map line_words behind)) 0 0 ≡ at + 0 + suc (suc (length (conj_words l.literals)))
    first [] = let z : at + suc (suc (length (conj_words l.literals))) ≡ at + 0 + suc (suc (length (conj_words l.literals))) = omega arith in z
    first (k ∷ ks) = let z : at + suc (suc (length (conj_words l.literals))) ≡ at + 0 + suc (suc (length (conj_words l.literals))) = omega arith in z
offset-next at (k ∷ before) l behind =
    let e = offset-next (at + length (line_words k)) before l behind in
    let z : at + suc (suc (length (conj_words k.literals))) + lines_size before + suc (suc (length (conj_words l.literals))) ≡ at + (suc (suc (length (conj_words k.literals))) + lines_size before) + suc (suc (length (conj_words l.literals))) = omega arith in
    e ∙ z

-- ---- where a line stands

pub record Place (answer : List ℕ) (ls : List Numbered) (i : ℕ) : Type 0 where
  pub l : Numbered
  pub is : line_at i ls ≡ some l
  pub good : Good l.literals
  pub from : ℕ
  pub offset : get_or answer (i + 2) 0 ≡ from
  pub next : get_or answer (i + 3) 0 ≡ from + suc (suc (length (conj_words l.literals)))
  pub within : from + suc (suc (length (conj_words l.literals))) ≤ desk.room
  pub few : i ≤ desk.lines
  pub beyond : List ℕ
  pub here : drop from answer ≡ line_words l ++ beyond

module _ {answer : List ℕ} {ls : List Numbered} (a : Answer answer ls) where
  -- the words behind the header
  tail : List ℕ
  tail = replicate (desk.lines - length ls) 0 ++ ((joined (map line_words ls) ++ replicate (desk.room - (lines_at desk + lines_size ls)) 0) ++ a.rest)

  row : answer ≡ header ls ++ tail
  unfolding tail
  row = a.words ∙ ap (λ w. w ++ a.rest) (in_a_row ls a.few) ∙ append_assoc (header ls) _ a.rest ∙ ap (λ w. header ls ++ w) (append_assoc (replicate (desk.lines - length ls) 0) _ a.rest)

  pub whole : desk.room ≤ length answer
  whole =
      let e = ap length a.words ∙ length-append (answer_words desk ls) a.rest in
      let n = length-answer ls a.few a.size in
      omega arith

  pub count-is : get_or answer 0 0 ≡ length ls
  count-is = ap (λ w. get_or w 0 0) row

  offsets_are : (j : ℕ) → j < length (offsets_of (lines_at desk) (map line_words ls)) → get_or answer (suc (suc j)) 0 ≡ get_or (offsets_of (lines_at desk) (map line_words ls)) j 0
  offsets_are j p = ap (λ w. get_or w (suc (suc j)) 0) row ∙ get_or-append (offsets_of (lines_at desk) (map line_words ls)) tail 0 j p

  lines_are : (n : ℕ) → drop (lines_at desk + n) answer ≡ drop n (joined (map line_words ls) ++ (replicate (desk.room - (lines_at desk + lines_size ls)) 0 ++ a.rest))
  unfolding tail
  lines_are n =
      let A : List ℕ = header ls ++ replicate (desk.lines - length ls) 0 in
      let h = length-header ls in
      let f = a.few in
      let m = length-append (header ls) (replicate (desk.lines - length ls) 0) in
      let t = length-replicate {A = ℕ} (desk.lines - length ls) 0 in
      let z : lines_at desk + n ≡ length A + n = omega arith in
      let Z : List ℕ = replicate (desk.room - (lines_at desk + lines_size ls)) 0 in
      let B : List ℕ = (joined (map line_words ls) ++ Z) ++ a.rest in
      ap (λ w. drop (lines_at desk + n) w) (row ∙ sym (append_assoc (header ls) (replicate (desk.lines - length ls) 0) B))
      ∙ ap (λ i. drop i (A ++ B)) z
      ∙ drop-append-add A B n
      ∙ ap (drop n) (append_assoc (joined (map line_words ls)) Z a.rest)

  pub place_of : (i : ℕ) → i < length ls → Place answer ls i
  place_of i p =
      let s = split_at ls i p a.lines in
      let sizes = length-header ls in
      let f = a.few in
      record {
        l = s.l;
        is = s.is;
        good = s.good;
        from = lines_at desk + lines_size s.before;
        offset = offset s;
        next = next s;
        within = within s;
        few = omega arith;
        beyond = joined (map line_words s.behind) ++ (replicate (desk.room - (lines_at desk + lines_size ls)) 0 ++ a.rest);
        here = here s;
      }
    where
      two : i + 2 ≡ suc (suc i)
      two = omega arith

      three : i + 3 ≡ suc (suc (suc i))
      three = omega arith

      offset : (s : Split ls i) → get_or answer (i + 2) 0 ≡ lines_at desk + lines_size s.before
      offset s =
          let sizes = length-header ls in
          ap (λ j. get_or answer j 0) two ∙ offsets_are i (omega arith) ∙ ap (λ j. get_or (offsets_of (lines_at desk) (map line_words ls)) j 0) s.place
          ∙ ap (λ ks. get_or (offsets_of (lines_at desk) (map line_words ks)) (length s.before) 0) s.split ∙ offset_at (lines_at desk) s.before s.l s.behind

      next : (s : Split ls i) → get_or answer (i + 3) 0 ≡ lines_at desk + lines_size s.before + suc (suc (length (conj_words s.l.literals)))
      next s =
          let sizes = length-header ls in
          ap (λ j. get_or answer j 0) three ∙ offsets_are (suc i) (omega arith) ∙ ap (λ j. get_or (offsets_of (lines_at desk) (map line_words ls)) (suc j) 0) s.place
          ∙ ap (λ ks. get_or (offsets_of (lines_at desk) (map line_words ks)) (suc (length s.before)) 0) s.split ∙ offset-next (lines_at desk) s.before s.l s.behind

      sizes-of : (before : List Numbered) (l : Numbered) (behind : List Numbered) → lines_size before + suc (suc (length (conj_words l.literals))) ≤ lines_size (before ++ (l ∷ behind))
      sizes-of [] l behind = omega arith
      sizes-of (k ∷ before) l behind = let h = sizes-of before l behind in omega arith

      within : (s : Split ls i) → lines_at desk + lines_size s.before + suc (suc (length (conj_words s.l.literals))) ≤ desk.room
      within s =
          let m = sizes-of s.before s.l s.behind in
          let e = ap lines_size s.split in
          let z = a.size in
          omega arith

      here : (s : Split ls i) → drop (lines_at desk + lines_size s.before) answer ≡ line_words s.l ++ (joined (map line_words s.behind) ++ (replicate (desk.room - (lines_at desk + lines_size ls)) 0 ++ a.rest))
      here s =
          let B = joined (map line_words s.before) in
          let C = replicate (desk.room - (lines_at desk + lines_size ls)) 0 ++ a.rest in
          lines_are (lines_size s.before)
          ∙ ap (λ n. drop n (joined (map line_words ls) ++ C)) (sym (length-lines s.before))
          ∙ ap (λ w. drop (length B) (w ++ C))
          (ap (λ ks. joined (map line_words ks)) s.split ∙ ap joined (map-append line_words s.before (s.l ∷ s.behind)) ∙ joined-row (map line_words s.before) (map line_words (s.l ∷ s.behind)))
          ∙ ap (drop (length B)) (append_assoc B _ C)
          ∙ drop-append_seam B _
          ∙ append_assoc (line_words s.l) (joined (map line_words s.behind)) C
