-- What the functions of the answer leave, from what each of their stores leaves.
use Prim.Native.Nat.{ℕ, suc, ◌+◌, ◌<◌, ◌≤◌}
use native.Mathlib.Omega.{arith}
use native.Mathlib.Numerals.{add-one}
use mathlib.Core.Path.{◌≡◌, refl, sym, ap, ◌∙◌}
use mathlib.Core.Bool.{Bool}
use mathlib.Core.List.{List, [], ◌∷◌, ◌++◌}
use lib.ListN.{length, drop, set}
use lib.Seq.{sets, slice, take-length}
use Rattle.rules.specs.Run.{Numbered, lines_at}
use Rattle.language.specs.Limits.{desk}
use Rattle.language.specs.Kinds.{pick}
use Rattle.language.specs.Writing.{conj_words}
use Rattle.rules.specs.Solved.{solved}
use Rattle.rules.specs.Answer.{zeros, count_open, answer_words}
use Rattle.answers.specs.declared.Tally.{Tally}
use Rattle.answers.specs.Lined.{line_head, Lined, counted, with_line}
use Rattle.answers.proofs.Rows.{lines-size-more, count-more, open_more}
use Rattle.answers.proofs.Adding.{answer-none, answer-more}

pub begun : (old a b : List ℕ) → a ≡ zeros desk ++ drop desk.room old → b ≡ set a 2 (lines_at desk) → Lined old [] (record { lines = 0; «open» = 0; end = (lines_at desk) }) b
begun old a b e d = record {
  lines = refl;
  «open» = refl;
  end = refl;
  few = omega arith;
  room = omega arith;
  words = d ∙ ap (λ l. set l 2 (lines_at desk)) e ∙ answer-none old;
}

-- a mark, a number and then the words
pub line-written : (a b c k : List ℕ) (at n m number : ℕ) (s : Bool) → b ≡ set a at m → c ≡ sets (set b (at + 1) number) (at + line_head) (slice 0 n k) → m ≡ pick s 1 2 → n ≡ length k
    → c ≡ sets a at (pick s 1 2 ∷ number ∷ k)
line-written a b c k at n m number s e d f g =
    d ∙ ap (λ j. sets (set b (at + 1) number) (at + line_head) (slice 0 j k)) g ∙ ap (sets (set b (at + 1) number) (at + line_head)) (take-length k)
    ∙ ap (λ j. sets (set b (at + 1) number) j k) (let z : at + line_head ≡ suc (suc at) = omega arith in z)
    ∙ ap (λ j. sets (set b j number) (suc (suc at)) k) (add-one at)
    ∙ ap (λ l. sets (set l (suc at) number) (suc (suc at)) k) (e ∙ ap (set a at) f)

-- the stores of a line, one after another
pub line-stored : (t : Tally) (a k : List ℕ) (number : ℕ) (s : Bool) (a₁ a₂ a₃ a₄ : List ℕ) (opens : ℕ)
    → a₁ ≡ sets a t.end (pick s 1 2 ∷ number ∷ k) → a₂ ≡ set a₁ (t.lines + 1 + 2) (t.end + line_head + length k) → a₃ ≡ set a₂ 0 (t.lines + 1)
    → a₄ ≡ set a₃ 1 opens → opens ≡ pick s t.«open» (t.«open» + 1)
    → (record { lines = t.lines + 1; «open» = opens; end = t.end + line_head + length k } ≡ counted t s k)
    × (a₄ ≡ with_line t (record { lines = t.lines + 1; «open» = opens; end = t.end + line_head + length k }) number s k a)
line-stored t a k number s a₁ a₂ a₃ a₄ opens e₁ e₂ e₃ e₄ eo = (
  ap (λ o. record { lines = t.lines + 1; «open» = o; end = t.end + line_head + length k }) eo,
  e₄ ∙ ap (λ l. set l 1 opens) (e₃ ∙ ap (λ l. set l 0 (t.lines + 1)) (e₂ ∙ ap (λ l. set l (t.lines + 1 + 2) (t.end + line_head + length k)) e₁)),
)

-- with the words of a conjunction for a line, an answer's words are those of the answer that has this line too
module _ (old : List ℕ) (ls : List Numbered) (c : Numbered) (t : Tally) (a k : List ℕ) (number : ℕ) (s : Bool) (ek : k ≡ conj_words c.literals) (en : number ≡ c.number) (es : s ≡ solved c.literals)
    (p : Lined old ls t a) where
  pub line-added : (u : Tally) (b : List ℕ) → t.lines < desk.lines → t.end + line_head + length k ≤ desk.room → u ≡ counted t s k → b ≡ with_line t u number s k a → Lined old (ls ++ (c ∷ [])) u b
  line-added u b few room eu eb =
      let n = ap length ek in
      let pl = p.lines in
      let pe = p.end in
      let sz = lines-size-more ls c in
      let ct = count-more ls c in
      let ul = ap (λ (w : Tally). w.lines) eu in
      let ue = ap (λ (w : Tally). w.end) eu in
      let o : u.«open» ≡ count_open (ls ++ (c ∷ [])) =
      ap (λ (w : Tally). w.«open») eu ∙ ap (λ b. pick b t.«open» (t.«open» + 1)) es ∙ ap (λ n. pick (solved c.literals) t.«open» n) (add-one t.«open»)
      ∙ ap (λ n. pick (solved c.literals) n (suc n)) p.«open» ∙ sym (open_more ls c)
      in
      record {
        lines = omega arith;
        «open» = o;
        end = omega arith;
        few = omega arith;
        room = omega arith;
        words =
            eb ∙ ap (with_line t u number s k) p.words
            ∙ ap (λ b. with_line t u number b k (answer_words desk ls ++ drop desk.room old)) es
            ∙ ap (λ l. with_line t u number (solved c.literals) l (answer_words desk ls ++ drop desk.room old)) ek
            ∙ ap (λ n. with_line t u n (solved c.literals) (conj_words c.literals) (answer_words desk ls ++ drop desk.room old)) en
            ∙ ap (λ i. set (set (set (sets (answer_words desk ls ++ drop desk.room old) t.end (pick (solved c.literals) 1 2 ∷ c.number ∷ conj_words c.literals)) i u.end) 0 u.lines) 1 u.«open»)
            (let z : u.lines + 2 ≡ t.lines + 3 = omega arith in z)
            ∙ ap (λ w. set (set (set (sets (answer_words desk ls ++ drop desk.room old) t.end (pick (solved c.literals) 1 2 ∷ c.number ∷ conj_words c.literals)) (t.lines + 3) w) 0 u.lines) 1 u.«open»)
            (let z : u.end ≡ t.end + suc (suc (length (conj_words c.literals))) = omega arith in z)
            ∙ ap (λ w. set (set (set (sets (answer_words desk ls ++ drop desk.room old) t.end (pick (solved c.literals) 1 2 ∷ c.number ∷ conj_words c.literals)) (t.lines + 3) (t.end + suc (suc (length (conj_words c.literals))))) 0 w) 1 u.«open») ul
            ∙ answer-more ls c (drop desk.room old) t.end t.lines u.«open» pl pe o (omega arith) (omega arith);
      }
