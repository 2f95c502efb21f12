-- The answer's words laid out in a row, and what one more line adds to each part.
use Prim.Native.Nat.{ℕ, suc, ◌+◌, ◌-◌, ◌≤◌}
use native.Mathlib.Omega.{arith}
use mathlib.Core.Path.{◌≡◌, refl, sym, ap, ◌∙◌}
use mathlib.Core.Bool.{Bool, true, false}
use mathlib.Core.List.{List, [], ◌∷◌, ◌++◌, map, append_assoc, append-nil}
use lib.ListN.{length, length-append, length-map, replicate, length-replicate}
use Rattle.language.specs.Limits.{desk}
use Rattle.language.specs.Kinds.{pick}
use Rattle.language.specs.Writing.{conj_words}
use Rattle.meaning.specs.Values.{offsets_of, joined}
use Rattle.rules.specs.Solved.{solved}
use Rattle.rules.specs.Run.{Numbered, lines_size, lines_at}
use Rattle.rules.specs.Answer.{line_words, count_open, answer_words}

-- ---- one part more

pub joined-more : (ws : List (List ℕ)) (w : List ℕ) → joined (ws ++ (w ∷ [])) ≡ joined ws ++ w
joined-more [] w = append-nil w
joined-more (x ∷ ws) w = ap (λ l. x ++ l) (joined-more ws w) ∙ sym (append_assoc x (joined ws) w)

pub offsets-more : (at : ℕ) (ws : List (List ℕ)) (w : List ℕ) → offsets_of at (ws ++ (w ∷ [])) ≡ offsets_of at ws ++ ((at + length (joined ws) + length w) ∷ [])
offsets-more at [] w = ap (λ n. at ∷ n ∷ []) (let z : at + length w ≡ at + 0 + length w = omega arith in z)
offsets-more at (x ∷ ws) w =
    ap (λ l. at ∷ l)
    (offsets-more (at + length x) ws w
    ∙ ap (λ n. offsets_of (at + length x) ws ++ (n ∷ []))
    (let e = length-append x (joined ws) in let z : at + length x + length (joined ws) + length w ≡ at + length (x ++ joined ws) + length w = omega arith in z))

length-offsets : (at : ℕ) (ws : List (List ℕ)) → length (offsets_of at ws) ≡ suc (length ws)
length-offsets at [] = refl
length-offsets at (x ∷ ws) = ap suc (length-offsets (at + length x) ws)

-- ---- lines

pub length-lines : (ls : List Numbered) → length (joined (map line_words ls)) ≡ lines_size ls
length-lines [] = refl
length-lines (k ∷ ls) =
    length-append (line_words k) (joined (map line_words ls)) ∙ ap (λ n. suc (suc (length (conj_words k.literals))) + n) (length-lines ls)

pub lines-size-more : (ls : List Numbered) (k : Numbered) → lines_size (ls ++ (k ∷ [])) ≡ lines_size ls + suc (suc (length (conj_words k.literals)))
lines-size-more [] k = let z : suc (suc (length (conj_words k.literals))) + 0 ≡ 0 + suc (suc (length (conj_words k.literals))) = omega arith in z
lines-size-more (x ∷ ls) k = let e = lines-size-more ls k in let z : suc (suc (length (conj_words x.literals))) + lines_size (ls ++ (k ∷ [])) ≡ suc (suc (length (conj_words x.literals))) + lines_size ls + suc (suc (length (conj_words k.literals))) = omega arith in z

pub count-more : (ls : List Numbered) (k : Numbered) → length (ls ++ (k ∷ [])) ≡ length ls + 1
count-more ls k = length-append ls (k ∷ [])

pub open_more : (ls : List Numbered) (k : Numbered) → count_open (ls ++ (k ∷ [])) ≡ pick (solved k.literals) (count_open ls) (suc (count_open ls))
open_more [] k = refl
open_more (x ∷ ls) k = go (solved x.literals) (solved k.literals) (open_more ls k)
  where
    go : (a b : Bool) → count_open (ls ++ (k ∷ [])) ≡ pick b (count_open ls) (suc (count_open ls))
        → pick a (count_open (ls ++ (k ∷ []))) (suc (count_open (ls ++ (k ∷ [])))) ≡ pick b (pick a (count_open ls) (suc (count_open ls))) (suc (pick a (count_open ls) (suc (count_open ls))))
    go true true e = e
    go true false e = e
    go false true e = ap suc e
    go false false e = ap suc e

pub open-most : (ls : List Numbered) → count_open ls ≤ length ls
open-most [] = omega arith
open-most (x ∷ ls) = go (solved x.literals) (open-most ls)
  where
    go : (a : Bool) → count_open ls ≤ length ls → pick a (count_open ls) (suc (count_open ls)) ≤ suc (length ls)
    go true h = omega arith
    go false h = omega arith

-- ---- the answer in a row: counts and offsets, zeros, the lines, zeros

abbrev pub header : List Numbered → List ℕ
header ls = length ls ∷ count_open ls ∷ offsets_of (lines_at desk) (map line_words ls)

pub length-header : (ls : List Numbered) → length (header ls) ≡ length ls + 3
length-header ls =
    let e = length-offsets (lines_at desk) (map line_words ls) in
    let f = length-map ls line_words in
    let z : suc (suc (length (offsets_of (lines_at desk) (map line_words ls)))) ≡ length ls + 3 = omega arith in z

pub in_a_row : (ls : List Numbered) → length ls ≤ desk.lines
    → answer_words desk ls ≡ header ls ++ (replicate (desk.lines - length ls) 0 ++ (joined (map line_words ls) ++ replicate (desk.room - (lines_at desk + lines_size ls)) 0))
unfolding answer_words
in_a_row ls few =
    let h = length-header ls in
    let z₁ : lines_at desk - length (header ls) ≡ desk.lines - length ls = omega arith in
    let first : List ℕ = header ls ++ replicate (lines_at desk - length (header ls)) 0 in
    let l₁ : length first ≡ length (header ls) + (lines_at desk - length (header ls)) = length-append (header ls) (replicate (lines_at desk - length (header ls)) 0) ∙ ap (λ n. length (header ls) + n) (length-replicate (lines_at desk - length (header ls)) 0) in
    let l₂ : length (first ++ joined (map line_words ls)) ≡ length first + lines_size ls = length-append first (joined (map line_words ls)) ∙ ap (λ n. length first + n) (length-lines ls) in
    let z₂ : desk.room - length (first ++ joined (map line_words ls)) ≡ desk.room - (lines_at desk + lines_size ls) = omega arith in
    ap (λ n. (first ++ joined (map line_words ls)) ++ replicate n 0) z₂
    ∙ append_assoc first (joined (map line_words ls)) (replicate (desk.room - (lines_at desk + lines_size ls)) 0)
    ∙ append_assoc (header ls) (replicate (lines_at desk - length (header ls)) 0) _
    ∙ ap (λ n. header ls ++ (replicate n 0 ++ (joined (map line_words ls) ++ replicate (desk.room - (lines_at desk + lines_size ls)) 0))) z₁

pub length-answer : (ls : List Numbered) → length ls ≤ desk.lines → lines_at desk + lines_size ls ≤ desk.room → length (answer_words desk ls) ≡ desk.room
length-answer ls few room =
    let a = ap length (in_a_row ls few) in
    let z₁ : List ℕ = replicate (desk.lines - length ls) 0 in
    let b : List ℕ = joined (map line_words ls) in
    let z₂ : List ℕ = replicate (desk.room - (lines_at desk + lines_size ls)) 0 in
    let l₁ = length-append (header ls) (z₁ ++ (b ++ z₂)) in
    let l₂ = length-append z₁ (b ++ z₂) in
    let l₃ = length-append b z₂ in
    let t₁ = length-replicate {A = ℕ} (desk.lines - length ls) 0 in
    let t₂ = length-replicate {A = ℕ} (desk.room - (lines_at desk + lines_size ls)) 0 in
    let h = length-header ls in
    let n = length-lines ls in
    omega arith
