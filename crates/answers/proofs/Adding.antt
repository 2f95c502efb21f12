-- A line added: the stores that make the answer of the lines so far the answer with one line more.
use Prim.Native.Nat.{ℕ, suc, ◌+◌, ◌-◌, ◌<◌, ◌≤◌}
use native.Mathlib.Omega.{arith}
use mathlib.Core.Path.{◌≡◌, refl, sym, ap, ◌∙◌}
use mathlib.Core.List.{List, [], ◌∷◌, ◌++◌, map, append_assoc, map-append}
use lib.ListN.{length, take, drop, set, length-append, replicate, length-replicate, replicate-append-replicate}
use lib.Seq.{sets, sets-eq, take_at, drop_at, set_at}
use Rattle.language.specs.Limits.{desk}
use Rattle.language.specs.Writing.{conj_words}
use Rattle.meaning.specs.Values.{offsets_of, joined}
use Rattle.rules.specs.Run.{Numbered, lines_size, lines_at}
use Rattle.rules.specs.Answer.{line_words, count_open, answer_words, zeros}
use Rattle.answers.proofs.Rows.{joined-more, offsets-more, length-lines, lines-size-more, count-more, in_a_row, length-header}

-- words stored over as many others
pub sets_over : (p q r v : List ℕ) (n : ℕ) → length p ≡ n → length q ≡ length v → sets (p ++ (q ++ r)) n v ≡ p ++ (v ++ r)
sets_over p q r v n e d =
    let l₁ = length-append p (q ++ r) in
    let l₂ = length-append q r in
    let l₃ = length-append p q in
    sets-eq v (p ++ (q ++ r)) n (omega arith)
    ∙ append_assoc (take n (p ++ (q ++ r))) v (drop (n + length v) (p ++ (q ++ r)))
    ∙ ap (λ l. l ++ (v ++ drop (n + length v) (p ++ (q ++ r)))) (take_at p (q ++ r) n e)
    ∙ ap (λ l. p ++ (v ++ drop (n + length v) l)) (sym (append_assoc p q r))
    ∙ ap (λ l. p ++ (v ++ l)) (drop_at (p ++ q) r (n + length v) (omega arith))

-- two counts, offsets, zeros, lines, zeros, and what follows
unfoldable row : ℕ → ℕ → List ℕ → ℕ → List ℕ → ℕ → List ℕ → List ℕ
row x y os m ls n rest = x ∷ y ∷ (os ++ (replicate m 0 ++ (ls ++ (replicate n 0 ++ rest))))

row_line : (x y : ℕ) (os : List ℕ) (m : ℕ) (ls : List ℕ) (n : ℕ) (rest w : List ℕ) (at k : ℕ)
    → at ≡ 2 + length os + m + length ls → k ≡ length w + n → sets (row x y os m ls k rest) at w ≡ row x y os m (ls ++ w) n rest
unfolding row
row_line x y os m ls n rest w at k e d =
    let p : List ℕ = x ∷ y ∷ (os ++ (replicate m 0 ++ ls)) in
    let l₁ = length-append os (replicate m 0 ++ ls) in
    let l₂ = length-append (replicate m 0) ls in
    let l₃ = length-replicate {A = ℕ} m 0 in
    ap (λ j. sets (x ∷ y ∷ (os ++ (replicate m 0 ++ (ls ++ (replicate j 0 ++ rest))))) at w) d
    ∙ ap (λ z. sets (x ∷ y ∷ (os ++ (replicate m 0 ++ (ls ++ (z ++ rest))))) at w) (sym (replicate-append-replicate (length w) n 0))
    ∙ ap (λ z. sets (x ∷ y ∷ z) at w)
    (ap (λ z. os ++ (replicate m 0 ++ (ls ++ z))) (append_assoc (replicate (length w) 0) (replicate n 0) rest)
    ∙ ap (λ z. os ++ z) (sym (append_assoc (replicate m 0) ls (replicate (length w) 0 ++ (replicate n 0 ++ rest))))
    ∙ sym (append_assoc os (replicate m 0 ++ ls) (replicate (length w) 0 ++ (replicate n 0 ++ rest))))
    ∙ sets_over p (replicate (length w) 0) (replicate n 0 ++ rest) w at (omega arith) (length-replicate (length w) 0)
    ∙ ap (λ z. x ∷ y ∷ z)
    (append_assoc os (replicate m 0 ++ ls) (w ++ (replicate n 0 ++ rest))
    ∙ ap (λ z. os ++ z) (append_assoc (replicate m 0) ls (w ++ (replicate n 0 ++ rest)) ∙ ap (λ z. replicate m 0 ++ z) (sym (append_assoc ls w (replicate n 0 ++ rest)))))

row-offset : (x y : ℕ) (os : List ℕ) (m : ℕ) (ls : List ℕ) (n : ℕ) (rest : List ℕ) (at k v : ℕ)
    → at ≡ 2 + length os → k ≡ suc m → set (row x y os k ls n rest) at v ≡ row x y (os ++ (v ∷ [])) m ls n rest
unfolding row
row-offset x y os m ls n rest at k v e d =
    ap (λ j. set (x ∷ y ∷ (os ++ (replicate j 0 ++ (ls ++ (replicate n 0 ++ rest))))) at v) d
    ∙ set_at (x ∷ y ∷ os) 0 (replicate m 0 ++ (ls ++ (replicate n 0 ++ rest))) v at (omega arith)
    ∙ ap (λ z. x ∷ y ∷ z) (sym (append_assoc os (v ∷ []) (replicate m 0 ++ (ls ++ (replicate n 0 ++ rest)))))

row_counts : (x y x' y' : ℕ) (os : List ℕ) (m : ℕ) (ls : List ℕ) (n : ℕ) (rest : List ℕ) → set (set (row x y os m ls n rest) 0 x') 1 y' ≡ row x' y' os m ls n rest
unfolding row
row_counts x y x' y' os m ls n rest = refl

answer-row : (ls : List Numbered) (rest : List ℕ) → length ls ≤ desk.lines
    → answer_words desk ls ++ rest ≡ row (length ls) (count_open ls) (offsets_of (lines_at desk) (map line_words ls)) (desk.lines - length ls) (joined (map line_words ls)) (desk.room - (lines_at desk + lines_size ls)) rest
unfolding row
answer-row ls rest few =
    let os = offsets_of (lines_at desk) (map line_words ls) in
    let z₁ : List ℕ = replicate (desk.lines - length ls) 0 in
    let b = joined (map line_words ls) in
    let z₂ : List ℕ = replicate (desk.room - (lines_at desk + lines_size ls)) 0 in
    ap (λ l. l ++ rest) (in_a_row ls few)
    ∙ ap (λ l. length ls ∷ count_open ls ∷ l)
    (append_assoc os (z₁ ++ (b ++ z₂)) rest ∙ ap (λ l. os ++ l) (append_assoc z₁ (b ++ z₂) rest ∙ ap (λ l. z₁ ++ l) (append_assoc b z₂ rest)))

-- ---- the empty answer

pub answer-none : (old : List ℕ) → set (zeros desk ++ drop desk.room old) 2 (lines_at desk) ≡ answer_words desk [] ++ drop desk.room old
unfolding row zeros
answer-none old =
    ap (λ l. 0 ∷ 0 ∷ (lines_at desk) ∷ l) (ap (λ l. l ++ drop desk.room old) (sym (replicate-append-replicate desk.lines (desk.room - lines_at desk) 0)) ∙ append_assoc (replicate desk.lines 0) (replicate (desk.room - lines_at desk) 0) (drop desk.room old))
    ∙ sym (answer-row [] (drop desk.room old) (omega arith))

-- ---- one line more

pub answer-more : (ls : List Numbered) (k : Numbered) (rest : List ℕ) (end lines opens : ℕ)
    → lines ≡ length ls → end ≡ lines_at desk + lines_size ls → opens ≡ count_open (ls ++ (k ∷ [])) → length ls < desk.lines → end + suc (suc (length (conj_words k.literals))) ≤ desk.room
    → set (set (set (sets (answer_words desk ls ++ rest) end (line_words k)) (lines + 3) (end + suc (suc (length (conj_words k.literals))))) 0 (lines + 1)) 1 opens
    ≡ answer_words desk (ls ++ (k ∷ [])) ++ rest
answer-more ls k rest end lines opens el ee eo few room =
    let w = line_words k in
    let ws = map line_words ls in
    let os = offsets_of (lines_at desk) ws in
    let z : ℕ = desk.room - (lines_at desk + lines_size (ls ++ (k ∷ []))) in
    let s = lines-size-more ls k in
    let c = count-more ls k in
    let b = length-lines ls in
    let h = length-header ls in
    let m = map-append line_words ls (k ∷ []) in
    ap (λ a. set (set (set (sets a end w) (lines + 3) (end + suc (suc (length (conj_words k.literals))))) 0 (lines + 1)) 1 opens) (answer-row ls rest (omega arith))
    ∙ ap (λ a. set (set (set a (lines + 3) (end + suc (suc (length (conj_words k.literals))))) 0 (lines + 1)) 1 opens)
    (row_line (length ls) (count_open ls) os (desk.lines - length ls) (joined ws) z rest w end (desk.room - (lines_at desk + lines_size ls)) (omega arith) (omega arith))
    ∙ ap (λ a. set (set a 0 (lines + 1)) 1 opens)
    (row-offset (length ls) (count_open ls) os (desk.lines - length (ls ++ (k ∷ []))) (joined ws ++ w) z rest (lines + 3) (desk.lines - length ls) (end + suc (suc (length (conj_words k.literals)))) (omega arith) (omega arith))
    ∙ row_counts (length ls) (count_open ls) (lines + 1) opens (os ++ ((end + suc (suc (length (conj_words k.literals)))) ∷ [])) (desk.lines - length (ls ++ (k ∷ []))) (joined ws ++ w) z rest
    ∙ ap (λ x. row x opens (os ++ ((end + suc (suc (length (conj_words k.literals)))) ∷ [])) (desk.lines - length (ls ++ (k ∷ []))) (joined ws ++ w) z rest) (let q : lines + 1 ≡ length (ls ++ (k ∷ [])) = omega arith in q)
    ∙ ap (λ y. row (length (ls ++ (k ∷ []))) y (os ++ ((end + suc (suc (length (conj_words k.literals)))) ∷ [])) (desk.lines - length (ls ++ (k ∷ []))) (joined ws ++ w) z rest) eo
    ∙ ap (λ o. row (length (ls ++ (k ∷ []))) (count_open (ls ++ (k ∷ []))) o (desk.lines - length (ls ++ (k ∷ []))) (joined ws ++ w) z rest)
    (ap (λ n. os ++ (n ∷ [])) (let q : end + suc (suc (length (conj_words k.literals))) ≡ lines_at desk + length (joined ws) + suc (suc (length (conj_words k.literals))) = omega arith in q)
    ∙ sym (offsets-more (lines_at desk) ws w) ∙ ap (offsets_of (lines_at desk)) (sym m))
    ∙ ap (λ j. row (length (ls ++ (k ∷ []))) (count_open (ls ++ (k ∷ []))) (offsets_of (lines_at desk) (map line_words (ls ++ (k ∷ [])))) (desk.lines - length (ls ++ (k ∷ []))) j z rest)
    (sym (joined-more ws w) ∙ ap joined (sym m))
    ∙ sym (answer-row (ls ++ (k ∷ [])) rest (omega arith))
