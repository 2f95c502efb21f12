-- A question answered under some limits has the same lines, marks, steps and answer under wider ones.
use Prim.Native.Nat.{ℕ, zero, suc, ◌+◌, ◌-◌, ◌≤◌}
use mathlib.Core.Path.{◌≡◌, refl, sym, ap, ◌∙◌}
use mathlib.Core.Bool.{Bool, true, false}
use mathlib.Core.List.{List, [], ◌∷◌, ◌++◌, map, append_assoc}
use native.Mathlib.Omega.{arith}
use lib.Dec.{leb, ltb}
use lib.ListN.{length, replicate, length-append, length-map, length-replicate}
use borrow.Author.Tests.{leb-true, ltb-false, le-leb, le-ltb}
use Rattle.language.specs.declared.Refusal.{Refusal}
use Rattle.language.specs.declared.Refusal.TheVariants.{LongResult, LongWaiting, LineRoom, StepLimit}
use Rattle.language.specs.Limits.{Limits, desk, first_desk, Within}
use Rattle.language.specs.declared.Signature.{Signature}
use Rattle.language.specs.Trees.{Conj, signature}
use Rattle.language.proofs.Bools.{both_true}
use Rattle.language.proofs.Wider.{read-wider, first-within}
use Rattle.meaning.specs.Values.{offsets_of, joined}
use Rattle.rules.specs.Reply.{Reply, nothing, results, stops}
use Rattle.rules.specs.Step.{Step, step}
use Rattle.rules.specs.Run.{Numbered, all_of, numbered, size, any_long, waiting_size, lines_at, lines_size, lines_fit, Outcome, finished, refused, lined, turn, checked, run_from, run_by, run}
use Rattle.rules.specs.Answer.{line_words, count_open, padded, answer_words, answered, ran, solving_of, solving}
use Rattle.rules.proofs.Tests.{neither}
use Rattle.rules.proofs.Invariant.{answered-run}

-- ---- what is within the one is within the other

module _ (L M : Limits) (i : Within L M) where
  long-wider : (ks : List Conj) → any_long L ks ≡ false → any_long M ks ≡ false
  long-wider [] e = refl
  long-wider (k ∷ ks) e =
      let (a, b) = neither (ltb L.question (size k)) (any_long L ks) e in
      let h = ltb-false L.question (size k) a in
      let q = i.question in
      rw (le-ltb M.question (size k) (omega arith)) (long-wider ks b)

  waiting-wider : (n : ℕ) → ltb L.room n ≡ false → ltb M.room n ≡ false
  waiting-wider n e = le-ltb M.room n (omega (arith, ltb-false L.room n e, i.lines, i.behind))

  fit-wider : (ls : List Numbered) → lines_fit L ls ≡ true → lines_fit M ls ≡ true
  fit-wider ls e =
      let (a, b) = both_true (leb (length ls) L.lines) (leb (lines_at L + lines_size ls) L.room) e in
      let h = leb-true (length ls) L.lines a in
      let r = leb-true (lines_at L + lines_size ls) L.room b in
      let p = i.lines in
      let q = i.behind in
      rw (le-leb (length ls) M.lines (omega arith)) (le-leb (lines_at M + lines_size ls) M.room (omega arith))

  -- ---- the run

  -- where the first finishes, the second does, in the same way
  abbrev Finishes : Outcome → Outcome → Type 0
  Finishes o p = (ls : List Numbered) (n : ℕ) → o ≡ finished ls n → p ≡ finished ls n

  never : (r : Refusal) (o : Outcome) → Finishes (refused r) o
  never r o ls n e = absurd (let z : ◌≡◌ {A = ℕ} 0 1 = cc in omega arith)

  -- past a limit of each, the second passed where the first is
  past : (a b : Bool) (r : Refusal) (o p : Outcome) → (a ≡ false → b ≡ false) → Finishes o p
      → Finishes (elim a [ true ↦ refused r | false ↦ o ]) (elim b [ true ↦ refused r | false ↦ p ])
  past true b r o p h f = never r _
  past false true r o p h f = absurd (let e = h refl in let z : ◌≡◌ {A = ℕ} 0 1 = cc in omega arith)
  past false false r o p h f = f

  in-room : (a b : Bool) (r : Refusal) (o p : Outcome) → (a ≡ true → b ≡ true) → Finishes o p
      → Finishes (elim a [ true ↦ o | false ↦ refused r ]) (elim b [ true ↦ p | false ↦ refused r ])
  in-room true true r o p h f = f
  in-room true false r o p h f = absurd (let e = h refl in let z : ◌≡◌ {A = ℕ} 0 1 = cc in omega arith)
  in-room false b r o p h f = never r _

  turn-wider : (by : Step) (go on : List Numbered → List Conj → List Numbered → Outcome)
      → ((ls : List Numbered) (ks : List Conj) (w : List Numbered) → Finishes (go ls ks w) (on ls ks w))
      → (n : ℕ) (ls w : List Numbered) → Finishes (turn L by go n ls w) (turn M by on n ls w)
  turn-wider by go on f n ls [] = λ ms m e. e
  turn-wider by go on f n ls (k ∷ w) =
      taken (by k.literals)
      (in-room (lines_fit L (ls ++ (k ∷ []))) (lines_fit M (ls ++ (k ∷ []))) LineRoom _ _ (fit-wider (ls ++ (k ∷ []))) (turn-wider by go on f n (ls ++ (k ∷ [])) w))
    where
      taken : (m : Reply (List Conj)) → Finishes (lined L (ls ++ (k ∷ [])) (λ ms. turn L by go n ms w)) (lined M (ls ++ (k ∷ [])) (λ ms. turn M by on n ms w))
          → Finishes (elim m [ results ks ↦ go ls ks (all_of k.number ks ++ w) | nothing ↦ lined L (ls ++ (k ∷ [])) (λ ms. turn L by go n ms w) | stops r ↦ refused r ])
          (elim m [ results ks ↦ on ls ks (all_of k.number ks ++ w) | nothing ↦ lined M (ls ++ (k ∷ [])) (λ ms. turn M by on n ms w) | stops r ↦ refused r ])
      taken nothing line = line
      taken (results ks) line = f ls ks (all_of k.number ks ++ w)
      taken (stops r) line = never r (refused r)

  from-wider : (by : Step) (d e n : ℕ) (ls w : List Numbered) → d ≤ e → Finishes (run_from L by d n ls w) (run_from M by e n ls w)
  unfolding run_from
  from-wider by zero zero n ls w h = turn-wider by (λ _ _ _. refused StepLimit) (λ _ _ _. refused StepLimit) (λ ms ks v. never StepLimit _) n ls w
  from-wider by zero (suc e) n ls w h = turn-wider by (λ _ _ _. refused StepLimit) (λ ms ks v. checked M ks v (λ x. run_from M by e (suc n) ms x)) (λ ms ks v. never StepLimit _) n ls w
  from-wider by (suc d) zero n ls w h = absurd (omega arith)
  from-wider by (suc d) (suc e) n ls w h =
      turn-wider by _ _ (λ ms ks v.
      past (any_long L ks) (any_long M ks) LongResult _ _ (long-wider ks)
      (past (ltb L.room (waiting_size v)) (ltb M.room (waiting_size v)) LongWaiting _ _ (waiting-wider (waiting_size v)) (from-wider by d e (suc n) ms v (omega arith)))) n ls w

  pub run_wider : (σ : Signature) (w : List Conj) (ls : List Numbered) (n : ℕ) → run L σ w ≡ finished ls n → run M σ w ≡ finished ls n
  unfolding run run_by
  run_wider σ w ls n e = from-wider (step σ) L.steps M.steps 0 [] (numbered 0 w) i.steps ls n e

  -- "a question answered under the old limits has the same lines and steps under the new"; the lines' marks are made of the lines alone
  pub solving-wider : (work answer work' answer' : ℕ) (ws : List ℕ) (ls : List Numbered) (n : ℕ) → solving L work answer ws ≡ answered ls n
      → M.room ≤ work' → M.room ≤ answer' → solving M work' answer' ws ≡ answered ls n
  unfolding solving
  solving-wider work answer work' answer' ws ls n e p q =
      let (a, asked, done) = answered-run L work answer ws ls n e in
      let more : run M (signature a.counts) a.alternatives ≡ finished ls n = run_wider (signature a.counts) a.alternatives ls n done in
      rw (solving, le-ltb work' M.room p, le-ltb answer' M.room q) (ap (solving_of M) (read-wider L M i ws a asked) ∙ ap ran more)

-- ---- the lines of a finished run have room

module _ (L : Limits) where
  Fits : Outcome → Type 0
  Fits (finished ls n) = lines_fit L ls ≡ true
  Fits (refused r) = Unit {0}

  halts : (b : Bool) (r : Refusal) (o : Outcome) → Fits o → Fits (elim b [ true ↦ refused r | false ↦ o ])
  unfolding Fits
  halts true r o p = tt
  halts false r o p = p

  goes : (b : Bool) (r : Refusal) (o : Outcome) → (b ≡ true → Fits o) → Fits (elim b [ true ↦ o | false ↦ refused r ])
  unfolding Fits
  goes true r o p = p refl
  goes false r o p = tt

  turn-fits : (by : Step) (go : List Numbered → List Conj → List Numbered → Outcome) → ((ls : List Numbered) (ks : List Conj) (w : List Numbered) → lines_fit L ls ≡ true → Fits (go ls ks w))
      → (n : ℕ) (ls w : List Numbered) → lines_fit L ls ≡ true → Fits (turn L by go n ls w)
  unfolding Fits
  turn-fits by go on n ls [] p = p
  turn-fits by go on n ls (k ∷ w) p = taken (by k.literals) (goes (lines_fit L (ls ++ (k ∷ []))) LineRoom _ (λ q. turn-fits by go on n (ls ++ (k ∷ [])) w q))
    where
      taken : (m : Reply (List Conj)) → Fits (lined L (ls ++ (k ∷ [])) (λ ms. turn L by go n ms w))
          → Fits (elim m [ results ks ↦ go ls ks (all_of k.number ks ++ w) | nothing ↦ lined L (ls ++ (k ∷ [])) (λ ms. turn L by go n ms w) | stops r ↦ refused r ])
      taken nothing line = line
      taken (results ks) line = on ls ks (all_of k.number ks ++ w) p
      taken (stops r) line = tt

  from-fits : (by : Step) (d n : ℕ) (ls w : List Numbered) → lines_fit L ls ≡ true → Fits (run_from L by d n ls w)
  unfolding run_from Fits
  from-fits by zero n ls w p = turn-fits by (λ _ _ _. refused StepLimit) (λ _ _ _ _. tt) n ls w p
  from-fits by (suc d) n ls w p = turn-fits by _ (λ ms ks v q. halts (any_long L ks) LongResult _ (halts (ltb L.room (waiting_size v)) LongWaiting _ (from-fits by d (suc n) ms v q))) n ls w p

  pub lines_fit_lem : lines_fit L [] ≡ true → (σ : Signature) (w : List Conj) (ls : List Numbered) (n : ℕ) → run L σ w ≡ finished ls n → lines_fit L ls ≡ true
  unfolding run run_by Fits
  lines_fit_lem t σ w ls n e = rw e at (from-fits (step σ) L.steps 0 [] (numbered 0 w) t)

-- ---- the answer's words

replicate-append : (m n : ℕ) → replicate {A = ℕ} (m + n) 0 ≡ replicate m 0 ++ replicate n 0
replicate-append zero n = ap (λ k. replicate k 0) (let z : 0 + n ≡ n = omega arith in z)
replicate-append (suc m) n = ap (λ k. replicate k 0) (let z : suc m + n ≡ suc (m + n) = omega arith in z) ∙ ap (λ l. 0 ∷ l) (replicate-append m n)

length-offsets : (at : ℕ) (ws : List (List ℕ)) → length (offsets_of at ws) ≡ suc (length ws)
length-offsets at [] = refl
length-offsets at (x ∷ ws) = ap suc (length-offsets (at + length x) ws)

length-lines : (ls : List Numbered) → length (joined (map line_words ls)) ≡ lines_size ls
length-lines [] = refl
length-lines (k ∷ ls) = length-append (line_words k) (joined (map line_words ls)) ∙ ap (λ n. suc (suc (size k.literals)) + n) (length-lines ls)

length-padded : (n : ℕ) (ws : List ℕ) → length ws ≤ n → length (padded n ws) ≡ n
length-padded n ws h = length-append ws (replicate (n - length ws) 0) ∙ (let e = length-replicate {A = ℕ} (n - length ws) 0 in let z : length ws + length (replicate {A = ℕ} (n - length ws) 0) ≡ n = omega arith in z)

-- words that are padded to a length, padded to a greater one
padded-more : (m n : ℕ) (ws : List ℕ) → length ws ≤ m → m ≤ n → padded n ws ≡ padded m ws ++ replicate (n - m) 0
padded-more m n ws h k =
    ap (λ j. ws ++ replicate j 0) (let z : n - length ws ≡ (m - length ws) + (n - m) = omega arith in z)
    ∙ ap (λ us. ws ++ us) (replicate-append (m - length ws) (n - m)) ∙ sym (append_assoc ws (replicate (m - length ws) 0) (replicate (n - m) 0))

-- the table and the lines, before the zeros, where the lines begin at that place
abbrev written : ℕ → List Numbered → List ℕ
written at ls = padded at (length ls ∷ count_open ls ∷ offsets_of at (map line_words ls)) ++ joined (map line_words ls)

written-short : (L : Limits) (ls : List Numbered) → lines_fit L ls ≡ true → length (written (lines_at L) ls) ≤ L.room
written-short L ls e =
    let ws = map line_words ls in
    let (a, b) = both_true (leb (length ls) L.lines) (leb (lines_at L + lines_size ls) L.room) e in
    let h = leb-true (length ls) L.lines a in
    let r = leb-true (lines_at L + lines_size ls) L.room b in
    let head = length ls ∷ count_open ls ∷ offsets_of (lines_at L) ws in
    let o = length-offsets (lines_at L) ws in
    let m = length-map ls line_words in
    let few : length head ≤ lines_at L = omega arith in
    omega (arith, length-append (padded (lines_at L) head) (joined ws), length-padded (lines_at L) head few, length-lines ls, r)

-- With as many lines as before, the answer is the same words, and zeros up to the new length.
pub answer-wider : (L M : Limits) → Within L M → L.lines ≡ M.lines → lines_fit L [] ≡ true → (σ : Signature) (w : List Conj) (ls : List Numbered) (n : ℕ) → run L σ w ≡ finished ls n
    → answer_words M ls ≡ answer_words L ls ++ replicate (M.room - L.room) 0
unfolding answer_words
answer-wider L M i same t σ w ls n e =
    let p = i.lines in
    let q = i.behind in
    ap (λ k. padded M.room (written (k + 3) ls)) (sym same)
    ∙ padded-more L.room M.room (written (lines_at L) ls) (written-short L ls (lines_fit_lem L t σ w ls n e)) (omega arith)

-- ---- the first desk and the one of "Bigger sheets"

-- "a question answered under the old limits has the same lines and steps under the new"
pub answered-still : (work answer work' answer' : ℕ) (ws : List ℕ) (ls : List Numbered) (n : ℕ) → solving first_desk work answer ws ≡ answered ls n
    → desk.room ≤ work' → desk.room ≤ answer' → solving desk work' answer' ws ≡ answered ls n
answered-still = solving-wider first_desk desk first-within

-- and the same words of an answer, up to where zeros begin
pub same_answer : (σ : Signature) (w : List Conj) (ls : List Numbered) (n : ℕ) → run first_desk σ w ≡ finished ls n
    → answer_words desk ls ≡ answer_words first_desk ls ++ replicate (desk.room - first_desk.room) 0
same_answer = answer-wider first_desk desk first-within refl refl
