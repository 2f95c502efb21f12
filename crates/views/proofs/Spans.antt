-- How far hedges go in a list of words: `span` passes a hedge's words, `element_end` the first element's.
use mathlib.Core.Path.{◌≡◌, refl, sym, ap, ◌∙◌}
use mathlib.Core.List.{List, [], ◌∷◌, ◌++◌, append_assoc, append-nil}
use Prim.Native.Nat.{ℕ, suc, ◌+◌, ◌-◌, ◌<◌, ◌≤◌}
use native.Mathlib.Omega.{arith}
use lib.ListN.{length, get_or, drop, length-append}
use Rattle.language.specs.Limits.{desk}
use Rattle.language.specs.Trees.{Functor, symbol, fvar, Hedge, ε, tvar, hvar, node}
use Rattle.language.specs.Writing.{functor_word, hedge_words}
use Rattle.language.specs.Fine.{fine_hedge}
use Rattle.views.specs.Looks.{head, tail, body_words}
use Rattle.words.specs.Spans.{opens, span, element_end}
use Rattle.views.specs.Standing.{Stands}
use Rattle.words.proofs.Parts.{drop_of, word-of}
use Rattle.words.proofs.Spans.{opens-0, opens-term, opens-run, opens-functor, span_none, span-suc, element-stop, element-on}
use Rattle.views.proofs.Words.{words-split, fine-tail, first_word, first-word}

pub functor-least : (f : Functor) → 3000 ≤ functor_word f
functor-least (symbol g) = omega arith
functor-least (fvar X) = omega arith

pub functor-some : (f : Functor) → functor_word f ≡ 0 → ⊥
functor-some f e = let h = functor-least f in omega arith

-- the words of a hedge are one hedge
pub span-hedge : (h : Hedge) → fine_hedge desk h → (n : ℕ) (ws : List ℕ) → span (suc n) (hedge_words h ++ ws) ≡ length (hedge_words h) + span n ws
span-hedge ε f n ws = let a = opens-0 in span-suc n n 0 ws (omega arith) ∙ omega arith
span-hedge (tvar x r) f n ws = let a = opens-term x f.0 in let d = span-hedge r f.1 n ws in span-suc n (suc n) (1000 + x.0) (hedge_words r ++ ws) (omega arith) ∙ omega arith
span-hedge (hvar p r) f n ws = let a = opens-run p f.0 in let d = span-hedge r f.1 n ws in span-suc n (suc n) (2000 + p.0) (hedge_words r ++ ws) (omega arith) ∙ omega arith
span-hedge (node g c r) f n ws =
    let a = opens-functor g f.0 in
    let d = span-hedge c f.1 (suc n) (hedge_words r ++ ws) in
    let d2 = span-hedge r f.2 n ws in
    let l = length-append (hedge_words c) (hedge_words r) in
    ap (λ t. span (suc n) (functor_word g ∷ t)) (append_assoc (hedge_words c) (hedge_words r) ws)
    ∙ span-suc n (suc (suc n)) (functor_word g) (hedge_words c ++ (hedge_words r ++ ws)) (omega arith) ∙ omega arith

-- an element of one word
one_word : (k : List ℕ) (i x : ℕ) → get_or k i 0 ≡ x → 0 < x → opens x ≡ 1 → element_end k i ≡ i + 1
one_word k i x w p a =
    let b : opens (get_or k i 0) - 1 ≡ 0 = let z = ap opens w in omega arith in
    let z = ap (λ n. span n (drop (i + 1) k)) b ∙ span_none (drop (i + 1) k) in
    let y = element-on k i (omega arith) in
    omega arith

-- the first element of a hedge that stands at i
pub element_place : (k : List ℕ) (i : ℕ) (h : Hedge) (beyond : List ℕ) → fine_hedge desk h → drop i k ≡ hedge_words h ++ beyond → element_end k i ≡ i + length (body_words (head h))
element_place k i ε beyond f e = let z = element-stop k i (word-of k i _ e) in omega arith
element_place k i (tvar x r) beyond f e = one_word k i (1000 + x.0) (word-of k i _ e) (omega arith) (opens-term x f.0)
element_place k i (hvar p r) beyond f e = one_word k i (2000 + p.0) (word-of k i _ e) (omega arith) (opens-run p f.0)
element_place k i (node g c r) beyond f e =
    let w = word-of k i _ e in
    let a = opens-functor g f.0 in
    let b : opens (get_or k i 0) - 1 ≡ 1 = let z = ap opens w in omega arith in
    let d : drop (i + 1) k ≡ hedge_words c ++ (hedge_words r ++ beyond) = drop_of k i (i + 1) (functor_word g ∷ []) ((hedge_words c ++ hedge_words r) ++ beyond) e refl ∙ append_assoc (hedge_words c) (hedge_words r) beyond in
    let z = ap (λ n. span n (drop (i + 1) k)) b ∙ ap (span 1) d ∙ span-hedge c f.1 0 (hedge_words r ++ beyond) in
    let n = span_none (hedge_words r ++ beyond) in
    let y = element-on k i (λ q. functor-some g (sym w ∙ q)) in
    let l = ap length (append-nil (hedge_words c)) in
    omega arith

-- ---- a hedge that stands at i, and what follows its first element

module _ {k : List ℕ} {i : ℕ} {h : Hedge} {beyond : List ℕ} (s : Stands k i h beyond) where
  pub stands_word : get_or k i 0 ≡ first_word h
  stands_word = word-of k i _ s.here ∙ first-word h beyond

  pub stands-split : drop i k ≡ body_words (head h) ++ (hedge_words (tail h) ++ beyond)
  stands-split = s.here ∙ ap (λ l. l ++ beyond) (words-split h) ∙ append_assoc (body_words (head h)) (hedge_words (tail h)) beyond

  pub stands-rest : {j : ℕ} → j ≡ i + length (body_words (head h)) → Stands k j (tail h) beyond
  stands-rest {j} e = record { fine = fine-tail h s.fine; here = drop_of k i j (body_words (head h)) (hedge_words (tail h) ++ beyond) stands-split e }

  pub stands-place : element_end k i ≡ i + length (body_words (head h))
  stands-place = element_place k i h beyond s.fine s.here

  pub stands-next : Stands k (element_end k i) (tail h) beyond
  stands-next = stands-rest stands-place

  -- the place after its 0
  pub stands-end : i + span 1 (drop i k) ≡ i + length (hedge_words h)
  stands-end = let z = ap (span 1) s.here ∙ span-hedge h s.fine 0 beyond in let y = span_none beyond in omega arith
