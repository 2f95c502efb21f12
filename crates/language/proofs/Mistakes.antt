-- The place of a refusal is that of the mistake, and no other place is.
use mathlib.Core.Path.{◌≡◌, refl, sym, subst, ap, ◌∙◌}
use mathlib.Core.Logic.{◌⊎◌, inl, inr}
use mathlib.Core.Bool.{Bool, true, false, ◌&&◌}
use mathlib.Core.List.{List, [], ◌∷◌, ◌++◌, append_assoc}
use Prim.Native.Nat.{ℕ, zero, suc, ◌+◌, ◌-◌, ◌<◌, ◌≤◌}
use native.Mathlib.Omega.{arith}
use lib.ListN.{length, take, drop, get_or, length-drop, take-append-drop}
use lib.Seq.{take-take, get_or-drop}
use lib.Dec.{ltb}
use borrow.Author.Tests.{ltb-true, ltb-false}
use Rattle.language.specs.declared.Refusal.{Refusal}
use Rattle.language.specs.declared.Refusal.TheVariants.{QuestionLength, CountRange, BadOffset}
use Rattle.language.specs.Limits.{Limits}
use Rattle.language.specs.Kinds.{pick}
use Rattle.language.specs.Numbers.{number_of, place_of}
use Rattle.language.specs.Trees.{Conj, Counts}
use Rattle.language.specs.Reading.{Got, got, stop, read_conj}
use Rattle.language.specs.Question.{laid_out, parts, counts_of, alternatives_of, length_fits, counts_fit, declared_q, with_conj, read_all, body_at, refuses, read_question}
use Rattle.language.specs.Between.{between}
use Rattle.language.specs.Undeclared.{declared_word, declared_words, undeclared_at}
use Rattle.language.specs.Mistakes.{AreLiterals, Continue, alternative_at, BrokenAt, UndeclaredIn, RightPlace}
use Rattle.language.proofs.Laws.{conjunctions-read}
use Rattle.language.proofs.Offsets.{length-between, part-is, lengths, table-count, table-part, table-offset}
use Rattle.language.proofs.Alternatives.{question-declared}
use Rattle.language.proofs.Questions.{bad-length, bad-counts, bad-offset, bad-literals, not-declared, asked}

-- ---- the part in which reading stops

record Halted (L : Limits) (ps : List (List ℕ)) (n : ℕ) : Type 0 where
  part : ℕ
  more : ℕ
  there : part < length ps
  stops : read_conj L (get_or ps part []) ≡ stop more
  sum : n ≡ lengths (take part ps) + more
  before : (i : ℕ) → i < part → AreLiterals L (get_or ps i [])

module _ (L : Limits) where
  halted : (ps : List (List ℕ)) (n : ℕ) → read_all L ps ≡ stop n → Halted L ps n
  halted [] n e = absurd (let z : ◌≡◌ {A = ℕ} 0 1 = cc in omega arith)
  halted (p ∷ ps) n e = on (read_conj L p) refl (read_all L ps) (halted ps) e
    where
      behind-first : (k : Conj) (m : ℕ) → read_conj L p ≡ got k m → (r : ℕ) → ((i : ℕ) → i < r → AreLiterals L (get_or ps i [])) → (i : ℕ) → i < suc r → AreLiterals L (get_or (p ∷ ps) i [])
      behind-first k m i r h zero q = let f = (conjunctions-read L).found p k m i in record { literals = k; fine = f.0; words = f.2 }
      behind-first k m i r h (suc j) q = h j (omega arith)

      on : (g : Got Conj) → read_conj L p ≡ g → (o : Got (List Conj)) → ((j : ℕ) → o ≡ stop j → Halted L ps j) → with_conj g o ≡ stop n → Halted L (p ∷ ps) n
      on (got k m) i (got js j) h e = absurd (let z : ◌≡◌ {A = ℕ} 0 1 = cc in omega arith)
      on (got k m) i (stop j) h e =
          let f = (conjunctions-read L).found p k m i in
          let r = h j refl in
          let z : m + j ≡ n = cc in
          record {
            part = suc r.part;
            more = r.more;
            there = omega (arith, r.there);
            stops = r.stops;
            sum = omega (arith, z, f.1, r.sum);
            before = behind-first k m i r.part r.before;
          }
      on (stop m) i o h e =
          record { part = 0; more = m; there = omega arith; stops = i; sum = (let z : m ≡ n = cc in omega arith); before = λ i q. absurd (omega arith) }

-- ---- 5

module _ (L : Limits) where
  no_words : {A : Type 0} (ws : List ℕ) (n : ℕ) → read_conj L ws ≡ stop n → AreLiterals L ws → A
  no_words ws n e a =
      let b = ap (read_conj L) a.words ∙ (conjunctions-read L).read_back a.literals a.fine in
      absurd (let z : ◌≡◌ {A = ℕ} 0 1 = cc in omega arith)

  -- a part whose reading stops
  module _ (ws : List ℕ) (from to more : ℕ) (low : from ≤ to) (high : to ≤ length ws) (e : read_conj L (between from to ws) ≡ stop more) where
    within : from + more ≤ to
    within = omega (arith, ((conjunctions-read L).goes_on (between from to ws) more e).0, length-between from to ws high)

    up_to : (n m : ℕ) → n ≡ from + m → m ≤ to - from → between from n ws ≡ take m (between from to ws)
    up_to n m p q = ap (λ j. take j (drop from ws)) (let z : n - from ≡ m = omega arith in z) ∙ sym (take-take m (to - from) (drop from ws) q)

    part-goes-on : (at : ℕ) → at ≡ from + more → Continue L (between from at ws)
    part-goes-on at p =
        let g = (conjunctions-read L).goes_on (between from to ws) more e in
        let (k, rest, f, w) = g.1 in
        record {
          rest = rest;
          complete = record { literals = k; fine = f; words = ap (λ us. us ++ rest) (up_to at more p (omega (arith, within))) ∙ w };
        }

    part-no-further : (at : ℕ) → at ≡ from + more → at < to → ¬ Continue L (between from (at + 1) ws)
    part-no-further at p q c =
        no_words (between from (at + 1) ws ++ c.rest) more
        (ap (λ us. read_conj L (us ++ c.rest)) (up_to (at + 1) (suc more) (omega arith) (omega arith))
        ∙ (conjunctions-read L).no-further (between from to ws) more e (omega (arith, length-between from to ws high)) c.rest)
        c.complete

  module _ (ws : List ℕ) (laid : laid_out 5 (alternatives_of ws) ws ≡ true) where
    broken : (n at : ℕ) → read_all L (parts 5 (alternatives_of ws) ws) ≡ stop n → at ≡ body_at ws + n → BrokenAt L ws at
    broken n at e a =
        let c = alternatives_of ws in
        let ps = parts 5 c ws in
        let h = halted L ps n e in
        let i = h.part in
        let there : i < c = omega (arith, h.there, table-count 5 c ws laid) in
        let p = table-part 5 c ws laid i (5 + i) (6 + i) there refl (omega arith) in
        let from = get_or ws (5 + i) 0 in
        let to = get_or ws (6 + i) 0 in
        let stops : read_conj L (between from to ws) ≡ stop h.more = ap (read_conj L) (sym (part-is p)) ∙ h.stops in
        let place : at ≡ from + h.more = omega (arith, a, h.sum, table-offset 5 c ws laid i (5 + i) (omega arith) refl) in
        record {
          alternative = i;
          there = there;
          low = omega arith;
          high = omega (arith, within ws from to h.more p.low p.high stops);
          inside = p.high;
          before = λ j q. subst (AreLiterals L) (part-is (table-part 5 c ws laid j (5 + j) (6 + j) (omega arith) refl (omega arith))) (h.before j q);
          goes_on = part-goes-on ws from to h.more p.low p.high stops at place;
          no-further = part-no-further ws from to h.more p.low p.high stops at place;
          breaks-off = λ q l. no_words (between from to ws) h.more stops l;
        }

-- ---- 6

module _ (L : Limits) (n : Counts) where
  -- the first of words that are not all declared
  record First (ws : List ℕ) (at : ℕ) : Type 0 where
    inside : at < length ws
    before : (i : ℕ) → i < at → declared_word L n (get_or ws i 0) ≡ true
    here : declared_word L n (get_or ws at 0) ≡ false

  first : (ws : List ℕ) → declared_words L n ws ≡ false → First ws (undeclared_at L n ws)
  unfolding declared_words undeclared_at
  first [] e = absurd (let z : ◌≡◌ {A = ℕ} 0 1 = cc in omega arith)
  first (w ∷ ws) e = on (first ws) (declared_word L n w) refl e
    where
      later : declared_word L n w ≡ true → First ws (undeclared_at L n ws) → (i : ℕ) → i < suc (undeclared_at L n ws) → declared_word L n (get_or (w ∷ ws) i 0) ≡ true
      later d f zero q = d
      later d f (suc i) q = f.before i (omega arith)

      on : (declared_words L n ws ≡ false → First ws (undeclared_at L n ws)) → (b : Bool) → declared_word L n w ≡ b → (b && declared_words L n ws) ≡ false
          → First (w ∷ ws) (pick b (suc (undeclared_at L n ws)) 0)
      on h true d e = let f = h e in record { inside = omega (arith, f.inside); before = later d f; here = f.here }
      on h false d e = record { inside = omega arith; before = λ i q. absurd (omega arith); here = d }

module _ (L : Limits) (ws : List ℕ) (laid : laid_out 5 (alternatives_of ws) ws ≡ true) where
  undeclared : (ks : List Conj) (m at : ℕ) → read_all L (parts 5 (alternatives_of ws) ws) ≡ got ks m → declared_q (counts_of ws) ks ≡ false
      → at ≡ body_at ws + undeclared_at L (counts_of ws) (drop (body_at ws) ws) → UndeclaredIn L ws at
  undeclared ks m at r d a =
      let n = counts_of ws in
      let body = body_at ws in
      let j = undeclared_at L n (drop body ws) in
      let same : 5 + alternatives_of ws + 1 ≡ body = omega arith in
      let f = first L n (drop body ws) (ap (λ b. declared_words L n (drop b ws)) (sym same) ∙ question-declared L (alternatives_of ws) ws laid n ks m r ∙ d) in
      record {
        low = omega arith;
        high = omega (arith, f.inside, length-drop body ws);
        before = λ i p q.
            ap (λ k. declared_word L n (get_or ws k 0)) (let z : i ≡ body + (i - body) = omega arith in z)
            ∙ ap (declared_word L n) (sym (get_or-drop body ws (i - body) 0)) ∙ f.before (i - body) (omega arith);
        here = ap (λ k. declared_word L n (get_or ws k 0)) a ∙ ap (declared_word L n) (sym (get_or-drop body ws j 0)) ∙ f.here;
      }

-- ---- every refusal

module _ (L : Limits) (ws : List ℕ) where
  -- The place of a refusal is the right one.
  pub place-right : (r : Refusal) → read_question L ws ≡ refuses r → RightPlace L ws r
  place-right r e = on-length (length_fits L ws) refl
    where
      -- it is this one
      is : (s : Refusal) → read_question L ws ≡ refuses s → RightPlace L ws s → RightPlace L ws r
      is s f h = subst (RightPlace L ws) (let z : s ≡ r = cc in z) h

      -- one that has no place
      none : (s : Refusal) → read_question L ws ≡ refuses s → place_of s ≡ 0 → ¬ (number_of s ≡ 5) → ¬ (number_of s ≡ 6) → RightPlace L ws r
      none s f p n m = is s f (record { five = λ z. absurd (n z); six = λ z. absurd (m z); others = λ _ _. p })

      on-declared : (l : length_fits L ws ≡ true) (c : counts_fit L (counts_of ws) (alternatives_of ws) ≡ true) (o : laid_out 5 (alternatives_of ws) ws ≡ true) (ks : List Conj) (m : ℕ)
          → read_all L (parts 5 (alternatives_of ws) ws) ≡ got ks m → (b : Bool) → declared_q (counts_of ws) ks ≡ b → RightPlace L ws r
      on-declared l c o ks m g false d =
          is _ (not-declared L ws l c o ks m g d)
          (record { five = λ z. absurd (omega arith); six = λ _. undeclared L ws o ks m _ g d refl; others = λ _ z. absurd (z refl) })
      on-declared l c o ks m g true d = let f = asked L ws l c o ks m g d in absurd (let z : ◌≡◌ {A = ℕ} 0 1 = cc in omega arith)

      on_read : (l : length_fits L ws ≡ true) (c : counts_fit L (counts_of ws) (alternatives_of ws) ≡ true) (o : laid_out 5 (alternatives_of ws) ws ≡ true)
          → (g : Got (List Conj)) → read_all L (parts 5 (alternatives_of ws) ws) ≡ g → RightPlace L ws r
      on_read l c o (stop m) g =
          is _ (bad-literals L ws l c o m g) (record { five = λ _. broken L ws o m _ g refl; six = λ z. absurd (omega arith); others = λ z _. absurd (z refl) })
      on_read l c o (got ks m) g = on-declared l c o ks m g (declared_q (counts_of ws) ks) refl

      on-laid : (l : length_fits L ws ≡ true) (c : counts_fit L (counts_of ws) (alternatives_of ws) ≡ true) (b : Bool) → laid_out 5 (alternatives_of ws) ws ≡ b → RightPlace L ws r
      on-laid l c false o = none BadOffset (bad-offset L ws l c o) refl (λ z. omega arith) (λ z. omega arith)
      on-laid l c true o = on_read l c o (read_all L (parts 5 (alternatives_of ws) ws)) refl

      on-counts : (l : length_fits L ws ≡ true) (b : Bool) → counts_fit L (counts_of ws) (alternatives_of ws) ≡ b → RightPlace L ws r
      on-counts l false c = none CountRange (bad-counts L ws l c) refl (λ z. omega arith) (λ z. omega arith)
      on-counts l true c = on-laid l c (laid_out 5 (alternatives_of ws) ws) refl

      on-length : (b : Bool) → length_fits L ws ≡ b → RightPlace L ws r
      on-length false l = none QuestionLength (bad-length L ws l) refl (λ z. omega arith) (λ z. omega arith)
      on-length true l = on-counts l (counts_fit L (counts_of ws) (alternatives_of ws)) refl

-- ---- there is no other such place

le-cases : (m n : ℕ) → m ≤ n → (m < n) ⊎ (m ≡ n)
le-cases m n p = on (ltb m n) refl
  where
    on : (b : Bool) → ltb m n ≡ b → (m < n) ⊎ (m ≡ n)
    on true e = inl (ltb-true m n e)
    on false e = let h = ltb-false m n e in inr (omega arith)

neither-less : (m n : ℕ) → ¬ (m < n) → ¬ (n < m) → m ≡ n
neither-less m n p q = on (ltb m n) (ltb n m) refl refl
  where
    on : (a b : Bool) → ltb m n ≡ a → ltb n m ≡ b → m ≡ n
    on true b e f = absurd (p (ltb-true m n e))
    on false true e f = absurd (q (ltb-true n m f))
    on false false e f = let h = ltb-false m n e in let k = ltb-false n m f in omega arith

-- what can be continued could be before
shorter : (L : Limits) (us vs : List ℕ) → Continue L (us ++ vs) → Continue L us
shorter L us vs c = record {
  rest = vs ++ c.rest;
  complete = record { literals = c.complete.literals; fine = c.complete.fine; words = sym (append_assoc us vs c.rest) ∙ c.complete.words };
}

-- literals, as far as they go, can be continued
beginning : (L : Limits) (ws : List ℕ) (n : ℕ) → AreLiterals L ws → Continue L (take n ws)
beginning L ws n a =
    record { rest = drop n ws; complete = record { literals = a.literals; fine = a.fine; words = take-append-drop n ws ∙ a.words } }

between-shorter : (L : Limits) (ws : List ℕ) (from n to : ℕ) → n ≤ to → Continue L (between from to ws) → Continue L (between from n ws)
between-shorter L ws from n to p c =
    let cut : take (n - from) (between from to ws) ++ drop (n - from) (between from to ws) ≡ between from to ws = take-append-drop (n - from) (between from to ws) in
    subst (Continue L) (take-take (n - from) (to - from) (drop from ws) (omega arith))
    (shorter L (take (n - from) (between from to ws)) (drop (n - from) (between from to ws)) (subst (Continue L) (sym cut) c))

module _ (L : Limits) (ws : List ℕ) where
  -- an alternative that has such a place is no literals
  never-whole : (at : ℕ) (b : BrokenAt L ws at) → ¬ AreLiterals L (alternative_at b.alternative ws)
  never-whole at b a =
      let from = get_or ws (5 + b.alternative) 0 in
      let to = get_or ws (6 + b.alternative) 0 in
      elim (le-cases at to b.high) [
        | inl p ↦
            b.no-further p
            (subst (Continue L) (take-take (at + 1 - from) (to - from) (drop from ws) (omega arith)) (beginning L (alternative_at b.alternative ws) (at + 1 - from) a))
        | inr p ↦ b.breaks-off p a
      ]

  same-alternative : (at at' : ℕ) (b : BrokenAt L ws at) (c : BrokenAt L ws at') → ¬ (b.alternative < c.alternative)
  same-alternative at at' b c p = never-whole at b (c.before b.alternative p)

  not-before : (at at' : ℕ) (b : BrokenAt L ws at) (c : BrokenAt L ws at') → b.alternative ≡ c.alternative → ¬ (at < at')
  not-before at at' b c e p =
      let i = b.alternative in
      let h = c.high in
      let high : at' ≤ get_or ws (6 + i) 0 = rw e h in
      let goes : Continue L (between (get_or ws (5 + i) 0) at' ws) = rw e c.goes_on in
      b.no-further (omega arith) (between-shorter L ws (get_or ws (5 + i) 0) (at + 1) at' (omega arith) goes)

  -- 5: the laws leave no choice of the place.
  pub broken-only : (at at' : ℕ) → BrokenAt L ws at → BrokenAt L ws at' → at ≡ at'
  broken-only at at' b c =
      let n = same-alternative at at' b c in
      let m = same-alternative at' at c b in
      let e : b.alternative ≡ c.alternative = neither-less b.alternative c.alternative n m in
      neither-less at at' (not-before at at' b c e) (not-before at' at c b (sym e))

  -- 6: nor do they here.
  pub undeclared-only : (at at' : ℕ) → UndeclaredIn L ws at → UndeclaredIn L ws at' → at ≡ at'
  undeclared-only at at' b c = neither-less at at' (clash at at' b c) (clash at' at c b)
    where
      clash : (i j : ℕ) → UndeclaredIn L ws i → UndeclaredIn L ws j → ¬ (i < j)
      clash i j b c p = let y = c.before i b.low p in let x = b.here in let z : ◌≡◌ {A = ℕ} 0 1 = cc in omega arith
