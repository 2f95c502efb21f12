-- What the parts of an expression tell of the sample of the whole, in the shape in which measuring and writing find them.
use Prim.Native.Nat.{ℕ, zero, suc, ◌+◌, ◌<◌, ◌≤◌}
use mathlib.Core.Path.{◌≡◌, refl, ap, sym, ◌∙◌}
use mathlib.Core.List.{List, [], ◌∷◌, ◌++◌}
use native.Mathlib.Omega.{arith}
use lib.ListN.{length, get_or, drop, length-append, drop_of_length-le}
use lib.Seq.{drop-drop, get_or-drop}
use borrow.Author.Tests.{eq-eqb, ne_eqb, le-leb, lt-leb}
use Rattle.words.proofs.Parts.{drop_here}
use Rattle.expressions.specs.Passing.{asks, reach}
use Rattle.expressions.proofs.Passing.{asks_none, asks-star, asks-over, asks_two, reach-none, reach-more}
use Rattle.samples.specs.declared.Sample.{Sample}
use Rattle.samples.specs.declared.Wrote.{Wrote}
use Rattle.samples.specs.Laid.{Laid}
use Rattle.samples.specs.Samples.{body_by, bodies, body_at, end_at, Measured, Written}
use Rattle.samples.proofs.Laid.{laid_none, laid-row, laid_as}

-- ---- by the word

module _ (x : ℕ) (a b : List ℕ) where
  pub body-none : x ≡ 7000 → body_by x a b ≡ []
  unfolding body_by
  body-none e = rw (eq-eqb x 7000 e)

  pub body-star : x ≡ 7003 → body_by x a b ≡ []
  unfolding body_by
  body-star e = rw (ne_eqb x 7000 (omega arith), eq-eqb x 7003 e)

  pub body-over : x < 7000 → body_by x a b ≡ x ∷ (a ++ (0 ∷ []))
  unfolding body_by
  body-over h = rw (ne_eqb x 7000 (omega arith), ne_eqb x 7003 (omega arith), le-leb x 6999 (omega arith))

  pub body-cat : x ≡ 7001 → body_by x a b ≡ a ++ b
  unfolding body_by
  body-cat e = rw (ne_eqb x 7000 (omega arith), ne_eqb x 7003 (omega arith), lt-leb x 6999 (omega arith), eq-eqb x 7001 e)

  pub body-alt : (x ≡ 7000 → ⊥) → (x ≡ 7001 → ⊥) → (x ≡ 7003 → ⊥) → 7000 ≤ x → body_by x a b ≡ a
  unfolding body_by
  body-alt n0 n1 n3 h = rw (ne_eqb x 7000 n0, ne_eqb x 7003 n3, lt-leb x 6999 (omega arith), ne_eqb x 7001 n1)

-- ---- expressions in a row

bodies-more : (n : ℕ) (ws : List ℕ) → bodies (drop (reach n ws) ws) ≡ drop n (bodies ws)
unfolding reach bodies
bodies-more zero [] = refl
bodies-more (suc n) [] = refl
bodies-more zero (x ∷ ws) = refl
bodies-more (suc n) (x ∷ ws) =
    let d : n + asks x ≡ asks x + n = omega arith in
    bodies-more (n + asks x) ws ∙ ap (λ j. drop j (bodies ws)) d ∙ sym (drop-drop n (asks x) (bodies ws))

module _ (k : List ℕ) (at : ℕ) where
  end-past : length k ≤ at → at ≡ end_at k at
  unfolding end_at reach
  end-past z = let e = ap (reach 1) (drop_of_length-le k {i = at} z) in omega arith

  body-past : length k ≤ at → [] ≡ body_at k at
  unfolding body_at bodies
  body-past z = sym (ap (λ ws. get_or (bodies ws) 0 []) (drop_of_length-le k {i = at} z))

  module _ (i : at < length k) where
    abbrev rest : List ℕ
    rest = drop (at + 1) k

    -- by the first word
    end_by : end_at k at ≡ at + suc (reach (asks (get_or k at 0)) rest)
    unfolding end_at reach
    end_by =
        let e : 0 + asks (get_or k at 0) ≡ asks (get_or k at 0) = omega arith in
        ap (λ ws. at + reach 1 ws) (drop_here k at i) ∙ ap (λ n. at + suc (reach n rest)) e

    body-by : body_at k at ≡ body_by (get_or k at 0) (get_or (bodies rest) 0 []) (get_or (bodies rest) 1 [])
    unfolding body_at bodies
    body-by = ap (λ ws. get_or (bodies ws) 0 []) (drop_here k at i)

    end_none : asks (get_or k at 0) ≡ 0 → at + 1 ≡ end_at k at
    end_none a = let e = end_by in let r = ap (λ n. reach n rest) a ∙ reach-none rest in omega arith

    first_body : body_at k (at + 1) ≡ get_or (bodies rest) 0 []
    unfolding body_at
    first_body = refl

    module _ {m : ℕ} (a : m ≡ end_at k (at + 1)) where
      first-end : m ≡ at + 1 + reach 1 rest
      unfolding end_at
      first-end = a

      end-one : asks (get_or k at 0) ≡ 1 → m ≡ end_at k at
      end-one o = let e = end_by in let r = ap (λ n. reach n rest) o in let f = first-end in omega arith

      next : drop m k ≡ drop (reach 1 rest) rest
      next = ap (λ j. drop j k) first-end ∙ sym (drop-drop (reach 1 rest) (at + 1) k)

      second-body : body_at k m ≡ get_or (bodies rest) 1 []
      unfolding body_at
      second-body = ap (λ ws. get_or (bodies ws) 0 []) next ∙ ap (λ l. get_or l 0 []) (bodies-more 1 rest) ∙ get_or-drop 1 (bodies rest) 0 []

      end-two : {e : ℕ} → asks (get_or k at 0) ≡ 2 → e ≡ end_at k m → e ≡ end_at k at
      unfolding end_at
      end-two {e} o b =
          let c = end_by in
          let r = ap (λ n. reach n rest) o in
          let d = reach-more 1 1 rest in
          let f = first-end in
          let g = ap (reach 1) next in
          omega arith

      -- the sample of the whole by those of its parts
      body-two : body_at k at ≡ body_by (get_or k at 0) (body_at k (at + 1)) (body_at k m)
      body-two = body-by ∙ ap (λ b. body_by (get_or k at 0) b (get_or (bodies rest) 1 [])) (sym first_body) ∙ ap (body_by (get_or k at 0) (body_at k (at + 1))) (sym second-body)

module _ {k : List ℕ} {at : ℕ} where
  -- ---- measured

  pub measured-end : length k ≤ at → Measured k at (record { end = at; words = 0 })
  measured-end z = record { after = omega arith; within = λ y. omega arith; short = omega arith; few = omega arith; end = end-past k at z; words = ap length (body-past k at z) }

  pub measured-eps : at < length k → get_or k at 0 ≡ 7000 → Measured k at (record { end = at + 1; words = 0 })
  measured-eps i z = record {
    after = omega arith;
    within = λ y. omega arith;
    short = omega arith;
    few = omega arith;
    end = end_none k at i (asks_none _ z);
    words = ap length (sym (body-by k at i ∙ body-none _ _ _ z));
  }

  pub measured-star : {p : Sample} → at < length k → get_or k at 0 ≡ 7003 → Measured k (at + 1) p → Measured k at (record { end = p.end; words = 0 })
  measured-star {p} i z a =
      let l = a.after in
      record {
        after = omega arith;
        within = λ y. a.within (omega arith);
        short = omega arith;
        few = let m = a.within (omega arith) in omega arith;
        end = end-one k at i a.end (asks-star _ z);
        words = ap length (sym (body-by k at i ∙ body-star _ _ _ z));
      }

  pub measured-over : {p : Sample} → at < length k → get_or k at 0 < 7000 → Measured k (at + 1) p → Measured k at (record { end = p.end; words = p.words + 2 })
  measured-over {p} i z a =
      let l = a.after in
      let s = a.short in
      let n = a.words in
      let b = ap length (body-two k at i a.end ∙ body-over _ _ _ z) in
      let c = length-append (body_at k (at + 1)) (0 ∷ []) in
      record {
        after = omega arith;
        within = λ y. a.within (omega arith);
        short = omega arith;
        few = let m = a.within (omega arith) in omega arith;
        end = end-one k at i a.end (asks-over _ z);
        words = omega arith;
      }

  module _ {p q : Sample} (i : at < length k) (a : Measured k (at + 1) p) (b : Measured k p.end q) where
    -- two parts in a row
    two : {n : ℕ} → n ≤ p.words + q.words → asks (get_or k at 0) ≡ 2 → n ≡ length (body_at k at) → Measured k at (record { end = q.end; words = n })
    two most o e =
        let l = a.after in
        let m = b.after in
        let s = a.short in
        let t = b.short in
        record {
          after = omega arith;
          within = λ y. b.within (a.within (omega arith));
          short = omega arith;
          few = let v = a.within (omega arith) in let w = b.within v in omega arith;
          end = end-two k at i a.end o b.end;
          words = e;
        }

    pub measured-cat : get_or k at 0 ≡ 7001 → Measured k at (record { end = q.end; words = p.words + q.words })
    measured-cat z =
        let c = ap length (body-two k at i a.end ∙ body-cat _ _ _ z) in
        let d = length-append (body_at k (at + 1)) (body_at k p.end) in
        let m = a.words in
        let n = b.words in
        two (omega arith) (asks_two _ (omega arith) (omega arith) (omega arith)) (omega arith)

    pub measured-alt : (get_or k at 0 ≡ 7000 → ⊥) → (get_or k at 0 ≡ 7001 → ⊥) → (get_or k at 0 ≡ 7003 → ⊥) → 7000 ≤ get_or k at 0 → Measured k at (record { end = q.end; words = p.words })
    measured-alt n0 n1 n3 lo = two (omega arith) (asks_two _ n0 n3 lo) (a.words ∙ ap length (sym (body-two k at i a.end ∙ body-alt _ _ _ n0 n1 n3 lo)))

  -- ---- written

  module _ {old : List ℕ} {to : ℕ} where
    pub written-end : length k ≤ at → Written k at old to old (record { end = at; to = to })
    written-end z = record { after = omega arith; end = end-past k at z; laid = laid_as (body-past k at z) laid_none }

    pub written-eps : at < length k → get_or k at 0 ≡ 7000 → Written k at old to old (record { end = at + 1; to = to })
    written-eps i z = record { after = omega arith; end = end_none k at i (asks_none _ z); laid = laid_as (sym (body-by k at i ∙ body-none _ _ _ z)) laid_none }

    pub written-star : {p : Sample} → at < length k → get_or k at 0 ≡ 7003 → Measured k (at + 1) p → Written k at old to old (record { end = p.end; to = to })
    written-star {p} i z a =
        let l = a.after in
        record { after = omega arith; end = end-one k at i a.end (asks-star _ z); laid = laid_as (sym (body-by k at i ∙ body-star _ _ _ z)) laid_none }

    pub written_over : {mid new last : List ℕ} {n m : ℕ} {p : Wrote} → at < length k → get_or k at 0 < 7000 → Laid old to (get_or k at 0 ∷ []) mid n → Written k (at + 1) mid n new p → Laid new p.to (0 ∷ []) last m
        → Written k at old to last (record { end = p.end; to = m })
    written_over {p = p} i z a b c =
        let l = b.after in
        record {
          after = omega arith;
          end = end-one k at i b.end (asks-over _ z);
          laid = laid_as (sym (body-two k at i b.end ∙ body-over _ _ _ z)) (laid-row (get_or k at 0 ∷ []) (body_at k (at + 1) ++ (0 ∷ [])) a (laid-row (body_at k (at + 1)) (0 ∷ []) b.laid c));
        }

    pub written-cat : {mid new : List ℕ} {p q : Wrote} → at < length k → get_or k at 0 ≡ 7001 → Written k (at + 1) old to mid p → Written k p.end mid p.to new q → Written k at old to new q
    written-cat {mid} {new} {p} {q} i z a b =
        let l = a.after in
        let m = b.after in
        record {
          after = omega arith;
          end = end-two k at i a.end (asks_two _ (omega arith) (omega arith) (omega arith)) b.end;
          laid = laid_as (sym (body-two k at i a.end ∙ body-cat _ _ _ z)) (laid-row (body_at k (at + 1)) (body_at k p.end) a.laid b.laid);
        }

    pub written-alt : {new : List ℕ} {p : Wrote} {q : Sample} → at < length k → (get_or k at 0 ≡ 7000 → ⊥) → (get_or k at 0 ≡ 7003 → ⊥) → 7000 ≤ get_or k at 0 → (get_or k at 0 ≡ 7001 → ⊥)
        → Written k (at + 1) old to new p → Measured k p.end q → Written k at old to new (record { end = q.end; to = p.to })
    written-alt {new} {p} {q} i n0 n3 lo n1 a b =
        let l = a.after in
        let m = b.after in
        record {
          after = omega arith;
          end = end-two k at i a.end (asks_two _ n0 n3 lo) b.end;
          laid = laid_as (sym (body-two k at i a.end ∙ body-alt _ _ _ n0 n1 n3 lo)) a.laid;
        }
