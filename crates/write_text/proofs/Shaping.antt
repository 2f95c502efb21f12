-- What an expression's parts give of the whole, in the shape in which writing it finds them.
use Prim.Native.Nat.{ℕ, ◌+◌, ◌<◌, ◌≤◌}
use mathlib.Core.Path.{◌≡◌, refl, sym, ap, ◌∙◌}
use mathlib.Core.Bool.{Bool, true, false, not, ◌||◌}
use mathlib.Core.List.{List, [], ◌∷◌, ◌++◌, append_assoc}
use native.Mathlib.Omega.{arith}
use lib.Dec.{eqb}
use lib.ListN.{length, get_or, length-append}
use borrow.Author.Tests.{eq-eqb, ne_eqb, eqb-true, lt-ltb, le-ltb}
use Rattle.language.specs.Kinds.{pick}
use Rattle.language.specs.Limits.{desk}
use Rattle.language.specs.Trees.{Expr}
use Rattle.language.specs.Writing.{expr_words}
use Rattle.language.specs.Fine.{fine_expr}
use Rattle.expressions.specs.Standing.{Here}
use Rattle.expressions.proofs.Standing.{cases, by-eps, past_end, second-of}
use Rattle.write_text.specs.declared.Wrote.{Wrote}
use Rattle.write_text.specs.Laid.{Laid}
use Rattle.write_text.specs.Pieces.{given, four, word_text, opens, brace_of, head_piece, first_in, second_in, between_piece, star_of, tail_piece, is_two, elsewhere, shape}
use Rattle.write_text.specs.Standing.{Done, Shaped}
use Rattle.write_text.proofs.Laid.{laid_as, laid-row, laid_none}

-- ---- brackets

module _ (t x : ℕ) where
  pub opens-under : t ≡ 3 → true ≡ opens t x
  opens-under e = rw (eq-eqb t 3 e)

  module _ (u : t ≡ 3 → ⊥) where
    pub opens-cat : x ≡ 7001 → not (eqb t 2) ≡ opens t x
    opens-cat e = rw (ne_eqb t 3 u, eq-eqb x 7001 e, ne_eqb x 7002 (omega arith)) (on (not (eqb t 2)))
      where
        on : (b : Bool) → b ≡ (b || false)
        on true = refl
        on false = refl

    pub opens-alt : x ≡ 7002 → eqb t 0 ≡ opens t x
    opens-alt e = rw (ne_eqb t 3 u, eq-eqb x 7002 e, ne_eqb x 7001 (omega arith))

    pub opens-none : (x ≡ 7001 → ⊥) → (x ≡ 7002 → ⊥) → false ≡ opens t x
    opens-none e f = rw (ne_eqb t 3 u, ne_eqb x 7001 e, ne_eqb x 7002 f)

  module _ (b : ℕ) {r : Bool} (o : r ≡ opens t x) where
    pub braced : r ≡ true → b ≡ brace_of t x b
    braced e = sym (ap (λ r. pick r b 0) (sym o ∙ e))

    pub not-braced : r ≡ false → 0 ≡ brace_of t x b
    not-braced e = sym (ap (λ r. pick r b 0) (sym o ∙ e))

  module _ {stop at n : ℕ} {old mid : List ℕ} (c : ℕ) (b : c ≡ brace_of t x 40) (l : Laid stop old at (given c) mid n) where
    pub head-symbol : {e : ℕ} {new : List ℕ} → x < 7000 → Laid stop mid n (word_text 0 x) new e → Laid stop old at (head_piece t x) new e
    head-symbol p k = laid_as (ap (λ c. given c ++ word_text 0 x) b ∙ ap (λ q. given (brace_of t x 40) ++ pick q (word_text 0 x) []) (sym (lt-ltb x 7000 p))) (laid-row (given c) (word_text 0 x) l k)

    pub head-other : 7000 ≤ x → Laid stop old at (head_piece t x) mid n
    head-other p = laid_as (ap (λ c. given c ++ []) b ∙ ap (λ q. given (brace_of t x 40) ++ pick q (word_text 0 x) []) (sym (le-ltb x 7000 p))) (laid-row (given c) [] l laid_none)

module _ (x : ℕ) {stop at e : ℕ} {old new : List ℕ} where
  pub between-cat : x ≡ 7001 → Laid stop old at (four 44 32 0 0) new e → Laid stop old at (between_piece x) new e
  between-cat z l = laid_as (sym (ap (λ b. pick b (four 44 32 0 0) (four 32 43 32 0)) (eq-eqb x 7001 z))) l

  pub between-alt : (x ≡ 7001 → ⊥) → Laid stop old at (four 32 43 32 0) new e → Laid stop old at (between_piece x) new e
  between-alt z l = laid_as (sym (ap (λ b. pick b (four 44 32 0 0) (four 32 43 32 0)) (ne_eqb x 7001 z))) l

-- ---- two parts or fewer

are-two : (x : ℕ) → is_two x ≡ true → (7001 ≤ x) × (x ≤ 7002)
are-two x e = on (eqb x 7001) (eqb x 7002) refl refl e
  where
    on : (a b : Bool) → eqb x 7001 ≡ a → eqb x 7002 ≡ b → (a || b) ≡ true → (7001 ≤ x) × (x ≤ 7002)
    on true b p q e = let z = eqb-true x 7001 p in (omega arith, omega arith)
    on false true p q e = let z = eqb-true x 7002 q in (omega arith, omega arith)
    on false false p q e = absurd (let z : ◌≡◌ {A = ℕ} 0 1 = cc in omega arith)

not-two : (x : ℕ) → is_two x ≡ false → (x ≡ 7001 → ⊥) × (x ≡ 7002 → ⊥)
not-two x e = (λ z. clash (sym (ap is_two z) ∙ e), λ z. clash (sym (ap is_two z) ∙ e))
  where
    clash : true ≡ false → ⊥
    clash e = let z : ◌≡◌ {A = ℕ} 0 1 = cc in omega arith

-- ---- the whole

module _ {stop at to : ℕ} (t : ℕ) {w old : List ℕ} where
  pub shaped-end : length w ≤ at → Shaped stop w at t old to old (record { end = at; to = to })
  shaped-end z = record { after = omega arith; each = past_end _ z }

  pub shaped-eps : {new : List ℕ} {n : ℕ} (a b : ℕ) → get_or w at 0 ≡ 7000 → a ≡ elsewhere t 40 → b ≡ elsewhere t 41 → Laid stop old to (four a b 0 0) new n
      → Shaped stop w at t old to new (record { end = at + 1; to = n })
  shaped-eps a b z p q l = record {
    after = omega arith;
    each = by-eps _ z (λ w. record { end = refl; laid = laid_as (ap (λ a. four a b 0 0) p ∙ ap (λ b. four (elsewhere t 40) b 0 0) q) l });
  }

  module _ {l₁ l₂ : List ℕ} {n u : ℕ} {a : Wrote} (i : at < length w) (z : get_or w at 0 ≡ 7000 → ⊥) (h : Laid stop old to (head_piece t (get_or w at 0)) l₁ n) (pu : u ≡ first_in (get_or w at 0)) (f : Shaped stop w (at + 1) u l₁ n l₂ a) where
    -- the head and the first part
    begun : (X : ℕ) (A : Expr) (beyond : List ℕ) → (get_or w at 0) ≡ X → Here w (at + 1) A beyond → Laid stop old to (head_piece t X ++ shape (first_in X) A) l₂ a.to
    begun X A beyond e s =
        laid_as (ap (λ u. head_piece t (get_or w at 0) ++ shape u A) pu ∙ ap (λ z. head_piece t z ++ shape (first_in z) A) e) (laid-row (head_piece t (get_or w at 0)) (shape u A) h (f.each A beyond s).laid)

    pub shaped-one : {r : Bool} {new : List ℕ} {m : ℕ} (c d : ℕ) → r ≡ is_two (get_or w at 0) → r ≡ false → c ≡ star_of (get_or w at 0) → d ≡ brace_of t (get_or w at 0) 41 → Laid stop l₂ a.to (four c d 0 0) new m
        → Shaped stop w at t old to new (record { end = a.end; to = m })
    shaped-one {r} {new} {m} c d o e pc pd l =
        let k = not-two (get_or w at 0) (sym o ∙ e) in
        let y = f.after in
        record {
          after = omega arith;
          each = cases (λ R v. Done stop at (expr_words R) (shape t R) old to new (record { end = a.end; to = m })) (λ y v. absurd (z y)) (λ y A B v s g. absurd (k.0 y)) (λ y A B v s g. absurd (k.1 y))
              (λ y A v s. let q = (f.each A v s).end in record { end = omega arith; laid = tail 7003 A v y s })
              (λ g y b A v s. let q = (f.each A v s).end in record { end = omega arith; laid = laid_as (ap (λ b. head_piece t (3000 + g.0) ++ (shape (pick b 3 (pick (eqb (3000 + g.0) 7001) 1 0)) A ++ tail_piece t (3000 + g.0))) (lt-ltb (3000 + g.0) 7000 (omega arith))) (tail (3000 + g.0) A v y s) });
        }
      where
        tail : (X : ℕ) (A : Expr) (v : List ℕ) → (get_or w at 0) ≡ X → Here w (at + 1) A v → Laid stop old to (head_piece t X ++ (shape (first_in X) A ++ tail_piece t X)) new m
        tail X A v y s =
            laid_as (append_assoc (head_piece t X) (shape (first_in X) A) (tail_piece t X))
            (laid-row (head_piece t X ++ shape (first_in X) A) (tail_piece t X) (begun X A v y s)
            (laid_as (ap (λ c. four c d 0 0) pc ∙ ap (λ d. four (star_of (get_or w at 0)) d 0 0) pd ∙ ap (tail_piece t) y) l))

    pub shaped-two : {r : Bool} {l₃ l₄ new : List ℕ} {m k v : ℕ} {b : Wrote} (d : ℕ) → r ≡ is_two (get_or w at 0) → r ≡ true → Laid stop l₂ a.to (between_piece (get_or w at 0)) l₃ m → v ≡ second_in (get_or w at 0)
        → Shaped stop w a.end v l₃ m l₄ b → d ≡ brace_of t (get_or w at 0) 41 → Laid stop l₄ b.to (given d) new k → Shaped stop w at t old to new (record { end = b.end; to = k })
    shaped-two {r} {l₃} {l₄} {new} {m} {k} {v} {b} d o e l pv g pd j =
        let q = are-two (get_or w at 0) (sym o ∙ e) in
        let y = f.after in
        let y' = g.after in
        record {
          after = omega arith;
          each = cases (λ R v. Done stop at (expr_words R) (shape t R) old to new (record { end = b.end; to = k })) (λ y v. absurd (z y)) (both 7001) (both 7002)
              (λ y A v s. absurd (omega arith)) (λ g y b A v s. absurd (omega arith));
        }
      where
        both : (X : ℕ) → (get_or w at 0) ≡ X → (A B : Expr) (v : List ℕ) → Here w (at + 1) A (expr_words B ++ v) → fine_expr desk B
            → Done stop at (X ∷ (expr_words A ++ expr_words B)) (head_piece t X ++ (shape (first_in X) A ++ (between_piece X ++ (shape (second_in X) B ++ given (brace_of t X 41))))) old to new (record { end = b.end; to = k })
        both X y A B v s fine =
            let first = f.each A _ s in
            let second = g.each B v (second-of s fine first.end) in
            let p = first.end in
            let q = second.end in
            let n = length-append (expr_words A) (expr_words B) in
            record {
              end = omega arith;
              laid =
                  laid_as (append_assoc (head_piece t X) (shape (first_in X) A) (between_piece X ++ (shape (second_in X) B ++ given (brace_of t X 41))))
                  (laid-row (head_piece t X ++ shape (first_in X) A) (between_piece X ++ (shape (second_in X) B ++ given (brace_of t X 41))) (begun X A _ y s)
                  (laid-row (between_piece X) (shape (second_in X) B ++ given (brace_of t X 41)) (laid_as (ap between_piece y) l)
                  (laid-row (shape (second_in X) B) (given (brace_of t X 41)) (laid_as (ap (λ u. shape u B) pv ∙ ap (λ z. shape (second_in z) B) y) second.laid)
                  (laid_as (ap given pd ∙ ap (λ z. given (brace_of t z 41)) y) j))));
            }
