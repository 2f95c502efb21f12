-- What writing the results of an expression's parts tells of the whole.
use Prim.Native.Nat.{ℕ, suc, ◌+◌, ◌-◌, ◌<◌, ◌≤◌}
use mathlib.Core.Path.{◌≡◌, refl, ap, sym, subst, ◌∙◌}
use mathlib.Core.Bool.{Bool, true, false, ◌&&◌, ◌||◌}
use mathlib.Core.Logic.{inl, inr}
use mathlib.Core.List.{List, [], ◌++◌, map, map-append, append-nil}
use native.Mathlib.Omega.{arith}
use lib.ListN.{length, get_or, length-append}
use lib.Seq.{slice, length-slice}
use Rattle.language.specs.Kinds.{pick}
use Rattle.language.specs.Limits.{desk}
use Rattle.language.specs.Trees.{Hedge, Expr, Conj, star, over}
use Rattle.language.specs.Writing.{expr_words, conj_words}
use Rattle.rules.specs.Looks.{is_eps}
use Rattle.rules.specs.Expressions.{nullable}
use Rattle.plans.specs.Sizes.{monomial_words}
use Rattle.views.specs.Views.{Shows}
use Rattle.views.specs.declared.Shape.{Shape}
use Rattle.slices.specs.Written.{Wrote}
use Rattle.linear_form.specs.declared.adding.Kept.{Kept}
use Rattle.linear_form.specs.declared.Outside.{Outside}
use Rattle.linear_form.specs.declared.Walked.{Walked}
use Rattle.expressions.specs.Standing.{Here}
use Rattle.linear_form.specs.Charted.{Past}
use Rattle.monomials.specs.Loose.{met}
use Rattle.linear_form.specs.Rows.{kept_of, row_words, Holds, Rowed, Written}
use Rattle.linear_form.specs.Walks.{Keeps, Widened, EnclosedBy, Enclosed, Handed, closes, joined, Added, WalksOver, Walks}
use Rattle.expressions.proofs.Standing.{second-of, words-here, cases, by-eps, by-cat, by-alt, by-star, by_over, past_end, is-alt}
use Rattle.linear_form.proofs.Rows.{rows}
use Rattle.linear_form.proofs.Joining.{Dec7001, is-cat, closed-by, open_by, joined-cat, joined-alt}
use Rattle.linear_form.proofs.Added.{keeps-all, holds-none, store_keeps, store-holds, added_none, added-same, added-append, added-inner, added-one}

-- ---- a part more from outside

pub widened-full : {k : List ℕ} {from until : ℕ} {o : Outside} {rest : List ℕ} → from ≤ until → until ≤ length k → length rest < o.words + (until - from)
    → Widened k from until o rest rest (record { parts = o.parts + 1; words = o.words + (until - from) })
widened-full {k} {from} {until} {o} {rest} f u h =
    record {
      parts = refl;
      words = refl;
      keeps = keeps-all o.words rest;
      held = λ ws l d. record { last = λ z. absurd (let x = length-append (slice from until k) ws in let y = length-slice from until k u in omega arith) };
    }

pub widened_more : {k : List ℕ} {from until : ℕ} {o : Outside} {rest rest' : List ℕ} {e : ℕ} → from ≤ until → until ≤ length k → o.words + (until - from) ≤ length rest
    → Wrote rest (length rest - (o.words + (until - from))) (slice from until k) rest' e
    → Widened k from until o rest rest' (record { parts = o.parts + 1; words = o.words + (until - from) })
widened_more {k} {from} {until} {o} {rest} {rest'} f u h w =
    let at = length rest - (o.words + (until - from)) in
    let y = length-slice from until k u in
    let z : at + length (slice from until k) + o.words ≡ length rest = omega arith in
    record {
      parts = refl;
      words = refl;
      keeps = subst (λ r. Keeps o.words rest r) (sym w.list) (store_keeps rest at (slice from until k) z);
      held = λ ws l d. subst (λ r. Holds r (slice from until k ++ ws)) (sym w.list) (store-holds rest at (slice from until k) z ws l d);
    }

-- ---- what the first part of a concatenation gets from outside

enclosed-not : {B : Expr} {ws : List ℕ} {o : Outside} {rest rest' : List ℕ} {r : Outside} → is_eps B ≡ false → r.parts ≡ suc o.parts
    → length (expr_words B ++ ws) ≡ r.words → (Holds rest ws → Holds rest' (expr_words B ++ ws)) → EnclosedBy B ws o rest rest' r
enclosed-not {B} e p w h = record { parts = rw e p; words = rw e w; held = λ x. rw e (h x) }

pub enclosed-bare : {k : List ℕ} {from until : ℕ} {o : Outside} {rest : List ℕ} → get_or k from 0 ≡ 7000 → Enclosed k from until o rest rest o
enclosed-bare {k} {from} {until} {o} {rest} z =
    record {
      few = omega arith;
      less = omega arith;
      short = omega arith;
      keeps = keeps-all o.words rest;
      each = λ B w ws g u l. by-eps (λ B w. EnclosedBy B ws o rest rest o) z (λ w. record { parts = refl; words = l; held = λ h. h }) B w g;
    }

-- an expression whose first word is another is not eps
not-eps : {k : List ℕ} {at : ℕ} {R : Expr} {w : List ℕ} → (get_or k at 0 ≡ 7000 → ⊥) → Here k at R w → is_eps R ≡ false
not-eps {k} {at} {R} {w} n g =
    cases (λ R w. is_eps R ≡ false) (λ y w. absurd (n y)) (λ y a b w h o. refl) (λ y a b w h o. refl) (λ y a w h. refl) (λ f y u a w h. refl) R w g

pub enclosed-more : {k : List ℕ} {from until : ℕ} {o : Outside} {rest rest' : List ℕ} {r : Outside} → (get_or k from 0 ≡ 7000 → ⊥) → from ≤ until
    → Widened k from until o rest rest' r → Enclosed k from until o rest rest' r
enclosed-more {k} {from} {until} {o} {rest} {rest'} {r} n le a =
    let p = a.parts in
    let w = a.words in
    record {
      few = omega arith;
      less = omega arith;
      short = omega arith;
      keeps = a.keeps;
      each = λ B v ws g u l.
          let e = not-eps n g in
          let s = words-here g u in
          let x = length-append (expr_words B) ws in
          enclosed-not e (omega arith) (omega arith) (λ h. subst (λ l. Holds rest' (l ++ ws)) s (a.held ws l h));
    }

-- ---- what the first part gets from outside

pub handed-star : {k : List ℕ} {at mid : ℕ} {o : Outside} {rest rest' : List ℕ} {r : Outside} → get_or k at 0 ≡ 7003 → at ≤ mid → mid ≤ length k → length k ≤ desk.question
    → Widened k at mid o rest rest' r → Handed k at mid o rest rest' r
handed-star {k} {at} {mid} {o} {rest} {rest'} {r} z le lk lq a =
    let p = a.parts in
    let w = a.words in
    record { few = omega arith; short = omega arith; star = λ y. a; cat = λ y. absurd (omega arith); alt = λ n m. absurd (n z) }

pub handed-cat : {k : List ℕ} {at mid : ℕ} {o : Outside} {rest rest' : List ℕ} {r : Outside} {end : ℕ} → get_or k at 0 ≡ 7001 → end ≤ length k → length k ≤ desk.question
    → Past k mid end → Enclosed k mid end o rest rest' r → Handed k at mid o rest rest' r
handed-cat {k} {at} {mid} {o} {rest} {rest'} {r} {end} z lk lq e a =
    let p = a.few in
    let w = a.short in
    record { few = p; short = omega arith; star = λ y. absurd (omega arith); cat = λ y. record { end = end; past = e; enclosed = a }; alt = λ n m. absurd (m z) }

pub handed-alt : {k : List ℕ} {at mid : ℕ} {o : Outside} {rest : List ℕ} → (get_or k at 0 ≡ 7003 → ⊥) → (get_or k at 0 ≡ 7001 → ⊥) → Handed k at mid o rest rest o
handed-alt n m = record { few = omega arith; short = omega arith; star = λ y. absurd (n y); cat = λ y. absurd (m y); alt = λ n m. (refl, refl) }

-- ---- the first part of a concatenation

first-added : {k : List ℕ} {s : Kept} {o : Outside} {r₀ o₀ : List ℕ} {t : ℕ} {x mid end : ℕ} {i : Outside} {r₁ r₂ o₂ : List ℕ} {a : Walked}
    → Past k mid end → Enclosed k mid end o r₀ r₁ i → Walks k s x i r₁ o₀ t r₂ o₂ a → (A B : Expr) (w ws : List ℕ) → Here k x A (expr_words B ++ w) → Here k mid B w → length ws ≡ o.words
    → Added s.number (map (row_words k s) (met A (pick (is_eps B) o.parts (suc o.parts)) (pick (is_eps B) ws (expr_words B ++ ws)))) ws r₀ o₀ t r₂ o₂ a.to
first-added {k} {s} e p b A B w ws h g l =
    let c = p.each B w ws g (e.each B w g) l in
    let q = b.each A (expr_words B ++ w) (pick (is_eps B) ws (expr_words B ++ ws)) h c.words in
    let d = p.less in
    let f = c.words in
    added-inner (omega arith) (rw l p.keeps) c.held (added-same (ap (λ n. map (row_words k s) (met A n (pick (is_eps B) ws (expr_words B ++ ws)))) (sym c.parts)) q.added)

-- ---- by the word

module _ {k : List ℕ} {s : Kept} {at : ℕ} {o : Outside} {r₀ o₀ : List ℕ} {t : ℕ} (fit : t ≤ length o₀) where
  pub walks-end : length k ≤ at → Walks k s at o r₀ o₀ t r₀ o₀ (record { null = false; to = t })
  walks-end z = record { room = fit; each = λ R w ws g l. past_end (λ R w. WalksOver k s R o.parts ws r₀ o₀ t r₀ o₀ (record { null = false; to = t })) z R w g }

  pub walks-eps : get_or k at 0 ≡ 7000 → Walks k s at o r₀ o₀ t r₀ o₀ (record { null = true; to = t })
  walks-eps z =
      record {
        room = fit;
        each = λ R w ws g l. by-eps (λ R w. WalksOver k s R o.parts ws r₀ o₀ t r₀ o₀ (record { null = true; to = t })) z (λ w. record { null = refl; added = added_none }) R w g;
      }

module _ {k : List ℕ} {s : Kept} {at : ℕ} {o : Outside} {r₀ o₀ : List ℕ} {t : ℕ} {mid : ℕ} (m : Past k (at + 1) mid) where
  pub walks-over : {o₁ : List ℕ} {t₁ : ℕ} → get_or k at 0 < 7000 → Rowed k s (record { place = at; past = mid; parts = o.parts; words = o.words }) r₀ o₀ t o₁ t₁
      → Walks k s at o r₀ o₀ t r₀ o₁ (record { null = false; to = t₁ })
  walks-over {o₁} {t₁} z a =
      record {
        room = a.room;
        each = λ R w ws g l. by_over (λ R w. Here k at R w → WalksOver k s R o.parts ws r₀ o₀ t r₀ o₁ (record { null = false; to = t₁ })) z (λ f y u A w h g.
            let n = m.each A w h in
            let x : mid ≡ at + length (expr_words (over f A)) = omega arith in
            record { null = refl; added = added-one (record { name = f; inner = A; parts = o.parts; words = ws }) a (words-here g x) refl (sym l) }) R w g g;
      }

  walks-widened : {i : Outside} {r₁ r₂ o₂ : List ℕ} {a : Walked} → get_or k at 0 ≡ 7003 → Widened k at mid o r₀ r₁ i → Walks k s (at + 1) i r₁ o₀ t r₂ o₂ a
      → Walks k s at o r₀ o₀ t r₂ o₂ (record { null = true; to = a.to })
  walks-widened {i} {r₁} {r₂} {o₂} {a} z p b =
      record {
        room = b.room;
        each = λ R w ws g l. by-star (λ R w. Here k at R w → WalksOver k s R o.parts ws r₀ o₀ t r₂ o₂ (record { null = true; to = a.to })) z (λ A w h g.
            let n = m.each A w h in
            let x : mid ≡ at + length (expr_words (star A)) = omega arith in
            let y = words-here g x in
            let c = p.parts in
            let d = p.words in
            let v = length-append (expr_words (star A)) ws in
            let f : suc o.parts ≡ i.parts = omega arith in
            let q = b.each A w (expr_words (star A) ++ ws) h (omega arith) in
            record {
              null = refl;
              added = added-inner (omega arith) (rw l p.keeps) (λ e. subst (λ l. Holds r₁ (l ++ ws)) y (p.held ws l e)) (added-same (ap (λ n. map (row_words k s) (met A n (expr_words (star A) ++ ws))) f) q.added);
            }) R w g g;
      }

  -- the first part of a concatenation has been walked over
  module _ {end : ℕ} {i : Outside} {r₁ r₂ o₂ : List ℕ} {a : Walked} (e : Past k mid end) (p : Enclosed k mid end o r₀ r₁ i) (b : Walks k s (at + 1) i r₁ o₀ t r₂ o₂ a) where
    walks-shut : get_or k at 0 ≡ 7001 → a.null ≡ false → Walks k s at o r₀ o₀ t r₂ o₂ a
    walks-shut z n =
        record {
          room = b.room;
          each = λ R w ws g l. by-cat (λ R w. WalksOver k s R o.parts ws r₀ o₀ t r₂ o₂ a) z (λ A B w h f.
              let g = second-of h f (m.each A _ h) in
              let c = p.each B w ws g (e.each B w g) l in
              let q = b.each A (expr_words B ++ w) (pick (is_eps B) ws (expr_words B ++ ws)) h c.words in
              let y : nullable A ≡ false = sym q.null ∙ n in
              record { null = n ∙ ap (λ b. b && nullable B) (sym y); added = added-same (rw (y, append-nil)) (first-added e p b A B w ws h g l) }) R w g;
        }

    walks-open : {r₃ o₃ : List ℕ} {c : Walked} {u : Bool} → get_or k at 0 ≡ 7001 → a.null ≡ true → u ≡ c.null → Walks k s mid o r₂ o₂ a.to r₃ o₃ c
        → Walks k s at o r₀ o₀ t r₃ o₃ (record { null = u; to = c.to })
    walks-open {r₃} {o₃} {c} {u} z n m' d =
        record {
          room = d.room;
          each = λ R w ws g l. by-cat (λ R w. WalksOver k s R o.parts ws r₀ o₀ t r₃ o₃ (record { null = u; to = c.to })) z (λ A B w h f.
              let g = second-of h f (m.each A _ h) in
              let c = p.each B w ws g (e.each B w g) l in
              let q = b.each A (expr_words B ++ w) (pick (is_eps B) ws (expr_words B ++ ws)) h c.words in
              let v = d.each B w ws g l in
              let y : nullable A ≡ true = sym q.null ∙ n in
              record {
                null = m' ∙ v.null ∙ ap (λ b. b && nullable B) (sym y);
                added = added-same (rw (y, map-append)) (added-append (first-added e p b A B w ws h g l) v.added);
              }) R w g;
        }

  -- both parts of a choice have been walked over
  walks-choice : {r₁ o₁ : List ℕ} {a : Walked} {r₂ o₂ : List ℕ} {b : Walked} {n : Bool} → Walks k s (at + 1) o r₀ o₀ t r₁ o₁ a → Walks k s mid o r₁ o₁ a.to r₂ o₂ b
      → (get_or k at 0 ≡ 7000 → ⊥) → (get_or k at 0 ≡ 7001 → ⊥) → (get_or k at 0 ≡ 7003 → ⊥) → 7000 ≤ get_or k at 0 → n ≡ (a.null || b.null)
      → Walks k s at o r₀ o₀ t r₂ o₂ (record { null = n; to = b.to })
  walks-choice {r₁} {o₁} {a} {r₂} {o₂} {b} {n} c d n0 n1 n3 lo e =
      record {
        room = d.room;
        each = λ R w ws g l. by-alt (λ R w. WalksOver k s R o.parts ws r₀ o₀ t r₂ o₂ (record { null = n; to = b.to })) (is-alt g n0 n1 n3 lo) (λ A B w h f.
            let x = c.each A _ ws h l in
            let y = d.each B w ws (second-of h f (m.each A _ h)) l in
            record {
              null = e ∙ ap (λ u. u || b.null) x.null ∙ ap (λ u. nullable A || u) y.null;
              added = added-same (map-append (row_words k s) (met A o.parts ws) (met B o.parts ws)) (added-append x.added y.added);
            }) R w g;
      }

  -- what is handed down, and the first part walked over
  module _ {i : Outside} {r₁ r₂ o₂ : List ℕ} {a : Walked} (p : Handed k at mid o r₀ r₁ i) (b : Walks k s (at + 1) i r₁ o₀ t r₂ o₂ a) where
    pub walks-star : get_or k at 0 ≡ 7003 → Walks k s at o r₀ o₀ t r₂ o₂ (record { null = true; to = a.to })
    walks-star z = walks-widened z (p.star z) b

    pub walks-first : {c : Bool} → c ≡ closes (get_or k at 0) a.null → c ≡ true → Walks k s at o r₀ o₀ t r₂ o₂ a
    walks-first e c = let h = closed-by (get_or k at 0) a.null (sym e ∙ c) in let q = p.cat h.0 in walks-shut q.past q.enclosed b h.0 h.1

    -- and the second
    module _ {r₃ o₃ : List ℕ} {d : Walked} {u : Bool} (v : Walks k s mid o r₂ o₂ a.to r₃ o₃ d) (n0 : get_or k at 0 ≡ 7000 → ⊥) (n3 : get_or k at 0 ≡ 7003 → ⊥) (lo : 7000 ≤ get_or k at 0)
        (f : closes (get_or k at 0) a.null ≡ false) (g : u ≡ joined (get_or k at 0) a.null d.null) where
      walks-joined : Dec7001 (get_or k at 0) → Walks k s at o r₀ o₀ t r₃ o₃ (record { null = u; to = d.to })
      walks-joined (inl z) =
          let q = p.cat z in
          let n = open_by (get_or k at 0) a.null z f in
          walks-open q.past q.enclosed b z n (g ∙ joined-cat (get_or k at 0) a.null d.null z n) v
      walks-joined (inr z) =
          let q = p.alt n3 z in
          walks-choice (subst (λ r. Walks k s (at + 1) o r o₀ t r₂ o₂ a) q.1 (subst (λ i. Walks k s (at + 1) i r₁ o₀ t r₂ o₂ a) q.0 b)) v n0 z n3 lo (g ∙ joined-alt (get_or k at 0) a.null d.null z)

      pub walks-both : Walks k s at o r₀ o₀ t r₃ o₃ (record { null = u; to = d.to })
      walks-both = walks-joined (is-cat (get_or k at 0))

-- ---- the whole, with nothing outside

module _ {k : List ℕ} (s : Shape) (number : ℕ) {t : Kept} {rest out : List ℕ} {at : ℕ} {rest' out' : List ℕ} {r : Walked} (e : t ≡ kept_of s number)
    (w : Walks k t s.expr (record { parts = 0; words = 0 }) rest out at rest' out' r) where
  all-added : {before : Conj} {h : Hedge} {R : Expr} {behind : Conj} → Shows k s before h R behind → Added number (monomial_words before h R behind) [] rest out at rest' out' r.to
  all-added {before = before} {h = h} {R = R} {behind = behind} v =
      subst (λ n. Added n (monomial_words before h R behind) [] rest out at rest' out' r.to) (ap (λ (t : Kept). t.number) e)
      (added-same (rows v number ∙ ap (λ t. map (row_words k t) (met R 0 [])) (sym e)) (w.each R (conj_words behind) [] (record { fine = v.fine; words = v.here }) refl).added)

  pub walk-writes : desk.question ≤ length rest → Written k s number out at out' r.to
  walk-writes q = record { each = λ before h R behind v d. (all-added v).wrote (holds-none rest) q d.short d.room }
