-- Along the trees of the left: each takes one of the right.
use Prim.Native.Nat.{ℕ, ◌+◌, ◌<◌, ◌≤◌}
use mathlib.Core.Path.{◌≡◌, sym, ap, ◌∙◌}
use mathlib.Core.Bool.{Bool, true, false}
use mathlib.Core.Option.{none, some}
use mathlib.Core.List.{List}
use native.Mathlib.Omega.{arith}
use borrow.Author.Tests.{eq-eqb, ne_eqb}
use lib.Dec.{eqb}
use lib.ListN.{length, get_or, set, length-set}
use Rattle.language.specs.declared.Sym.{Sym}
use Rattle.language.specs.declared.Signature.{Signature}
use Rattle.meaning.specs.Complete.{Complete, nil, tree}
use Rattle.meaning.specs.Deciding.{is_nil, take_out, same_up_to}
use Rattle.passing.specs.Places.{size_c, Holds, at-nil, at-tree, Hedge, Skipped, Beside, Cleared}
use Rattle.passing.proofs.Standing.{holds-lt, holds_fits, by-nil, by-tree, rest, child, behind}
use Rattle.passing.proofs.Beside.{beside-refl, beside-wide, beside_trans, beside-set}
use Rattle.alike.specs.Taking.{fit, left}
use Rattle.alike.specs.Tasks.{Passed, Found, Compared}
use Rattle.alike.proofs.Taking.{left-all, left-tops, tops-set, Out, taken, out_none, out_some}

-- what is to be compared of g and h: `first` of the one, and what is left of `second` of the other
pub record Matched (σ : Signature) (w : List ℕ) (b : Bool) (k : List Bool) (x y : ℕ) (g h : Complete) : Type 0 where
  pub first : Complete
  pub second : Complete
  pub one : Holds w x first
  pub other : Holds w y second
  pub goes : same_up_to σ g b h ≡ same_up_to σ first b (left k y second)

pub record Comparing (σ : Signature) (w : List ℕ) (i j : ℕ) (b : Bool) (n : ℕ) (k₀ k : List Bool) (x y : ℕ) : Type 0 where
  pub one : Hedge w x
  pub other : Hedge w y
  pub ends : y + size_c other.g ≡ n
  pub long : length w ≤ length k
  pub on : i ≤ x
  pub low : j ≤ y
  pub beside : Beside k₀ k j n
  pub free : (get_or w y 0 ≡ 0 → ⊥) → get_or k y false ≡ false
  pub each : (g h : Complete) → Holds w i g → Holds w j h → Matched σ w b k x y g h

-- the test, a tree further
none_out : (σ : Signature) (f : Sym) (c r : Complete) (b : Bool) (h : Complete) → take_out b (fit σ f c) h ≡ none → same_up_to σ (tree f c r) b h ≡ false
none_out σ f c r b h e = ap (λ m. elim m [ none ↦ false | some k ↦ same_up_to σ r b k ]) e

one_out : (σ : Signature) (f : Sym) (c r : Complete) (b : Bool) (h k : Complete) → take_out b (fit σ f c) h ≡ some k → same_up_to σ (tree f c r) b h ≡ same_up_to σ r b k
one_out σ f c r b h k e = ap (λ m. elim m [ none ↦ false | some k ↦ same_up_to σ r b k ]) e

some_size : (g : Complete) → 0 < size_c g
some_size nil = omega arith
some_size (tree f c r) = omega arith

pub end-within : {w : List ℕ} {j n m : ℕ} → Hedge w j → Skipped w j n → length w ≤ m → (j ≤ n) × (n ≤ m)
end-within p s l = let e = s.each p.g p.here in let f = holds_fits p.here in (omega arith, omega arith)

-- the words of a tree follow its symbol
tree-less : {w : List ℕ} {x m : ℕ} → Hedge w x → (get_or w x 0 ≡ 0 → ⊥) → Skipped w (x + 1) m → x ≤ m
tree-less {x = x} {m = m} p z s = by-tree (λ _. x ≤ m) z (λ f c r e u v. omega (arith, s.each c u)) p.g p.here

pub marked-long : {σ : Signature} {w : List ℕ} {x y : ℕ} {k : List Bool} {b : Bool} {k' : List Bool} {p : ℕ} (v : Bool) → Found σ w x y k b k' p → length w ≤ length k → length w ≤ length (set k' p v)
marked-long {k' = k'} {p = p} v t l = omega (arith, length-set k' p v, t.len)

module _ {σ : Signature} {w : List ℕ} {i j : ℕ} {b : Bool} {n : ℕ} where
  pub compares-start : {k₁ k : List Bool} → Hedge w i → Hedge w j → length w ≤ length k₁ → Skipped w j n → Cleared k₁ k j n → Comparing σ w i j b n k k i j
  compares-start {k = k} p q l s c = record {
    one = p;
    other = q;
    ends = sym (s.each q.g q.here);
    long = omega (arith, c.beside.len);
    on = omega arith;
    low = omega arith;
    beside = beside-refl;
    free = λ z. c.clear j (omega arith) (omega (arith, s.each q.g q.here, some_size q.g));
    each = λ g h a d. let e = s.each h d in
        record { first = g; second = h; one = a; other = d; goes = ap (same_up_to σ g b) (sym (left-all k j h (λ z l u. c.clear z l (omega arith)))) };
  }

  module _ {k₀ k : List Bool} {x y : ℕ} (s : Comparing σ w i j b n k₀ k x y) where
    module _ (z : get_or w x 0 ≡ 0 → ⊥) {k' : List Bool} {p : ℕ} (t : Found σ w x y k b k' p) where
      -- the tree that takes
      taker : (P : Complete → Type 0) → ((f : Sym) (c r : Complete) → Holds w x (tree f c r) → P (tree f c r)) → (q : Complete) → Holds w x q → P q
      taker P a q h = by-tree P z (λ f c r e u v. a f c r (at-tree (holds-lt h) e u v)) q h

      out : (f : Sym) (c r h : Complete) → Holds w x (tree f c r) → Holds w y h → Out k y h (length w) (take_out b (fit σ f c) (left k y h)) p
      out f c r h a d = rw (t.each f c r h a d) (taken (length w) k b (fit σ f c) y h (omega (arith, holds_fits d, s.long)))

      beside-find : Beside k₀ k' j n
      beside-find = beside_trans s.beside (beside-wide (t.beside s.other.g s.other.here) s.low (omega (arith, s.ends)))

      -- there is none
      pub compares-stop : {k₁ : List Bool} → Skipped w j n → Cleared k₁ k₀ j n → length w ≤ p → Compared σ w i j k₁ b k' false
      compares-stop {k₁} m c l = record {
        len = t.len ∙ s.beside.len ∙ c.beside.len;
        beside = λ h d. let e = m.each h d in beside-wide (beside_trans c.beside beside-find) (omega arith) (omega arith);
        each = λ g h a d. let o = s.each g h a d in
            sym (o.goes ∙ taker (λ q. same_up_to σ q b (left k y o.second) ≡ false)
            (λ f c r u. none_out σ f c r b (left k y o.second) (out_none (holds_fits o.other) l (out f c r o.second u o.other))) o.first o.one);
      }

      -- one is taken
      pub compares-on : {k₂ : List Bool} {x₂ y₂ : ℕ} → p < length w → k₂ ≡ set k' p true → Passed w k₂ y y₂ → Skipped w (x + 1) x₂ → Comparing σ w i j b n k₀ k₂ x₂ y₂
      compares-on {k₂} {x₂} {y₂} l e q m =
          let o = q.each s.other.g s.other.here in
          record {
            one = rest s.one z m;
            other = record { g = o.rest; here = o.here };
            ends = o.ends ∙ s.ends;
            long = omega (arith, ap length e, length-set k' p true, t.len, s.long);
            on = omega (arith, tree-less s.one z m, s.on);
            low = omega (arith, q.later, s.low);
            beside = taker (λ _. Beside k₀ k₂ j n)
                (λ f c r u.
                let (_, lo, hi) = out_some l (out f c r s.other.g u s.other.here) in
                beside_trans beside-find (beside-wide (beside-set true e) (omega (arith, s.low)) (omega (arith, s.ends))))
                s.one.g s.one.here;
            free = q.free;
            each = λ g h a d. let v = s.each g h a d in
                taker (λ a. same_up_to σ g b h ≡ same_up_to σ a b (left k y v.second) → Matched σ w b k₂ x₂ y₂ g h)
                (λ f c r u d.
                let (is, _, _) = out_some l (out f c r v.second u v.other) in
                let o = q.each v.second v.other in
                let same : left k₂ y v.second ≡ left (set k p true) y v.second =
                rw e (left-tops (set k p true) (set k' p true) y v.second (tops-set k k' p true t.len (omega (arith, s.long)) y v.second (t.tops v.second v.other))) in
                record {
                  first = r;
                  second = o.rest;
                  one = rw (m.each c (child u)) (behind u);
                  other = o.here;
                  goes = d ∙ one_out σ f c r b (left k y v.second) (left (set k p true) y v.second) is ∙ ap (same_up_to σ r b) (sym same ∙ o.all);
                })
                v.first v.one v.goes;
          }

    -- all took one: the same where none is left
    pub compares-end : {k₁ : List Bool} → Skipped w j n → Cleared k₁ k₀ j n → get_or w x 0 ≡ 0 → Compared σ w i j k₁ b k (eqb (get_or w y 0) 0)
    compares-end {k₁} m c z = record {
      len = s.beside.len ∙ c.beside.len;
      beside = λ h d. let e = m.each h d in beside-wide (beside_trans c.beside s.beside) (omega arith) (omega arith);
      each = λ g h a d. let v = s.each g h a d in
          sym (v.goes ∙ by-nil (λ q. same_up_to σ q b (left k y v.second) ≡ eqb (get_or w y 0) 0) z (sym (none_left v.second v.other)) v.first v.one);
    }
      where
        none_left : (h : Complete) → Holds w y h → eqb (get_or w y 0) 0 ≡ is_nil (left k y h)
        none_left nil (at-nil l e) = eq-eqb (get_or w y 0) 0 e
        none_left (tree f c r) (at-tree l e u v) = ne_eqb (get_or w y 0) 0 (omega arith) ∙ rw (s.free (omega arith))
