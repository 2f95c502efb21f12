-- Marked places listed in order, and the symbols that they are.
use Prim.Native.Nat.{ℕ, zero, suc, ◌+◌, ◌<◌, ◌≤◌}
use mathlib.Core.Path.{◌≡◌, refl, sym, ◌∙◌, ap, subst}
use mathlib.Core.Bool.{Bool, true, false}
use mathlib.Core.List.{List}
use native.Mathlib.Omega.{arith}
use native.Mathlib.Decide.{ℕ_discrete}
use lib.ListN.{length, get_or, set, replicate, length-set}
use Rattle.language.specs.Kinds.{pick}
use lib.Seq.{get_or-set_same, get_or-set_other}
use Rattle.clash.specs.Symbols.{Collected}
use Rattle.state_classes.proofs.Peeling.{differ}

pub collected-start : {marks : List Bool} {from : ℕ} {list : List ℕ} → Collected marks from from list 0
collected-start = record { few = omega arith; each = λ i l. absurd (omega arith); sound = λ i l. absurd (omega arith); whole = λ p l h. absurd (omega arith) }

pub collected-pass : {marks : List Bool} {from i n : ℕ} {list : List ℕ} → get_or marks i false ≡ false → Collected marks from i list n → Collected marks from (i + 1) list n
collected-pass {marks} {from} {i} {n} {list} e c =
    record {
      few = let x = c.few in omega arith;
      each = λ j l. let x = c.each j l in omega arith;
      sound = c.sound;
      whole = λ p l h m. go p l h m (ℕ_discrete p i);
    }
  where
    go : (p : ℕ) → from ≤ p → p < i + 1 → get_or marks p false ≡ true → Dec (p ≡ i) → (j : ℕ) × (j < n) × (get_or list j 0 ≡ p)
    go p l h m (yes d) = differ (sym m ∙ ap (λ p. get_or marks p false) d ∙ e)
    go p l h m (no d) = c.whole p l (omega arith) m

pub collected-more : {marks : List Bool} {from i n x : ℕ} {list : List ℕ} → get_or marks i false ≡ true → n < length list → x ≡ i → Collected marks from i list n
    → Collected marks from (i + 1) (set list n x) (n + 1)
collected-more {marks} {from} {i} {n} {x} {list} e l d c =
    record {
      few = let x = c.few in omega arith;
      each = λ j m. each j m (ℕ_discrete j n);
      sound = λ j m. sound j m (ℕ_discrete j n);
      whole = λ p m h k. whole p m h k (ℕ_discrete p i);
    }
  where
    new : get_or (set list n x) n 0 ≡ i
    new = get_or-set_same list n x 0 l ∙ d

    old : (j : ℕ) → j < n → get_or (set list n x) j 0 ≡ get_or list j 0
    old j h = get_or-set_other list n j x 0 (omega arith)

    each : (j : ℕ) → j < n + 1 → Dec (j ≡ n) → get_or (set list n x) j 0 < i + 1
    each j m (yes f) = let z = ap (λ j. get_or (set list n x) j 0) f ∙ new in omega arith
    each j m (no f) = let z = old j (omega arith) in let y = c.each j (omega arith) in omega arith

    sound : (j : ℕ) → j < n + 1 → Dec (j ≡ n) → get_or marks (get_or (set list n x) j 0) false ≡ true
    sound j m (yes f) = ap (λ p. get_or marks p false) (ap (λ j. get_or (set list n x) j 0) f ∙ new) ∙ e
    sound j m (no f) = ap (λ p. get_or marks p false) (old j (omega arith)) ∙ c.sound j (omega arith)

    whole : (p : ℕ) → from ≤ p → p < i + 1 → get_or marks p false ≡ true → Dec (p ≡ i) → (j : ℕ) × (j < n + 1) × (get_or (set list n x) j 0 ≡ p)
    whole p m h k (yes f) = (n, omega arith, new ∙ sym f)
    whole p m h k (no f) = let (j, y, z) = c.whole p m (omega arith) k in (j, omega arith, old j y ∙ z)

-- one place more, as the code has it
pub one-yes : (mark : Bool) (list : List ℕ) (n i x : ℕ) → mark ≡ true → x ≡ i → (n + 1 ≡ pick mark (n + 1) n) × (set list n x ≡ pick mark (set list n i) list)
one-yes true list n i x e d = (refl, ap (set list n) d)
one-yes false list n i x e d = differ (sym e)

pub one-no : (mark : Bool) (list : List ℕ) (n i : ℕ) → mark ≡ false → (n ≡ pick mark (n + 1) n) × (list ≡ pick mark (set list n i) list)
one-no true list n i e = differ e
one-no false list n i e = (refl, refl)

pub collected-step : {marks : List Bool} {from i n m : ℕ} {list new : List ℕ} (mark : Bool) → get_or marks i false ≡ mark → n < length list → m ≡ pick mark (n + 1) n
    → new ≡ pick mark (set list n i) list → Collected marks from i list n → (length new ≡ length list) × Collected marks from (i + 1) new m
collected-step {marks} {from} {i} {n} {m} {list} {new} true e l d f c = (ap length f ∙ length-set list n i, rw (d, f) (collected-more e l refl c))
collected-step {marks} {from} {i} {n} {m} {list} {new} false e l d f c = (ap length f, rw (d, f) (collected-pass e c))

pub collected-to : {marks : List Bool} {from i j n : ℕ} {list : List ℕ} → i ≡ j → Collected marks from i list n → Collected marks from j list n
collected-to {marks} {from} {n = n} {list = list} e c = subst (λ i. Collected marks from i list n) e c

-- nothing is marked at first
pub blank : (n i : ℕ) → get_or (replicate n false) i false ≡ false
blank zero i = refl
blank (suc n) zero = refl
blank (suc n) (suc i) = blank n i
