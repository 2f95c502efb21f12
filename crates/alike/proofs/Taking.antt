-- Which tree is taken next, and that its mark is all that changes: what is left then is what `take_out` leaves.
use Prim.Native.Nat.{ℕ, ◌+◌, ◌<◌, ◌≤◌}
use mathlib.Core.Path.{◌≡◌, refl, sym, ap, ◌∙◌}
use mathlib.Core.Bool.{Bool, true, false}
use mathlib.Core.Option.{Option, none, some, map}
use mathlib.Core.List.{List}
use native.Mathlib.Omega.{arith}
use native.Mathlib.Decide.{ℕ_discrete}
use lib.ListN.{length, get_or, set}
use lib.Seq.{get_or-set_same, get_or-set_other}
use Rattle.language.specs.declared.Sym.{Sym}
use Rattle.language.specs.Kinds.{pick}
use Rattle.meaning.specs.Complete.{Complete, nil, tree}
use Rattle.meaning.specs.Deciding.{take_out}
use Rattle.passing.specs.Places.{size_c, Beside}
use Rattle.alike.specs.Taking.{left, found, Tops}

-- ---- what the marks of the trees decide

pub left-tops : (k k' : List Bool) (j : ℕ) (h : Complete) → Tops k k' j h → left k' j h ≡ left k j h
left-tops k k' j nil t = refl
left-tops k k' j (tree f c r) (e, t) = rw (e, left-tops k k' (j + 1 + size_c c) r t)

pub tops-high : (k k' : List Bool) (j : ℕ) (h : Complete) → ((z : ℕ) → j ≤ z → get_or k' z false ≡ get_or k z false) → Tops k k' j h
tops-high k k' j nil e = tt
tops-high k k' j (tree f c r) e = (e j (omega arith), tops-high k k' (j + 1 + size_c c) r (λ z p. e z (omega arith)))

pub tops-trans : (k k' l : List Bool) (j : ℕ) (h : Complete) → Tops k k' j h → Tops k' l j h → Tops k l j h
tops-trans k k' l j nil s t = tt
tops-trans k k' l j (tree f c r) (d, s) (e, t) = (e ∙ d, tops-trans k k' l (j + 1 + size_c c) r s t)

module _ (k k' : List Bool) (q : ℕ) (v : Bool) (len : length k' ≡ length k) (inside : q < length k) where
  set-alike : (j : ℕ) → get_or k' j false ≡ get_or k j false → Dec (j ≡ q) → get_or (set k' q v) j false ≡ get_or (set k q v) j false
  set-alike j e (yes z) = rw z (get_or-set_same k' q v false (omega arith) ∙ sym (get_or-set_same k q v false inside))
  set-alike j e (no n) = get_or-set_other k' q j v false n ∙ e ∙ sym (get_or-set_other k q j v false n)

  pub tops-set : (j : ℕ) (h : Complete) → Tops k k' j h → Tops (set k q v) (set k' q v) j h
  tops-set j nil t = tt
  tops-set j (tree f c r) (e, t) = (set-alike j e (ℕ_discrete j q), tops-set (j + 1 + size_c c) r t)

-- nothing is marked
pub left-all : (k : List Bool) (j : ℕ) (h : Complete) → ((z : ℕ) → j ≤ z → z < j + size_c h → get_or k z false ≡ false) → left k j h ≡ h
left-all k j nil e = refl
left-all k j (tree f c r) e = rw (e j (omega arith) (omega arith), left-all k (j + 1 + size_c c) r (λ z p q. e z (omega arith) (omega arith)))

-- ---- a hedge within another: the trees from p on

pub data Within : ℕ → Complete → ℕ → Complete → Type 0 where
  here : {j : ℕ} {h : Complete} → Within j h j h
  later : {j p : ℕ} {f : Sym} {c r h : Complete} → Within (j + 1 + size_c c) r p h → Within j (tree f c r) p h

pub within_low : {j p : ℕ} {h r : Complete} → Within j h p r → j ≤ p
within_low here = omega arith
within_low (later i) = omega (arith, within_low i)

pub within-ends : {j p : ℕ} {h r : Complete} → Within j h p r → p + size_c r ≡ j + size_c h
within-ends here = refl
within-ends (later i) = omega (arith, within-ends i)

pub within_on : {j p : ℕ} {h : Complete} {f : Sym} {c r : Complete} → Within j h p (tree f c r) → Within j h (p + 1 + size_c c) r
within_on here = later here
within_on (later i) = later (within_on i)

-- what changes below a tree changes the mark of none
pub tops-below : {k k' : List Bool} {j p : ℕ} {h : Complete} {f : Sym} {c r : Complete} → Within j h p (tree f c r) → Beside k k' (p + 1) (p + 1 + size_c c) → Tops k k' j h
tops-below {k} {k'} {j} {r = r} here b = (b.low j (omega arith), tops-high k k' _ r (λ z q. b.high z q))
tops-below {j = j} (later i) b = (b.low j (omega (arith, within_low i)), tops-below i b)

-- ---- the tree that is taken

-- at q, and its mark is all that changes; or n says that there is none
pub data Out (k : List Bool) (j : ℕ) (h : Complete) (n : ℕ) : Option Complete → ℕ → Type 0 where
  nowhere : Out k j h n none n
  there : {q : ℕ} {s : Complete} → j ≤ q → q < j + size_c h → s ≡ left (set k q true) j h → Out k j h n (some s) q

module _ (n : ℕ) (k : List Bool) (b : Bool) (F : Sym → Complete → Bool) where
  module _ (j : ℕ) (f : Sym) (c r : Complete) (inside : j < length k) where
    -- it was taken before
    passed : get_or k j false ≡ true → {m : Option Complete} {q : ℕ} → Out k (j + 1 + size_c c) r n m q → Out k j (tree f c r) n m q
    passed e nowhere = nowhere
    passed e (there {q = q} lo hi s) =
        let z : left (set k q true) j (tree f c r) ≡ left (set k q true) (j + 1 + size_c c) r = rw (get_or-set_other k q j true false (omega arith), e) in
        there {q = q} (omega arith) (omega arith) (s ∙ sym z)

    -- it stays
    stays : get_or k j false ≡ false → {m : Option Complete} {q : ℕ} → Out k (j + 1 + size_c c) r n m q → Out k j (tree f c r) n (map (tree f c) m) q
    stays e nowhere = nowhere
    stays e (there {q = q} lo hi s) =
        let z : left (set k q true) j (tree f c r) ≡ tree f c (left (set k q true) (j + 1 + size_c c) r) = rw (get_or-set_other k q j true false (omega arith), e) in
        there {q = q} (omega arith) (omega arith) (ap (tree f c) s ∙ sym z)

    -- it is the one
    taken_here : Out k j (tree f c r) n (some (left k (j + 1 + size_c c) r)) j
    taken_here =
        let t = left-tops k (set k j true) (j + 1 + size_c c) r (tops-high k (set k j true) (j + 1 + size_c c) r (λ z p. get_or-set_other k j z true false (omega arith))) in
        let z : left (set k j true) j (tree f c r) ≡ left (set k j true) (j + 1 + size_c c) r = rw (get_or-set_same k j true false inside) in
        there {q = j} (omega arith) (omega arith) (sym (z ∙ t))

  pub taken : (j : ℕ) (h : Complete) → j + size_c h ≤ length k → Out k j h n (take_out b F (left k j h)) (found n k b F j h)
  taken j nil p = nowhere
  taken j (tree f c r) p = mark (get_or k j false) refl b (taken (j + 1 + size_c c) r (omega arith))
    where
      free-any : (v : Bool) → get_or k j false ≡ false → {m : Option Complete} {q : ℕ} → Out k (j + 1 + size_c c) r n m q
          → Out k j (tree f c r) n (pick v (some (left k (j + 1 + size_c c) r)) (map (tree f c) m)) (pick v j q)
      free-any true e o = taken_here j f c r (omega arith)
      free-any false e o = stays j f c r (omega arith) e o

      free-first : (v : Bool) → Out k j (tree f c r) n (pick v (some (left k (j + 1 + size_c c) r)) none) (pick v j n)
      free-first true = taken_here j f c r (omega arith)
      free-first false = nowhere

      mark : (m : Bool) → get_or k j false ≡ m → (a : Bool) → Out k (j + 1 + size_c c) r n (take_out a F (left k (j + 1 + size_c c) r)) (found n k b F (j + 1 + size_c c) r)
          → Out k j (tree f c r) n (take_out a F (pick m (left k (j + 1 + size_c c) r) (tree f c (left k (j + 1 + size_c c) r))))
          (pick m (found n k b F (j + 1 + size_c c) r) (pick (F f c) j (pick a (found n k b F (j + 1 + size_c c) r) n)))
      mark true e a o = passed j f c r (omega arith) e o
      mark false e true o = free-any (F f c) e o
      mark false e false o = free-first (F f c)

-- ---- what the place says

module _ {k : List Bool} {j : ℕ} {h : Complete} where
  pub out_none : {n p : ℕ} {m : Option Complete} → j + size_c h ≤ n → n ≤ p → Out k j h n m p → m ≡ none
  out_none f l nowhere = refl
  out_none f l (there lo hi e) = absurd (omega arith)

  pub out_some : {n p : ℕ} {m : Option Complete} → p < n → Out k j h n m p → (m ≡ some (left (set k p true) j h)) × (j ≤ p) × (p < j + size_c h)
  out_some l nowhere = absurd (omega arith)
  out_some l (there lo hi e) = (ap some e, lo, hi)
