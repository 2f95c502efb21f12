-- Laws of complete hedges: two in a row, what makes nothing, the number of trees, and their words.
use Prim.Native.Nat.{ℕ, suc, ◌+◌}
use mathlib.Core.Path.{◌≡◌, refl, sym, ◌∙◌, ap}
use mathlib.Core.List.{List, [], ◌∷◌, ◌++◌, append_assoc}
use native.Mathlib.Omega.{arith}
use Rattle.language.specs.declared.Sym.{Sym}
use Rattle.meaning.specs.Complete.{Complete, nil, tree, ◌·◌, complete_words}

pub nil≢tree : {f : Sym} {c k : Complete} → nil ≡ tree f c k → ⊥
nil≢tree e = let z : ◌≡◌ {A = ℕ} 0 1 = cc in omega arith

pub ·-nil : (g : Complete) → g · nil ≡ g
·-nil nil = refl
·-nil (tree f c r) = ap (tree f c) (·-nil r)

pub ·-assoc : (a b c : Complete) → (a · b) · c ≡ a · (b · c)
·-assoc nil b c = refl
·-assoc (tree f d r) b c = ap (tree f d) (·-assoc r b c)

pub nil-parts : (u v : Complete) → nil ≡ u · v → (u ≡ nil) × (v ≡ nil)
nil-parts nil v e = (refl, sym e)
nil-parts (tree f c u) v e = absurd (nil≢tree e)

-- ---- how many trees

abbrev pub trees : Complete → ℕ
trees nil = 0
trees (tree f c r) = suc (trees c + trees r)

pub trees-· : (g k : Complete) → trees (g · k) ≡ trees g + trees k
trees-· nil k = omega arith
trees-· (tree f c r) k = omega (arith, trees-· r k)

pub trees-none : (g : Complete) → trees g ≡ 0 → g ≡ nil
trees-none nil e = refl
trees-none (tree f c r) e = absurd (omega arith)

-- ---- their words

nil≢word : {A : Type 0} (x : ℕ) {k k' : List ℕ} → ◌≡◌ {A = List ℕ} (0 ∷ k) ((3000 + x) ∷ k') → A
nil≢word x e = absurd (let z : 0 ≡ 3000 + x = cc in omega arith)

-- whatever follows them, the words of a complete hedge are those of no other
own-words : (a b : Complete) (k k' : List ℕ) → complete_words a ++ k ≡ complete_words b ++ k' → (a ≡ b) × (k ≡ k')
own-words nil nil k k' e = (refl, cc)
own-words nil (tree g d s) k k' e = nil≢word g.0 e
own-words (tree f c r) nil k k' e = nil≢word f.0 (sym e)
own-words (tree f c r) (tree g d s) k k' e =
    let z : 3000 + f.0 ≡ 3000 + g.0 = cc in
    let y : f.0 ≡ g.0 = omega arith in
    let fg : f ≡ g = ap (λ n. record { 0 = n }) y in
    let t : (complete_words c ++ complete_words r) ++ k ≡ (complete_words d ++ complete_words s) ++ k' = cc in
    let u = own-words c d (complete_words r ++ k) (complete_words s ++ k') (sym (append_assoc (complete_words c) (complete_words r) k) ∙ t ∙ append_assoc (complete_words d) (complete_words s) k') in
    let v = own-words r s k k' u.1 in
    let cd = u.0 in
    let rs = v.0 in
    (cc, v.1)

pub words-apart : (a b : Complete) → complete_words a ≡ complete_words b → a ≡ b
words-apart a b e = (own-words a b [] [] (ap (λ l. l ++ []) e)).0
