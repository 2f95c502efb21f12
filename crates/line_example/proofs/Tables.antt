-- Tables of offsets: of two rows of parts, and the last offset.
use Prim.Native.Nat.{ℕ, zero, suc, ◌+◌}
use mathlib.Core.Path.{◌≡◌, refl, sym, ap, ◌∙◌}
use mathlib.Core.List.{List, [], ◌∷◌, ◌++◌, append_assoc}
use native.Mathlib.Omega.{arith}
use lib.ListN.{length, length-append, length-map}
use Rattle.meaning.specs.Values.{offsets_of, joined, numbers}
use Rattle.language.specs.declared.Sym.{Sym}
use Rattle.language.specs.Trees.{Conj, Var}
use Rattle.line_example.specs.Rows.{values_by, starts}

pub joined-row : (a b : List (List ℕ)) → joined (a ++ b) ≡ joined a ++ joined b
joined-row [] b = refl
joined-row (ws ∷ a) b = ap (λ l. ws ++ l) (joined-row a b) ∙ sym (append_assoc ws (joined a) (joined b))

pub starts-row : (at : ℕ) (a b : List (List ℕ)) → starts at (a ++ b) ≡ starts at a ++ starts (at + length (joined a)) b
starts-row at [] b = let z : at + 0 ≡ at = omega arith in ap (λ i. starts i b) (sym z)
starts-row at (ws ∷ a) b =
    let n = length-append ws (joined a) in
    let z : at + length ws + length (joined a) ≡ at + length (ws ++ joined a) = omega arith in
    ap (λ l. at ∷ l) (starts-row (at + length ws) a b) ∙ ap (λ i. at ∷ (starts (at + length ws) a ++ starts i b)) z

pub offsets-starts : (at : ℕ) (wss : List (List ℕ)) → offsets_of at wss ≡ starts at wss ++ ((at + length (joined wss)) ∷ [])
offsets-starts at [] = let z : at + 0 ≡ at = omega arith in ap (λ i. i ∷ []) (sym z)
offsets-starts at (ws ∷ wss) =
    let n = length-append ws (joined wss) in
    let z : at + length ws + length (joined wss) ≡ at + length (ws ++ joined wss) = omega arith in
    ap (λ l. at ∷ l) (offsets-starts (at + length ws) wss) ∙ ap (λ i. at ∷ (starts (at + length ws) wss ++ (i ∷ []))) z

pub length-offsets : (at : ℕ) (wss : List (List ℕ)) → length (offsets_of at wss) ≡ length wss + 1
length-offsets at [] = refl
length-offsets at (ws ∷ wss) = let e = length-offsets (at + length ws) wss in omega arith

length-numbers : (from n : ℕ) → length (numbers from n) ≡ n
length-numbers from zero = refl
length-numbers from (suc n) = ap suc (length-numbers (suc from) n)

pub length-values : (any : Sym) (c : Conj) (make : ℕ → Var) (n : ℕ) → length (values_by any c make 0 n) ≡ n
unfolding values_by
length-values any c make n = length-map (numbers 0 n) _ ∙ length-numbers 0 n
