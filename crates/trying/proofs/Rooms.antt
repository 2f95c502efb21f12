-- What is written into the work slice, and what stays.
use Prim.Native.Nat.{ℕ, suc, ◌+◌, ◌-◌, ◌≤◌}
use mathlib.Core.Path.{◌≡◌, refl, sym, ap, ◌∙◌}
use mathlib.Core.List.{List, [], ◌∷◌, ◌++◌}
use native.Mathlib.Nat.{zero-add}
use native.Mathlib.Omega.{arith}
use lib.ListN.{length, take, drop, set, length-append}
use lib.Seq.{sets, length-sets, sets-eq, drop-set-lt, take_at}
use Rattle.language.specs.Limits.{desk}
use Rattle.language.specs.Between.{between}
use Rattle.language.proofs.Stores.{sets-append}
use Rattle.rules.specs.Answer.{zeros, overwritten}
use Rattle.trying.specs.Tasks.{Keeps}

-- ---- what stays

drop-sets : (l : List ℕ) (i : ℕ) (vs : List ℕ) (m : ℕ) → i + length vs ≤ m → drop m (sets l i vs) ≡ drop m l
drop-sets l i [] m p = refl
drop-sets l i (v ∷ vs) m p = drop-sets (set l i v) (suc i) vs m (omega arith) ∙ drop-set-lt m l i v (omega arith)

pub keeps-none : (w : List ℕ) → Keeps w w
keeps-none w = record { len = refl; later = refl }

pub keeps-both : {u v w : List ℕ} → Keeps u v → Keeps v w → Keeps u w
keeps-both a b = record { len = b.len ∙ a.len; later = b.later ∙ a.later }

pub keeps-sets : (w : List ℕ) (i : ℕ) (vs : List ℕ) (w' : List ℕ) → w' ≡ sets w i vs → i + length vs ≤ desk.room → Keeps w w'
keeps-sets w i vs w' e p = record { len = ap length e ∙ length-sets w i vs; later = ap (drop desk.room) e ∙ drop-sets w i vs desk.room p }

pub keeps-cleared : {w w' : List ℕ} → Keeps w w' → overwritten desk (zeros desk) w' ≡ overwritten desk (zeros desk) w
keeps-cleared k = ap (λ l. zeros desk ++ l) k.later

-- ---- what is written

at_front : (w vs : List ℕ) → length vs ≤ length w → sets w 0 vs ≡ vs ++ drop (length vs) w
at_front w vs p = sets-eq vs w 0 (omega arith) ∙ ap (λ n. vs ++ drop n w) (zero-add (length vs))

pub alone-written : (w a : List ℕ) → length a ≤ length w → (v : List ℕ) (n : ℕ) → v ≡ sets w 0 a → n ≡ length a → between 0 n v ≡ a
alone-written w a p v n e q = ap (take (n - 0)) (e ∙ at_front w a p) ∙ take_at a (drop (length a) w) (n - 0) (omega arith)

-- two, one after the other
pub both-written : (w a b : List ℕ) → length a + length b ≤ length w → (v : List ℕ) (n : ℕ) → v ≡ sets (sets w 0 a) (0 + length a) b → n ≡ length a + length b → between 0 n v ≡ a ++ b
both-written w a b p v n e q =
    let l = length-append a b in
    ap (take (n - 0)) (e ∙ sym (sets-append a b w 0) ∙ at_front w (a ++ b) (omega arith)) ∙ take_at (a ++ b) (drop (length (a ++ b)) w) (n - 0) (omega arith)
