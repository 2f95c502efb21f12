-- What holds of every declared symbol holds of each that E7 tries; and it tries each of them.
use Prim.Native.Nat.{ℕ, zero, suc, ◌+◌, ◌<◌}
use mathlib.Core.Path.{◌≡◌}
use mathlib.Core.Logic.{inl, inr}
use native.Mathlib.Omega.{arith}
use Rattle.language.specs.declared.Sym.{Sym}
use Rattle.language.specs.declared.Signature.{Signature}
use Rattle.meaning.specs.Values.{numbers}
use Rattle.rules.specs.Each.{Each, Some}
use Rattle.rules.specs.Rules.{every_symbol}
use Rattle.rules.proofs.Each.{each_map, some-map}

each_number : (P : ℕ → Type 0) (from m : ℕ) → ((i : ℕ) → i < from + m → P i) → Each P (numbers from m)
each_number P from zero p = tt
each_number P from (suc m) p = (p from (omega arith), each_number P (suc from) m (λ i b. p i (omega arith)))

some_number : (P : ℕ → Type 0) (from m i : ℕ) → i < m → P (from + i) → Some P (numbers from m)
some_number P from zero i b p = absurd (omega arith)
some_number P from (suc m) zero b p = let e : from + 0 ≡ from = omega arith in inl (rw e at p)
some_number P from (suc m) (suc i) b p = let e : from + suc i ≡ suc from + i = omega arith in inr (some_number P (suc from) m i (omega arith) (rw e at p))

module _ (σ : Signature) (P : Sym → Type 0) where
  pub each-symbol : ((f : Sym) → f.0 < σ.symbols → P f) → Each P (every_symbol σ)
  each-symbol p =
      each_map (λ (n : ℕ). P (record { 0 = n })) P (λ (n : ℕ). record { 0 = n }) (λ n k. k) (numbers 0 σ.symbols)
      (each_number (λ n. P (record { 0 = n })) 0 σ.symbols (λ n i. p (record { 0 = n }) (omega arith)))

  pub some-symbol : (f : Sym) → f.0 < σ.symbols → P f → Some P (every_symbol σ)
  some-symbol f b p =
      (some-map P (λ (n : ℕ). record { 0 = n }) (numbers 0 σ.symbols)).1
      (some_number (λ n. P (record { 0 = n })) 0 σ.symbols f.0 b (let e : 0 + f.0 ≡ f.0 = omega arith in rw e p))
