-- The symbol that free blanks take, from the flag and the number of symbols.
use Prim.Native.Nat.{ℕ, ◌-◌}
use mathlib.Core.Path.{◌≡◌, sym, ap, ◌∙◌}
use mathlib.Core.Bool.{Bool, true, false}
use Rattle.language.specs.declared.Sym.{Sym}
use Rattle.language.specs.Kinds.{pick}
use Rattle.language.specs.Trees.{Counts}
use Rattle.rules.specs.Example.{default_symbol}

abbrev numbered : ℕ → Sym
numbered i = record { 0 = i }

pub first-symbol : {old : Bool} → old ≡ true → (n : Counts) → numbered 0 ≡ default_symbol old n
first-symbol t n = ap (λ b. numbered (pick b 0 (n.symbols - 1))) (sym t)

pub last-symbol : {old : Bool} {symbols : ℕ} → old ≡ false → (n : Counts) → n.symbols ≡ symbols → numbered (symbols - 1) ≡ default_symbol old n
last-symbol t n e = ap (λ i. numbered (i - 1)) (sym e) ∙ ap (λ b. numbered (pick b 0 (n.symbols - 1))) (sym t)
