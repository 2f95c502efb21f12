-- `classify` meets its contract: each return is the kind of a range, or of a gap between ranges.
-- Assumes nothing.
use mathlib.Core.Path.{◌≡◌, sym, ap, ◌∙◌}
use mathlib.Core.Logic.{inl, inr}
use Prim.Native.Nat.{ℕ, ◌<◌}
use native.Mathlib.Omega.{arith}
use Rattle.language.specs.Limits.{desk, last_of}
use Rattle.language.specs.Kinds.{kind_of}
use Rattle.language.specs.declared.Kind.{Kind}
use Rattle.language.specs.declared.Kind.TheVariants.{Other}
use Rattle.language.proofs.Words.{at-end, at-term, at-run, at_symbol, at-function, Outside, at_other, no-mark, kind-equation, kind-membership, kind-eps, kind-cat, kind-alt, kind-star}
use Rattle.language.proofs.classify.Goals as goal

-- a word that is a mark
same : (w v : ℕ) (k : Kind) → kind_of desk v ≡ k → w ≡ v → k ≡ kind_of desk w
same w v k e q = sym (ap (kind_of desk) q ∙ e)

-- what the match says of a word that is none of its single words
abbrev None : ℕ → Type 0
None w = ((((((Unit {0} × (w ≡ 0 → ⊥)) × (w ≡ 5000 → ⊥)) × (w ≡ 6000 → ⊥)) × (w ≡ 7000 → ⊥)) × (w ≡ 7001 → ⊥)) × (w ≡ 7002 → ⊥)) × (w ≡ 7003 → ⊥)

module _ (w : ℕ) (n : None w) where
  none : Outside desk w 1000 → Outside desk w 2000 → Outside desk w 3000 → Outside desk w 4000 → Other ≡ kind_of desk w
  none a b c d = sym (at_other desk w n.0.0.0.0.0.0.1 a b c d (no-mark desk w n.0.0.0.0.0.1 n.0.0.0.0.1 n.0.0.0.1 n.0.0.1 n.0.1 n.1))

  below-1000 : w < 1000 → Other ≡ kind_of desk w
  below-1000 p = none (inl (omega arith)) (inl (omega arith)) (inl (omega arith)) (inl (omega arith))

  below-2000 : last_of desk 1000 < w → w < 2000 → Other ≡ kind_of desk w
  below-2000 o p = none (inr (omega arith)) (inl (omega arith)) (inl (omega arith)) (inl (omega arith))

  below-3000 : last_of desk 2000 < w → w < 3000 → Other ≡ kind_of desk w
  below-3000 o p = none (inr (omega arith)) (inr (omega arith)) (inl (omega arith)) (inl (omega arith))

  below-4000 : last_of desk 3000 < w → w < 4000 → Other ≡ kind_of desk w
  below-4000 o p = none (inr (omega arith)) (inr (omega arith)) (inr (omega arith)) (inl (omega arith))

  above-4000 : last_of desk 4000 < w → Other ≡ kind_of desk w
  above-4000 o = none (inr (omega arith)) (inr (omega arith)) (inr (omega arith)) (inr (omega arith))

pub returns-in-0 : goal.returns-in-0
returns-in-0 c = sym (at-end desk _ c.in-0.is)

pub returns-in-5000 : goal.returns-in-5000
returns-in-5000 c = same _ 5000 _ (kind-equation desk) c.in-5000.is

pub returns-in-6000 : goal.returns-in-6000
returns-in-6000 c = same _ 6000 _ (kind-membership desk) c.in-6000.is

pub returns-in-7000 : goal.returns-in-7000
returns-in-7000 c = same _ 7000 _ (kind-eps desk) c.in-7000.is

pub returns-in-7001 : goal.returns-in-7001
returns-in-7001 c = same _ 7001 _ (kind-cat desk) c.in-7001.is

pub returns-in-7002 : goal.returns-in-7002
returns-in-7002 c = same _ 7002 _ (kind-alt desk) c.in-7002.is

pub returns-in-7003 : goal.returns-in-7003
returns-in-7003 c = same _ 7003 _ (kind-star desk) c.in-7003.is

pub returns-in-1000-to-1127 : goal.returns-in-1000-to-1127
returns-in-1000-to-1127 c = sym (at-term desk _ (omega arith) (omega arith))

pub returns-in-2000-to-2127 : goal.returns-in-2000-to-2127
returns-in-2000-to-2127 c = sym (at-run desk _ (omega arith) (omega arith))

pub returns-in-3000-to-3127 : goal.returns-in-3000-to-3127
returns-in-3000-to-3127 c = sym (at_symbol desk _ (omega arith) (omega arith))

pub returns-in-4000-to-4127 : goal.returns-in-4000-to-4127
returns-in-4000-to-4127 c = sym (at-function desk _ (omega arith) (omega arith))

pub returns-in_default : goal.returns-in_default
returns-in_default c = below-1000 _ c.in_default.in_default-own.rest c.in_default.if-word-lt1000-own.true

pub returns-in_default-2 : goal.returns-in_default-2
returns-in_default-2 c = below-2000 _ c.in_default.in_default-own.rest c.in_default.if-word-lt1128-own.false c.in_default.if-word-lt2000-own.true

pub returns-in_default-3 : goal.returns-in_default-3
returns-in_default-3 c = below-3000 _ c.in_default.in_default-own.rest c.in_default.if-word-lt2128-own.false c.in_default.if-word-lt3000-own.true

pub returns-in_default-4 : goal.returns-in_default-4
returns-in_default-4 c = below-4000 _ c.in_default.in_default-own.rest c.in_default.if-word-lt3128-own.false c.in_default.if-word-lt4000-own.true

pub returns-in_default-5 : goal.returns-in_default-5
returns-in_default-5 c = above-4000 _ c.in_default.in_default-own.rest c.in_default.if-word-lt4128-own.false
