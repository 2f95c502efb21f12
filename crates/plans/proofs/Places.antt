-- Within the words the next place is the place plus one.
use Prim.Native.Nat.{ℕ, ◌+◌, ◌<◌}
use mathlib.Core.Path.{◌≡◌, ap}
use borrow.Author.Tests.{lt-ltb}
use Rattle.language.specs.Kinds.{pick}
use Rattle.plans.specs.Slots.{forth_in}

pub forth-within : (n i : ℕ) → i < n → forth_in n i ≡ i + 1
unfolding forth_in
forth-within n i h = ap (λ b. pick b (i + 1) i) (lt-ltb i n h)
