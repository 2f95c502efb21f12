-- The number and the value of what a step comes to, from the size of its results: 7 where one is too long, 8 where they have no room, and else
-- the place right before `next` that they leave room for.
use Prim.Native.Nat.{ℕ, ◌+◌}
use native.Mathlib.Omega.{arith}
use mathlib.Core.Path.{◌≡◌, sym, ap, ◌∙◌}
use mathlib.Core.List.{List}
use borrow.Author.Tests.{lt-ltb, le-ltb}
use Rattle.std.specs.Prelude.{Result}
use Rattle.language.specs.declared.Refusal.{Refusal}
use Rattle.language.specs.declared.Refusal.TheVariants.{LongWaiting}
use Rattle.language.specs.Kinds.{pick}
use Rattle.language.specs.Numbers.{number_of}
use Rattle.plans.specs.Sizes.{sized, size_value}
use Rattle.taking.specs.Taking.{stepped_number, stepped_value, step_number, Took, long, room, done}

pub took_number : (number : ℕ) (ws : List (List ℕ)) (old : List ℕ) (next : ℕ) (r : Result ℕ Refusal) (new : List ℕ) → Took number ws old next r new → stepped_number r ≡ step_number next (sized ws)
took_number number ws old next r new (long e s d) = ap stepped_number e ∙ sym (ap (step_number next) s)
took_number number ws old next r new (room n e s h d) = ap stepped_number e ∙ sym (ap (λ b. pick b (number_of LongWaiting) 0) (lt-ltb next n h)) ∙ sym (ap (step_number next) s)
took_number number ws old next r new (done n at e s i d) =
    ap stepped_number e ∙ sym (ap (λ b. pick b (number_of LongWaiting) 0) (le-ltb next n (omega arith))) ∙ sym (ap (step_number next) s)

-- of a step that is made
pub took-value : (number : ℕ) (ws : List (List ℕ)) (old : List ℕ) (next : ℕ) (r : Result ℕ Refusal) (new : List ℕ) → Took number ws old next r new → stepped_number r ≡ 0 → stepped_value r + size_value (sized ws) ≡ next
took-value number ws old next r new (long e s d) z = absurd (let y = sym (ap stepped_number e) ∙ z in omega arith)
took-value number ws old next r new (room n e s h d) z = absurd (let y = sym (ap stepped_number e) ∙ z in omega arith)
took-value number ws old next r new (done n at e s i d) z =
    let a : stepped_value r ≡ at = ap stepped_value e in
    let b : size_value (sized ws) ≡ n = ap size_value s in
    omega arith
