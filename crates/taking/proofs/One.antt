-- What a step leaves is one thing: any two outcomes that `Took` allows coincide.
use Prim.Native.Nat.{ℕ}
use native.Mathlib.Omega.{arith}
use mathlib.Core.Path.{◌≡◌, sym, ap, ◌∙◌}
use mathlib.Core.List.{List}
use lib.Seq.{sets}
use Rattle.std.specs.Prelude.{Option, Some, None, Result, Ok}
use Rattle.language.specs.declared.Refusal.{Refusal}
use Rattle.frames.specs.Frames.{in_frames}
use Rattle.taking.specs.Taking.{Took, long, room, done}

one_size : (s : Option ℕ) (n m : ℕ) → s ≡ Some n → s ≡ Some m → n ≡ m
one_size s n m e d = cc

over-fits : (s : Option ℕ) (n : ℕ) → s ≡ None → s ≡ Some n → ⊥
over-fits s n e d = let z : ◌≡◌ {A = ℕ} 0 1 = cc in omega arith

pub took_one : (number : ℕ) (ws : List (List ℕ)) (old : List ℕ) (next : ℕ) (r u : Result ℕ Refusal) (new now : List ℕ) → Took number ws old next r new → Took number ws old next u now → (r ≡ u) × (new ≡ now)
took_one number ws old next r u new now (long e s d) (long f t g) = (e ∙ sym f, d ∙ sym g)
took_one number ws old next r u new now (long e s d) (room m f t h g) = absurd (over-fits _ m s t)
took_one number ws old next r u new now (long e s d) (done m at f t h g) = absurd (over-fits _ m s t)
took_one number ws old next r u new now (room n e s i d) (long f t g) = absurd (over-fits _ n t s)
took_one number ws old next r u new now (room n e s i d) (room m f t h g) = (e ∙ sym f, d ∙ sym g)
took_one number ws old next r u new now (room n e s i d) (done m at f t h g) = absurd (let z = one_size _ n m s t in omega arith)
took_one number ws old next r u new now (done n at e s i d) (long f t g) = absurd (over-fits _ n t s)
took_one number ws old next r u new now (done n at e s i d) (room m f t h g) = absurd (let z = one_size _ n m s t in omega arith)
took_one number ws old next r u new now (done n at e s i d) (done m bt f t h g) =
    let y = one_size _ n m s t in
    let z : at ≡ bt = omega arith in
    (e ∙ ap {B = Result ℕ Refusal} Ok z ∙ sym f, d ∙ ap (λ x. sets old x (in_frames number ws)) z ∙ sym g)
