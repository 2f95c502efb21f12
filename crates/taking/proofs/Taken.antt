-- What a step leaves, from the size of its results and what is written.
use Prim.Native.Nat.{ℕ, ◌-◌, ◌<◌, ◌≤◌}
use native.Mathlib.Omega.{arith}
use mathlib.Core.Path.{◌≡◌, refl, sym, ap, ◌∙◌, subst}
use mathlib.Core.List.{List, []}
use lib.ListN.{length}
use Rattle.std.specs.Prelude.{Option, Some, None, Result, Ok, Err, ok_or}
use Rattle.language.specs.declared.Refusal.{Refusal}
use Rattle.language.specs.declared.Refusal.TheVariants.{LongResult, LongWaiting}
use Rattle.language.specs.Limits.{desk}
use Rattle.frames.specs.Frames.{in_frames}
use Rattle.plans.specs.Sizes.{sized, Ready}
use Rattle.slices.specs.Written.{Wrote}
use Rattle.taking.specs.Taking.{Took, long, room, done}
use Rattle.taking.proofs.Sizing.{fits-ready}

-- a size, or 7
pub took-size : {s : Option ℕ} {t : Result ℕ Refusal} → t ≡ ok_or s LongResult → {n : ℕ} → t ≡ Ok n → s ≡ Some n
took-size {s} {t} e {n} f = go s e
  where
    go : (s : Option ℕ) → t ≡ ok_or s LongResult → s ≡ Some n
    go None d = absurd (let z : ◌≡◌ {A = ℕ} 0 1 = cc in omega arith)
    go (Some m) d = let z : m ≡ n = cc in ap Some z

module _ (number : ℕ) (ws : List (List ℕ)) (old : List ℕ) (next : ℕ) (s : Option ℕ) (es : s ≡ sized ws) where
  pub took-long : {t : Result ℕ Refusal} → t ≡ ok_or s LongResult → {x : Refusal} → t ≡ Err x → Took number ws old next (Err x) old
  took-long {t} e {x} f = go s e refl
    where
      go : (o : Option ℕ) → t ≡ ok_or o LongResult → s ≡ o → Took number ws old next (Err x) old
      go None d g = let z : x ≡ LongResult = cc in long (ap {B = Result ℕ Refusal} Err z) (sym es ∙ g) refl
      go (Some m) d g = absurd (let z : ◌≡◌ {A = ℕ} 0 1 = cc in omega arith)

  module _ (n : ℕ) (e : s ≡ Some n) where
    pub took-room : next < n → Took number ws old next (Err LongWaiting) old
    took-room h = room n refl (sym es ∙ e) h refl

    module _ (h : n ≤ next) where
      pub took-ready : next ≤ desk.room → next ≤ length old → Ready number ws old (next - n)
      took-ready small fits = fits-ready number ws n (sym es ∙ e) (omega arith) old (next - n) (omega arith)

      pub took-done : (new : List ℕ) (end : ℕ) → Wrote old (next - n) (in_frames number ws) new end → Took number ws old next (Ok (next - n)) new
      took-done new end w = done n (next - n) refl (sym es ∙ e) (omega arith) w.list

-- of a rule that leaves nothing

pub took-none : (number : ℕ) {ws : List (List ℕ)} (old : List ℕ) (next : ℕ) → ws ≡ [] → Took number ws old next (Ok next) old
unfolding sized
took-none number old next e = rw e (done 0 next refl refl (omega arith) refl)

-- the same results, told otherwise
pub took-as : {number : ℕ} {ws vs : List (List ℕ)} {old : List ℕ} {next : ℕ} {r : Result ℕ Refusal} {new : List ℕ} → ws ≡ vs → Took number ws old next r new → Took number vs old next r new
took-as {number} {old = old} {next} {r} {new} e t = subst (λ ws. Took number ws old next r new) e t
