-- Testing an equation and a membership: what was written into the work slice, and what is decided of it.
use Prim.Native.Nat.{ℕ, ◌+◌, ◌≤◌}
use mathlib.Core.Path.{◌≡◌, sym, ap, ap₂, ◌∙◌}
use mathlib.Core.Bool.{Bool}
use mathlib.Core.List.{List, [], ◌++◌, append-nil}
use native.Mathlib.Nat.{zero-add}
use native.Mathlib.Omega.{arith}
use lib.ListN.{length, length-append}
use lib.Seq.{sets}
use Rattle.language.specs.declared.Signature.{Signature}
use Rattle.language.specs.Limits.{desk}
use Rattle.language.specs.Between.{between}
use Rattle.meaning.specs.Complete.{Complete, complete_words}
use Rattle.passing.specs.Places.{StandsC}
use Rattle.member.specs.Places.{Both, Decided}
use Rattle.alike.specs.Tasks.{Two, Pair}
use Rattle.alike.specs.Tasks as alike
use Rattle.filling.specs.Showing.{filled, Written}
use Rattle.trying.specs.Tasks.{Becoming, Comparable, EquationMet, Testable, MembershipMet}
use Rattle.trying.proofs.Rooms.{keeps-sets, keeps-both, alone-written, both-written}

module _ {t h : ℕ} {fs : List ℕ} where
  module _ {hedge w w' : List ℕ} {n : ℕ} (x : Written t h fs hedge w 0 w' n) (p : length (filled t h fs hedge) ≤ desk.literal) (q : desk.room ≤ length w) where
    written-alone : between 0 n w' ≡ filled t h fs hedge
    written-alone = alone-written w (filled t h fs hedge) (omega arith) w' n x.words (x.place ∙ zero-add (length (filled t h fs hedge)))

    -- the complete hedge that it becomes stands there
    stands : (g : Complete) → filled t h fs hedge ≡ complete_words g → StandsC (between 0 n w') 0 g
    stands g e = record { others = []; words = written-alone ∙ e ∙ sym (append-nil (complete_words g)) }

    pub both-stand : {expr : List ℕ} → Testable t h fs hedge expr → Both expr 0 (between 0 n w') 0
    both-stand s = record { R = s.R; g = s.g; expression = s.expression; hedge = stands s.g s.becomes }

    pub hedge-fits : length (between 0 n w') ≤ desk.literal
    hedge-fits = omega (arith, ap length written-alone)

    pub membership-met : {σ : Signature} {expr : List ℕ} {r : Bool} → Decided σ expr 0 (between 0 n w') 0 r → MembershipMet σ t h fs hedge expr w w' r
    membership-met d = record {
      keeps = keeps-sets w 0 (filled t h fs hedge) w' x.words (omega arith);
      each = λ R g s e. d.means R g s (stands g e);
    }

  module _ {left right w u v : List ℕ} {m n : ℕ} (x : Written t h fs left w 0 u m) (y : Written t h fs right u m v n)
      (p : length (filled t h fs left) + length (filled t h fs right) ≤ desk.literal) (q : desk.room ≤ length w) where
    abbrev a : List ℕ
    a = filled t h fs left

    abbrev b : List ℕ
    b = filled t h fs right

    written : between 0 n v ≡ a ++ b
    written = both-written w a b (omega arith) v n (y.words ∙ ap (λ l. sets l m b) x.words ∙ ap (λ k. sets (sets w 0 a) k b) x.place) (omega (arith, x.place, y.place))

    -- the two that they become stand there
    two : (g k : Complete) → Becoming t h fs left right g k → Two (between 0 n v) m g k
    two g k z = record { words = written ∙ ap₂ ◌++◌ z.first z.second; middle = x.place ∙ zero-add (length a) ∙ ap length z.first }

    pub pair-written : Comparable t h fs left right → Pair (between 0 n v) m
    pair-written c = record { g = c.g; h = c.k; it = two c.g c.k c.it }

    pub pair_fits : length (between 0 n v) ≤ desk.literal
    pair_fits = omega (arith, ap length written, length-append a b)

    pub equation-met : {σ : Signature} {r : Bool} → alike.Decided σ (between 0 n v) m r → EquationMet σ t h fs left right w v r
    equation-met d = record {
      keeps = keeps-both (keeps-sets w 0 a u x.words (omega arith)) (keeps-sets u m b v y.words (omega (arith, x.place)));
      each = λ g k z. d.means g k (two g k z);
    }
