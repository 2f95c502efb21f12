-- The words of M2's results, monomial by monomial.
use Rattle.std.specs.Prelude.{ℕ, ◌+◌, ◌-◌, ◌*◌, ◌≤◌, ◌≡◌, List, [], ◌∷◌, ◌++◌, leb, length, drop, Option, Some, None}
use Rattle.std.proofs.Math.Seq.{slice}
use Rattle.language.specs.Kinds.{pick}
use Rattle.language.specs.Limits.{desk}
use Rattle.language.specs.Trees.{Hedge, Expr, mem, Conj}
use Rattle.frames.specs.Frames.{frame, frame_of, in_frames}
use Rattle.plans.specs.Sizes.{grown, sized, monomial_words, Ready}
use Rattle.views.specs.Standing.{LiteralAt}
use Rattle.views.specs.Views.{Shows, MembershipAt}
use Rattle.views.specs.declared.Shape.{Shape}
use Rattle.slices.specs.Written.{Wrote}
use Rattle.linear_form.specs.declared.adding.Kept.{Kept}
use Rattle.linear_form.specs.declared.adding.Spot.{Spot}
use Rattle.monomials.specs.Loose.{Loose, opening, rest_words, first_words}

-- what a result keeps of the conjunction
abbrev pub kept_of : Shape → ℕ → Kept
kept_of s number = record { at = s.at; from = s.h.from; rest = s.h.rest; to = s.h.to; end = s.end; len = s.len; number = number }

-- what stands before the rest: the literals before, t in f(R1), and H
unfoldable pub front_words : List ℕ → Kept → Spot → List ℕ
front_words k s p =
    slice 0 s.at k
    ++ (6000 ∷ (slice s.from s.rest k ++ (0 ∷ (slice p.place p.past k ++ (6000 ∷ slice s.rest s.to k)))))

unfoldable pub back_words : List ℕ → Kept → List ℕ
back_words k s = slice s.end s.len k

-- one result, by its monomial alone, and how long it is
unfoldable pub row_words : List ℕ → Kept → Loose → List ℕ
row_words k s m =
    slice 0 s.at k
    ++ (6000 ∷ (slice s.from s.rest k ++ (0 ∷ (first_words m ++ (6000 ∷ (slice s.rest s.to k ++ (rest_words m ++ back_words k s)))))))

unfoldable pub result_length : List ℕ → Kept → Spot → ℕ
result_length k s p = length (front_words k s p) + (length (opening p.parts) + p.words) + length (back_words k s)

-- what every result keeps, and how long a result is that keeps so many words
unfoldable pub kept_length : List ℕ → Kept → ℕ
kept_length k s =
    length (slice 0 s.at k) + length (slice s.from s.rest k) + length (slice s.rest s.to k) + length (slice s.end s.len k) + 3

unfoldable pub length_by : List ℕ → ℕ → Spot → ℕ
length_by k kept p = kept + length (slice p.place p.past k) + (length (opening p.parts) + p.words)

-- the words of a result whose rest has the parts ws
unfoldable pub result_words : List ℕ → Kept → Spot → List ℕ → List ℕ
result_words k s p ws = front_words k s p ++ ((opening p.parts ++ ws) ++ back_words k s)

-- a monomial that is bounded, so that sums fit
pub record Bounded (p : Spot) : Type 0 where
  pub few : p.parts ≤ desk.question
  pub short : p.words ≤ desk.question * desk.question

-- a result more of l words, and several more
abbrev pub counted : Option ℕ → ℕ → Option ℕ
counted None l = None
counted (Some n) l = pick (leb l desk.question) (Some (grown n l)) None

abbrev pub tallied : Option ℕ → List (List ℕ) → Option ℕ
tallied s [] = s
tallied s (w ∷ ws) = tallied (counted s (length w)) ws

-- ws are the last words of `rest`, where they have room there
pub record Holds (rest ws : List ℕ) : Type 0 where
  pub last : length ws ≤ length rest → drop (length rest - length ws) rest ≡ ws

-- a result is written after the others where it is not too long and has room
pub record Rowed (k : List ℕ) (s : Kept) (p : Spot) (rest out : List ℕ) (t : ℕ) (out' : List ℕ) (r : ℕ) : Type 0 where
  pub room : r ≤ length out'
  pub wrote : (ws : List ℕ) → length ws ≡ p.words → Holds rest ws → desk.question ≤ length rest → result_length k s p ≤ desk.question
      → t + frame + result_length k s p ≤ length out → Wrote out t (frame_of (result_length k s p) s.number ++ result_words k s p ws) out' r

-- some membership stands at `at`
pub record SomeMembership (k : List ℕ) (at : ℕ) : Type 0 where
  pub before : Conj
  pub h : Hedge
  pub R : Expr
  pub behind : Conj
  pub stands : LiteralAt k at before (mem h R) behind

-- some membership stands in k where s says, and `out` has room for M2's results from `at` on, none of which is too long
pub record RoomFor (k : List ℕ) (s : Shape) (number : ℕ) (out : List ℕ) (at : ℕ) : Type 0 where
  pub membership : MembershipAt k s
  pub ready : Ready number (monomial_words membership.before membership.h membership.R membership.behind) out at

-- all of them: their size, and that they are written
pub record Sized (k : List ℕ) (s : Shape) (n : Option ℕ) : Type 0 where
  pub each : (before : Conj) (h : Hedge) (R : Expr) (behind : Conj) → Shows k s before h R behind → n ≡ sized (monomial_words before h R behind)

pub record Written (k : List ℕ) (s : Shape) (number : ℕ) (old : List ℕ) (at : ℕ) (new : List ℕ) (e : ℕ) : Type 0 where
  pub each : (before : Conj) (h : Hedge) (R : Expr) (behind : Conj) → Shows k s before h R behind
      → Ready number (monomial_words before h R behind) old at → Wrote old at (in_frames number (monomial_words before h R behind)) new e
