-- What a walk from element to element finds in a conjunction's words, whatever stands in them.
use Rattle.std.specs.Prelude.{ℕ, zero, suc, ◌+◌, ◌<◌, ◌≡◌, Bool, true, false, not, ◌||◌, List, eqb, get_or, Option, Some, None}
use Rattle.std.proofs.Math.Seq.{slice}
use Rattle.language.specs.Kinds.{pick}
use Rattle.words.specs.Spans.{member, element_end}
use Rattle.finds.specs.declared.Terms.{Terms}
use Rattle.finds.specs.Walks.{term_word, run_word}

-- the n-th place, element by element from i on
unfoldable pub nth : List ℕ → ℕ → ℕ → ℕ
nth k i zero = i
nth k i (suc n) = element_end k (nth k i n)

-- r is what is told of the first place, element by element from `at` on, where the walk stops, and of its number
pub record Walked {A : Type 0} (k : List ℕ) (at : ℕ) (stop : ℕ → Bool) (told : ℕ → ℕ → A) (r : A) : Type 0 where
  pub count : ℕ
  pub before : (m : ℕ) → m < count → stop (nth k at m) ≡ false
  pub here : stop (nth k at count) ≡ true
  pub is : r ≡ told count (nth k at count)

-- past the hedge variables: whether the hedge goes on
unfoldable pub runs_end : List ℕ → ℕ → Bool
runs_end k i = not (run_word (get_or k i 0))

abbrev pub HasTerm : List ℕ → ℕ → Bool → Type 0
HasTerm k at r = Walked k at (runs_end k) (λ n i. not (eqb (get_or k i 0) 0)) r

-- past the terms: whether the hedge ends, and how many they are
unfoldable pub terms_end : List ℕ → ℕ → Bool
terms_end k i = not (term_word (get_or k i 0))

abbrev pub AllTerms : List ℕ → ℕ → Terms → Type 0
AllTerms k at t = Walked k at (terms_end k) (λ n i. record { all = eqb (get_or k i 0) 0; count = n }) t

-- up to an element that has the word v behind its first word
unfoldable pub below_end : ℕ → List ℕ → ℕ → Bool
below_end v k i = eqb (get_or k i 0) 0 || member v (slice (i + 1) (element_end k i) k)

abbrev pub Under : List ℕ → ℕ → ℕ → Bool → Type 0
Under k at v r = Walked k at (below_end v k) (λ n i. not (eqb (get_or k i 0) 0)) r

-- past the terms, up to one that has the word p
unfoldable pub free_end : ℕ → List ℕ → ℕ → Bool
free_end p k i = not (term_word (get_or k i 0)) || member p (slice i (element_end k i) k)

abbrev pub UpTo : List ℕ → ℕ → ℕ → Option ℕ → Type 0
UpTo k at p t = Walked k at (free_end p k) (λ n i. pick (term_word (get_or k i 0)) (Some n) None) t

-- behind the first element, up to one that is the word p
unfoldable pub others_end : ℕ → List ℕ → ℕ → Bool
others_end p k i = eqb (get_or k i 0) 0 || eqb (get_or k i 0) p

abbrev pub Inside : List ℕ → ℕ → ℕ → Option ℕ → Type 0
Inside k at p t = Walked k (element_end k at) (others_end p k) (λ n i. pick (eqb (get_or k i 0) 0) None (Some i)) t
