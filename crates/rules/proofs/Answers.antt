-- What is shown of a rule's answer, and how a proof follows a rule's text line by line.
use mathlib.Core.Path.{◌≡◌}
use mathlib.Core.Bool.{Bool, true, false}
use mathlib.Core.List.{List}
use mathlib.Core.Option.{Option, none, some, map}
use lib.Dec.{T}
use Rattle.rules.specs.Rules.{Branch, Answer, ◌>>=◌, check}
use Rattle.rules.specs.Solved.{or_else}

-- ---- where there is something

-- P of what there is
abbrev pub Where : {A : Type 0} → (A → Type 0) → Option A → Type 0
Where P none = Unit {0}
Where P (some a) = P a

pub where-map : {A B : Type 0} {P : A → Type 0} (Q : B → Type 0) (f : A → B) (m : Option A) → ((a : A) → P a → Q (f a)) → Where P m → Where Q (map f m)
where-map Q f none h p = tt
where-map Q f (some a) h p = h a p

-- the first of two, or else the second
pub or_else-is : {A : Type 0} (P : A → Type 0) (m : Option A) (k : Unit {0} → Option A) → Where P m → Where P (k tt) → Where P (or_else m k)
or_else-is P none k p q = q
or_else-is P (some a) k p q = p

pub where-some : {A : Type 0} (P : A → Type 0) (m : Option A) (a : A) → Where P m → m ≡ some a → P a
where-some P m a p e = rw e at p

-- where the rule applies, its results are as P says
pub record Answers (P : List Branch → Type 0) (w : Answer) : Type 0 where
  pub given : Where P w

-- ---- line by line

-- a look, and what it says of what it finds
pub look : {A : Type 0} {Q : A → Type 0} {P : List Branch → Type 0} {f : A → Answer} (m : Option A)
    → Where Q m → ((a : A) → Q a → Answers P (f a)) → Answers P (m >>= f)
unfolding ◌>>=◌
look none q h = record { given = tt }
look (some a) q h = h a q

-- a test, and that it holds
pub test : {P : List Branch → Type 0} {f : Unit {0} → Answer} (b : Bool) → ((u : Unit {0}) → T b → Answers P (f u)) → Answers P (check b >>= f)
unfolding ◌>>=◌ check
test true h = h tt tt
test false h = record { given = tt }

pub answers : {P : List Branch → Type 0} {bs : List Branch} → P bs → Answers P (some bs)
answers p = record { given = p }
