-- The blanks of a pattern, by their kinds, and the pattern with its blanks numbered anew: from 0 on in the order in which they first appear, behind
-- as many as stand before them.
use Rattle.std.specs.Prelude.{ℕ, suc, ◌+◌, ◌/◌, ◌%◌, Bool, false, ◌||◌, List, [], ◌∷◌, ◌++◌, map, eqb, length}
use Rattle.language.specs.declared.Kind.{Kind}
use Rattle.language.specs.declared.Kind.TheVariants.{End, Term, Run, Symbol, Function, Equation, Membership, Eps, Cat, Alt, Star, Other}
use Rattle.language.specs.Limits.{desk}
use Rattle.language.specs.Kinds.{pick, kind_of}
use Rattle.language.specs.Trees.{Counts}

-- ---- numbers in the order in which they first appear

abbrev pub among : ℕ → List ℕ → Bool
among x [] = false
among x (y ∷ ys) = eqb y x || among x ys

-- how many stand before x; all of them, where x does not stand there
abbrev pub before : ℕ → List ℕ → ℕ
before x [] = 0
before x (y ∷ ys) = pick (eqb y x) 0 (suc (before x ys))

-- one that is new comes last
abbrev pub noted : ℕ → List ℕ → List ℕ
noted x xs = pick (among x xs) xs (xs ++ (x ∷ []))

-- ---- the blanks among words

pub record Blanks : Type 0 where
  pub terms : List ℕ
  pub hedges : List ℕ
  pub functions : List ℕ

abbrev pub no_blanks : Blanks
no_blanks = record { terms = []; hedges = []; functions = [] }

abbrev pub noted_on : Kind → Blanks → Blanks
noted_on (Term x) b = record { terms = noted x.0 b.terms; hedges = b.hedges; functions = b.functions }
noted_on (Run p) b = record { terms = b.terms; hedges = noted p.0 b.hedges; functions = b.functions }
noted_on (Function X) b = record { terms = b.terms; hedges = b.hedges; functions = noted X.0 b.functions }
noted_on (Symbol f) b = b
noted_on End b = b
noted_on Equation b = b
noted_on Membership b = b
noted_on Eps b = b
noted_on Cat b = b
noted_on Alt b = b
noted_on Star b = b
noted_on Other b = b

unfoldable pub blanks_from : Blanks → List ℕ → Blanks
blanks_from b [] = b
blanks_from b (w ∷ ws) = blanks_from (noted_on (kind_of desk w) b) ws

abbrev pub blanks_in : List ℕ → Blanks
blanks_in ws = blanks_from no_blanks ws

-- how many blanks of each kind there are; the symbols, and how many of these are unordered, are those of a question's word 0
abbrev pub counted : ℕ → Blanks → Counts
counted word b = record { symbols = word % 256; unordered = word / 256; terms = length b.terms; hedges = length b.hedges; functions = length b.functions }

abbrev pub together : Counts → Counts → Counts
together a b = record { symbols = a.symbols; unordered = a.unordered; terms = a.terms + b.terms; hedges = a.hedges + b.hedges; functions = a.functions + b.functions }

abbrev pub nothing : Counts
nothing = record { symbols = 0; unordered = 0; terms = 0; hedges = 0; functions = 0 }

-- ---- "Blanks of the two rules are kept apart by renumbering"

-- a word with its blank numbered by b, behind as many as n has of its kind
abbrev pub numbered_on : Counts → Blanks → ℕ → Kind → ℕ
numbered_on n b w (Term x) = 1000 + (n.terms + before x.0 b.terms)
numbered_on n b w (Run p) = 2000 + (n.hedges + before p.0 b.hedges)
numbered_on n b w (Function X) = 4000 + (n.functions + before X.0 b.functions)
numbered_on n b w (Symbol f) = w
numbered_on n b w End = w
numbered_on n b w Equation = w
numbered_on n b w Membership = w
numbered_on n b w Eps = w
numbered_on n b w Cat = w
numbered_on n b w Alt = w
numbered_on n b w Star = w
numbered_on n b w Other = w

unfoldable pub numbered_by : Counts → Blanks → ℕ → ℕ
numbered_by n b w = numbered_on n b w (kind_of desk w)

abbrev pub apart : Counts → List ℕ → List ℕ
apart n ws = map (numbered_by n (blanks_in ws)) ws
