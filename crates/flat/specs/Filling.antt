-- An expression's words from its tokens, the last token first. The words are in prefix order, the tokens are not; but read backwards, each
-- operator is met behind all that it stands before, so that every word is written right before those that are there already.
use Rattle.std.specs.Prelude.{ℕ, zero, suc, ◌+◌, ◌-◌, Bool, true, false, ◌||◌, List, [], ◌∷◌, eqb}
use Rattle.language.specs.Kinds.{pick}
use Rattle.language.specs.Trees.{symbol, fvar}
use Rattle.grammar.specs.Tokens.{Token, one, run, functor, equals, comma, opens, closes, plus, times}
use Rattle.texts.specs.Numbering.{symbols, Naming}

-- What is owed before what stands in brackets: stars, whether an operand follows it, whether an item does; and how deep the brackets are.
pub record Frame : Type 0 where
  pub depth : ℕ
  pub stars : ℕ
  pub operand : Bool
  pub item : Bool

pub record Filled : Type 0 where
  pub words : List ℕ
  -- owed before the part that is being read
  pub stars : ℕ
  pub operand : Bool
  pub item : Bool
  -- the token behind is a bracket that opens; one that closes
  pub functor : Bool
  pub bare : Bool
  -- brackets that are open, and what is owed before those where something is
  pub depth : ℕ
  pub owed : List Frame

abbrev pub stars_on : ℕ → List ℕ → List ℕ
stars_on zero ws = ws
stars_on (suc n) ws = stars_on n (7003 ∷ ws)

-- the words with what ends an operand, and an item
abbrev pub operand_on : Filled → List ℕ
operand_on f = pick f.operand (7002 ∷ stars_on f.stars f.words) (stars_on f.stars f.words)

abbrev pub item_on : Filled → List ℕ
item_on f = pick f.item (7001 ∷ operand_on f) (operand_on f)

-- something is owed
abbrev pub owes : ℕ → Bool → Bool → Bool
owes zero a b = a || b
owes (suc n) a b = true

-- into brackets, out of them
unfoldable pub enclosed : Filled → Filled
enclosed f = record {
  words = f.words;
  stars = 0;
  operand = false;
  item = false;
  functor = false;
  bare = true;
  depth = suc f.depth;
  owed = pick (owes f.stars f.operand f.item) (record { depth = f.depth; stars = f.stars; operand = f.operand; item = f.item } ∷ f.owed) f.owed;
}

abbrev back : List ℕ → ℕ → Frame → List Frame → List Frame → Bool → Filled
back ws d g gs all true = record { words = ws; stars = g.stars; operand = g.operand; item = g.item; functor = true; bare = false; depth = d; owed = gs }
back ws d g gs all false = record { words = ws; stars = 0; operand = false; item = false; functor = true; bare = false; depth = d; owed = all }

abbrev pub released : List ℕ → ℕ → List Frame → Filled
released ws d [] = record { words = ws; stars = 0; operand = false; item = false; functor = true; bare = false; depth = d; owed = [] }
released ws d (g ∷ gs) = back ws d g gs (g ∷ gs) (eqb g.depth d)

-- a symbol without brackets is one over eps
abbrev pub leaf_on : Filled → List ℕ
leaf_on f = pick f.functor f.words (7000 ∷ f.words)

abbrev pub named : ℕ → Filled → Filled
named w f = record { words = w ∷ leaf_on f; stars = f.stars; operand = f.operand; item = f.item; functor = false; bare = false; depth = f.depth; owed = f.owed }

abbrev pub turn : Naming → Token → Filled → Filled
turn ρ (one x) f = f
turn ρ (run p) f = f
turn ρ (functor g) f = elim g [ symbol s ↦ named (3000 + ρ symbols s.0) f | fvar X ↦ f ]
turn ρ equals f = f
turn ρ comma f = record { words = item_on f; stars = 0; operand = false; item = true; functor = false; bare = false; depth = f.depth; owed = f.owed }
turn ρ opens f = released (pick f.bare (7000 ∷ f.words) (item_on f)) (f.depth - 1) f.owed
turn ρ closes f = enclosed f
turn ρ plus f = record { words = operand_on f; stars = 0; operand = true; item = f.item; functor = false; bare = false; depth = f.depth; owed = f.owed }
turn ρ times f = record { words = f.words; stars = suc f.stars; operand = f.operand; item = f.item; functor = false; bare = false; depth = f.depth; owed = f.owed }

-- these tokens, the last first
abbrev pub turns : Naming → List Token → Filled → Filled
turns ρ [] f = f
turns ρ (t ∷ ts) f = turn ρ t (turns ρ ts f)

-- before the first token: nothing owed, no bracket
abbrev pub nothing : Filled
nothing = record { words = []; stars = 0; operand = false; item = false; functor = false; bare = false; depth = 0; owed = [] }
