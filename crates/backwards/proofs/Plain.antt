-- The tokens of an expression are names and characters of expressions, and no others.
use mathlib.Core.Path.{◌≡◌, refl, sym, ap, ◌∙◌}
use mathlib.Core.List.{List, [], ◌∷◌, ◌++◌, append_assoc}
use Rattle.language.specs.Trees.{symbol, fvar, Expr}
use Rattle.grammar.specs.Tokens.{Token, one, run, functor, equals, comma, opens, closes, plus, times}
use Rattle.grammar.specs.Grammar.{Level, Means, single, under, group, once, again, only, either, last, then, no-listed, some-listed}

abbrev pub Character : Token → Type 0
Character (one x) = ⊥
Character (run p) = ⊥
Character (functor g) = elim g [ symbol f ↦ Unit {0} | fvar X ↦ ⊥ ]
Character equals = ⊥
Character comma = Unit {0}
Character opens = Unit {0}
Character closes = Unit {0}
Character plus = Unit {0}
Character times = Unit {0}

abbrev pub Plain : List Token → Type 0
Plain [] = Unit {0}
Plain (t ∷ ts) = Character t × Plain ts

plain-++ : (ps qs : List Token) → Plain ps → Plain qs → Plain (ps ++ qs)
plain-++ [] qs a b = b
plain-++ (p ∷ ps) qs a b = (a.0, plain-++ ps qs a.1 b)

abbrev Piece : List Token → List Token → Type 0
Piece ts us = (ps : List Token) × (ts ≡ ps ++ us) × Plain ps

join : (ts us vs : List Token) → Piece ts us → Piece us vs → Piece ts vs
join ts us vs p q = (p.0 ++ q.0, p.1 ∙ ap (λ l. p.0 ++ l) q.1 ∙ sym (append_assoc p.0 q.0 vs), plain-++ p.0 q.0 p.2 q.2)

first : (t : Token) (ts us : List Token) → Character t → Piece ts us → Piece (t ∷ ts) us
first t ts us c p = (t ∷ p.0, ap (λ l. t ∷ l) p.1, (c, p.2))

alone : (t : Token) (ts : List Token) → Character t → Piece (t ∷ ts) ts
alone t ts c = (t ∷ [], refl, (c, tt))

pub plain-part : {l : Level} {R : Expr} {ts us : List Token} → Means l R ts us → (ps : List Token) × (ts ≡ ps ++ us) × Plain ps
plain-part (single {f} {ts}) = alone (functor (symbol f)) ts tt
plain-part (under {f} {R} {ts} {us} m) = first (functor (symbol f)) (opens ∷ ts) us tt (first opens ts us tt (plain-part m))
plain-part (group {R} {ts} {us} m) = first opens ts us tt (plain-part m)
plain-part (once m) = plain-part m
plain-part (again {R} {ts} {us} m) = join ts (times ∷ us) us (plain-part m) (alone times us tt)
plain-part (only m) = plain-part m
plain-part (either {a} {b} {ts} {us} {vs} m n) = join ts (plus ∷ us) vs (plain-part m) (first plus us vs tt (plain-part n))
plain-part (last {R} {ts} {us} m) = join ts (closes ∷ us) us (plain-part m) (alone closes us tt)
plain-part (then {a} {b} {ts} {us} {vs} m n) = join ts (comma ∷ us) vs (plain-part m) (first comma us vs tt (plain-part n))
plain-part (no-listed {ts}) = alone closes ts tt
plain-part (some-listed m) = plain-part m
