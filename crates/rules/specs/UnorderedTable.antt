-- Worked cases with unordered symbols: of the four symbols a, b, f, g the last two are unordered. Each is a question of one conjunction, its lines with
-- their marks, and its steps; beside it stands the sentence it is about.
use Rattle.std.specs.Prelude.{List, [], ◌∷◌}
use Rattle.language.specs.declared.Signature.{Signature}
use Rattle.language.specs.Trees.{symbol, Hedge, ε, tvar, node, cat, star, over, eqn, mem, ◌⧺◌}
use Rattle.rules.specs.Table.{Case, one, settled, open-line, f, g, a, b, x, p, q, X, aᴱ, bᴱ, fᴱ}

abbrev pub two_unordered : Signature
two_unordered = record { symbols = 4; unordered = 2 }

abbrev pub y : Hedge
y = tvar (record { 0 = 1 }) ε

-- a over its children; it is ordered
abbrev pub a∷ : Hedge → Hedge
a∷ h = node (symbol (record { 0 = 0 })) h ε

abbrev pub unordered_table : List Case
unordered_table =
    -- the same up to the order of children: Del2, and R1 of what is left
    one (eqn (f (a ⧺ b)) (f (b ⧺ a)) ∷ []) (settled [] ∷ []) 2
    -- "at any depth": D0, then as above
    ∷ one (eqn (a∷ (f (a ⧺ b))) (a∷ (f (b ⧺ a))) ∷ []) (settled [] ∷ []) 3
    -- "The same-functor rule remains for ordered symbols": under them the order counts
    ∷ one (eqn (a∷ (a ⧺ b)) (a∷ (b ⧺ a)) ∷ []) [] 3
    -- D1, "in dictionary order of positions"
    ∷ one (eqn (f (x ⧺ y)) (f (a ⧺ b)) ∷ []) (settled (eqn x a ∷ eqn y b ∷ []) ∷ settled (eqn x b ∷ eqn y a ∷ []) ∷ []) 3
    -- "equal results kept"
    ∷ one (eqn (f (x ⧺ y)) (f (a ⧺ a)) ∷ []) (settled (eqn x a ∷ eqn y a ∷ []) ∷ settled (eqn x a ∷ eqn y a ∷ []) ∷ []) 3
    -- H may have hedge variables
    ∷ one (eqn (f (p ⧺ x)) (f (a ⧺ b)) ∷ []) (settled (eqn p a ∷ eqn x b ∷ []) ∷ settled (eqn p b ∷ eqn x a ∷ []) ∷ []) 9
    -- f() has one order
    ∷ one (eqn (f ε) (f (p ⧺ q)) ∷ []) (settled (eqn p ε ∷ eqn q ε ∷ []) ∷ []) 2
    -- "the open forms": hedge variables on both sides, and nothing shared
    ∷ one (eqn (f (p ⧺ a)) (f (q ⧺ b)) ∷ []) (open-line (eqn (f (p ⧺ a)) (f (q ⧺ b)) ∷ []) ∷ []) 0
    -- "where a rule compares .. the words themselves decide": g(a,b) and g(b,a) are not shared
    ∷ one (eqn (f (g (a ⧺ b) ⧺ p)) (f (g (b ⧺ a) ⧺ q)) ∷ []) (open-line (eqn (f (g (a ⧺ b) ⧺ p)) (f (g (b ⧺ a) ⧺ q)) ∷ []) ∷ []) 0
    -- Del2 strikes a hedge variable too, down to nothing
    ∷ one (eqn (f (x ⧺ p)) (f (p ⧺ x)) ∷ []) (settled [] ∷ []) 2
    -- "otherwise E7 tries all symbols in order"
    ∷ one (eqn (X x) (X a) ∷ [])
    (settled (eqn (X ε) a ∷ eqn x a ∷ []) ∷ settled (eqn (X ε) b ∷ eqn x a ∷ []) ∷ settled (eqn (X ε) (f ε) ∷ eqn x a ∷ []) ∷ settled (eqn (X ε) (g ε) ∷ eqn x a ∷ []) ∷ []) 5
    -- M12
    ∷ one (mem (f (a ⧺ b)) (fᴱ (cat bᴱ aᴱ)) ∷ []) (settled [] ∷ []) 8
    ∷ one (mem (f (x ⧺ y)) (fᴱ (cat aᴱ bᴱ)) ∷ []) (settled (mem x aᴱ ∷ mem y bᴱ ∷ []) ∷ settled (mem y aᴱ ∷ mem x bᴱ ∷ []) ∷ []) 3
    -- M11 stays for ordered symbols
    ∷ one (mem (a∷ (a ⧺ p)) (over (record { 0 = 0 }) (cat aᴱ (star bᴱ))) ∷ []) (settled (mem p (star bᴱ) ∷ []) ∷ []) 4
    -- "the open forms": a hedge variable under an unordered symbol
    ∷ one (mem (f (a ⧺ p)) (fᴱ (cat aᴱ (star bᴱ))) ∷ []) (open-line (mem (f (a ⧺ p)) (fᴱ (cat aᴱ (star bᴱ))) ∷ []) ∷ []) 0
    ∷ []
