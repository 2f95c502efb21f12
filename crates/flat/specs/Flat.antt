-- A side and an expression read by one loop, with a state and a count of open brackets and no tree: where it ends, and a side's words
-- or the number of an expression's. Any depth of brackets is read with the same memory, so that 17 is told from 19 on every text.
use Rattle.std.specs.Prelude.{ℕ, zero, suc, ◌+◌, List, [], ◌∷◌, ◌++◌}
use Rattle.language.specs.Trees.{Functor, symbol, fvar}
use Rattle.language.specs.Writing.{functor_word}
use Rattle.grammar.specs.Tokens.{Token, one, run, functor, equals, comma, opens, closes, plus, times}
use Rattle.texts.specs.Parsing.{Res, got, stop}
use Rattle.texts.specs.Numbering.{terms, hedges, Naming, name_f}
use Rattle.flat.specs.declared.State.{State}
use Rattle.flat.specs.declared.State.TheVariants.{Opened, Wanted, Named, Ready}

-- n words more
abbrev pub add : ℕ → Res ℕ → Res ℕ
add n (got m ts) = got (n + m) ts
add n stop = stop

-- these words before
abbrev pub lay : List ℕ → Res (List ℕ) → Res (List ℕ)
lay ws (got vs ts) = got (ws ++ vs) ts
lay ws stop = stop

-- ---- a side; within brackets, d more of which are open than this one

abbrev pub shut : (ℕ → Res (List ℕ)) → ℕ → List Token → Res (List ℕ)
shut rec zero ts = got [] ts
shut rec (suc d) ts = rec d

abbrev pub in_brackets : Naming → State → ℕ → List Token → Res (List ℕ)
in_brackets ρ s d [] = stop
in_brackets ρ s d (one x ∷ ts) = elim s [ Opened ↦ lay ((1000 + ρ terms x.0) ∷ []) (in_brackets ρ Ready d ts) | Wanted ↦ lay ((1000 + ρ terms x.0) ∷ []) (in_brackets ρ Ready d ts) | Named ↦ stop | Ready ↦ stop ]
in_brackets ρ s d (run p ∷ ts) = elim s [ Opened ↦ lay ((2000 + ρ hedges p.0) ∷ []) (in_brackets ρ Ready d ts) | Wanted ↦ lay ((2000 + ρ hedges p.0) ∷ []) (in_brackets ρ Ready d ts) | Named ↦ stop | Ready ↦ stop ]
in_brackets ρ s d (functor g ∷ ts) = elim s [ Opened ↦ lay (functor_word (name_f ρ g) ∷ []) (in_brackets ρ Named d ts) | Wanted ↦ lay (functor_word (name_f ρ g) ∷ []) (in_brackets ρ Named d ts) | Named ↦ stop | Ready ↦ stop ]
in_brackets ρ s d (equals ∷ ts) = elim s [ Opened ↦ stop | Wanted ↦ stop | Named ↦ stop | Ready ↦ stop ]
in_brackets ρ s d (comma ∷ ts) = elim s [ Opened ↦ stop | Wanted ↦ stop | Named ↦ lay (0 ∷ []) (in_brackets ρ Wanted d ts) | Ready ↦ in_brackets ρ Wanted d ts ]
in_brackets ρ s d (opens ∷ ts) = elim s [ Opened ↦ stop | Wanted ↦ stop | Named ↦ in_brackets ρ Opened (suc d) ts | Ready ↦ stop ]
in_brackets ρ s d (closes ∷ ts) = elim s [ Opened ↦ lay (0 ∷ []) (shut (λ e. in_brackets ρ Ready e ts) d ts) | Wanted ↦ stop | Named ↦ lay (0 ∷ 0 ∷ []) (shut (λ e. in_brackets ρ Ready e ts) d ts) | Ready ↦ lay (0 ∷ []) (shut (λ e. in_brackets ρ Ready e ts) d ts) ]
in_brackets ρ s d (plus ∷ ts) = elim s [ Opened ↦ stop | Wanted ↦ stop | Named ↦ stop | Ready ↦ stop ]
in_brackets ρ s d (times ∷ ts) = elim s [ Opened ↦ stop | Wanted ↦ stop | Named ↦ stop | Ready ↦ stop ]

-- the end of a side
abbrev pub closed : Res (List ℕ) → Res (List ℕ)
closed (got ws ts) = got (ws ++ (0 ∷ [])) ts
closed stop = stop

-- behind a functor that is a side by itself
abbrev pub flat_functor : Naming → Functor → List Token → Res (List ℕ)
flat_functor ρ f [] = got (functor_word (name_f ρ f) ∷ 0 ∷ 0 ∷ []) []
flat_functor ρ f (one x ∷ ts) = got (functor_word (name_f ρ f) ∷ 0 ∷ 0 ∷ []) (one x ∷ ts)
flat_functor ρ f (run p ∷ ts) = got (functor_word (name_f ρ f) ∷ 0 ∷ 0 ∷ []) (run p ∷ ts)
flat_functor ρ f (functor g ∷ ts) = got (functor_word (name_f ρ f) ∷ 0 ∷ 0 ∷ []) (functor g ∷ ts)
flat_functor ρ f (equals ∷ ts) = got (functor_word (name_f ρ f) ∷ 0 ∷ 0 ∷ []) (equals ∷ ts)
flat_functor ρ f (comma ∷ ts) = got (functor_word (name_f ρ f) ∷ 0 ∷ 0 ∷ []) (comma ∷ ts)
flat_functor ρ f (opens ∷ ts) = lay (functor_word (name_f ρ f) ∷ []) (closed (in_brackets ρ Opened 0 ts))
flat_functor ρ f (closes ∷ ts) = got (functor_word (name_f ρ f) ∷ 0 ∷ 0 ∷ []) (closes ∷ ts)
flat_functor ρ f (plus ∷ ts) = got (functor_word (name_f ρ f) ∷ 0 ∷ 0 ∷ []) (plus ∷ ts)
flat_functor ρ f (times ∷ ts) = got (functor_word (name_f ρ f) ∷ 0 ∷ 0 ∷ []) (times ∷ ts)

abbrev pub flat_side : Naming → List Token → Res (List ℕ)
flat_side ρ [] = stop
flat_side ρ (one x ∷ ts) = got ((1000 + ρ terms x.0) ∷ 0 ∷ []) ts
flat_side ρ (run p ∷ ts) = got ((2000 + ρ hedges p.0) ∷ 0 ∷ []) ts
flat_side ρ (functor g ∷ ts) = flat_functor ρ g ts
flat_side ρ (equals ∷ ts) = stop
flat_side ρ (comma ∷ ts) = stop
flat_side ρ (opens ∷ ts) = in_brackets ρ Opened 0 ts
flat_side ρ (closes ∷ ts) = stop
flat_side ρ (plus ∷ ts) = stop
flat_side ρ (times ∷ ts) = stop

-- ---- an expression; d brackets are open, behind `Opened` one more

-- no bracket is open, and the expression may end: it ends here
abbrev pub end_at : State → ℕ → List Token → Res ℕ
end_at Opened d ts = stop
end_at Wanted d ts = stop
end_at Named zero ts = got 1 ts
end_at Named (suc d) ts = stop
end_at Ready zero ts = got 0 ts
end_at Ready (suc d) ts = stop

abbrev pub symbol_then : Functor → Res ℕ → Res ℕ
symbol_then (symbol f) r = add 1 r
symbol_then (fvar X) r = stop

-- behind a comma or a bracket that closes, with one bracket less open; or the end
abbrev pub deeper : ℕ → Res ℕ → (ℕ → Res ℕ) → Res ℕ
deeper zero here rec = here
deeper (suc d) here rec = rec d

abbrev pub scan : State → ℕ → List Token → Res ℕ
scan s d [] = end_at s d []
scan s d (one x ∷ ts) = elim s [ Opened ↦ stop | Wanted ↦ stop | Named ↦ end_at Named d (one x ∷ ts) | Ready ↦ end_at Ready d (one x ∷ ts) ]
scan s d (run p ∷ ts) = elim s [ Opened ↦ stop | Wanted ↦ stop | Named ↦ end_at Named d (run p ∷ ts) | Ready ↦ end_at Ready d (run p ∷ ts) ]
scan s d (equals ∷ ts) = elim s [ Opened ↦ stop | Wanted ↦ stop | Named ↦ end_at Named d (equals ∷ ts) | Ready ↦ end_at Ready d (equals ∷ ts) ]
scan s d (functor g ∷ ts) = elim s [ Opened ↦ symbol_then g (scan Named (suc d) ts) | Wanted ↦ symbol_then g (scan Named d ts) | Named ↦ end_at Named d (functor g ∷ ts) | Ready ↦ end_at Ready d (functor g ∷ ts) ]
scan s d (comma ∷ ts) = elim s [ Opened ↦ stop | Wanted ↦ stop | Named ↦ deeper d (got 1 (comma ∷ ts)) (λ e. add 2 (scan Wanted (suc e) ts)) | Ready ↦ deeper d (got 0 (comma ∷ ts)) (λ e. add 1 (scan Wanted (suc e) ts)) ]
scan s d (opens ∷ ts) = elim s [ Opened ↦ scan Opened (suc d) ts | Wanted ↦ scan Opened d ts | Named ↦ scan Opened d ts | Ready ↦ end_at Ready d (opens ∷ ts) ]
scan s d (closes ∷ ts) = elim s [ Opened ↦ add 1 (scan Ready d ts) | Wanted ↦ stop | Named ↦ deeper d (got 1 (closes ∷ ts)) (λ e. add 1 (scan Ready e ts)) | Ready ↦ deeper d (got 0 (closes ∷ ts)) (λ e. scan Ready e ts) ]
scan s d (plus ∷ ts) = elim s [ Opened ↦ stop | Wanted ↦ stop | Named ↦ add 2 (scan Wanted d ts) | Ready ↦ add 1 (scan Wanted d ts) ]
scan s d (times ∷ ts) = elim s [ Opened ↦ stop | Wanted ↦ stop | Named ↦ add 2 (scan Ready d ts) | Ready ↦ add 1 (scan Ready d ts) ]

abbrev pub flat_expr : List Token → Res ℕ
flat_expr ts = scan Wanted 0 ts
