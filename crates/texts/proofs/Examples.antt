-- The examples of the grammar, computed by the definitions.
use mathlib.Core.Path.{◌≡◌, refl}
use mathlib.Core.List.{List, [], ◌∷◌, map}
use Prim.Native.Nat.{ℕ}
use Rattle.language.specs.declared.Refusal.TheVariants.{NotText}
use Rattle.language.specs.Limits.{desk}
use Rattle.language.specs.Question.{counts_fit}
use Rattle.grammar.specs.Tokens.{name_byte, blank, letter, marked, star_or, byte, tokens}
use Rattle.grammar.specs.Grammar.{lines_of}
use Rattle.texts.specs.Parsing.{hedge, side_of, expr, expr_of, literal_of, literals, line_of}
use Rattle.texts.specs.Texts.{read_lines, parse}
use Rattle.texts.specs.Numbering.{table, numbered, counts_in}
use Rattle.texts.specs.Outcomes.{Outcome, gives, denies, question_words, fitted, counted, reads_text}

pub texts : List (List ℕ)
texts =
    -- P1: ''
    ([])
    ∷  -- P2: '()\n'
    (40 ∷ 41 ∷ 10 ∷ [])
    ∷  -- P3: 'a = b\n'
    (97 ∷ 32 ∷ 61 ∷ 32 ∷ 98 ∷ 10 ∷ [])
    ∷  -- P4: '(*p, *q) = (a, b)\n'
    (40 ∷ 42 ∷ 112 ∷ 44 ∷ 32 ∷ 42 ∷ 113 ∷ 41 ∷ 32 ∷ 61 ∷ 32 ∷ 40 ∷ 97 ∷ 44 ∷ 32 ∷ 98 ∷ 41 ∷ 10 ∷ [])
    ∷  -- P5: '(*p, *p) = (a, a)\n'
    (40 ∷ 42 ∷ 112 ∷ 44 ∷ 32 ∷ 42 ∷ 112 ∷ 41 ∷ 32 ∷ 61 ∷ 32 ∷ 40 ∷ 97 ∷ 44 ∷ 32 ∷ 97 ∷ 41 ∷ 10 ∷ [])
    ∷  -- P6: '(*p, a) = (a, *p)\n'
    (40 ∷ 42 ∷ 112 ∷ 44 ∷ 32 ∷ 97 ∷ 41 ∷ 32 ∷ 61 ∷ 32 ∷ 40 ∷ 97 ∷ 44 ∷ 32 ∷ 42 ∷ 112 ∷ 41 ∷ 10 ∷ [])
    ∷  -- P7: '?x = f(?x)\n'
    (63 ∷ 120 ∷ 32 ∷ 61 ∷ 32 ∷ 102 ∷ 40 ∷ 63 ∷ 120 ∷ 41 ∷ 10 ∷ [])
    ∷  -- P8: '%X(a) = g(*p)\n'
    (37 ∷ 88 ∷ 40 ∷ 97 ∷ 41 ∷ 32 ∷ 61 ∷ 32 ∷ 103 ∷ 40 ∷ 42 ∷ 112 ∷ 41 ∷ 10 ∷ [])
    ∷  -- P9: '*p in (f(a*), b*), *p = (f(a, a), b)\n'
    (42 ∷ 112 ∷ 32 ∷ 105 ∷ 110 ∷ 32 ∷ 40 ∷ 102 ∷ 40 ∷ 97 ∷ 42 ∷ 41 ∷ 44 ∷ 32 ∷ 98 ∷ 42 ∷ 41 ∷ 44 ∷ 32 ∷ 42 ∷ 112 ∷ 32 ∷ 61 ∷ 32 ∷ 40 ∷ 102 ∷ 40 ∷ 97 ∷ 44 ∷ 32 ∷ 97 ∷ 41 ∷ 44 ∷ 32 ∷ 98 ∷ 41 ∷ 10 ∷ [])
    ∷  -- P10: '?x in a, ?x in a\n'
    (63 ∷ 120 ∷ 32 ∷ 105 ∷ 110 ∷ 32 ∷ 97 ∷ 44 ∷ 32 ∷ 63 ∷ 120 ∷ 32 ∷ 105 ∷ 110 ∷ 32 ∷ 97 ∷ 10 ∷ [])
    ∷  -- P11: '(*p, *q) in f\n'
    (40 ∷ 42 ∷ 112 ∷ 44 ∷ 32 ∷ 42 ∷ 113 ∷ 41 ∷ 32 ∷ 105 ∷ 110 ∷ 32 ∷ 102 ∷ 10 ∷ [])
    ∷  -- P12: '(?x, ?x) in (a, b)'
    (40 ∷ 63 ∷ 120 ∷ 44 ∷ 32 ∷ 63 ∷ 120 ∷ 41 ∷ 32 ∷ 105 ∷ 110 ∷ 32 ∷ 40 ∷ 97 ∷ 44 ∷ 32 ∷ 98 ∷ 41 ∷ [])
    ∷  -- a run may be empty: 'tank(*p, valve) = tank(valve)\n'
    (116 ∷ 97 ∷ 110 ∷ 107 ∷ 40 ∷ 42 ∷ 112 ∷ 44 ∷ 32 ∷ 118 ∷ 97 ∷ 108 ∷ 118 ∷ 101 ∷ 41 ∷ 32 ∷ 61 ∷ 32 ∷ 116 ∷ 97 ∷ 110 ∷ 107 ∷ 40 ∷ 118 ∷ 97 ∷ 108 ∷ 118 ∷ 101 ∷ 41 ∷ 10 ∷ [])
    ∷  -- in is a name too: 'tank(in, out) in tank(in, out)\n'
    (116 ∷ 97 ∷ 110 ∷ 107 ∷ 40 ∷ 105 ∷ 110 ∷ 44 ∷ 32 ∷ 111 ∷ 117 ∷ 116 ∷ 41 ∷ 32 ∷ 105 ∷ 110 ∷ 32 ∷ 116 ∷ 97 ∷ 110 ∷ 107 ∷ 40 ∷ 105 ∷ 110 ∷ 44 ∷ 32 ∷ 111 ∷ 117 ∷ 116 ∷ 41 ∷ 10 ∷ [])
    ∷  -- two alternatives, CR LF: '?x = a\r\n\r\n?x=b,?x in((a+b)*)'
    (63 ∷ 120 ∷ 32 ∷ 61 ∷ 32 ∷ 97 ∷ 13 ∷ 10 ∷ 13 ∷ 10 ∷ 63 ∷ 120 ∷ 61 ∷ 98 ∷ 44 ∷ 63 ∷ 120 ∷ 32 ∷ 105 ∷ 110 ∷ 40 ∷ 40 ∷ 97 ∷ 43 ∷ 98 ∷ 41 ∷ 42 ∷ 41 ∷ [])
    ∷  -- not 1: '*p, *q = a, b\n'
    (42 ∷ 112 ∷ 44 ∷ 32 ∷ 42 ∷ 113 ∷ 32 ∷ 61 ∷ 32 ∷ 97 ∷ 44 ∷ 32 ∷ 98 ∷ 10 ∷ [])
    ∷  -- not 2: '?x in a*b\n'
    (63 ∷ 120 ∷ 32 ∷ 105 ∷ 110 ∷ 32 ∷ 97 ∷ 42 ∷ 98 ∷ 10 ∷ [])
    ∷  -- not 3: '? x = a\n'
    (63 ∷ 32 ∷ 120 ∷ 32 ∷ 61 ∷ 32 ∷ 97 ∷ 10 ∷ [])
    ∷  -- not 4: '= a\n'
    (61 ∷ 32 ∷ 97 ∷ 10 ∷ [])
    ∷ []

pub outcomes : List Outcome
outcomes =
    (gives (1 ∷ 0 ∷ 0 ∷ 0 ∷ 0 ∷ 6 ∷ []))
    ∷ (gives (1 ∷ 0 ∷ 0 ∷ 0 ∷ 1 ∷ 7 ∷ 7 ∷ []))
    ∷ (gives (2 ∷ 0 ∷ 0 ∷ 0 ∷ 1 ∷ 7 ∷ 14 ∷ 5000 ∷ 3000 ∷ 0 ∷ 0 ∷ 3001 ∷ 0 ∷ 0 ∷ []))
    ∷ (gives (2 ∷ 0 ∷ 2 ∷ 0 ∷ 1 ∷ 7 ∷ 16 ∷ 5000 ∷ 2000 ∷ 2001 ∷ 0 ∷ 3000 ∷ 0 ∷ 3001 ∷ 0 ∷ 0 ∷ []))
    ∷ (gives (1 ∷ 0 ∷ 1 ∷ 0 ∷ 1 ∷ 7 ∷ 16 ∷ 5000 ∷ 2000 ∷ 2000 ∷ 0 ∷ 3000 ∷ 0 ∷ 3000 ∷ 0 ∷ 0 ∷ []))
    ∷ (gives (1 ∷ 0 ∷ 1 ∷ 0 ∷ 1 ∷ 7 ∷ 16 ∷ 5000 ∷ 2000 ∷ 3000 ∷ 0 ∷ 0 ∷ 3000 ∷ 0 ∷ 2000 ∷ 0 ∷ []))
    ∷ (gives (1 ∷ 1 ∷ 0 ∷ 0 ∷ 1 ∷ 7 ∷ 14 ∷ 5000 ∷ 1000 ∷ 0 ∷ 3000 ∷ 1000 ∷ 0 ∷ 0 ∷ []))
    ∷ (gives (2 ∷ 0 ∷ 1 ∷ 1 ∷ 1 ∷ 7 ∷ 17 ∷ 5000 ∷ 4000 ∷ 3000 ∷ 0 ∷ 0 ∷ 0 ∷ 3001 ∷ 2000 ∷ 0 ∷ 0 ∷ []))
    ∷ (gives (3 ∷ 0 ∷ 1 ∷ 0 ∷ 1 ∷ 7 ∷ 30 ∷ 6000 ∷ 2000 ∷ 0 ∷ 7001 ∷ 3000 ∷ 7003 ∷ 3001 ∷ 7000 ∷ 7003 ∷ 3002 ∷ 7000 ∷ 5000 ∷ 2000 ∷ 0 ∷ 3000 ∷ 3001 ∷ 0 ∷ 3001 ∷ 0 ∷ 0 ∷ 3002 ∷ 0 ∷ 0 ∷ []))
    ∷ (gives (1 ∷ 1 ∷ 0 ∷ 0 ∷ 1 ∷ 7 ∷ 17 ∷ 6000 ∷ 1000 ∷ 0 ∷ 3000 ∷ 7000 ∷ 6000 ∷ 1000 ∷ 0 ∷ 3000 ∷ 7000 ∷ []))
    ∷ (gives (1 ∷ 0 ∷ 2 ∷ 0 ∷ 1 ∷ 7 ∷ 13 ∷ 6000 ∷ 2000 ∷ 2001 ∷ 0 ∷ 3000 ∷ 7000 ∷ []))
    ∷ (gives (2 ∷ 1 ∷ 0 ∷ 0 ∷ 1 ∷ 7 ∷ 16 ∷ 6000 ∷ 1000 ∷ 1000 ∷ 0 ∷ 7001 ∷ 3000 ∷ 7000 ∷ 3001 ∷ 7000 ∷ []))
    ∷ (gives (2 ∷ 0 ∷ 1 ∷ 0 ∷ 1 ∷ 7 ∷ 19 ∷ 5000 ∷ 3000 ∷ 2000 ∷ 3001 ∷ 0 ∷ 0 ∷ 0 ∷ 3000 ∷ 3001 ∷ 0 ∷ 0 ∷ 0 ∷ []))
    ∷ (gives (3 ∷ 0 ∷ 0 ∷ 0 ∷ 1 ∷ 7 ∷ 21 ∷ 6000 ∷ 3000 ∷ 3001 ∷ 0 ∷ 3002 ∷ 0 ∷ 0 ∷ 0 ∷ 3000 ∷ 7001 ∷ 3001 ∷ 7000 ∷ 3002 ∷ 7000 ∷ []))
    ∷ (gives (2 ∷ 1 ∷ 0 ∷ 0 ∷ 2 ∷ 8 ∷ 14 ∷ 29 ∷ 5000 ∷ 1000 ∷ 0 ∷ 3000 ∷ 0 ∷ 0 ∷ 5000 ∷ 1000 ∷ 0 ∷ 3001 ∷ 0 ∷ 0 ∷ 6000 ∷ 1000 ∷ 0 ∷ 7003 ∷ 7002 ∷ 3000 ∷ 7000 ∷ 3001 ∷ 7000 ∷ []))
    ∷ (denies NotText)
    ∷ (denies NotText)
    ∷ (denies NotText)
    ∷ (denies NotText)
    ∷ []

pub examples-hold : map (reads_text desk desk.question) texts ≡ outcomes
unfolding texts outcomes reads_text counted fitted question_words counts_in numbered table parse read_lines lines_of line_of literals literal_of expr_of expr side_of hedge tokens byte star_or marked letter blank name_byte counts_fit
examples-hold = refl
