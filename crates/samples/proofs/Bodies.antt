-- The words of complete hedges: split at the end, and of two in a row.
use Prim.Native.Nat.{◌+◌}
use mathlib.Core.Path.{◌≡◌, refl, sym, ap, ◌∙◌}
use mathlib.Core.List.{[], ◌∷◌, ◌++◌, append_assoc}
use Rattle.meaning.specs.Complete.{Complete, nil, tree, ◌·◌, complete_words}
use Rattle.samples.specs.Bodies.{body}

-- a complete hedge's words end with its 0
pub words-body : (g : Complete) → complete_words g ≡ body g ++ (0 ∷ [])
words-body nil = refl
words-body (tree f c r) =
    ap (λ l. (3000 + f.0) ∷ (complete_words c ++ l)) (words-body r)
    ∙ ap (λ l. (3000 + f.0) ∷ l) (sym (append_assoc (complete_words c) (body r) (0 ∷ [])))

pub words_row : (g h : Complete) → complete_words (g · h) ≡ body g ++ complete_words h
words_row nil h = refl
words_row (tree f c r) h =
    ap (λ l. (3000 + f.0) ∷ (complete_words c ++ l)) (words_row r h)
    ∙ ap (λ l. (3000 + f.0) ∷ l) (sym (append_assoc (complete_words c) (body r) (complete_words h)))

pub body-row : (g h : Complete) → body (g · h) ≡ body g ++ body h
body-row nil h = refl
body-row (tree f c r) h =
    ap (λ l. (3000 + f.0) ∷ (complete_words c ++ l)) (body-row r h)
    ∙ ap (λ l. (3000 + f.0) ∷ l) (sym (append_assoc (complete_words c) (body r) (body h)))
