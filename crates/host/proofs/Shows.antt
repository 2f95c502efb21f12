-- What the returns of desk_example cite: how long an example can be, and how the room's bytes are left.
use Prim.Native.Nat.{ℕ, ◌*◌, ◌/◌, ◌≤◌}
use mathlib.Core.Path.{◌≡◌, refl, ap, ◌∙◌}
use mathlib.Core.Bool.{Bool, true, false, ◌||◌}
use mathlib.Core.List.{List}
use mathlib.Core.Option.{Option, none, some}
use native.Mathlib.Omega.{arith}
use lib.Dec.{ltb}
use lib.ListN.{length, take, drop}
use lib.Seq.{sets, take_at}
use borrow.Author.Tests.{ltb-false}
use Rattle.language.specs.declared.Refusal.TheVariants.{OpenLine, LongExample}
use Rattle.language.specs.Limits.{desk}
use Rattle.language.specs.Trees.{Counts}
use Rattle.language.specs.Question.{counts_of}
use Rattle.meaning.specs.Values.{filling_words}
use Rattle.rules.specs.Solved.{solved}
use Rattle.rules.specs.Example.{default_symbol, example}
use Rattle.rules.specs.Run.{Numbered}
use Rattle.rules.specs.Answer.{Solving, answered, unread, given-up, solving}
use Rattle.rules.specs.Calls.{Showing, shows, denied, line_at, fitted, shown, showing_of, showing}
use Rattle.line_example.specs.Shown.{numbers_of, room_of}
use Rattle.example.specs.Exhibits.{told_exhibits}
use Rattle.word_bytes.specs.Bytes.{bytes_of, words_in, fitting}
use Rattle.handing.specs.Handed.{used, number_or}
use Rattle.handing.proofs.Handed.{number-value, number-refused}
use Rattle.host.specs.Numbers.{asks_old}
use Rattle.host.specs.Host.{showing_bytes, show_number, show_leaves}
use Rattle.word_bytes.proofs.Pairs.{written}
use Rattle.host.proofs.Fitting.{fitting-showing}

-- ---- how long an example can be

abbrev pub Fits : ℕ → Showing → Type 0
Fits room (shows ws) = (length ws ≤ desk.filling) × (length ws ≤ room)
Fits room (denied r) = Unit {0}

fits-fitted : (room : ℕ) (ws : List ℕ) → Fits room (fitted desk room ws)
fits-fitted room ws = go (ltb desk.filling (length ws)) (ltb room (length ws)) refl refl where
  go : (b t : Bool) → ltb desk.filling (length ws) ≡ b → ltb room (length ws) ≡ t → Fits room (elim (b || t) [ true ↦ denied LongExample | false ↦ shows ws ])
  go true t e f = tt
  go false true e f = tt
  go false false e f = (ltb-false _ _ e, ltb-false _ _ f)

fits_line : (b : Bool) (room : ℕ) (s : Showing) → Fits room s → Fits room (elim b [ true ↦ s | false ↦ denied OpenLine ])
fits_line true room s h = h
fits_line false room s h = tt

fits-shown : (old : Bool) (n : Counts) (room : ℕ) (o : Option Numbered) → Fits room (shown desk old n room o)
fits-shown old n room none = tt
fits-shown old n room (some k) = fits_line (solved k.literals) room _ (fits-fitted room (filling_words n (example (default_symbol old n) k.literals)))

pub fits-solved : (old : Bool) (n : Counts) (room line : ℕ) (s : Solving) → Fits room (showing_of desk old n room line s)
fits-solved old n room line (answered ls steps) = fits-shown old n room (line_at line ls)
fits-solved old n room line (unread r) = tt
fits-solved old n room line (given-up r) = tt

pub fits : (old : Bool) (work answer room line : ℕ) (ws : List ℕ) → Fits room (showing desk old work answer room line ws)
unfolding showing
fits old work answer room line ws = fits-solved old (counts_of ws) room line (solving desk work answer ws)

-- ---- the number

abbrev shown_told : ℕ × ℕ × ℕ → ℕ
shown_told n = number_or n.0 n.2

pub told : (s : Showing) (k : ℕ) (r : ℕ × ℕ × ℕ) → r ≡ numbers_of s → k ≡ shown_told r → k ≡ show_number s
unfolding show_number
told (shows ws) k r e f = f ∙ ap shown_told e ∙ number-value 0 (length ws) refl
told (denied x) k r e f = f ∙ ap shown_told e ∙ number-refused x 0

-- ---- the room

pub within : (s : Showing) (room : ℕ) → Fits room s → (numbers_of s).2 ≤ room
within (shows ws) room h = h.1
within (denied x) room h = omega arith

none_written : (own bytes : List ℕ) → sets bytes 0 (bytes_of (take 0 own)) ≡ bytes
unfolding bytes_of
none_written own bytes = refl

-- a refusal has no words to write
pub writes : (s : Showing) (own own' bytes bytes' : List ℕ) → Fits (length own) s → 2 * length own ≤ length bytes → own' ≡ room_of s own
    → bytes' ≡ sets bytes 0 (bytes_of (take (numbers_of s).2 own')) → bytes' ≡ show_leaves s bytes
unfolding show_leaves
writes (shows ws) own own' bytes bytes' h room eo eb =
    let t : take (length ws) own' ≡ ws = ap (take (length ws)) eo ∙ take_at ws (drop (length ws) own) (length ws) refl in
    let m = h.1 in
    eb ∙ ap (λ (l : List ℕ). sets bytes 0 (bytes_of l)) t ∙ written bytes ws (omega arith)
writes (denied x) own own' bytes bytes' h room eo eb = eb ∙ none_written own' bytes

-- ---- the return

module _ (q w o own w' o' own' : List ℕ) (line : ℕ) (old : Bool) (r : ℕ × ℕ × ℕ)
    (work : length w ≡ desk.room) (answer : length o ≡ desk.room)
    (e : (r, w', o', own') ≡ told_exhibits line old q w o own) where
  abbrev comes : Showing
  comes = showing desk old desk.room desk.room (length own) line q

  same : showing desk old (length w) (length o) (length own) line q ≡ comes
  same = rw (work, answer)

  result : r ≡ numbers_of comes
  unfolding told_exhibits
  result = ap (λ (t : (ℕ × ℕ × ℕ) × List ℕ × List ℕ × List ℕ). t.0) e ∙ ap numbers_of same

  room-left : own' ≡ room_of comes own
  unfolding told_exhibits
  room-left = ap (λ (t : (ℕ × ℕ × ℕ) × List ℕ × List ℕ × List ℕ). t.3) e ∙ ap (λ (s : Showing). room_of s own) same

  pub example-within : (n : ℕ) → n ≡ r.2 → n ≤ length own
  example-within n f =
      let h : (numbers_of comes).2 ≤ length own = within comes (length own) (fits old desk.room desk.room (length own) line q) in
      let g : n ≡ (numbers_of comes).2 = f ∙ ap (λ (n : ℕ × ℕ × ℕ). n.2) result in
      omega arith

  pub shown-line : (k n : ℕ) (bytes bytes' : List ℕ) → k ≡ shown_told r → n ≡ r.2 → 2 * length own ≤ length bytes
      → bytes' ≡ sets bytes 0 (bytes_of (take n own')) → (k ≡ show_number comes) × (bytes' ≡ show_leaves comes bytes)
  shown-line k n bytes bytes' number f room eb = (
    told comes k r result number,
    writes comes own own' bytes bytes' (fits old desk.room desk.room (length own) line q) room room-left (eb ∙ ap (λ (m : ℕ). sets bytes 0 (bytes_of (take m own'))) (f ∙ ap (λ (n : ℕ × ℕ × ℕ). n.2) result)),
  )

-- the words lent come to what the bytes come to
pub bytes-show : (q ws bytes : List ℕ) (line old room : ℕ) (flag : Bool) → flag ≡ asks_old old → ws ≡ fitting desk.question (words_in q) → room ≡ used desk.filling (length bytes / 2)
    → showing desk flag desk.room desk.room room line ws ≡ showing_bytes desk (length bytes) line old q
unfolding showing_bytes
bytes-show q ws bytes line old room flag ef ew er = rw (ef, ew, er) (fitting-showing (asks_old old) (length bytes / 2) line (words_in q))
