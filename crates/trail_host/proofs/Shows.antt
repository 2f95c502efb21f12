-- What the example with a trail in the desk's own slices ensures, told of the bytes.
use Prim.Native.Nat.{ℕ, ◌*◌, ◌≤◌}
use mathlib.Core.Path.{◌≡◌, ap, ◌∙◌}
use mathlib.Core.Bool.{Bool}
use mathlib.Core.List.{List}
use native.Mathlib.Omega.{arith}
use lib.ListN.{length, take}
use lib.Seq.{sets}
use Rattle.language.specs.Limits.{desk}
use Rattle.language.specs.Question.{counts_of}
use Rattle.rules.specs.Calls.{Showing}
use Rattle.line_example.specs.Shown.{numbers_of, room_of}
use Rattle.word_bytes.specs.Bytes.{words_of, half_word, bytes_of}
use Rattle.handing.specs.Handed.{number_or}
use Rattle.handing.proofs.Handed.{number-as}
use Rattle.host.specs.Host.{show_number, show_leaves}
use Rattle.host.proofs.Shows.{Fits, fits-solved, told, within, writes}
use Rattle.replay.specs.Calls.{replaying, showing_trail}
use Rattle.trail_example.specs.Exhibits.{told_trail_exhibits}

abbrev Left : Type 0
Left = (ℕ × ℕ × ℕ) × List ℕ × List ℕ × List ℕ

module _ (q trail w o own w' o' own' : List ℕ) (line : ℕ) (old : Bool) (r : ℕ × ℕ × ℕ) (work : length w ≡ desk.room) (answer : length o ≡ desk.room)
    (e : (r, w', o', own') ≡ told_trail_exhibits line old trail q w o own)
  where
    abbrev comes : Showing
    comes = showing_trail desk old desk.room desk.room (length own) line (half_word trail) (words_of trail) q

    same : showing_trail desk old (length w) (length o) (length own) line (half_word trail) (words_of trail) q ≡ comes
    same = rw (work, answer)

    result : r ≡ numbers_of comes
    unfolding told_trail_exhibits
    result = ap (λ (t : Left). t.0) e ∙ ap numbers_of same

    room-left : own' ≡ room_of comes own
    unfolding told_trail_exhibits
    room-left = ap (λ (t : Left). t.3) e ∙ ap (λ (s : Showing). room_of s own) same

    fits : Fits (length own) comes
    unfolding showing_trail
    fits = fits-solved old (counts_of q) (length own) line (replaying desk desk.room desk.room (half_word trail) (words_of trail) q)

    pub example-within : (n : ℕ) → n ≡ r.2 → n ≤ length own
    example-within n f =
        let h = within comes (length own) fits in
        let g : n ≡ (numbers_of comes).2 = f ∙ ap (λ (n : ℕ × ℕ × ℕ). n.2) result in
        omega arith

    pub shown-line : (k number n : ℕ) (bytes bytes' : List ℕ) → number ≡ r.0 → n ≡ r.2 → k ≡ number_or number n → 2 * length own ≤ length bytes
        → bytes' ≡ sets bytes 0 (bytes_of (take n own')) → (k ≡ show_number comes) × (bytes' ≡ show_leaves comes bytes)
    shown-line k number n bytes bytes' f g h room eb = (
      told comes k r result (number-as h f g),
      writes comes own own' bytes bytes' fits room room-left (eb ∙ ap (λ (m : ℕ). sets bytes 0 (bytes_of (take m own'))) (g ∙ ap (λ (n : ℕ × ℕ × ℕ). n.2) result)),
    )
