-- The call: what each of its ways out gives and leaves.
use Prim.Native.Nat.{ℕ, ◌+◌, ◌*◌, ◌<◌, ◌≤◌}
use native.Mathlib.Omega.{arith}
use mathlib.Core.Path.{◌≡◌, sym, ap, ◌∙◌, subst}
use mathlib.Core.Bool.{Bool, true, false}
use mathlib.Core.List.{List}
use lib.Dec.{lit≤}
use lib.ListN.{length, take}
use lib.Seq.{sets}
use Rattle.std.specs.Prelude.{Some, None, Result, Ok, Err}
use Rattle.std.specs.Prelude as std
use Rattle.language.specs.declared.Refusal.{Refusal}
use Rattle.language.specs.declared.Refusal.TheVariants.{NotText, ManyNames, LongText}
use Rattle.language.specs.Limits.{desk}
use Rattle.texts.specs.Outcomes.{denies, reads_text}
use Rattle.text_names.specs.Shelves.{numbering}
use Rattle.collecting.specs.Collecting.{Taken}
use Rattle.text_survey.specs.Surveys.{Surveyed}
use Rattle.text_words.specs.Bodies.{ReadBody, Lined}
use Rattle.read_text.specs.Reads.{reading_of, left_by, many_of, header_of, first_of}
use Rattle.read_text.proofs.Law.{not-tokens, not-lines, many-names, long-words, long-room, all_words}
use Rattle.collecting.proofs.Zeros.{zeros, empty-counts}

abbrev Done : List ℕ → List ℕ → Result ℕ Refusal → List ℕ → Type 0
Done text room r room' = (r ≡ reading_of (reads_text desk (length room) text)) × (room' ≡ left_by (reads_text desk (length room) text) room)

denied : (text room : List ℕ) (r : Refusal) → reads_text desk (length room) text ≡ denies r → Done text room (Err r) room
denied text room r e = (sym (ap reading_of e), sym (ap (λ o. left_by o room) e))

pub done-tokens : (text room : List ℕ) {v : std.Option ℕ} → Surveyed text v → v ≡ None
    → (Err NotText ≡ reading_of (reads_text desk (length room) text)) × (room ≡ left_by (reads_text desk (length room) text) room)
done-tokens text room s f = denied text room NotText (not-tokens desk (length room) text s f)

pub lined : (text names₀ names words : List ℕ) {first : ℕ} {v : std.Option ℕ} {many : ℕ} → Surveyed text v → v ≡ Some many → Taken desk text names₀ names → first ≡ first_of desk many → length words ≡ desk.question + 1
    → Lined desk text names words first
lined text names₀ names words {first} {v} {many} s f t e lw = record {
  shelves = t.shelves;
  begun = omega arith;
  place = omega arith;
  short = omega arith;
  clean = (many, s.good many f);
}

module _ (text names₀ names words room : List ℕ) {v : std.Option ℕ} (s : Surveyed text v) {many : ℕ} (f : v ≡ Some many) (z : names₀ ≡ zeros (4 * (desk.each + 2))) (t : Taken desk text names₀ names) {first : ℕ} (fe : first ≡ first_of desk many)
    {w : std.Option ℕ} {words' : List ℕ} (b : ReadBody (numbering desk text names) text words first w words') where
  b' : ReadBody (numbering desk text names) text words (first_of desk many) w words'
  b' = subst (λ n. ReadBody (numbering desk text names) text words n w words') fe b

  one : 1 ≤ desk.each
  one = lit≤ tt

  pub done-lines : w ≡ None → (Err NotText ≡ reading_of (reads_text desk (length room) text)) × (room ≡ left_by (reads_text desk (length room) text) room)
  done-lines g = denied text room NotText (not-lines desk one text names₀ names words (length room) s f b' (empty-counts z) t g)

  module _ {n : ℕ} (g : w ≡ Some n) {m : Bool} (e : m ≡ many_of desk names many) where
    pub done-many : m ≡ true → (Err ManyNames ≡ reading_of (reads_text desk (length room) text)) × (room ≡ left_by (reads_text desk (length room) text) room)
    done-many h = denied text room ManyNames (many-names desk one text names₀ names words (length room) s f b' (empty-counts z) t g e h)

    module _ (h : m ≡ false) (lw : length words ≡ desk.question + 1) where
      pub done-long : desk.question < n → (Err LongText ≡ reading_of (reads_text desk (length room) text)) × (room ≡ left_by (reads_text desk (length room) text) room)
      done-long p = denied text room LongText (long-words desk one text names₀ names words (length room) s f b' (empty-counts z) t g e h lw p)

      module _ (p : n ≤ desk.question) where
        pub done-room : length room < n → (Err LongText ≡ reading_of (reads_text desk (length room) text)) × (room ≡ left_by (reads_text desk (length room) text) room)
        done-room q = denied text room LongText (long-room desk one text names₀ names words (length room) s f b' (empty-counts z) t g e h lw p q)

        pub done-given : n ≤ length room → {words'' room' : List ℕ} → words'' ≡ sets words' 0 (header_of desk names many) → room' ≡ sets room 0 (take n words'')
            → (Ok n ≡ reading_of (reads_text desk (length room) text)) × (room' ≡ left_by (reads_text desk (length room) text) room)
        done-given q {words''} {room'} i j =
            let a = all_words desk one text names₀ names words (length room) s f b' (empty-counts z) t g e h lw p q i in
            (sym (ap reading_of a.0 ∙ ap Ok a.1), j ∙ sym (ap (λ o. left_by o room) a.0))
