-- What answering a day's sheet comes to at each return of the call, and what is then left in the bytes and in the slices.
use Prim.Native.Nat.{ℕ, ◌*◌, ◌/◌, ◌<◌, ◌≤◌}
use mathlib.Core.Path.{◌≡◌, refl, sym, ap, ◌∙◌}
use mathlib.Core.Bool.{Bool, true, false, not}
use mathlib.Core.List.{List, ◌++◌}
use lib.Dec.{leb, ltb}
use lib.ListN.{length, drop, replicate}
use borrow.Author.Tests.{lt-ltb, le-ltb}
use Rattle.language.specs.declared.Refusal.{Refusal}
use Rattle.language.specs.declared.Refusal.TheVariants.{ShortSlice, SheetLayout, LongAnswers}
use Rattle.language.specs.Limits.{desk}
use Rattle.language.specs.Numbers.{number_of}
use Rattle.language.proofs.Bools.{holds, fails}
use Rattle.rules.specs.Answer.{zeros, overwritten}
use Rattle.word_bytes.specs.Bytes.{words_in}
use Rattle.sheets.specs.Layout.{sheet_laid, sheet_parts, sheet_words}
use Rattle.sheets.specs.Day.{Day, answers, unread, given-up, fitted, answers_of, day}
use Rattle.handing.specs.Handed.{word_bytes}
use Rattle.day.specs.Leaves.{day_numbers, room_leaves, slice_leaves}
use Rattle.day.specs.Written.{Ended, Kept}

refused-if : (b : Bool) (r : Refusal) (x : Day) → b ≡ true → elim b [ true ↦ unread r | false ↦ x ] ≡ unread r
refused-if b r x e = ap (λ (t : Bool). elim t [ true ↦ unread r | false ↦ x ]) e

else-on : (b : Bool) (r : Refusal) (x : Day) → b ≡ false → elim b [ true ↦ unread r | false ↦ x ] ≡ x
else-on b r x e = ap (λ (t : Bool). elim t [ true ↦ unread r | false ↦ x ]) e

module _ (w a k : ℕ) (ws : List ℕ) where
  pub short-work : w < desk.room → day desk w a k ws ≡ unread ShortSlice
  unfolding day
  short-work h = refused-if (ltb w desk.room) ShortSlice _ (lt-ltb _ _ h)

  module _ (hw : desk.room ≤ w) where
    pub short-answer : a < desk.room → day desk w a k ws ≡ unread ShortSlice
    unfolding day
    short-answer h = else-on (ltb w desk.room) ShortSlice _ (le-ltb _ _ hw) ∙ refused-if (ltb a desk.room) ShortSlice _ (lt-ltb _ _ h)

    module _ (ha : desk.room ≤ a) where
      laid-or-not : (b : Bool) → sheet_laid desk ws ≡ b → day desk w a k ws ≡ elim b [ false ↦ unread SheetLayout | true ↦ fitted k (sheet_words (answers_of desk w a (sheet_parts ws))) ]
      unfolding day
      laid-or-not b e =
          else-on (ltb w desk.room) ShortSlice _ (le-ltb _ _ hw) ∙ else-on (ltb a desk.room) ShortSlice _ (le-ltb _ _ ha)
          ∙ ap (λ (t : Bool). elim t [ false ↦ unread SheetLayout | true ↦ fitted k (sheet_words (answers_of desk w a (sheet_parts ws))) ]) e

      pub no-sheet : sheet_laid desk ws ≡ false → day desk w a k ws ≡ unread SheetLayout
      no-sheet e = laid-or-not false e

      pub a-sheet : sheet_laid desk ws ≡ true → (b : Bool) → b ≡ leb (length (sheet_words (answers_of desk w a (sheet_parts ws)))) k
          → day desk w a k ws ≡ elim b [ true ↦ answers (sheet_words (answers_of desk w a (sheet_parts ws))) | false ↦ given-up LongAnswers ]
      a-sheet e b d =
          laid-or-not true e
          ∙ ap (λ (t : Bool). elim t [ true ↦ answers (sheet_words (answers_of desk w a (sheet_parts ws))) | false ↦ given-up LongAnswers ]) (sym d)

-- ---- what is left

cleared : (old mid new : List ℕ) → Kept old mid → new ≡ overwritten desk (zeros desk) mid → new ≡ overwritten desk (zeros desk) old
cleared old mid new h e = e ∙ ap (λ l. zeros desk ++ l) h.past

room-cleared : (ps : List (List ℕ)) (old mid new : List ℕ) (b : Bool) → Ended ps old b mid → new ≡ replicate (word_bytes mid) 0 ++ drop (word_bytes mid) mid
    → new ≡ replicate (word_bytes old) 0 ++ drop (word_bytes old) old
room-cleared ps old mid new b h e =
    e ∙ ap (λ n. replicate (2 * (n / 2)) 0 ++ drop (2 * (n / 2)) mid) h.long ∙ ap (λ l. replicate (word_bytes old) 0 ++ l) h.last

-- ---- what comes back, and what is left

module _ (room work answer : List ℕ) where
  -- the numbers, the room and the two slices at the end
  abbrev pub Came : Day → ℕ × ℕ → List ℕ → List ℕ → List ℕ → Type 0
  Came d numbers room' work' answer' = (numbers ≡ day_numbers d) × ((room' ≡ room_leaves d room) × (work' ≡ slice_leaves d work) × (answer' ≡ slice_leaves d answer))

  module _ (bs : List ℕ) where
    abbrev comes : Day
    comes = day desk (length work) (length answer) (length room / 2) (words_in bs)

    unchanged : (r : Refusal) → comes ≡ unread r → Came comes (number_of r, 0) room work answer
    unchanged r e = rw e (refl, (refl, refl, refl))

    pub came-short-work : length work < desk.room → Came comes (1, 0) room work answer
    came-short-work h = unchanged ShortSlice (short-work _ _ _ _ h)

    module _ (hw : desk.room ≤ length work) where
      pub came-short-answer : length answer < desk.room → Came comes (1, 0) room work answer
      came-short-answer h = unchanged ShortSlice (short-answer _ _ _ _ hw h)

      module _ (ha : desk.room ≤ length answer) (r : Bool) (is : r ≡ sheet_laid desk (words_in bs)) where
        pub came-no-sheet : not r ≡ true → Came comes (22, 0) room work answer
        came-no-sheet h = unchanged SheetLayout (no-sheet _ _ _ _ hw ha (fails r (sheet_laid desk (words_in bs)) is h))

        module _ (h : not r ≡ false) where
          abbrev parts : List (List ℕ)
          parts = answers_of desk (length work) (length answer) (sheet_parts (words_in bs))

          module _ (b : Bool) (mid work₁ answer₁ work' answer' : List ℕ) (ended : Ended parts room b mid) (kw : Kept work work₁) (ka : Kept answer answer₁)
              (cw : work' ≡ overwritten desk (zeros desk) work₁) (ca : answer' ≡ overwritten desk (zeros desk) answer₁) where
            fits : comes ≡ elim b [ true ↦ answers (sheet_words parts) | false ↦ given-up LongAnswers ]
            fits = a-sheet (length work) (length answer) (length room / 2) (words_in bs) hw ha (holds r (sheet_laid desk (words_in bs)) is h) b ended.fits

            pub came-answers : b ≡ true → Came comes (0, 0) mid work' answer'
            came-answers z =
                let e : comes ≡ answers (sheet_words parts) = fits ∙ ap (λ (t : Bool). elim t [ true ↦ answers (sheet_words parts) | false ↦ given-up LongAnswers ]) z in
                rw e (refl, (ended.whole z, cleared work work₁ work' kw cw, cleared answer answer₁ answer' ka ca))

            pub came-long : b ≡ false → (room' : List ℕ) → room' ≡ replicate (word_bytes mid) 0 ++ drop (word_bytes mid) mid → Came comes (23, 0) room' work' answer'
            came-long z room' d =
                let e : comes ≡ given-up LongAnswers = fits ∙ ap (λ (t : Bool). elim t [ true ↦ answers (sheet_words parts) | false ↦ given-up LongAnswers ]) z in
                rw e (refl, (room-cleared parts room mid room' b ended d, cleared work work₁ work' kw cw, cleared answer answer₁ answer' ka ca))
