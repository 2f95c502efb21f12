-- What a named step in the desk's own slices ensures, told of the bytes.
use Prim.Native.Nat.{ℕ, ◌+◌, ◌*◌, ◌/◌, ◌≤◌, ◌<◌}
use mathlib.Core.Path.{◌≡◌, refl, sym, ap, ◌∙◌}
use mathlib.Core.Bool.{Bool, true, false}
use mathlib.Core.List.{List, ◌++◌, append-nil}
use native.Mathlib.Omega.{arith}
use lib.ListN.{length, drop, drop_of_length-le}
use lib.Seq.{sets}
use borrow.Author.Tests.{lt-ltb, le-ltb, le-leb, lt-leb}
use Rattle.std.specs.Prelude.{Result, Ok, Err}
use Rattle.language.specs.declared.Refusal.{Refusal}
use Rattle.language.specs.declared.Refusal.TheVariants.{ShortSlice}
use Rattle.language.specs.Kinds.{pick}
use Rattle.language.specs.Limits.{desk}
use Rattle.language.specs.Numbers.{number_of}
use Rattle.language.specs.Question.{Asked, read_question}
use Rattle.language.proofs.Numbering.{each_number}
use Rattle.rules.specs.Answer.{zeros, overwritten}
use Rattle.word_bytes.specs.Bytes.{bytes_of, words_in, fitting}
use Rattle.word_bytes.proofs.Fitting.{fitting-question}
use Rattle.host.proofs.Solves.{bytes_left}
use Rattle.replay.specs.Replay.{Triple}
use Rattle.telling.specs.Telling.{triple_of}
use Rattle.named_steps.specs.Naming.{Naming, made, unread, given-up, naming_of, naming}
use Rattle.named_steps.specs.Leaves.{result_words, begins, room_of, leaves}
use Rattle.step_host.specs.Host.{naming_bytes, step_number, step_leaves}
use Rattle.step_host.specs.Refused.{refused_leaves}
use Rattle.step_host.proofs.Orders.{InOrder, in_order}

-- ---- by the number

module _ (number : ℕ) (own room : List ℕ) where
  pub refused-early : number ≤ 6 → room ≡ refused_leaves number own room
  unfolding refused_leaves
  refused-early h = sym (ap (λ b. pick b room (sets room 0 (bytes_of own))) (le-leb number 6 h))

  pub refused-late : 6 < number → sets room 0 (bytes_of own) ≡ refused_leaves number own room
  unfolding refused_leaves
  refused-late h = sym (ap (λ b. pick b room (sets room 0 (bytes_of own))) (lt-leb number 6 h))

-- ---- by what the step comes to

-- a slice of the room's length has nothing behind it
all-over : (ws old : List ℕ) → length old ≡ desk.room → overwritten desk ws old ≡ ws
all-over ws old e = ap (λ (l : List ℕ). ws ++ l) (drop_of_length-le old {i = desk.room} (omega arith)) ∙ append-nil ws

abbrev Left : Type 0
Left = Result ℕ Refusal × List ℕ

-- where the results begin, and the refusal's number, each 0 where there is none
abbrev made_at : Left → ℕ
made_at (Ok at, o) = at
made_at (Err r, o) = 0

abbrev refused_by : Left → ℕ
refused_by (Ok at, o) = 0
refused_by (Err r, o) = number_of r

module _ (number : ℕ) (a : List ℕ) where
  -- the number that comes back, and the room's bytes at exit
  abbrev pub Told : Naming → ℕ → List ℕ → Type 0
  Told v n a' = (n ≡ step_number number v) × (a' ≡ step_leaves number v a)

  module _ (room : 2 * desk.room ≤ length a) (o o' : List ℕ) (size : length o ≡ desk.room) where
    made-within : (v : Naming) (at : ℕ) → ◌≡◌ {A = Left} (Ok at, o') (leaves number v o) → at ≤ desk.room
    made-within (made ks) at e = let z : at ≡ begins (result_words number ks) = ap made_at e in omega arith
    made-within (unread r) at e = absurd (let z : 0 ≡ number_of r = ap refused_by e in let n = each_number r in omega arith)
    made-within (given-up r) at e = absurd (let z : 0 ≡ number_of r = ap refused_by e in let n = each_number r in omega arith)

    module _ (size' : length o' ≡ desk.room) where
      put : (ws a' : List ℕ) → o' ≡ overwritten desk ws o → a' ≡ sets a 0 (bytes_of o') → a' ≡ bytes_of ws ++ drop (2 * desk.room) a
      put ws a' e f = f ∙ bytes_left a o' room size' ∙ ap (λ (us : List ℕ). bytes_of us ++ drop (2 * desk.room) a) (e ∙ all-over ws o size)

      made_told : (v : Naming) (at : ℕ) (a' : List ℕ) → ◌≡◌ {A = Left} (Ok at, o') (leaves number v o) → a' ≡ sets a 0 (bytes_of o') → Told v (100 + at) a'
      unfolding step_number step_leaves
      made_told (made ks) at a' e f =
          let z : at ≡ begins (result_words number ks) = ap made_at e in
          (ap (λ n. 100 + n) z, put (room_of (result_words number ks)) a' (ap (λ (l : Left). l.1) e) f)
      made_told (unread r) at a' e f = absurd (let z : 0 ≡ number_of r = ap refused_by e in let n = each_number r in omega arith)
      made_told (given-up r) at a' e f = absurd (let z : 0 ≡ number_of r = ap refused_by e in let n = each_number r in omega arith)

      refused-told : (v : Naming) → InOrder v → (x : Refusal) (n : ℕ) (a' : List ℕ) → ◌≡◌ {A = Left} (Err x, o') (leaves number v o) → n ≡ number_of x
          → a' ≡ refused_leaves (number_of x) o' a → Told v n a'
      unfolding step_number step_leaves
      refused-told (made ks) order x n a' e k f = absurd (let z : number_of x ≡ 0 = ap refused_by e in let m = each_number x in omega arith)
      refused-told (unread r) order x n a' e k f =
          let z : number_of x ≡ number_of r = ap refused_by e in
          (k ∙ z, f ∙ sym (refused-early (number_of x) o' a (omega arith)))
      refused-told (given-up r) order x n a' e k f =
          let z : number_of x ≡ number_of r = ap refused_by e in
          (k ∙ z, put (zeros desk) a' (ap (λ (l : Left). l.1) e) (f ∙ sym (refused-late (number_of x) o' a (omega arith))))

-- ---- the call

pub triple-as : {r r' l l' s s' : ℕ} → r ≡ r' → l ≡ l' → s ≡ s' → triple_of r l s ≡ triple_of r' l' s'
triple-as {r' = r'} {l = l} {l' = l'} {s = s} a b c = ap (λ x. triple_of x l s) a ∙ ap (λ x. triple_of r' x s) b ∙ ap (λ x. triple_of r' l' x) c

module _ (q a : List ℕ) (number : ℕ) (t : Triple) where
  abbrev comes : Naming
  comes = naming_bytes desk (length a) number t q

  abbrev by : Asked → Bool → Naming
  by x b = elim b [ true ↦ unread ShortSlice | false ↦ naming_of desk number t x ]

  short : length a < 2 * desk.room → comes ≡ unread ShortSlice
  unfolding naming_bytes naming
  short h = ap (by (read_question desk (words_in q))) (lt-ltb (length a / 2) desk.room (omega arith))

  pub too_short : length a < 2 * desk.room → Told number a comes 1 a
  unfolding step_number step_leaves
  too_short h = rw (short h) (refl, refl)

  order : InOrder comes
  unfolding naming_bytes
  order = in_order desk number t (length a / 2) (words_in q)

  module _ (room : 2 * desk.room ≤ length a) (ws o o' : List ℕ) (words : ws ≡ fitting desk.question (words_in q)) (size : length o ≡ desk.room) where
    same : naming desk (length o) number t ws ≡ comes
    unfolding naming_bytes naming
    same =
        ap (by (read_question desk ws)) (le-ltb (length o) desk.room (omega arith)) ∙ ap (naming_of desk number t) (ap (read_question desk) words ∙ fitting-question (words_in q))
        ∙ sym (ap (by (read_question desk (words_in q))) (le-ltb (length a / 2) desk.room (omega arith)))

    -- from what the call on words ensures, of the words that were made of the numbers
    module _ (s : Result ℕ Refusal) (n : ℕ) (u : Triple) (n-is : n ≡ number) (u-is : u ≡ t) (e : ◌≡◌ {A = Left} (s, o') (leaves n (naming desk (length o) n u ws) o)) where
      left : (s' : Result ℕ Refusal) → s ≡ s' → ◌≡◌ {A = Left} (s', o') (leaves number comes o)
      left s' d =
          ap (λ x. (x, o')) (sym d) ∙ e ∙ ap (λ m. leaves m (naming desk (length o) m u ws) o) n-is ∙ ap (λ y. leaves number (naming desk (length o) number y ws) o) u-is
          ∙ ap (λ v. leaves number v o) same

      pub within : (at : ℕ) → s ≡ Ok at → at ≤ desk.room
      within at d = made-within number a room o o' size comes at (left (Ok at) d)

      module _ (size' : length o' ≡ desk.room) where
        pub was-made : (at : ℕ) (a' : List ℕ) → s ≡ Ok at → a' ≡ sets a 0 (bytes_of o') → Told number a comes (100 + at) a'
        was-made at a' d f = made_told number a room o o' size size' comes at a' (left (Ok at) d) f

        pub was-refused : (x : Refusal) (k : ℕ) (a' : List ℕ) → s ≡ Err x → k ≡ number_of x → a' ≡ refused_leaves (number_of x) o' a → Told number a comes k a'
        was-refused x k a' d en ea = refused-told number a room o o' size size' comes order x k a' (left (Err x) d) en ea
