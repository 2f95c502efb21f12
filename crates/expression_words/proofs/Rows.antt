-- Into brackets and out of them: rows of what is owed.
use Prim.Native.Nat.{ℕ, zero, suc, ◌+◌, ◌-◌, ◌/◌, ◌%◌, ◌<◌, ◌≤◌}
use native.Mathlib.Omega.{arith}
use mathlib.Core.Path.{◌≡◌, refl, sym, ap, ap₂, ◌∙◌, subst}
use mathlib.Core.Bool.{Bool, true, false}
use mathlib.Core.List.{List, [], ◌∷◌}
use lib.Dec.{eqb}
use lib.ListN.{length, drop, get_or, set, length-set}
use lib.Seq.{get_or-set_same, get_or-set_other}
use borrow.Author.Tests.{eq-eqb, ne_eqb}
use Rattle.language.specs.Kinds.{pick}
use Rattle.flat.specs.Filling.{Frame, Filled, owes, enclosed, released}
use Rattle.expression_words.specs.declared.Fill.{Fill}
use Rattle.grammar.specs.Tokens.{comma, plus}
use Rattle.lexing.specs.declared.Mark.{Mark}
use Rattle.lexing.specs.declared.Mark.TheVariants.{End, Bad, Symbol, One, Run, Function, Equals, Comma, Opens, Closes, Plus, Times}
use Rattle.expression_words.specs.Seen.{code_of, frame_of, frames_in, seen, free_of, starred_of, inside_in, Laid, Turned, Released, Enclosed, Marked}

-- ---- what is owed, as one number and back

nothing-owed : (n : ℕ) (o i : Bool) → code_of n o i ≡ 0 → owes n o i ≡ false
nothing-owed zero true true e = absurd (omega arith)
nothing-owed zero true false e = absurd (omega arith)
nothing-owed zero false true e = absurd (omega arith)
nothing-owed zero false false e = refl
nothing-owed (suc n) o i e = absurd (omega arith)

something-owed : (n : ℕ) (o i : Bool) → (code_of n o i ≡ 0 → ⊥) → owes n o i ≡ true
something-owed zero true true e = refl
something-owed zero true false e = refl
something-owed zero false true e = refl
something-owed zero false false e = absurd (e refl)
something-owed (suc n) o i e = refl

flags-back : (n : ℕ) (o i : Bool) → (code_of n o i / 4 ≡ n) × (eqb (code_of n o i / 2 % 2) 1 ≡ o) × (eqb (code_of n o i % 2) 1 ≡ i)
flags-back n true true = (omega arith, eq-eqb (code_of n true true / 2 % 2) 1 (omega arith), eq-eqb (code_of n true true % 2) 1 (omega arith))
flags-back n true false = (omega arith, eq-eqb (code_of n true false / 2 % 2) 1 (omega arith), ne_eqb (code_of n true false % 2) 1 (λ (e : code_of n true false % 2 ≡ 1). omega arith))
flags-back n false true = (omega arith, ne_eqb (code_of n false true / 2 % 2) 1 (λ (e : code_of n false true / 2 % 2 ≡ 1). omega arith), eq-eqb (code_of n false true % 2) 1 (omega arith))
flags-back n false false = (omega arith, ne_eqb (code_of n false false / 2 % 2) 1 (λ (e : code_of n false false / 2 % 2 ≡ 1). omega arith), ne_eqb (code_of n false false % 2) 1 (λ (e : code_of n false false % 2 ≡ 1). omega arith))

abbrev frame : ℕ → ℕ → Bool → Bool → Frame
frame d n o i = record { depth = d; stars = n; operand = o; item = i }

frame_back : (d n : ℕ) (o i : Bool) → frame_of d (code_of n o i) ≡ frame d n o i
frame_back d n o i =
    let b = flags-back n o i in
    ap₂ (λ m p. frame d m p (eqb (code_of n o i % 2) 1)) b.0 b.1 ∙ ap (frame d n o) b.2

-- ---- rows: one more, and those below it

rows-below : (ds cs : List ℕ) (k j d c : ℕ) → k ≤ j → frames_in (set ds j d) (set cs j c) k ≡ frames_in ds cs k
rows-below ds cs zero j d c p = refl
rows-below ds cs (suc k) j d c p =
    ap₂ (λ f fs. f ∷ fs)
    (ap₂ frame_of (get_or-set_other ds j k d 0 (λ e. omega arith)) (get_or-set_other cs j k c 0 (λ e. omega arith)))
    (rows-below ds cs k j d c (omega arith))

rows_more : (ds cs : List ℕ) (k d n : ℕ) (o i : Bool) → k < length ds → k < length cs → frames_in (set ds k d) (set cs k (code_of n o i)) (suc k) ≡ frame d n o i ∷ frames_in ds cs k
rows_more ds cs k d n o i p q =
    ap₂ (λ f fs. f ∷ fs)
    (ap₂ frame_of (get_or-set_same ds k d 0 p) (get_or-set_same cs k (code_of n o i) 0 q) ∙ frame_back d n o i)
    (rows-below ds cs k k d (code_of n o i) (omega arith))

-- ---- into brackets

abbrev inner : Fill → ℕ → ℕ → Fill
inner s deeper k = record { at = s.at; stars = 0; operand = false; item = false; functor = false; bare = true; depth = deeper; frames = k }

into : List ℕ → ℕ → List Frame → Filled
into ws d fs = record { words = ws; stars = 0; operand = false; item = false; functor = false; bare = true; depth = d; owed = fs }

pub enclosed-free : (s : Fill) {ds cs : List ℕ} {c : ℕ} → c ≡ code_of s.stars s.operand s.item → c ≡ 0 → Enclosed s ds cs (inner s (s.depth + 1) s.frames) ds cs
unfolding seen enclosed into
enclosed-free s {ds} {cs} {c} e z = record {
  place = refl;
  len-depths = refl;
  len-owed = refl;
  same = λ room.
      ap (λ d. into (drop s.at room) d (frames_in ds cs s.frames)) (let y : s.depth + 1 ≡ suc s.depth = omega arith in y)
      ∙ sym (ap (λ b. into (drop s.at room) (suc s.depth) (pick b (frame s.depth s.stars s.operand s.item ∷ frames_in ds cs s.frames) (frames_in ds cs s.frames))) (nothing-owed s.stars s.operand s.item (sym e ∙ z)));
}

pub enclosed-kept : (s : Fill) {ds cs : List ℕ} {c : ℕ} → c ≡ code_of s.stars s.operand s.item → (c ≡ 0 → ⊥) → (s.frames < length ds) × (s.frames < length cs)
    → Enclosed s ds cs (inner s (s.depth + 1) (s.frames + 1)) (set ds s.frames s.depth) (set cs s.frames c)
unfolding seen enclosed into
enclosed-kept s {ds} {cs} {c} e z p = record {
  place = refl;
  len-depths = length-set ds s.frames s.depth;
  len-owed = length-set cs s.frames c;
  same = λ room.
      ap₂ (λ d x. into (drop s.at room) d (frames_in (set ds s.frames s.depth) (set cs s.frames x) (s.frames + 1))) (let y : s.depth + 1 ≡ suc s.depth = omega arith in y) e
      ∙ ap (λ k. into (drop s.at room) (suc s.depth) (frames_in (set ds s.frames s.depth) (set cs s.frames (code_of s.stars s.operand s.item)) k)) (let y : s.frames + 1 ≡ suc s.frames = omega arith in y)
      ∙ ap (into (drop s.at room) (suc s.depth)) (rows_more ds cs s.frames s.depth s.stars s.operand s.item p.0 p.1)
      ∙ sym (ap (λ b. into (drop s.at room) (suc s.depth) (pick b (frame s.depth s.stars s.operand s.item ∷ frames_in ds cs s.frames) (frames_in ds cs s.frames))) (something-owed s.stars s.operand s.item (λ y. z (e ∙ y))));
}

-- ---- out of them

abbrev free : List ℕ → ℕ → List Frame → Filled
free ws d fs = record { words = ws; stars = 0; operand = false; item = false; functor = true; bare = false; depth = d; owed = fs }

pub released-none : (s : Fill) {at d : ℕ} {ds cs : List ℕ} {r : Fill} → d ≡ s.depth - 1 → s.frames ≡ 0 → r ≡ free_of at d 0 → Released s at ds cs r
unfolding seen
released-none s {at} {d} {ds} {cs} {r} e z g = subst (Released s at ds cs) (sym g) (record {
  place = refl;
  same = λ room. ap (λ x. free (drop at room) x []) e ∙ sym (ap (λ k. released (drop at room) (s.depth - 1) (frames_in ds cs k)) z);
})

module _ (s : Fill) (at : ℕ) (ds cs : List ℕ) {d : ℕ} (e : d ≡ s.depth - 1) (z : s.frames ≡ 0 → ⊥) where
  again : s.frames ≡ suc (s.frames - 1)
  again = omega arith

  pub released-other : {r : Fill} → (get_or ds (s.frames - 1) 0 ≡ d → ⊥) → r ≡ free_of at d s.frames → Released s at ds cs r
  unfolding seen
  released-other {r} n g = subst (Released s at ds cs) (sym g) (record {
    place = refl;
    same = λ room.
        ap₂ (λ x k. free (drop at room) x (frames_in ds cs k)) e again
        ∙ sym (ap (λ k. released (drop at room) (s.depth - 1) (frames_in ds cs k)) again ∙ other (drop at room) (ne_eqb (get_or ds (s.frames - 1) 0) (s.depth - 1) (λ y. n (y ∙ sym e))));
  })
    where
      other : (ws : List ℕ) → eqb (get_or ds (s.frames - 1) 0) (s.depth - 1) ≡ false → released ws (s.depth - 1) (frames_in ds cs (suc (s.frames - 1))) ≡ free ws (s.depth - 1) (frames_in ds cs (suc (s.frames - 1)))
      other ws f = rw f

  pub released-top : (get_or ds (s.frames - 1) 0 ≡ d) → {c : ℕ} → c ≡ get_or cs (s.frames - 1) 0
      → Released s at ds cs (record { at = at; stars = c / 4; operand = eqb (c / 2 % 2) 1; item = eqb (c % 2) 1; functor = true; bare = false; depth = d; frames = s.frames - 1 })
  unfolding seen
  released-top n {c} g = record {
    place = refl;
    same = λ room.
        ap₂ (λ x y. record { words = drop at room; stars = y / 4; operand = eqb (y / 2 % 2) 1; item = eqb (y % 2) 1; functor = true; bare = false; depth = x; owed = frames_in ds cs (s.frames - 1) }) e g
        ∙ sym (ap (λ k. released (drop at room) (s.depth - 1) (frames_in ds cs k)) again ∙ top (drop at room) (eq-eqb (get_or ds (s.frames - 1) 0) (s.depth - 1) (n ∙ e)));
  }
    where
      top : (ws : List ℕ) → eqb (get_or ds (s.frames - 1) 0) (s.depth - 1) ≡ true
          → released ws (s.depth - 1) (frames_in ds cs (suc (s.frames - 1))) ≡ record { words = ws; stars = get_or cs (s.frames - 1) 0 / 4; operand = eqb (get_or cs (s.frames - 1) 0 / 2 % 2) 1; item = eqb (get_or cs (s.frames - 1) 0 % 2) 1; functor = true; bare = false; depth = s.depth - 1; owed = frames_in ds cs (s.frames - 1) }
      top ws f = rw f

-- ---- each character

pub opens-marked : (s : Fill) {room room' ds cs : List ℕ} {at : ℕ} {r : Fill} → Laid room (inside_in s room) at room' → Released s at ds cs r → Marked Opens s room ds cs r room' ds cs
unfolding seen
opens-marked s {room} {room'} {ds} {cs} {at} {r} l o = record {
  high = let h = l.high in let p = o.place in omega arith;
  len = l.len;
  len-depths = refl;
  len-owed = refl;
  same = λ ρ. o.same room' ∙ ap (λ ws. released ws (s.depth - 1) (frames_in ds cs s.frames)) l.words;
}

pub closes-marked : (s : Fill) {m : Mark} {room ds cs ds' cs' : List ℕ} {r : Fill} → s.at ≤ length room → m ≡ Closes → Enclosed s ds cs r ds' cs' → Marked m s room ds cs r room ds' cs'
closes-marked s {m} {room} {ds} {cs} {ds'} {cs'} {r} h e n = subst (λ k. Marked k s room ds cs r room ds' cs') (sym e) (record {
  high = let p = n.place in omega arith;
  len = refl;
  len-depths = n.len-depths;
  len-owed = n.len-owed;
  same = λ ρ. n.same room;
})

pub comma-marked : (s : Fill) {m : Mark} {room room' ds cs : List ℕ} {r : Fill} → m ≡ Comma → Turned comma s room r room' → Marked m s room ds cs r room' ds cs
comma-marked s {m} {room} {room'} {ds} {cs} {r} e t = subst (λ k. Marked k s room ds cs r room' ds cs) (sym e) (record { high = t.high; len = t.len; len-depths = refl; len-owed = refl; same = λ ρ. t.same ρ ds cs })

pub plus-marked : (s : Fill) {m : Mark} {room room' ds cs : List ℕ} {r : Fill} → m ≡ Plus → Turned plus s room r room' → Marked m s room ds cs r room' ds cs
plus-marked s {m} {room} {room'} {ds} {cs} {r} e t = subst (λ k. Marked k s room ds cs r room' ds cs) (sym e) (record { high = t.high; len = t.len; len-depths = refl; len-owed = refl; same = λ ρ. t.same ρ ds cs })

pub times-marked : (s : Fill) {m : Mark} {room ds cs : List ℕ} {r : Fill} → s.at ≤ length room → m ≡ Run → r ≡ starred_of s → Marked m s room ds cs r room ds cs
unfolding seen
times-marked s {m} {room} {ds} {cs} {r} h e t = subst (λ k. Marked k s room ds cs r room ds cs) (sym e) (subst (λ x. Marked Run s room ds cs x room ds cs) (sym t) (record {
  high = h;
  len = refl;
  len-depths = refl;
  len-owed = refl;
  same = λ ρ. ap (λ n. record { words = drop s.at room; stars = n; operand = s.operand; item = s.item; functor = false; bare = false; depth = s.depth; owed = frames_in ds cs s.frames }) (let z : s.stars + 1 ≡ suc s.stars = omega arith in z);
}))

pub as-opens : (s : Fill) {m : Mark} {room room' ds cs : List ℕ} {r : Fill} → m ≡ Opens → Marked Opens s room ds cs r room' ds cs → Marked m s room ds cs r room' ds cs
as-opens s {m} {room} {room'} {ds} {cs} {r} e t = subst (λ k. Marked k s room ds cs r room' ds cs) (sym e) t

-- one that does nothing
pub end_marked : (s : Fill) {m : Mark} {room ds cs : List ℕ} → s.at ≤ length room → m ≡ End → Marked m s room ds cs s room ds cs
end_marked s {m} {room} {ds} {cs} h e = subst (λ k. Marked k s room ds cs s room ds cs) (sym e) (record { high = h; len = refl; len-depths = refl; len-owed = refl; same = λ ρ. refl })

pub bad-marked : (s : Fill) {m : Mark} {room ds cs : List ℕ} → s.at ≤ length room → m ≡ Bad → Marked m s room ds cs s room ds cs
bad-marked s {m} {room} {ds} {cs} h e = subst (λ k. Marked k s room ds cs s room ds cs) (sym e) (record { high = h; len = refl; len-depths = refl; len-owed = refl; same = λ ρ. refl })

pub symbol-marked : (s : Fill) {m : Mark} {room ds cs : List ℕ} → s.at ≤ length room → m ≡ Symbol → Marked m s room ds cs s room ds cs
symbol-marked s {m} {room} {ds} {cs} h e = subst (λ k. Marked k s room ds cs s room ds cs) (sym e) (record { high = h; len = refl; len-depths = refl; len-owed = refl; same = λ ρ. refl })

pub one-marked : (s : Fill) {m : Mark} {room ds cs : List ℕ} → s.at ≤ length room → m ≡ One → Marked m s room ds cs s room ds cs
one-marked s {m} {room} {ds} {cs} h e = subst (λ k. Marked k s room ds cs s room ds cs) (sym e) (record { high = h; len = refl; len-depths = refl; len-owed = refl; same = λ ρ. refl })

pub function-marked : (s : Fill) {m : Mark} {room ds cs : List ℕ} → s.at ≤ length room → m ≡ Function → Marked m s room ds cs s room ds cs
function-marked s {m} {room} {ds} {cs} h e = subst (λ k. Marked k s room ds cs s room ds cs) (sym e) (record { high = h; len = refl; len-depths = refl; len-owed = refl; same = λ ρ. refl })

pub equals-marked : (s : Fill) {m : Mark} {room ds cs : List ℕ} → s.at ≤ length room → m ≡ Equals → Marked m s room ds cs s room ds cs
equals-marked s {m} {room} {ds} {cs} h e = subst (λ k. Marked k s room ds cs s room ds cs) (sym e) (record { high = h; len = refl; len-depths = refl; len-owed = refl; same = λ ρ. refl })

pub star-marked : (s : Fill) {m : Mark} {room ds cs : List ℕ} → s.at ≤ length room → m ≡ Times → Marked m s room ds cs s room ds cs
star-marked s {m} {room} {ds} {cs} h e = subst (λ k. Marked k s room ds cs s room ds cs) (sym e) (record { high = h; len = refl; len-depths = refl; len-owed = refl; same = λ ρ. refl })
