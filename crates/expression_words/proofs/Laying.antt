-- Words put right before those that are there.
use Prim.Native.Nat.{ℕ, suc, ◌+◌, ◌-◌, ◌<◌, ◌≤◌}
use native.Mathlib.Omega.{arith}
use mathlib.Core.Path.{◌≡◌, refl, sym, ap, ap₂, ◌∙◌, subst}
use mathlib.Core.Bool.{Bool, true, false, not}
use mathlib.Core.List.{List, ◌∷◌}
use lib.ListN.{length, drop, set, length-set, length-drop}
use lib.Seq.{drop-cons, get_or-set_same, drop-set-lt}
use borrow.Author.Tests.{not-true, not-false}
use Rattle.language.specs.Limits.{Limits}
use Rattle.language.specs.Kinds.{pick}
use Rattle.texts.specs.Numbering.{symbols}
use Rattle.text_names.specs.Shelves.{name_at, numbering}
use Rattle.flat.specs.Filling.{stars_on}
use Rattle.grammar.specs.Tokens.{comma, plus}
use Rattle.backwards.specs.Backward.{one-if}
use Rattle.backwards.proofs.Weight.{length-stars, length-if}
use Rattle.expression_words.specs.declared.Fill.{Fill}
use Rattle.expression_words.specs.Seen.{seen, frames_in, Laid, operand_in, item_in, owing, Turned, inside_in, inside_owed, Named}

set_before : (room : List ℕ) (at w : ℕ) → 1 ≤ at → at ≤ length room → drop (at - 1) (set room (at - 1) w) ≡ w ∷ drop at room
set_before room at w p q =
    drop-cons (set room (at - 1) w) (at - 1) 0 (let l = length-set room (at - 1) w in omega arith)
    ∙ ap₂ (λ a k. a ∷ drop k (set room (at - 1) w)) (get_or-set_same room (at - 1) w 0 (omega arith)) (let z : suc (at - 1) ≡ at = omega arith in z)
    ∙ ap (λ l. w ∷ l) (drop-set-lt at room (at - 1) w (omega arith))

pub laid-not : (b : Bool) {room : List ℕ} {at : ℕ} (w : ℕ) → not b ≡ true → at ≤ length room → Laid room (pick b (w ∷ drop at room) (drop at room)) at room
laid-not b {room} {at} w e p = record { high = p; len = refl; words = sym (ap (λ t. pick t (w ∷ drop at room) (drop at room)) (not-true b e)) }

pub one_at : (b : Bool) {at : ℕ} → not b ≡ false → one-if b ≤ at → 1 ≤ at
one_at b {at} e p = subst (λ t. one-if t ≤ at) (not-false b e) p

pub laid_one : (b : Bool) {room : List ℕ} {at : ℕ} (w : ℕ) → not b ≡ false → one-if b ≤ at → at ≤ length room → Laid room (pick b (w ∷ drop at room) (drop at room)) (at - 1) (set room (at - 1) w)
laid_one b {room} {at} w e p q = record {
  high = omega arith;
  len = length-set room (at - 1) w;
  words = set_before room at w (one_at b e p) q ∙ sym (ap (λ t. pick t (w ∷ drop at room) (drop at room)) (not-false b e));
}

-- ---- stars, one after the other

pub record Starring (room : List ℕ) (at stars : ℕ) (to left : ℕ) (room' : List ℕ) : Type 0 where
  pub enough : left ≤ to
  pub high : to ≤ length room
  pub len : length room' ≡ length room
  pub lives : stars_on left (drop to room') ≡ stars_on stars (drop at room)

pub stars-start : {room : List ℕ} {at stars : ℕ} → stars ≤ at → at ≤ length room → Starring room at stars at stars room
stars-start p q = record { enough = p; high = q; len = refl; lives = refl }

pub stars-on : {room : List ℕ} {at stars to left : ℕ} {room' : List ℕ} → Starring room at stars to left room' → 0 < left → Starring room at stars (to - 1) (left - 1) (set room' (to - 1) 7003)
stars-on {room} {at} {stars} {to} {left} {room'} g p = record {
  enough = let a = g.enough in omega arith;
  high = let a = g.high in omega arith;
  len = length-set room' (to - 1) 7003 ∙ g.len;
  lives =
      let a = g.enough in
      let b = g.high in
      let l = g.len in
      ap (stars_on (left - 1)) (set_before room' to 7003 (omega arith) (omega arith))
      ∙ ap (λ k. stars_on k (drop to room')) (let z : suc (left - 1) ≡ left = omega arith in z)
      ∙ g.lives;
}

pub stars-end : {room : List ℕ} {at stars to left : ℕ} {room' : List ℕ} → Starring room at stars to left room' → left ≤ 0 → Laid room (stars_on stars (drop at room)) to room'
stars-end {room} {at} {stars} {to} {left} {room'} g p = record {
  high = g.high;
  len = g.len;
  words = ap (λ k. stars_on k (drop to room')) (let z : 0 ≡ left = omega arith in z) ∙ g.lives;
}

-- ---- one behind the other

-- where the words end up is known from how many they are
pub laid-place : {room vs room' : List ℕ} {a : ℕ} → Laid room vs a room' → a + length vs ≡ length room
laid-place {room} {vs} {room'} {a} l = let d = length-drop a room' in let e = ap length l.words in let n = l.len in let h = l.high in omega arith

pub laid_then : {room vs room' room'' : List ℕ} {a r : ℕ} (b : Bool) (w : ℕ) → Laid room vs a room' → Laid room' (pick b (w ∷ drop a room') (drop a room')) r room'' → Laid room (pick b (w ∷ vs) vs) r room''
laid_then {room} {vs} {room'} {room''} {a} {r} b w l m = record {
  high = let h = m.high in let n = l.len in omega arith;
  len = m.len ∙ l.len;
  words = m.words ∙ ap (λ us. pick b (w ∷ us) us) l.words;
}

-- room for one word more behind stars; behind an operand
pub stars-leave : {room room' : List ℕ} {at a : ℕ} (n : ℕ) (b : Bool) → at ≤ length room → Laid room (stars_on n (drop at room)) a room' → n + one-if b ≤ at → one-if b ≤ a
stars-leave {room} {room'} {at} {a} n b h l p = let q = laid-place l in let k = length-stars n (drop at room) in let d = length-drop at room in omega arith

pub operand-leaves : (s : Fill) {room room' : List ℕ} {a : ℕ} → s.at ≤ length room → Laid room (operand_in s room) a room' → owing s ≤ s.at → one-if s.item ≤ a
operand-leaves s {room} {room'} {a} h l p =
    let q = laid-place l in
    let i = length-if s.operand 7002 (stars_on s.stars (drop s.at room)) in
    let k = length-stars s.stars (drop s.at room) in
    let d = length-drop s.at room in
    omega arith

-- ---- tokens that only write words

pub comma-turned : (s : Fill) {room room' : List ℕ} {a : ℕ} → Laid room (item_in s room) a room'
    → Turned comma s room (record { at = a; stars = 0; operand = false; item = true; functor = false; bare = false; depth = s.depth; frames = s.frames }) room'
unfolding seen
comma-turned s {room} {room'} {a} l = record {
  high = l.high;
  len = l.len;
  frames = refl;
  same = λ ρ depths owed. ap (λ ws. record { words = ws; stars = 0; operand = false; item = true; functor = false; bare = false; depth = s.depth; owed = frames_in depths owed s.frames }) l.words;
}

pub plus-turned : (s : Fill) {room room' : List ℕ} {a : ℕ} → Laid room (operand_in s room) a room'
    → Turned plus s room (record { at = a; stars = 0; operand = true; item = s.item; functor = false; bare = false; depth = s.depth; frames = s.frames }) room'
unfolding seen
plus-turned s {room} {room'} {a} l = record {
  high = l.high;
  len = l.len;
  frames = refl;
  same = λ ρ depths owed. ap (λ ws. record { words = ws; stars = 0; operand = true; item = s.item; functor = false; bare = false; depth = s.depth; owed = frames_in depths owed s.frames }) l.words;
}

-- ---- brackets that open

pub inside-bare : (s : Fill) {room room' : List ℕ} {r : ℕ} → s.bare ≡ true → Laid room (pick true (7000 ∷ drop s.at room) (drop s.at room)) r room' → Laid room (inside_in s room) r room'
inside-bare s {room} {room'} {r} e l = record { high = l.high; len = l.len; words = l.words ∙ sym (ap (λ b. pick b (7000 ∷ drop s.at room) (item_in s room)) e) }

pub inside-items : (s : Fill) {room room' : List ℕ} {r : ℕ} → s.bare ≡ false → Laid room (item_in s room) r room' → Laid room (inside_in s room) r room'
inside-items s {room} {room'} {r} e l = record { high = l.high; len = l.len; words = l.words ∙ sym (ap (λ b. pick b (7000 ∷ drop s.at room) (item_in s room)) e) }

pub owed-bare : (s : Fill) → s.bare ≡ true → inside_owed s ≤ s.at → 1 ≤ s.at
owed-bare s e p = subst (λ b. pick b 1 (owing s) ≤ s.at) e p

pub owed-items : (s : Fill) → s.bare ≡ false → inside_owed s ≤ s.at → owing s ≤ s.at
owed-items s e p = subst (λ b. pick b 1 (owing s) ≤ s.at) e p

-- ---- a name

pub leaf-leaves : (s : Fill) {room room' : List ℕ} {a : ℕ} → s.at ≤ length room → Laid room (pick (not s.functor) (7000 ∷ drop s.at room) (drop s.at room)) a room' → one-if (not s.functor) + 1 ≤ s.at → 1 ≤ a
leaf-leaves s {room} {room'} {a} h l p =
    let q = laid-place l in
    let i = length-if (not s.functor) 7000 (drop s.at room) in
    let d = length-drop s.at room in
    omega arith

pub name-turned : (L : Limits) (text names : List ℕ) (at : ℕ) (s : Fill) {room room' room'' : List ℕ} {a r w : ℕ} → Laid room (pick (not s.functor) (7000 ∷ drop s.at room) (drop s.at room)) a room'
    → w ≡ 3000 + numbering L text names symbols (name_at text at) → Laid room' (pick true (w ∷ drop a room') (drop a room')) r room''
    → Named L text names at s room (record { at = r; stars = s.stars; operand = s.operand; item = s.item; functor = false; bare = false; depth = s.depth; frames = s.frames }) room''
unfolding seen
name-turned L text names at s {room} {room'} {room''} {a} {r} {w} l e m =
    let k = laid_then true w l m in
    record {
      high = k.high;
      len = k.len;
      frames = refl;
      same = λ depths owed. ap (λ ws. record { words = ws; stars = s.stars; operand = s.operand; item = s.item; functor = false; bare = false; depth = s.depth; owed = frames_in depths owed s.frames })
          (k.words ∙ ap₂ (λ x us. x ∷ us) e (flip s.functor));
    }
  where
    flip : (b : Bool) → pick (not b) (7000 ∷ drop s.at room) (drop s.at room) ≡ pick b (drop s.at room) (7000 ∷ drop s.at room)
    flip true = refl
    flip false = refl
