-- The bytes of an expression from its end on: what each makes of what is there, and that the room is enough.
use Prim.Native.Nat.{ℕ, zero, suc, ◌+◌, ◌-◌, ◌<◌, ◌≤◌}
use native.Mathlib.Omega.{arith}
use mathlib.Core.Path.{◌≡◌, refl, sym, ap, ◌∙◌, subst}
use mathlib.Core.Bool.{Bool, true, false}
use mathlib.Core.List.{List, [], ◌∷◌}
use lib.Dec.{eqb}
use lib.ListN.{length, take, drop, get_or}
use borrow.Author.Tests.{eqb-true}
use Rattle.language.specs.Kinds.{pick}
use Rattle.language.specs.Between.{between}
use Rattle.language.proofs.Offsets.{between_cons}
use Rattle.grammar.specs.Tokens.{Token, comma, opens, closes, plus, times, name_byte, blank, begins_name, name_token}
use Rattle.texts.specs.Numbering.{Naming}
use Rattle.lexing.specs.declared.Mark.{Mark}
use Rattle.lexing.specs.declared.Mark.TheVariants.{End, Bad, Symbol, One, Run, Function, Equals, Comma, Opens, Closes, Plus, Times}
use Rattle.lexing.specs.Bytes.{name_from, mark_of}
use Rattle.flat.specs.Filling.{Frame, Filled, item_on, enclosed, released, turn, nothing}
use Rattle.backwards.specs.Backward.{taken, marked, backwards, weight}
use Rattle.backwards.proofs.Weight.{Tidy, Heavy, heavier, tidy, heavy}
use Rattle.expression_words.specs.Seen.{part, whole}

-- ---- what grows, keeps tidy, and keeps no bracket without something owed

pub record Good (f g : Filled) : Type 0 where
  pub grows : Tidy f → weight f ≤ weight g
  pub tidied : Tidy f → Tidy g
  pub heavies : Heavy f.owed → Heavy g.owed

good-same : (f : Filled) → Good f f
good-same f = record { grows = λ t. omega arith; tidied = λ t. t; heavies = λ h. h }

good-then : (f g h : Filled) → Good f g → Good g h → Good f h
good-then f g h a b = record {
  grows = λ t. let x = a.grows t in let y = b.grows (a.tidied t) in omega arith;
  tidied = λ t. b.tidied (a.tidied t);
  heavies = λ k. b.heavies (a.heavies k);
}

module _ (ρ : Naming) where
  good_turn : (t : Token) (f : Filled) → Good f (turn ρ t f)
  good_turn t f = record { grows = λ y. heavier ρ t f y; tidied = λ y. tidy ρ t f y; heavies = λ h. heavy ρ t f h }

  pub good-taken : (bs : List ℕ) (f : Filled) → Good f (taken ρ bs f)
  good-taken bs f = on (begins_name bs)
    where
      on : (b : Bool) → Good f (pick b (turn ρ (name_token (name_from bs)) f) f)
      on true = good_turn (name_token (name_from bs)) f
      on false = good-same f

  pub good-marked : (m : Mark) (f : Filled) → Good f (marked ρ m f)
  good-marked End f = good-same f
  good-marked Bad f = good-same f
  good-marked Symbol f = good-same f
  good-marked One f = good-same f
  good-marked Run f = good_turn times f
  good-marked Function f = good-same f
  good-marked Equals f = good-same f
  good-marked Comma f = good_turn comma f
  good-marked Opens f = good_turn opens f
  good-marked Closes f = good_turn closes f
  good-marked Plus f = good_turn plus f
  good-marked Times f = good-same f

  -- ---- no more than a bracket for each byte

  released-depth : (ws : List ℕ) (d : ℕ) (gs : List Frame) → (released ws d gs).depth ≡ d
  released-depth ws d [] = refl
  released-depth ws d (g ∷ gs) = on (eqb g.depth d) refl
    where
      on : (b : Bool) → eqb g.depth d ≡ b → (released ws d (g ∷ gs)).depth ≡ d
      on true e = rw e
      on false e = rw e

  pub depth-taken : (bs : List ℕ) (f : Filled) → (taken ρ bs f).depth ≡ f.depth
  depth-taken bs f = on (begins_name bs)
    where
      on : (b : Bool) → (pick b (turn ρ (name_token (name_from bs)) f) f).depth ≡ f.depth
      on true = refl
      on false = refl

  depth-marked : (m : Mark) (f : Filled) → (marked ρ m f).depth ≤ f.depth + 1
  unfolding enclosed
  depth-marked End f = omega arith
  depth-marked Bad f = omega arith
  depth-marked Symbol f = omega arith
  depth-marked One f = omega arith
  depth-marked Run f = omega arith
  depth-marked Function f = omega arith
  depth-marked Equals f = omega arith
  depth-marked Comma f = omega arith
  depth-marked Opens f = let z = released-depth (pick f.bare (7000 ∷ f.words) (item_on f)) (f.depth - 1) f.owed in omega arith
  depth-marked Closes f = omega arith
  depth-marked Plus f = omega arith
  depth-marked Times f = omega arith

  -- ---- byte by byte

  blank-bad : (b : ℕ) → name_byte b ≡ false → blank b ≡ true → mark_of b ≡ Bad
  unfolding blank mark_of name_byte
  blank-bad b n e = on (eqb b 32) refl (eqb b 9) refl (eqb b 13) refl
    where
      bad : (k : ℕ) → b ≡ k → mark_of k ≡ Bad → mark_of b ≡ Bad
      bad k p q = ap mark_of p ∙ q

      space : mark_of 32 ≡ Bad
      space = refl

      tab : mark_of 9 ≡ Bad
      tab = refl

      return : mark_of 13 ≡ Bad
      return = refl

      on : (x : Bool) → eqb b 32 ≡ x → (y : Bool) → eqb b 9 ≡ y → (z : Bool) → eqb b 13 ≡ z → mark_of b ≡ Bad
      on true p y q z r = bad 32 (eqb-true b 32 p) space
      on false p true q z r = bad 9 (eqb-true b 9 q) tab
      on false p false q true r = bad 13 (eqb-true b 13 r) return
      on false p false q false r = absurd (let w : ◌≡◌ {A = ℕ} 0 1 = cc in omega arith)

  module _ (text : List ℕ) (to : ℕ) (high : to ≤ length text) where
    abbrev rest : ℕ → List ℕ
    rest i = between i to text

    pub part_end : part ρ text to to ≡ nothing
    unfolding backwards
    part_end = ap (λ n. backwards ρ (take n (drop to text)) nothing) (let z : to - to ≡ 0 = omega arith in z)

    pub part-name : (i : ℕ) → i < to → name_byte (get_or text i 0) ≡ true → part ρ text i to ≡ part ρ text (i + 1) to
    unfolding backwards
    part-name i p e = ap (λ bs. backwards ρ bs nothing) (between_cons i to text p high) ∙ rw e

    pub part-mark : (i : ℕ) → i < to → name_byte (get_or text i 0) ≡ false → part ρ text i to ≡ marked ρ (mark_of (get_or text i 0)) (taken ρ (between (i + 1) to text) (part ρ text (i + 1) to))
    unfolding backwards
    part-mark i p e = ap (λ bs. backwards ρ bs nothing) (between_cons i to text p high) ∙ on (blank (get_or text i 0)) refl
      where
        on : (t : Bool) → blank (get_or text i 0) ≡ t
            → pick (name_byte (get_or text i 0)) (part ρ text (i + 1) to) (pick (blank (get_or text i 0)) (taken ρ (rest (i + 1)) (part ρ text (i + 1) to)) (marked ρ (mark_of (get_or text i 0)) (taken ρ (rest (i + 1)) (part ρ text (i + 1) to))))
            ≡ marked ρ (mark_of (get_or text i 0)) (taken ρ (rest (i + 1)) (part ρ text (i + 1) to))
        on true f = rw (e, f) (sym (ap (λ m. marked ρ m (taken ρ (rest (i + 1)) (part ρ text (i + 1) to))) (blank-bad (get_or text i 0) e f)))
        on false f = rw (e, f)

    one_byte : (i : ℕ) → i < to → Good (part ρ text (i + 1) to) (part ρ text i to) × ((part ρ text i to).depth ≤ (part ρ text (i + 1) to).depth + 1)
    one_byte i p = on (name_byte (get_or text i 0)) refl
      where
        on : (t : Bool) → name_byte (get_or text i 0) ≡ t → Good (part ρ text (i + 1) to) (part ρ text i to) × ((part ρ text i to).depth ≤ (part ρ text (i + 1) to).depth + 1)
        on true e = subst (λ f. Good (part ρ text (i + 1) to) f × (f.depth ≤ (part ρ text (i + 1) to).depth + 1)) (sym (part-name i p e)) (good-same (part ρ text (i + 1) to), omega arith)
        on false e =
            subst (λ f. Good (part ρ text (i + 1) to) f × (f.depth ≤ (part ρ text (i + 1) to).depth + 1)) (sym (part-mark i p e)) (
              good-then _ _ _ (good-taken (rest (i + 1)) (part ρ text (i + 1) to)) (good-marked (mark_of (get_or text i 0)) (taken ρ (rest (i + 1)) (part ρ text (i + 1) to))),
              let d = depth-taken (rest (i + 1)) (part ρ text (i + 1) to) in let m = depth-marked (mark_of (get_or text i 0)) (taken ρ (rest (i + 1)) (part ρ text (i + 1) to)) in omega arith,
            )

    -- from a place on to one before it
    part-grows : (k i : ℕ) → i + k ≤ to → Good (part ρ text (i + k) to) (part ρ text i to)
    part-grows zero i p = subst (λ n. Good (part ρ text n to) (part ρ text i to)) (let z : i ≡ i + 0 = omega arith in z) (good-same (part ρ text i to))
    part-grows (suc k) i p =
        good-then _ _ _
        (subst (λ n. Good (part ρ text n to) (part ρ text (i + 1) to)) (let z : i + 1 + k ≡ i + suc k = omega arith in z) (part-grows k (i + 1) (omega arith)))
        (one_byte i (omega arith)).0

    part-depth : (k i : ℕ) → i + k ≡ to → (part ρ text i to).depth ≤ k
    part-depth zero i p = let z = ap (λ n. (part ρ text n to).depth) (let y : i ≡ to = omega arith in y) in let w = ap (λ f. f.depth) part_end in omega arith
    part-depth (suc k) i p = let h = part-depth k (i + 1) (omega arith) in let o = (one_byte i (omega arith)).1 in omega arith

    tidy-start : Tidy nothing
    tidy-start e = refl

    pub part-tidy : (i : ℕ) → i ≤ to → Tidy (part ρ text i to) × Heavy (part ρ text i to).owed × ((part ρ text i to).depth + i ≤ to)
    part-tidy i p =
        let g = subst (λ n. Good (part ρ text n to) (part ρ text i to)) (let z : i + (to - i) ≡ to = omega arith in z) (part-grows (to - i) i (omega arith)) in
        let h = subst (λ f. Good f (part ρ text i to)) part_end g in
        let d = part-depth (to - i) i (omega arith) in
        (h.tidied tidy-start, h.heavies tt, omega arith)

    -- never more than at the beginning
    pub part-whole : (at i : ℕ) → at ≤ i → i ≤ to → weight (part ρ text i to) ≤ weight (whole ρ text at to)
    part-whole at i p q =
        let g = subst (λ n. Good (part ρ text n to) (part ρ text at to)) (let z : at + (i - at) ≡ i = omega arith in z) (part-grows (i - at) at (omega arith)) in
        let t = (part-tidy i q).0 in
        let a = g.grows t in
        let b = (good-taken (rest at) (part ρ text at to)).grows (g.tidied t) in
        omega arith
