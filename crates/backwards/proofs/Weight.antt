-- What is written and what is owed only grows: so no more brackets have something owed before them than there will be words.
use Prim.Native.Nat.{ℕ, zero, suc, ◌+◌, ◌-◌, ◌≤◌}
use native.Mathlib.Omega.{arith}
use mathlib.Core.Path.{◌≡◌, refl}
use mathlib.Core.Bool.{Bool, true, false}
use mathlib.Core.List.{List, [], ◌∷◌}
use lib.Dec.{eqb}
use lib.ListN.{length}
use Rattle.language.specs.Kinds.{pick}
use Rattle.language.specs.Trees.{symbol, fvar}
use Rattle.grammar.specs.Tokens.{Token, one, run, functor, equals, comma, opens, closes, plus, times}
use Rattle.texts.specs.Numbering.{Naming}
use Rattle.flat.specs.Filling.{Frame, Filled, stars_on, operand_on, item_on, owes, enclosed, released, turn, turns, nothing}
use Rattle.backwards.specs.Backward.{one-if, owed_in, weight}

pub length-stars : (n : ℕ) (ws : List ℕ) → length (stars_on n ws) ≡ n + length ws
length-stars zero ws = omega arith
length-stars (suc n) ws = let i = length-stars n (7003 ∷ ws) in omega arith

pub length-if : (b : Bool) (w : ℕ) (ws : List ℕ) → length (pick b (w ∷ ws) ws) ≡ one-if b + length ws
length-if true w ws = omega arith
length-if false w ws = omega arith

pub length-operand : (f : Filled) → length (operand_on f) ≡ length f.words + (f.stars + one-if f.operand)
length-operand f = let a = length-if f.operand 7002 (stars_on f.stars f.words) in let b = length-stars f.stars f.words in omega arith

pub length-item : (f : Filled) → length (item_on f) ≡ length f.words + (f.stars + one-if f.operand + one-if f.item)
length-item f = let a = length-if f.item 7001 (operand_on f) in let b = length-operand f in omega arith

-- behind a bracket that closes nothing is owed yet
abbrev pub Tidy : Filled → Type 0
Tidy f = f.bare ≡ true → f.stars + one-if f.operand + one-if f.item ≡ 0

enclosed-weight : (s : ℕ) (o i : Bool) (d : ℕ) (gs : List Frame) → s + one-if o + one-if i + owed_in gs ≡ owed_in (pick (owes s o i) (record { depth = d; stars = s; operand = o; item = i } ∷ gs) gs)
enclosed-weight (suc s) o i d gs = refl
enclosed-weight zero true i d gs = refl
enclosed-weight zero false true d gs = refl
enclosed-weight zero false false d gs = omega arith

pub released-weight : (ws : List ℕ) (d : ℕ) (gs : List Frame) → weight (released ws d gs) ≡ length ws + owed_in gs
unfolding weight
released-weight ws d [] = omega arith
released-weight ws d (g ∷ gs) = on (eqb g.depth d) refl
  where
    on : (b : Bool) → eqb g.depth d ≡ b → weight (released ws d (g ∷ gs)) ≡ length ws + (g.stars + one-if g.operand + one-if g.item + owed_in gs)
    on true e = rw e (omega arith)
    on false e = rw e (omega arith)

released-bare : (ws : List ℕ) (d : ℕ) (gs : List Frame) → (released ws d gs).bare ≡ false
released-bare ws d [] = refl
released-bare ws d (g ∷ gs) = on (eqb g.depth d) refl
  where
    on : (b : Bool) → eqb g.depth d ≡ b → (released ws d (g ∷ gs)).bare ≡ false
    on true e = rw e
    on false e = rw e

pub length-leaf : (b : Bool) (ws : List ℕ) → length ws ≤ length (pick b ws (7000 ∷ ws))
length-leaf true ws = omega arith
length-leaf false ws = omega arith

-- ---- each bracket that is kept has something owed before it

abbrev pub Heavy : List Frame → Type 0
Heavy [] = Unit {0}
Heavy (g ∷ gs) = (1 ≤ g.stars + one-if g.operand + one-if g.item) × Heavy gs

pub few-frames : (gs : List Frame) → Heavy gs → length gs ≤ owed_in gs
few-frames [] h = omega arith
few-frames (g ∷ gs) h = let i = few-frames gs h.1 in let a = h.0 in omega arith

heavy-in : (s : ℕ) (o i : Bool) (d : ℕ) (gs : List Frame) → Heavy gs → Heavy (pick (owes s o i) (record { depth = d; stars = s; operand = o; item = i } ∷ gs) gs)
heavy-in (suc s) o i d gs h = (omega arith, h)
heavy-in zero true i d gs h = (omega arith, h)
heavy-in zero false true d gs h = (omega arith, h)
heavy-in zero false false d gs h = h

heavy-out : (ws : List ℕ) (d : ℕ) (gs : List Frame) → Heavy gs → Heavy (released ws d gs).owed
heavy-out ws d [] h = tt
heavy-out ws d (g ∷ gs) h = on (eqb g.depth d) refl
  where
    on : (b : Bool) → eqb g.depth d ≡ b → Heavy (released ws d (g ∷ gs)).owed
    on true e = rw e h.1
    on false e = rw e h

module _ (ρ : Naming) where
  pub heavier : (t : Token) (f : Filled) → Tidy f → weight f ≤ weight (turn ρ t f)
  unfolding weight enclosed
  heavier (one x) f y = omega arith
  heavier (run p) f y = omega arith
  heavier (functor (symbol s)) f y = let l = length-leaf f.functor f.words in omega arith
  heavier (functor (fvar X)) f y = omega arith
  heavier equals f y = omega arith
  heavier comma f y = let l = length-item f in omega arith
  heavier opens f y = on f.bare refl
    where
      on : (b : Bool) → f.bare ≡ b → weight f ≤ weight (released (pick b (7000 ∷ f.words) (item_on f)) (f.depth - 1) f.owed)
      on true e = let l = released-weight (7000 ∷ f.words) (f.depth - 1) f.owed in let z = y e in omega arith
      on false e = let l = released-weight (item_on f) (f.depth - 1) f.owed in let z = length-item f in omega arith
  heavier closes f y = let l = enclosed-weight f.stars f.operand f.item f.depth f.owed in omega arith
  heavier plus f y = let l = length-operand f in omega arith
  heavier times f y = omega arith

  pub tidy : (t : Token) (f : Filled) → Tidy f → Tidy (turn ρ t f)
  unfolding enclosed
  tidy (one x) f y = y
  tidy (run p) f y = y
  tidy (functor (symbol s)) f y = λ e. absurd (let z : ◌≡◌ {A = ℕ} 0 1 = cc in omega arith)
  tidy (functor (fvar X)) f y = y
  tidy equals f y = y
  tidy comma f y = λ e. absurd (let z : ◌≡◌ {A = ℕ} 0 1 = cc in omega arith)
  tidy opens f y = λ e. absurd (let n = released-bare (pick f.bare (7000 ∷ f.words) (item_on f)) (f.depth - 1) f.owed in let z : ◌≡◌ {A = ℕ} 0 1 = cc in omega arith)
  tidy closes f y = λ e. refl
  tidy plus f y = λ e. absurd (let z : ◌≡◌ {A = ℕ} 0 1 = cc in omega arith)
  tidy times f y = λ e. absurd (let z : ◌≡◌ {A = ℕ} 0 1 = cc in omega arith)

  -- What is written and owed so far is never more than at the end.
  pub grows : (ps : List Token) (f : Filled) → Tidy f → (weight f ≤ weight (turns ρ ps f)) × Tidy (turns ρ ps f)
  grows [] f y = (omega arith, y)
  grows (t ∷ ps) f y =
      let i = grows ps f y in
      let a = i.0 in
      let b = heavier t (turns ρ ps f) i.1 in
      (omega arith, tidy t (turns ρ ps f) i.1)

  pub heavy : (t : Token) (f : Filled) → Heavy f.owed → Heavy (turn ρ t f).owed
  unfolding enclosed
  heavy (one x) f h = h
  heavy (run p) f h = h
  heavy (functor (symbol s)) f h = h
  heavy (functor (fvar X)) f h = h
  heavy equals f h = h
  heavy comma f h = h
  heavy opens f h = heavy-out (pick f.bare (7000 ∷ f.words) (item_on f)) (f.depth - 1) f.owed h
  heavy closes f h = heavy-in f.stars f.operand f.item f.depth f.owed h
  heavy plus f h = h
  heavy times f h = h

  pub all-heavy : (ps : List Token) (f : Filled) → Heavy f.owed → Heavy (turns ρ ps f).owed
  all-heavy [] f h = h
  all-heavy (t ∷ ps) f h = heavy t (turns ρ ps f) (all-heavy ps f h)

  -- No more brackets are kept, on the way from nothing, than there are words and words owed at the end.
  pub frames-few : (ps qs : List Token) → length (turns ρ qs nothing).owed ≤ weight (turns ρ ps (turns ρ qs nothing))
  unfolding weight
  frames-few ps qs =
      let g = turns ρ qs nothing in
      let a = grows qs nothing (λ e. refl) in
      let b = (grows ps g a.1).0 in
      let c = few-frames g.owed (all-heavy qs nothing tt) in
      omega arith
