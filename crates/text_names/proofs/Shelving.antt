-- A shelf of names: looking along it, and putting a name at its end.
use Prim.Native.Nat.{ℕ, suc, ◌+◌, ◌-◌, ◌<◌, ◌≤◌}
use native.Mathlib.Omega.{arith}
use native.Mathlib.Numerals.{add-one}
use mathlib.Core.Path.{◌≡◌, refl, sym, ap, ◌∙◌}
use mathlib.Core.Bool.{Bool, true, false, ◌||◌}
use mathlib.Core.List.{List, [], ◌∷◌, ◌++◌, map}
use lib.Dec.{ltb, eqb}
use lib.ListN.{length, take, drop, get_or, set, length-map, length-set, length-drop}
use lib.Seq.{get_or-set_same, get_or-set_other, drop-set-lt, take-suc-set, drop-set-add}
use borrow.Author.Tests.{ltb-true, ltb-false, lt-ltb, le-ltb}
use Rattle.language.specs.Limits.{Limits}
use Rattle.language.specs.Kinds.{pick}
use Rattle.language.specs.Between.{between}
use Rattle.language.proofs.Offsets.{between_cons, length-between}
use Rattle.texts.specs.Numbering.{holds, place}
use Rattle.texts.proofs.Tables.{place-below}
use Rattle.text_names.specs.Shelves.{name_at, listed, Shelf, entering, Entered, enter_on}

-- ---- where a name stands

pub place-long : (n : ℕ) (l : List ℕ) → holds n l ≡ false → place n l ≡ length l
place-long n [] e = refl
place-long n (m ∷ l) e = on (eqb n m) e (place-long n l)
  where
    on : (b : Bool) → (b || holds n l) ≡ false → (holds n l ≡ false → place n l ≡ length l) → pick b 0 (suc (place n l)) ≡ suc (length l)
    on true z i = absurd (let y : ◌≡◌ {A = ℕ} 0 1 = cc in omega arith)
    on false z i = ap suc (i z)

module _ (text names : List ℕ) (base at : ℕ) where
  abbrev end : ℕ
  end = base + 1 + get_or names base 0

  abbrev x : ℕ
  x = name_at text at

  -- not found before i
  pub record Along (i : ℕ) : Type 0 where
    pub low : base + 1 ≤ i
    pub high : i ≤ base + 1 + get_or names base 0
    pub so_far : place (name_at text at) (listed text names base) ≡ (i - (base + 1)) + place (name_at text at) (map (name_at text) (between i (base + 1 + get_or names base 0) names))

  pub along-starts : Along (base + 1)
  unfolding listed
  along-starts = record { low = omega arith; high = omega arith; so_far = omega arith }

  module _ (L : Limits) (s : Shelf L names base) {i : ℕ} (w : Along i) where
    module _ (p : i < base + 1 + get_or names base 0) where
      next : place x (map (name_at text) (between i end names)) ≡ pick (eqb x (name_at text (get_or names i 0))) 0 (suc (place x (map (name_at text) (between (i + 1) end names))))
      next = ap (λ l. place x (map (name_at text) l)) (between_cons i end names p (let z = s.within in let y = s.few in omega arith))

      pub found : {r : Bool} → r ≡ eqb (name_at text at) (name_at text (get_or names i 0)) → r ≡ true → i - (base + 1) ≡ place (name_at text at) (listed text names base)
      found e t = sym (w.so_far ∙ ap (λ n. (i - (base + 1)) + n) (next ∙ ap (λ b. pick b 0 (suc (place x (map (name_at text) (between (i + 1) end names))))) (sym e ∙ t)) ∙ (omega arith))

      pub along-on : {r : Bool} → r ≡ eqb (name_at text at) (name_at text (get_or names i 0)) → r ≡ false → Along (i + 1)
      along-on e t = record {
        low = let z = w.low in omega arith;
        high = omega arith;
        so_far = w.so_far ∙ ap (λ n. (i - (base + 1)) + n) (next ∙ ap (λ b. pick b 0 (suc (place x (map (name_at text) (between (i + 1) end names))))) (sym e ∙ t))
            ∙ (let z = w.low in let y : (i - (base + 1)) + suc (place x (map (name_at text) (between (i + 1) end names))) ≡ (i + 1 - (base + 1)) + place x (map (name_at text) (between (i + 1) end names)) = omega arith in y);
      }

    pub along-ends : base + 1 + get_or names base 0 ≤ i → i - (base + 1) ≡ place (name_at text at) (listed text names base)
    along-ends p =
        let z : end - i ≡ 0 = omega arith in
        sym (w.so_far ∙ ap (λ n. (i - (base + 1)) + place x (map (name_at text) (take n (drop i names)))) z ∙ (omega arith))

-- where the code stands on its way along a shelf
pub record Looking (L : Limits) (text names : List ℕ) (base at first end i : ℕ) : Type 0 where
  pub first-is : first ≡ base + 1
  pub end_is : end ≡ base + 1 + get_or names base 0
  pub shelf : Shelf L names base
  pub low : base + 1 ≤ i
  pub high : i ≤ base + 1 + get_or names base 0
  pub along : Along text names base at i

module _ (L : Limits) (text names : List ℕ) (base at : ℕ) where
  pub looking-starts : Shelf L names base → Looking L text names base at (base + 1) (base + 1 + get_or names base 0) (base + 1)
  looking-starts s = record { first-is = refl; end_is = refl; shelf = s; low = omega arith; high = omega arith; along = along-starts text names base at }

  module _ {first end i : ℕ} (w : Looking L text names base at first end i) where
    pub looking-found : i < end → {r : Bool} → r ≡ eqb (name_at text at) (name_at text (get_or names i 0)) → r ≡ true → i - first ≡ place (name_at text at) (listed text names base)
    looking-found p e t = let f = w.first-is in let g = w.end_is in (let z : i - first ≡ i - (base + 1) = omega arith in z) ∙ found text names base at L w.shelf w.along (omega arith) e t

    pub looking-on : i < end → {r : Bool} → r ≡ eqb (name_at text at) (name_at text (get_or names i 0)) → r ≡ false → Looking L text names base at first end (i + 1)
    looking-on p e t = let f = w.first-is in let g = w.end_is in let l = w.low in record { first-is = f; end_is = g; shelf = w.shelf; low = omega arith; high = omega arith; along = along-on text names base at L w.shelf w.along (omega arith) e t }

    pub looking-ends : end ≤ i → i - first ≡ place (name_at text at) (listed text names base)
    looking-ends p = let f = w.first-is in let g = w.end_is in (let z : i - first ≡ i - (base + 1) = omega arith in z) ∙ along-ends text names base at L w.shelf w.along (omega arith)

-- ---- a name put at the end

module _ (L : Limits) (text names : List ℕ) (base at : ℕ) (s : Shelf L names base) where
  length-listed : length (listed text names base) ≡ get_or names base 0
  unfolding listed
  length-listed = length-map (between (base + 1) (base + 1 + get_or names base 0) names) (name_at text) ∙ length-between (base + 1) (base + 1 + get_or names base 0) names (let z = s.within in let y = s.few in omega arith) ∙ (omega arith)

  in_table : (n : ℕ) → n ≡ place (name_at text at) (listed text names base) → n < get_or names base 0 → holds (name_at text at) (listed text names base) ≡ true
  in_table n e p = on (holds (name_at text at) (listed text names base)) refl
    where
      on : (b : Bool) → holds (name_at text at) (listed text names base) ≡ b → b ≡ true
      on true f = refl
      on false f = absurd (let z = place-long (name_at text at) (listed text names base) f in let y = length-listed in omega arith)

  not-in-table : (n : ℕ) → n ≡ place (name_at text at) (listed text names base) → get_or names base 0 ≤ n → holds (name_at text at) (listed text names base) ≡ false
  not-in-table n e p = on (holds (name_at text at) (listed text names base)) refl
    where
      on : (b : Bool) → holds (name_at text at) (listed text names base) ≡ b → b ≡ false
      on true f = absurd (let z = place-below (name_at text at) (listed text names base) f in let y = length-listed in omega arith)
      on false f = refl

  unchanged : listed text names base ≡ entering L (name_at text at) (listed text names base) → Entered L text names base at names
  unchanged e = record { len = refl; few = s.few; here = e; low = λ i p. refl; high = λ i p. refl }

  module _ {n : ℕ} (e : n ≡ place (name_at text at) (listed text names base)) where
    known : n < get_or names base 0 → Entered L text names base at names
    unfolding entering
    known p = unchanged (sym (ap (λ b. pick b (listed text names base) (pick (ltb (length (listed text names base)) (L.each + 1)) (listed text names base ++ (name_at text at ∷ [])) (listed text names base))) (in_table n e p)))

    full : get_or names base 0 ≤ n → L.each < get_or names base 0 → Entered L text names base at names
    unfolding entering
    full p q = unchanged (sym (
        ap (λ b. pick b (listed text names base) (pick (ltb (length (listed text names base)) (L.each + 1)) (listed text names base ++ (name_at text at ∷ [])) (listed text names base))) (not-in-table n e p)
        ∙ ap (λ b. pick b (listed text names base ++ (name_at text at ∷ [])) (listed text names base)) (le-ltb (length (listed text names base)) (L.each + 1) (let y = length-listed in omega arith))))

    module _ (p : get_or names base 0 ≤ n) (q : get_or names base 0 ≤ L.each) where
      many : ℕ
      many = get_or names base 0

      names₁ : List ℕ
      names₁ = set names (base + 1 + get_or names base 0) at

      names₂ : List ℕ
      names₂ = set names₁ base (get_or names base 0 + 1)

      len₁ : length (set names (base + 1 + get_or names base 0) at) ≡ length names
      len₁ = length-set names (base + 1 + get_or names base 0) at

      count : get_or (set (set names (base + 1 + get_or names base 0) at) base (get_or names base 0 + 1)) base 0 ≡ get_or names base 0 + 1
      count = get_or-set_same (set names (base + 1 + get_or names base 0) at) base (get_or names base 0 + 1) 0 (let z = s.within in let y = len₁ in omega arith)

      -- the places behind the count are those of before and the new one
      places : drop (base + 1) (set (set names (base + 1 + get_or names base 0) at) base (get_or names base 0 + 1)) ≡ set (drop (base + 1) names) (get_or names base 0) at
      places = drop-set-lt (base + 1) (set names (base + 1 + get_or names base 0) at) base (get_or names base 0 + 1) (omega arith) ∙ drop-set-add (base + 1) names (get_or names base 0) at

      row : take (get_or names base 0 + 1) (set (drop (base + 1) names) (get_or names base 0) at) ≡ take (get_or names base 0) (drop (base + 1) names) ++ (at ∷ [])
      row = ap (λ k. take k (set (drop (base + 1) names) (get_or names base 0) at)) (add-one (get_or names base 0)) ∙ take-suc-set (drop (base + 1) names) (get_or names base 0) at (let z = s.within in let l = length-drop (base + 1) names in omega arith)

      map_snoc : (l : List ℕ) (v : ℕ) → map (name_at text) (l ++ (v ∷ [])) ≡ map (name_at text) l ++ (name_at text v ∷ [])
      map_snoc [] v = refl
      map_snoc (u ∷ l) v = ap (λ z. name_at text u ∷ z) (map_snoc l v)

      longer : listed text (set (set names (base + 1 + get_or names base 0) at) base (get_or names base 0 + 1)) base ≡ listed text names base ++ (name_at text at ∷ [])
      unfolding listed
      longer =
          ap (λ k. map (name_at text) (take (base + 1 + k - (base + 1)) (drop (base + 1) (set (set names (base + 1 + get_or names base 0) at) base (get_or names base 0 + 1))))) count
          ∙ ap (λ k. map (name_at text) (take k (drop (base + 1) (set (set names (base + 1 + get_or names base 0) at) base (get_or names base 0 + 1))))) (let z : base + 1 + (get_or names base 0 + 1) - (base + 1) ≡ get_or names base 0 + 1 = omega arith in z)
          ∙ ap (λ l. map (name_at text) (take (get_or names base 0 + 1) l)) places
          ∙ ap (map (name_at text)) row
          ∙ map_snoc (take (get_or names base 0) (drop (base + 1) names)) at
          ∙ ap (λ k. map (name_at text) (take k (drop (base + 1) names)) ++ (name_at text at ∷ [])) (let z : get_or names base 0 ≡ base + 1 + get_or names base 0 - (base + 1) = omega arith in z)

      added : Entered L text names base at (set (set names (base + 1 + get_or names base 0) at) base (get_or names base 0 + 1))
      unfolding entering
      added = record {
        len = length-set (set names (base + 1 + get_or names base 0) at) base (get_or names base 0 + 1) ∙ len₁;
        few = let z = count in omega arith;
        here = longer ∙ sym (
            ap (λ b. pick b (listed text names base) (pick (ltb (length (listed text names base)) (L.each + 1)) (listed text names base ++ (name_at text at ∷ [])) (listed text names base))) (not-in-table n e p)
            ∙ ap (λ b. pick b (listed text names base ++ (name_at text at ∷ [])) (listed text names base)) (lt-ltb (length (listed text names base)) (L.each + 1) (let y = length-listed in omega arith)));
        low = λ i r. get_or-set_other (set names (base + 1 + get_or names base 0) at) base i (get_or names base 0 + 1) 0 (λ z. omega arith) ∙ get_or-set_other names (base + 1 + get_or names base 0) i at 0 (λ z. omega arith);
        high = λ i r. get_or-set_other (set names (base + 1 + get_or names base 0) at) base i (get_or names base 0 + 1) 0 (λ z. omega arith) ∙ get_or-set_other names (base + 1 + get_or names base 0) i at 0 (λ z. omega arith);
      }

  -- A name entered is a name entered.
  pub enter-law : Entered L text names base at (enter_on L text names base at)
  unfolding enter_on
  enter-law = on (ltb (place (name_at text at) (listed text names base)) (get_or names base 0)) refl (ltb L.each (get_or names base 0)) refl
    where
      on : (a : Bool) → ltb (place (name_at text at) (listed text names base)) (get_or names base 0) ≡ a → (b : Bool) → ltb L.each (get_or names base 0) ≡ b
          → Entered L text names base at (pick a names (pick b names (set (set names (base + 1 + get_or names base 0) at) base (get_or names base 0 + 1))))
      on true e b f = known refl (ltb-true _ _ e)
      on false e true f = full refl (ltb-false _ _ e) (ltb-true _ _ f)
      on false e false f = added refl (ltb-false _ _ e) (ltb-false _ _ f)

-- ---- as the code goes

module _ (L : Limits) (text names : List ℕ) (base at : ℕ) {n : ℕ} (e : n ≡ place (name_at text at) (listed text names base)) where
  abbrev put : List ℕ
  put = set (set names (base + 1 + get_or names base 0) at) base (get_or names base 0 + 1)

  pub is_known : n < get_or names base 0 → names ≡ enter_on L text names base at
  unfolding enter_on
  is_known p = sym (ap (λ b. pick b names (pick (ltb L.each (get_or names base 0)) names put)) (ap (λ k. ltb k (get_or names base 0)) (sym e) ∙ lt-ltb n (get_or names base 0) p))

  module _ (p : get_or names base 0 ≤ n) where
    is-new : enter_on L text names base at ≡ pick (ltb L.each (get_or names base 0)) names put
    unfolding enter_on
    is-new = ap (λ b. pick b names (pick (ltb L.each (get_or names base 0)) names put)) (ap (λ k. ltb k (get_or names base 0)) (sym e) ∙ le-ltb n (get_or names base 0) p)

    pub is-full : L.each < get_or names base 0 → names ≡ enter_on L text names base at
    is-full q = sym (is-new ∙ ap (λ b. pick b names put) (lt-ltb L.each (get_or names base 0) q))

    pub is-put : get_or names base 0 ≤ L.each → set (set names (base + 1 + get_or names base 0) at) base (get_or names base 0 + 1) ≡ enter_on L text names base at
    is-put q = sym (is-new ∙ ap (λ b. pick b names put) (le-ltb L.each (get_or names base 0) q))
