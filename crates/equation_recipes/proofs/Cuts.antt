-- The cuts of a hedge, by trees and by places: from element to element, the words before the place and those from it on.
use mathlib.Core.Path.{◌≡◌, refl, sym, ap, ◌∙◌}
use mathlib.Core.List.{List, [], ◌∷◌, ◌++◌, append_assoc, map, map-map}
use Prim.Native.Nat.{ℕ, suc, ◌+◌}
use native.Mathlib.Omega.{arith}
use lib.ListN.{length, drop, length-append}
use lib.Seq.{slice}
use Rattle.language.specs.Limits.{desk}
use Rattle.language.specs.Trees.{Hedge, ε, tvar, hvar, node, ◌⧺◌}
use Rattle.language.specs.Writing.{hedge_words}
use Rattle.language.specs.Fine.{fine_hedge}
use Rattle.rules.specs.Looks.{cuts}
use Rattle.views.specs.Looks.{head, tail, body_words}
use Rattle.words.specs.Spans.{element_end, places}
use Rattle.views.specs.Views.{Sided}
use Rattle.views.specs.declared.Side.{Side}
use Rattle.views.specs.Standing.{Stands}
use Rattle.finds.specs.Walks.{size}
use Rattle.words.proofs.Parts.{part_of, drop_of}
use Rattle.views.proofs.Words.{body-join, words-split, join-nil, join-assoc, fine-tail, fine-head, fine-join}
use Rattle.views.proofs.Spans.{element_place}

-- ---- one cut

-- (T, rest) stands from b to `to`; the cut of T into c.0 and c.1 is at the place i
pub record Cut (k : List ℕ) (b to : ℕ) (rest : Hedge) (i : ℕ) (c : Hedge × Hedge) : Type 0 where
  pub before : slice b i k ≡ body_words c.0
  pub behind : slice i to k ≡ hedge_words (c.1 ⧺ rest)
  pub fine_before : fine_hedge desk c.0
  pub fine_behind : fine_hedge desk (c.1 ⧺ rest)

-- from b on stand (done, g), and i is the place between the two
record Seam (k : List ℕ) (b to : ℕ) (beyond : List ℕ) (i : ℕ) (done g : Hedge) : Type 0 where
  pub fine_done : fine_hedge desk done
  pub fine : fine_hedge desk g
  pub start : drop b k ≡ body_words done ++ (hedge_words g ++ beyond)
  pub place : i ≡ b + length (body_words done)
  pub end : to ≡ i + length (hedge_words g)

module _ {k : List ℕ} {b to : ℕ} {beyond : List ℕ} {i : ℕ} {done g : Hedge} (s : Seam k b to beyond i done g) where
  seam-here : drop i k ≡ hedge_words g ++ beyond
  seam-here = drop_of k b i (body_words done) (hedge_words g ++ beyond) s.start s.place

  seam-next : Seam k b to beyond (element_end k i) (done ⧺ head g) (tail g)
  seam-next =
      let e = element_place k i g beyond s.fine seam-here in
      let l = ap length (body-join done (head g)) ∙ length-append (body_words done) (body_words (head g)) in
      let m = ap length (words-split g) ∙ length-append (body_words (head g)) (hedge_words (tail g)) in
      let p = s.place in
      let q = s.end in
      record {
        fine_done = fine-join done (head g) s.fine_done (fine-head g s.fine);
        fine = fine-tail g s.fine;
        start = s.start ∙ ap (λ w. body_words done ++ (w ++ beyond)) (words-split g) ∙ simp (body-join, append_assoc);
        place = omega arith;
        end = omega arith;
      }

seam-cut : {k : List ℕ} {b to : ℕ} {beyond : List ℕ} {i : ℕ} {done : Hedge} (h rest : Hedge) → Seam k b to beyond i done (h ⧺ rest) → Cut k b to rest i (done, h)
seam-cut {k} {b} {to} {beyond} {i} {done} h rest s = record {
  before = part_of k b i (body_words done) (hedge_words (h ⧺ rest) ++ beyond) s.start s.place;
  behind = part_of k i to (hedge_words (h ⧺ rest)) beyond (seam-here s) s.end;
  fine_before = s.fine_done;
  fine_behind = s.fine;
}

-- ---- all cuts

map-ext : {A B : Type 0} (f g : A → B) → ((a : A) → f a ≡ g a) → (l : List A) → map f l ≡ map g l
map-ext f g e [] = refl
map-ext f g e (a ∷ l) = ap (λ b. b ∷ map f l) (e a) ∙ ap (λ m. g a ∷ m) (map-ext f g e l)

module _ {A : Type 0} (k : List ℕ) (b to : ℕ) (rest : Hedge) (beyond : List ℕ) (at : ℕ → A) (of : Hedge × Hedge → A) (fit : (i : ℕ) (c : Hedge × Hedge) → Cut k b to rest i c → at i ≡ of c) where
  -- the cut before an element, and those behind it
  one_more : (done front r h : Hedge) (i j : ℕ) → Seam k b to beyond i done (h ⧺ rest)
      → map at (places (suc (size r)) k j) ≡ map (λ (c : Hedge × Hedge). of ((done ⧺ front) ⧺ c.0, c.1)) (cuts r)
      → at i ∷ map at (places (suc (size r)) k j) ≡ of (done ⧺ ε, h) ∷ map (λ (c : Hedge × Hedge). of (done ⧺ c.0, c.1)) (map (λ (c : Hedge × Hedge). (front ⧺ c.0, c.1)) (cuts r))
  one_more done front r h i j s e =
      ap (λ a. a ∷ map at (places (suc (size r)) k j)) (fit i (done, h) (seam-cut h rest s) ∙ ap (λ d. of (d, h)) (sym (join-nil done)))
      ∙ ap (λ m. of (done ⧺ ε, h) ∷ m)
      (e ∙ map-ext (λ (c : Hedge × Hedge). of ((done ⧺ front) ⧺ c.0, c.1)) (λ (c : Hedge × Hedge). of (done ⧺ (front ⧺ c.0), c.1)) (λ c. ap (λ d. of (d, c.1)) (join-assoc done front c.0)) (cuts r)
      ∙ sym (map-map (λ (c : Hedge × Hedge). of (done ⧺ c.0, c.1)) (λ (c : Hedge × Hedge). (front ⧺ c.0, c.1)) (cuts r)))

  from : (h done : Hedge) (i : ℕ) → Seam k b to beyond i done (h ⧺ rest) → map at (places (suc (size h)) k i) ≡ map (λ (c : Hedge × Hedge). of (done ⧺ c.0, c.1)) (cuts h)
  unfolding places
  from ε done i s = ap (λ a. a ∷ []) (fit i (done, ε) (seam-cut ε rest s) ∙ ap (λ d. of (d, ε)) (sym (join-nil done)))
  from (tvar x r) done i s = one_more done (tvar x ε) r (tvar x r) i (element_end k i) s (from r (done ⧺ tvar x ε) (element_end k i) (seam-next s))
  from (hvar p r) done i s = one_more done (hvar p ε) r (hvar p r) i (element_end k i) s (from r (done ⧺ hvar p ε) (element_end k i) (seam-next s))
  from (node f c r) done i s = one_more done (node f c ε) r (node f c r) i (element_end k i) s (from r (done ⧺ node f c ε) (element_end k i) (seam-next s))

  -- what is made at each place is what is made of each cut
  pub cuts-places : (T : Hedge) → Stands k b (T ⧺ rest) beyond → to ≡ b + length (hedge_words (T ⧺ rest)) → map at (places (suc (size T)) k b) ≡ map of (cuts T)
  cuts-places T s e = from T ε b (record { fine_done = tt; fine = s.fine; start = s.here; place = omega arith; end = e })

-- the same of a side whose hedge is (T, rest)
pub side-cuts : {A : Type 0} {k : List ℕ} {s : Side} {h : Hedge} → Sided k s h → (T rest : Hedge) → h ≡ T ⧺ rest → (at : ℕ → A) (of : Hedge × Hedge → A) → ((i : ℕ) (c : Hedge × Hedge) → Cut k s.from s.to rest i c → at i ≡ of c)
    → map at (places (suc (size T)) k s.from) ≡ map of (cuts T)
side-cuts {A} {k} {s} {h} v T rest e at of fit =
    cuts-places k s.from s.to rest v.beyond at of fit T
    (record { fine = rw e at v.fine; here = v.here ∙ ap (λ g. hedge_words g ++ v.beyond) e })
    (v.to ∙ ap (λ g. s.from + length (hedge_words g)) e)
