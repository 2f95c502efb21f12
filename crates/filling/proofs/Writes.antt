-- Writing one value after another writes what the words become.
use Prim.Native.Nat.{ℕ, ◌+◌, ◌<◌, ◌≤◌}
use mathlib.Core.Path.{◌≡◌, refl, sym, ap, ◌∙◌}
use mathlib.Core.List.{List, []}
use native.Mathlib.Nat.{add-zero}
use native.Mathlib.Omega.{arith}
use lib.ListN.{length, get_or, drop, length-append, length-drop, drop_of_length-le}
use lib.Seq.{sets, slice, length-sets, drop-drop}
use Rattle.language.specs.Limits.{desk}
use Rattle.language.specs.Kinds.{kind_of}
use Rattle.language.proofs.Stores.{sets-append}
use Rattle.slices.specs.Written.{Wrote}
use Rattle.slices.proofs.Parts.{part-whole}
use Rattle.filling.specs.Showing.{shown, step_on, filled, Written}
use Rattle.filling.proofs.Filled.{First, first-at}

module _ (t h : ℕ) (fs : List ℕ) where
  -- At the place `at` of the words: with what is still to come, the room is as it is to be.
  pub record Writing (ws room : List ℕ) (start at to : ℕ) (room' : List ℕ) : Type 0 where
    pub inside : at ≤ length ws
    pub len : length room' ≡ length room
    pub place : to + length (filled t h fs (drop at ws)) ≡ start + length (filled t h fs ws)
    pub same : sets room' to (filled t h fs (drop at ws)) ≡ sets room start (filled t h fs ws)

  pub writing-starts : (ws room : List ℕ) (start : ℕ) → Writing ws room start 0 start room
  writing-starts ws room start = record { inside = omega arith; len = refl; place = refl; same = refl }

  module _ {ws room : List ℕ} {start at to : ℕ} {room' : List ℕ} (c : Writing ws room start at to room') (p : at < length ws) {v : List ℕ} (e : v ≡ shown t h fs (drop at ws)) where
    it : {k : ℕ} → k ≡ step_on (length v) (kind_of desk (get_or ws at 0)) → First t h fs (drop at ws) v k
    it g = rw (g, e) (first-at t h fs ws at (length (shown t h fs (drop at ws))) p refl)

    pub writing-fits : start + length (filled t h fs ws) ≤ length room → to + length (slice 0 (length v) v) ≤ length room'
    writing-fits q = omega (arith, ap length (part-whole v), c.place, c.len, ap length (it refl).rest, length-append v (filled t h fs (drop (step_on (length v) (kind_of desk (get_or ws at 0))) (drop at ws))))

    pub writing-on : {k to'' : ℕ} {room'' : List ℕ} → Wrote room' to (slice 0 (length v) v) room'' to'' → k ≡ step_on (length v) (kind_of desk (get_or ws at 0)) → Writing ws room start (at + k) to'' room'' × (0 < k)
    writing-on {k} {to''} {room''} o g =
        let f = it g in
        let w : room'' ≡ sets room' to v = o.list ∙ ap (sets room' to) (part-whole v) in
        let z : to'' ≡ to + length v = o.end ∙ ap (λ l. to + length l) (part-whole v) in
        let d : filled t h fs (drop k (drop at ws)) ≡ filled t h fs (drop (at + k) ws) = ap (filled t h fs) (drop-drop k at ws) in (
          record {
            inside = omega (arith, f.inside, length-drop at ws, p);
            len = ap length w ∙ length-sets room' to v ∙ c.len;
            place = rw (← d) (omega (arith, z, c.place, ap length f.rest, length-append v (filled t h fs (drop k (drop at ws)))));
            same = rw (← d, w, z) (sym (sets-append v (filled t h fs (drop k (drop at ws))) room' to) ∙ ap (sets room' to) f.rest ∙ c.same);
          },
          f.on,
        )

  pub writing-ends : {ws room : List ℕ} {start at to : ℕ} {room' : List ℕ} → Writing ws room start at to room' → length ws ≤ at → Written t h fs ws room start room' to
  unfolding filled
  writing-ends {ws} {room} {start} {at} {to} {room'} c p =
      let z : filled t h fs (drop at ws) ≡ [] = rw (drop_of_length-le ws p) refl in
      record { place = sym (add-zero to) ∙ ap (λ l. to + length l) (sym z) ∙ c.place; words = ap (sets room' to) (sym z) ∙ c.same }
