-- The symbols that a state lists take just the monomials of what it means.
use Prim.Native.Nat.{ℕ, ◌+◌, ◌<◌, ◌≤◌}
use mathlib.Core.Path.{◌≡◌, refl, sym, ◌∙◌, ap, subst}
use mathlib.Core.Logic.{◌⊎◌, inl, inr}
use mathlib.Core.Bool.{Bool, true, false}
use mathlib.Core.List.{List, [], ◌∷◌, Memᴰ}
use native.Mathlib.Omega.{arith}
use native.Mathlib.Decide.{ℕ_discrete}
use lib.ListN.{length, get_or, set, length-set}
use lib.Seq.{get_or-set_same, get_or-set_other}
use Rattle.language.specs.Limits.{desk}
use Rattle.language.specs.Trees.{Expr}
use Rattle.language.specs.Writing.{expr_words}
use Rattle.rules.specs.Expressions.{Monomial, linear}
use Rattle.walk.specs.Spots.{Spot, monomial}
use Rattle.walk.proofs.Members.{in_map, of_map}
use Rattle.charts.specs.Levels.{place_of}
use Rattle.state_classes.specs.States.{Spotted}
use Rattle.clash.specs.Marks.{places_of, marked}
use Rattle.clash.specs.Following.{FollowedBy, Followed}
use Rattle.clash.specs.Symbols.{Collected, Takes, Reads, Symboled}
use Rattle.state_classes.proofs.Classing.{place-from, place-to}
use Rattle.state_classes.proofs.Peeling.{differ}

-- ---- which places are marked

marked-keeps : (ps : List ℕ) (f : List Bool) (i : ℕ) → get_or f i false ≡ true → get_or (marked ps f) i false ≡ true
marked-keeps [] f i e = e
marked-keeps (p ∷ ps) f i e = marked-keeps ps (set f p true) i (go (ℕ_discrete i p))
  where
    same : (f : List Bool) (i : ℕ) → get_or f i false ≡ true → get_or (set f i true) i false ≡ true
    same [] i e = e
    same (b ∷ f) ℕ.zero e = refl
    same (b ∷ f) (ℕ.suc i) e = same f i e

    go : Dec (i ≡ p) → get_or (set f p true) i false ≡ true
    go (yes d) = subst (λ p. get_or (set f p true) i false ≡ true) d (same f i e)
    go (no d) = get_or-set_other f p i true false d ∙ e

pub marked-in : (ps : List ℕ) (f : List Bool) (i : ℕ) → Memᴰ i ps → i < length f → get_or (marked ps f) i false ≡ true
marked-in (p ∷ ps) f i (Memᴰ.head e) l =
    marked-keeps ps (set f p true) i (subst (λ q. get_or (set f q true) i false ≡ true) e (get_or-set_same f i true false l))
marked-in (p ∷ ps) f i (Memᴰ.tail m) l = marked-in ps (set f p true) i m (subst (λ n. i < n) (sym (length-set f p true)) l)
marked-in [] f i x'' l = elim x'' [ ]

pub in-marked : (ps : List ℕ) (f : List Bool) (i : ℕ) → get_or (marked ps f) i false ≡ true → Memᴰ i ps ⊎ (get_or f i false ≡ true)
in-marked [] f i e = inr e
in-marked (p ∷ ps) f i e = elim (in-marked ps (set f p true) i e) [
  | inl m ↦ inl (Memᴰ.tail m)
  | inr d ↦ go (ℕ_discrete i p) d
]
  where
    go : Dec (i ≡ p) → get_or (set f p true) i false ≡ true → Memᴰ i (p ∷ ps) ⊎ (get_or f i false ≡ true)
    go (yes c) d = inl (Memᴰ.head c)
    go (no c) d = inr (sym (get_or-set_other f p i true false c) ∙ d)

-- ---- of a state

module _ (k : List ℕ) (at end s : ℕ) (marks : List Bool) (list : List ℕ) (n : ℕ) (null : Bool) (blank : List Bool)
    (clear : (i : ℕ) → get_or blank i false ≡ false) (room : length blank ≡ desk.question) (short : end ≤ desk.question) where
  reads_of : (R X : Expr) → end ≡ at + length (expr_words R) → FollowedBy at R X blank marks null → Collected marks at end list n → Reads at R X list n
  reads_of R X e f c =
      record {
        sound = λ i l. sound i l (in-marked places blank (get_or list i 0) (ap (λ m. get_or m (get_or list i 0) false) (sym f.marks) ∙ c.sound i l));
        whole = λ m h. whole m (of_map monomial f.spots (subst (Memᴰ m) f.nexts.monomials h));
      }
    where
      places : List ℕ
      places = places_of f.level f.spots

      sound : (i : ℕ) → i < n → Memᴰ (get_or list i 0) places ⊎ (get_or blank (get_or list i 0) false ≡ true) → (m : Monomial) × Memᴰ m (linear X) × Takes at R (get_or list i 0) m
      sound i l (inl h) =
          let (q, y, d) = of_map (place_of f.level) f.spots h in (
            monomial q,
            subst (Memᴰ (monomial q)) (sym f.nexts.monomials) (in_map monomial y),
            record { level = f.level; spot = q; spotted = subst (λ j. Spotted at R j f.level q) (sym d) (f.nexts.spotted q y); is = refl },
          )
      sound i l (inr d) = differ (sym d ∙ clear (get_or list i 0))

      whole : (m : Monomial) → (q : Spot) × Memᴰ q f.spots × (m ≡ monomial q) → (i : ℕ) × (i < n) × Takes at R (get_or list i 0) m
      whole m (q, y, d) =
          let j = place_of f.level q in
          let t = f.nexts.spotted q y in
          let lo = place-from at R j f.level q t in
          let hi = place-to at R j f.level q t in
          let g : get_or marks j false ≡ true = ap (λ m. get_or m j false) f.marks ∙ marked-in places blank j (in_map (place_of f.level) y) (omega arith) in
          let (i, l, z) = c.whole j lo (omega arith) g in
          (i, l, record { level = f.level; spot = q; spotted = subst (λ j. Spotted at R j f.level q) (sym z) t; is = d })

  pub symboled : end ≤ length k → Followed k at s blank marks null → Collected marks at end list n → Symboled k at end s list (record { count = n; null = null })
  symboled h f c =
      record {
        listed = record { few = let x = c.few in omega arith; each = λ i l. let x = c.each i l in omega arith };
        reads = λ R w y e X m. reads_of R X e (f.each R w y X m) c;
        null = λ R w y X m. (f.each R w y X m).null;
      }
