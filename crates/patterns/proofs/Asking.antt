-- The words of a pair's question are read as the pair's question.
use Prim.Native.Nat.{ℕ, ◌+◌, ◌-◌, ◌≤◌}
use mathlib.Core.Path.{◌≡◌, refl, sym, ap, ap₂, subst, ◌∙◌}
use mathlib.Core.Bool.{Bool, true, false, ◌||◌}
use mathlib.Core.List.{List, [], ◌∷◌, ◌++◌, map, append_assoc}
use native.Mathlib.Omega.{arith}
use borrow.Author.Tests.{ltb-false}
use lib.Dec.{ltb}
use lib.ListN.{length, take, length-append, length-map}
use lib.Seq.{take_all}
use Rattle.language.specs.Limits.{desk}
use Rattle.language.specs.Trees.{Hedge, Conj, Counts, Question}
use Rattle.language.specs.Writing.{hedge_words, conj_words}
use Rattle.language.specs.Fine.{fine_hedge, fine_conj}
use Rattle.language.specs.Reading.{got}
use Rattle.language.specs.Question.{counts_of, parts, with_conj, read_all, asks, read_question}
use Rattle.language.proofs.Words.{kind-end}
use Rattle.language.proofs.Laws.{conjunctions-read}
use Rattle.language.proofs.Asking.{passed}
use Rattle.patterns.specs.Blanks.{Blanks, blanks_in, counted, nothing, numbered_on, numbered_by, apart}
use Rattle.patterns.specs.Terms.{Pattern}
use Rattle.patterns.specs.Pairs.{of_both, too_many, pair_words}
use Rattle.patterns.specs.Renamed.{renamed, first_of, second_of, pair_conj, pair_asks}
use Rattle.patterns.proofs.Noting.{AmongOn, AllIn, blanks-in}
use Rattle.patterns.proofs.Renumbering.{map-parts, renamed-words, Held, held, renamed-fine}

-- ---- not too many

pub record Few (n : Counts) : Type 0 where
  pub terms : n.terms ≤ desk.each
  pub hedges : n.hedges ≤ desk.each
  pub functions : n.functions ≤ desk.each

pub few : (n : Counts) → too_many n ≡ false → Few n
unfolding too_many
few n e = on _ _ _ refl refl refl e
  where
    on : (a b c : Bool) → ltb desk.each n.terms ≡ a → ltb desk.each n.hedges ≡ b → ltb desk.each n.functions ≡ c → (a || b || c) ≡ false → Few n
    on false false false x y z e = record { terms = ltb-false _ _ x; hedges = ltb-false _ _ y; functions = ltb-false _ _ z }
    on true b c x y z e = absurd (let w : ◌≡◌ {A = ℕ} 0 1 = cc in omega arith)
    on false true c x y z e = absurd (let w : ◌≡◌ {A = ℕ} 0 1 = cc in omega arith)
    on false false true x y z e = absurd (let w : ◌≡◌ {A = ℕ} 0 1 = cc in omega arith)

-- ---- a pattern's words, and an end mark

end_marked : (n : Counts) (b : Blanks) → numbered_by n b 0 ≡ 0
unfolding numbered_by
end_marked n b = ap (numbered_on n b 0) (kind-end desk)

module _ (n : Counts) (ws : List ℕ) (h : Hedge) (p : Pattern ws h) where
  pub apart_words : hedge_words (renamed n (blanks_in ws) h) ≡ apart n ws ++ (0 ∷ [])
  apart_words =
      renamed-words n (blanks_in ws) h p.fine ∙ ap (map (numbered_by n (blanks_in ws))) p.words ∙ map-parts (numbered_by n (blanks_in ws)) ws (0 ∷ [])
      ∙ ap (λ w. apart n ws ++ (w ∷ [])) (end_marked n (blanks_in ws))

  all-blanks : AllIn (blanks_in ws) (hedge_words h)
  all-blanks = subst (AllIn (blanks_in ws)) (sym p.words) (marked ws (blanks-in ws))
    where
      marked : (us : List ℕ) → AllIn (blanks_in ws) us → AllIn (blanks_in ws) (us ++ (0 ∷ []))
      marked [] a = (subst (λ k. AmongOn (blanks_in ws) k) (sym (kind-end desk)) tt, tt)
      marked (u ∷ us) a = (a.0, marked us a.1)

  pub held-here : Held n (blanks_in ws) h
  held-here = held n (blanks_in ws) h p.fine all-blanks

-- ---- one conjunction in words

abbrev asking : ℕ → Counts → Conj → List ℕ
asking word n k = word ∷ (n.terms ∷ (n.hedges ∷ (n.functions ∷ (1 ∷ (7 ∷ ((7 + length (conj_words k)) ∷ conj_words k))))))

parts-of : (word : ℕ) (n : Counts) (k : Conj) → parts 5 1 (asking word n k) ≡ conj_words k ∷ []
unfolding parts
parts-of word n k =
    ap (λ m. take m (conj_words k) ∷ []) (let z : 7 + length (conj_words k) - 7 ≡ length (conj_words k) = omega arith in z)
    ∙ ap (λ ws. ws ∷ []) (take_all (length (conj_words k)) (conj_words k) (omega arith))

asked-one : (word : ℕ) (n : Counts) (k : Conj) (x : Question) → counts_of (asking word n k) ≡ n → fine_conj desk k → read_question desk (asking word n k) ≡ asks x
    → x ≡ record { counts = n; alternatives = k ∷ [] }
asked-one word n k x c f e =
    let p = passed desk (asking word n k) x e in
    let r : read_all desk (conj_words k ∷ []) ≡ got x.alternatives p.words = ap (read_all desk) (sym (parts-of word n k)) ∙ p.read in
    let g : got (k ∷ []) (length (conj_words k) + 0) ≡ got x.alternatives p.words = sym (ap (λ t. with_conj t (got [] 0)) ((conjunctions-read desk).read_back k f)) ∙ r in
    let ks : x.alternatives ≡ k ∷ [] = cc in
    ap (λ (c : Counts). record { counts = c; alternatives = x.alternatives }) (p.counts ∙ c) ∙ ap (λ (l : List Conj). record { counts = n; alternatives = l }) ks

-- ---- the pair

module _ (word : ℕ) (ps qs : List ℕ) (h k : Hedge) (p : Pattern ps h) (q : Pattern qs k) where
  abbrev n : Counts
  n = of_both word ps qs

  abbrev conj : Conj
  conj = pair_conj word ps qs h k

  behind : (u v : List ℕ) → (u ++ (0 ∷ [])) ++ ((v ++ (0 ∷ [])) ++ []) ≡ u ++ (0 ∷ (v ++ (0 ∷ [])))
  behind u v = append_assoc u (0 ∷ []) ((v ++ (0 ∷ [])) ++ []) ∙ ap (λ l. u ++ (0 ∷ l)) (nothing-behind (v ++ (0 ∷ [])))
    where
      nothing-behind : (l : List ℕ) → l ++ [] ≡ l
      nothing-behind [] = refl
      nothing-behind (x ∷ l) = ap (λ l. x ∷ l) (nothing-behind l)

  conj-words : conj_words conj ≡ 5000 ∷ (apart nothing ps ++ (0 ∷ (apart (counted word (blanks_in ps)) qs ++ (0 ∷ []))))
  conj-words =
      ap (λ l. 5000 ∷ l)
      (append_assoc (hedge_words (first_of ps h)) (hedge_words (second_of word ps qs k)) []
      ∙ ap₂ (λ (u v : List ℕ). u ++ (v ++ [])) (apart_words nothing ps h p) (apart_words (counted word (blanks_in ps)) qs k q)
      ∙ behind (apart nothing ps) (apart (counted word (blanks_in ps)) qs))

  size : length (conj_words conj) ≡ 3 + (length ps + length qs)
  size =
      let a = length-map ps (numbered_by nothing (blanks_in ps)) in
      let b = length-map qs (numbered_by (counted word (blanks_in ps)) (blanks_in qs)) in
      let c = length-append (apart nothing ps) (0 ∷ (apart (counted word (blanks_in ps)) qs ++ (0 ∷ []))) in
      let d = length-append (apart (counted word (blanks_in ps)) qs) (0 ∷ []) in
      ap length conj-words ∙ (omega arith)

  pair_is : pair_words word ps qs ≡ asking word n conj
  unfolding pair_words
  pair_is =
      ap₂ (λ (m : ℕ) (l : List ℕ). word ∷ n.terms ∷ n.hedges ∷ n.functions ∷ 1 ∷ 7 ∷ m ∷ l) (let s = size in let z : 10 + (length ps + length qs) ≡ 7 + length (conj_words conj) = omega arith in z) (sym conj-words)

  pub fine-first : Few n → fine_hedge desk (first_of ps h)
  fine-first w = renamed-fine nothing (blanks_in ps) n (omega arith) (omega arith) (omega arith) w.terms w.hedges w.functions h p.fine (held-here nothing ps h p)

  pub fine-second : Few n → fine_hedge desk (second_of word ps qs k)
  fine-second w =
      renamed-fine (counted word (blanks_in ps)) (blanks_in qs) n (omega arith) (omega arith) (omega arith) w.terms w.hedges w.functions k q.fine
      (held-here (counted word (blanks_in ps)) qs k q)

  -- The words of a pair's question, where they are read at all, are read as the pair's question.
  pub pair-asked : too_many n ≡ false → (x : Question) → read_question desk (pair_words word ps qs) ≡ asks x → x ≡ pair_asks word ps qs h k
  pair-asked e x r = let w = few n e in asked-one word n conj x refl ((fine-first w, fine-second w), tt) (ap (read_question desk) (sym pair_is) ∙ r)
