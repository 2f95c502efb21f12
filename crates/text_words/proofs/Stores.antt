-- Runs of stores one behind the other, and offsets of parts with one more.
use Prim.Native.Nat.{ℕ, suc, ◌+◌, ◌<◌}
use native.Mathlib.Omega.{arith}
use mathlib.Core.Path.{◌≡◌, refl, sym, ap, ◌∙◌}
use mathlib.Core.List.{List, [], ◌∷◌, ◌++◌, append_assoc}
use lib.ListN.{length, set, length-append}
use lib.Seq.{sets, set_comm}
use Rattle.language.specs.Trees.{Conj}
use Rattle.language.specs.Writing.{conj_words}
use Rattle.meaning.specs.Values.{joined, offsets_of}
use Rattle.texts.specs.Numbering.{Naming, name_conj}
use Rattle.text_words.specs.Bodies.{words_of, ends_of}

pub sets-++ : (l : List ℕ) (n : ℕ) (us vs : List ℕ) → sets (sets l n us) (n + length us) vs ≡ sets l n (us ++ vs)
sets-++ l n [] vs = ap (λ k. sets l k vs) (let z : n + 0 ≡ n = omega arith in z)
sets-++ l n (u ∷ us) vs = ap (λ k. sets (sets (set l n u) (suc n) us) k vs) (let z : n + suc (length us) ≡ suc n + length us = omega arith in z) ∙ sets-++ (set l n u) (suc n) us vs

-- a store before them
pub set_before : (l us : List ℕ) (n m w : ℕ) → m < n → set (sets l n us) m w ≡ sets (set l m w) n us
set_before l [] n m w p = refl
set_before l (u ∷ us) n m w p = set_before (set l n u) us (suc n) m w (omega arith) ∙ ap (λ r. sets r (suc n) us) (set_comm l n m u w (λ e. omega arith))

pub words_snoc : (ρ : Naming) (ks : List Conj) (c : Conj) → words_of ρ (ks ++ (c ∷ [])) ≡ words_of ρ ks ++ (conj_words (name_conj ρ c) ∷ [])
words_snoc ρ [] c = refl
words_snoc ρ (k ∷ ks) c = ap (λ l. conj_words (name_conj ρ k) ∷ l) (words_snoc ρ ks c)

pub joined_snoc : (wss : List (List ℕ)) (ws : List ℕ) → joined (wss ++ (ws ∷ [])) ≡ joined wss ++ ws
joined_snoc [] ws = nothing-behind ws
  where
    nothing-behind : (l : List ℕ) → l ++ [] ≡ l
    nothing-behind [] = refl
    nothing-behind (n ∷ l) = ap (λ z. n ∷ z) (nothing-behind l)
joined_snoc (vs ∷ wss) ws = ap (λ l. vs ++ l) (joined_snoc wss ws) ∙ sym (append_assoc vs (joined wss) ws)

pub ends_snoc : (at : ℕ) (wss : List (List ℕ)) (ws : List ℕ) → ends_of at (wss ++ (ws ∷ [])) ≡ ends_of at wss ++ ((at + length (joined wss) + length ws) ∷ [])
ends_snoc at [] ws = ap (λ n. n ∷ []) (let z : at + length ws ≡ at + 0 + length ws = omega arith in z)
ends_snoc at (vs ∷ wss) ws =
    ap (λ l. (at + length vs) ∷ l) (ends_snoc (at + length vs) wss ws)
    ∙ ap (λ n. (at + length vs) ∷ (ends_of (at + length vs) wss ++ (n ∷ []))) (let l = length-append vs (joined wss) in let z : at + length vs + length (joined wss) + length ws ≡ at + length (vs ++ joined wss) + length ws = omega arith in z)

pub length-ends : (at : ℕ) (wss : List (List ℕ)) → length (ends_of at wss) ≡ length wss
length-ends at [] = refl
length-ends at (ws ∷ wss) = ap suc (length-ends (at + length ws) wss)

-- with the first before them they are the offsets
pub ends-offsets : (at : ℕ) (wss : List (List ℕ)) → at ∷ ends_of at wss ≡ offsets_of at wss
ends-offsets at [] = refl
ends-offsets at (ws ∷ wss) = ap (λ l. at ∷ l) (ends-offsets (at + length ws) wss)

pub length-words : (ρ : Naming) (ks : List Conj) → length (words_of ρ ks) ≡ length ks
length-words ρ [] = refl
length-words ρ (k ∷ ks) = ap suc (length-words ρ ks)
