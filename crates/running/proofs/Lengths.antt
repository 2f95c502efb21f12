-- Waiting conjunctions in words, and lengths: of these, of a step's results and of lines.
use Prim.Native.Nat.{ℕ, suc, ◌+◌, ◌<◌, ◌≤◌}
use native.Mathlib.Omega.{arith}
use mathlib.Core.Path.{◌≡◌, refl, ap, ◌∙◌}
use mathlib.Core.Bool.{true, false, ◌&&◌}
use mathlib.Core.List.{List, [], ◌∷◌, ◌++◌, map}
use lib.Dec.{leb}
use lib.ListN.{length, length-append}
use borrow.Author.Tests.{le-leb, lt-leb}
use Rattle.language.specs.Limits.{desk}
use Rattle.language.specs.Trees.{Conj}
use Rattle.language.specs.Writing.{conj_words}
use Rattle.rules.specs.Run.{Numbered, EachLine, all_of, numbered, size, waiting_size, lines_size, lines_fit, lines_at}
use Rattle.rules.specs.Each.{Each}
use Rattle.frames.specs.Frames.{framed, all_with}
use Rattle.plans.specs.Sizes.{Short}
use Rattle.waiting.specs.Waiting.{in_order}
use Rattle.running.specs.Running.{block_of}

pub waiting-append : (ks w : List Numbered) → waiting_size (ks ++ w) ≡ waiting_size ks + waiting_size w
waiting-append [] w = let z : waiting_size w ≡ 0 + waiting_size w = omega arith in z
waiting-append (k ∷ ks) w =
    let e = waiting-append ks w in
    let z : suc (suc (size k.literals)) + waiting_size (ks ++ w) ≡ suc (suc (size k.literals)) + waiting_size ks + waiting_size w = omega arith in z

pub words-waiting : (ks : List Numbered) → waiting_size ks ≡ length (framed (map block_of ks))
words-waiting [] = refl
words-waiting (k ∷ ks) =
    let a = words-waiting ks in
    let l = length-append (conj_words k.literals) (framed (map block_of ks)) in
    omega arith

-- the results of a step, and the alternatives, in words
pub blocks-all : (n : ℕ) (ks : List Conj) → all_with n (map conj_words ks) ≡ map block_of (all_of n ks)
blocks-all n [] = refl
blocks-all n (k ∷ ks) = ap (λ l. record { number = n; words = conj_words k } ∷ l) (blocks-all n ks)

pub blocks-order : (n : ℕ) (ks : List Conj) → in_order n (map conj_words ks) ≡ map block_of (numbered n ks)
blocks-order n [] = refl
blocks-order n (k ∷ ks) = ap (λ l. record { number = n; words = conj_words k } ∷ l) (blocks-order (suc n) ks)

pub each_of : (P : Conj → Type 0) (n : ℕ) (ks : List Conj) → Each P ks → EachLine P (all_of n ks)
each_of P n [] p = tt
each_of P n (k ∷ ks) p = (p.0, each_of P n ks p.1)

-- each is short enough for a step's result
abbrev pub Shorts : List Conj → Type 0
Shorts ks = Each (λ k. size k ≤ desk.question) ks

pub short-words : (ks : List Conj) → Short (map conj_words ks) → Shorts ks
short-words [] p = tt
short-words (k ∷ ks) p = (p.0, short-words ks p.1)

-- ---- 9

pub lines_fit_lem : (ls : List Numbered) → length ls ≤ desk.lines → lines_at desk + lines_size ls ≤ desk.room → lines_fit desk ls ≡ true
lines_fit_lem ls h g = ap (λ b. b && leb (lines_at desk + lines_size ls) desk.room) (le-leb (length ls) desk.lines h) ∙ le-leb (lines_at desk + lines_size ls) desk.room g

pub lines-many : (ls : List Numbered) → desk.lines < length ls → lines_fit desk ls ≡ false
lines-many ls h = ap (λ b. b && leb (lines_at desk + lines_size ls) desk.room) (lt-leb (length ls) desk.lines h)

pub lines-past : (ls : List Numbered) → length ls ≤ desk.lines → desk.room < lines_at desk + lines_size ls → lines_fit desk ls ≡ false
lines-past ls h g = ap (λ b. b && leb (lines_at desk + lines_size ls) desk.room) (le-leb (length ls) desk.lines h) ∙ lt-leb (lines_at desk + lines_size ls) desk.room g
