-- What `read_question` answers, check by check: each test that failed, with those before it passed, is the refusal that the question gets, with its
-- place.
use mathlib.Core.Path.{◌≡◌, refl, sym, ap, ◌∙◌}
use mathlib.Core.Bool.{true, false}
use mathlib.Core.List.{List}
use Prim.Native.Nat.{ℕ, ◌+◌, ◌<◌, ◌≤◌}
use native.Mathlib.Omega.{arith}
use lib.ListN.{length, drop}
use borrow.Author.Tests.{le-leb, lt-leb}
use Rattle.language.specs.declared.Refusal.{Refusal}
use Rattle.language.specs.declared.Refusal.TheVariants.{QuestionLength, CountRange, BadOffset, NotLiterals, Undeclared}
use Rattle.language.specs.Limits.{desk}
use Rattle.language.specs.Trees.{Conj}
use Rattle.language.specs.Reading.{Got, got, stop}
use Rattle.language.specs.Question.{laid_out, parts, counts_of, alternatives_of, length_fits, counts_fit, declared_q, read_all, body_at, refuses, read_question}
use Rattle.language.specs.Undeclared.{declared_words, undeclared_at}
use Rattle.language.proofs.Questions.{bad-length, bad-counts, bad-offset, bad-literals, not-declared, asked}
use Rattle.language.proofs.Alternatives.{question-declared}
use Rattle.header.specs.declared.Header.{Header}
use Rattle.header.specs.Heading.{header_of, counts_in}
use Rattle.undeclared.specs.Scanning.{first_undeclared}
use Rattle.std.specs.Prelude.{Ok, Err, Some, None}
use Rattle.trees.specs.Places.{placed}
use Rattle.outcomes.specs.Numbers.{checked_numbers}
use Rattle.reader.specs.Checking.{asked_numbers}
use Rattle.undeclared.proofs.Scans.{scan-clean, scan-finds}

module _ (ws : List ℕ) where
  refused : (r : Refusal) → read_question desk ws ≡ refuses r → checked_numbers (Err r) ≡ asked_numbers (read_question desk ws)
  unfolding asked_numbers
  refused r e = sym (ap asked_numbers e)

  pub too_short : length ws < 6 → checked_numbers (Err QuestionLength) ≡ asked_numbers (read_question desk ws)
  unfolding length_fits
  too_short p = refused QuestionLength (bad-length desk ws (rw (lt-leb 6 (length ws) p)))

  module _ (l : 6 ≤ length ws) where
    pub too_long : desk.question < length ws → checked_numbers (Err QuestionLength) ≡ asked_numbers (read_question desk ws)
    unfolding length_fits
    too_long p = refused QuestionLength (bad-length desk ws (rw (le-leb 6 (length ws) l, lt-leb (length ws) desk.question p)))

    module _ (s : length ws ≤ desk.question) where
      fits : length_fits desk ws ≡ true
      unfolding length_fits
      fits = rw (le-leb 6 (length ws) l, le-leb (length ws) desk.question s)

      -- the header as it was read
      module _ (h : Header) (e : h ≡ header_of ws) where
        counted : counts_fit desk (counts_in h) h.alternatives ≡ counts_fit desk (counts_of ws) (alternatives_of ws)
        counted = ap (λ (h : Header). counts_fit desk (counts_in h) h.alternatives) e

        tabled : laid_out 5 h.alternatives ws ≡ laid_out 5 (alternatives_of ws) ws
        tabled = ap (λ (h : Header). laid_out 5 h.alternatives ws) e

        pub counts-wrong : counts_fit desk (counts_in h) h.alternatives ≡ false → checked_numbers (Err CountRange) ≡ asked_numbers (read_question desk ws)
        counts-wrong c = refused CountRange (bad-counts desk ws fits (sym counted ∙ c))

        module _ (c : counts_fit desk (counts_in h) h.alternatives ≡ true) where
          pub offsets-wrong : laid_out 5 h.alternatives ws ≡ false → checked_numbers (Err BadOffset) ≡ asked_numbers (read_question desk ws)
          offsets-wrong o = refused BadOffset (bad-offset desk ws fits (sym counted ∙ c) (sym tabled ∙ o))

          module _ (o : laid_out 5 h.alternatives ws ≡ true) where
            begins : body_at ws ≡ 6 + h.alternatives
            begins = ap (λ (h : Header). 6 + h.alternatives) (sym e)

            readings : placed (6 + h.alternatives) (read_all desk (parts 5 h.alternatives ws)) ≡ placed (body_at ws) (read_all desk (parts 5 (alternatives_of ws) ws))
            readings = ap (λ (h : Header). placed (6 + h.alternatives) (read_all desk (parts 5 h.alternatives ws))) e

            pub literals-wrong : (at : ℕ) → placed (6 + h.alternatives) (read_all desk (parts 5 h.alternatives ws)) ≡ Err at
                → checked_numbers (Err (NotLiterals at)) ≡ asked_numbers (read_question desk ws)
            literals-wrong at r = on (read_all desk (parts 5 (alternatives_of ws) ws)) refl (sym readings ∙ r)
              where
                on : (g : Got (List Conj)) → read_all desk (parts 5 (alternatives_of ws) ws) ≡ g → placed (body_at ws) g ≡ Err at
                    → checked_numbers (Err (NotLiterals at)) ≡ asked_numbers (read_question desk ws)
                on (stop m) i s =
                    refused (NotLiterals at) (bad-literals desk ws fits (sym counted ∙ c) (sym tabled ∙ o) m i ∙ ap (λ p. refuses (NotLiterals p)) (let z : body_at ws + m ≡ at = unfold placed in cc in z))
                on (got ks m) i s = absurd (let z : ◌≡◌ {A = ℕ} 0 1 = unfold placed in cc in omega arith)

            -- the scan begins behind the table
            module _ (end : ℕ) (r : placed (6 + h.alternatives) (read_all desk (parts 5 h.alternatives ws)) ≡ Ok end) (m : ℕ) (f : m ≡ h.alternatives) where
              behind : m + 6 ≡ body_at ws
              behind = let z = begins in omega arith

              words-declared : (ks : List Conj) (k : ℕ) → read_all desk (parts 5 (alternatives_of ws) ws) ≡ got ks k
                  → declared_words desk (counts_in h) (drop (m + 6) ws) ≡ declared_q (counts_of ws) ks
              words-declared ks k i =
                  let b = behind in
                  let z : m + 6 ≡ 5 + alternatives_of ws + 1 = omega arith in
                  ap (λ (h : Header). declared_words desk (counts_in h) (drop (m + 6) ws)) e
                  ∙ ap (λ k. declared_words desk (counts_of ws) (drop k ws)) z
                  ∙ question-declared desk (alternatives_of ws) ws (sym tabled ∙ o) (counts_of ws) ks k i

              -- the conjunctions as they were read
              with-readings : {A : Type 0} → ((ks : List Conj) (k : ℕ) → read_all desk (parts 5 (alternatives_of ws) ws) ≡ got ks k → A) → A
              with-readings {A} t = on (read_all desk (parts 5 (alternatives_of ws) ws)) refl (sym readings ∙ r)
                where
                  on : (g : Got (List Conj)) → read_all desk (parts 5 (alternatives_of ws) ws) ≡ g → placed (body_at ws) g ≡ Ok end → A
                  on (stop k) i s = absurd (let z : ◌≡◌ {A = ℕ} 0 1 = unfold placed in cc in omega arith)
                  on (got ks k) i s = t ks k i

              pub number-wrong : (at : ℕ) → first_undeclared desk (counts_in h) (m + 6) (drop (m + 6) ws) ≡ Some at
                  → checked_numbers (Err (Undeclared at)) ≡ asked_numbers (read_question desk ws)
              number-wrong at d = with-readings (λ ks k i.
                  let (u, p) = scan-finds (counts_in h) (m + 6) (drop (m + 6) ws) at d in
                  let q : m + 6 + undeclared_at desk (counts_in h) (drop (m + 6) ws) ≡ body_at ws + undeclared_at desk (counts_of ws) (drop (body_at ws) ws) =
                  ap (λ (h : Header). m + 6 + undeclared_at desk (counts_in h) (drop (m + 6) ws)) e ∙ ap (λ b. b + undeclared_at desk (counts_of ws) (drop b ws)) behind in
                  refused (Undeclared at)
                  (not-declared desk ws fits (sym counted ∙ c) (sym tabled ∙ o) ks k i (sym (words-declared ks k i) ∙ u) ∙ ap (λ p. refuses (Undeclared p)) (sym (p ∙ q))))

              pub nothing-wrong : first_undeclared desk (counts_in h) (m + 6) (drop (m + 6) ws) ≡ None → checked_numbers (Ok tt) ≡ asked_numbers (read_question desk ws)
              unfolding asked_numbers
              nothing-wrong d = with-readings (λ ks k i. sym (ap asked_numbers (asked desk ws fits (sym counted ∙ c) (sym tabled ∙ o) ks k i (sym (words-declared ks k i) ∙ scan-clean (counts_in h) (m + 6) (drop (m + 6) ws) d))))
