-- Whether the counts are in range, one test after another.
use mathlib.Core.Path.{◌≡◌}
use mathlib.Core.Bool.{false}
use Prim.Native.Nat.{◌<◌, ◌≤◌}
use lib.Dec.{leb}
use borrow.Author.Tests.{le-leb, lt-leb}
use Rattle.language.specs.Limits.{desk}
use Rattle.language.specs.Question.{counts_fit}
use Rattle.header.specs.declared.Header.{Header}
use Rattle.header.specs.Heading.{counts_in}

module _ (h : Header) where
  pub no_symbol : h.symbols < 1 → false ≡ counts_fit desk (counts_in h) h.alternatives
  unfolding counts_fit
  no_symbol p = rw (lt-leb 1 h.symbols p)

  module _ (a : 1 ≤ h.symbols) where
    pub many-symbols : desk.each < h.symbols → false ≡ counts_fit desk (counts_in h) h.alternatives
    unfolding counts_fit
    many-symbols p = rw (le-leb 1 h.symbols a, lt-leb h.symbols desk.each p)

    module _ (s : h.symbols ≤ desk.each) where
      pub many-unordered : h.symbols < h.unordered → false ≡ counts_fit desk (counts_in h) h.alternatives
      unfolding counts_fit
      many-unordered p = rw (le-leb 1 h.symbols a, le-leb h.symbols desk.each s, lt-leb h.unordered h.symbols p)

      module _ (o : h.unordered ≤ h.symbols) where
        pub many-terms : desk.each < h.terms → false ≡ counts_fit desk (counts_in h) h.alternatives
        unfolding counts_fit
        many-terms p = rw (le-leb 1 h.symbols a, le-leb h.symbols desk.each s, le-leb h.unordered h.symbols o, lt-leb h.terms desk.each p)

        module _ (t : h.terms ≤ desk.each) where
          pub many-hedges : desk.each < h.hedges → false ≡ counts_fit desk (counts_in h) h.alternatives
          unfolding counts_fit
          many-hedges p = rw (le-leb 1 h.symbols a, le-leb h.symbols desk.each s, le-leb h.unordered h.symbols o, le-leb h.terms desk.each t, lt-leb h.hedges desk.each p)

          module _ (u : h.hedges ≤ desk.each) where
            pub many-functions : desk.each < h.functions → false ≡ counts_fit desk (counts_in h) h.alternatives
            unfolding counts_fit
            many-functions p = rw (le-leb 1 h.symbols a, le-leb h.symbols desk.each s, le-leb h.unordered h.symbols o, le-leb h.terms desk.each t, le-leb h.hedges desk.each u, lt-leb h.functions desk.each p)

            pub alternatives-left : h.functions ≤ desk.each → leb h.alternatives desk.alternatives ≡ counts_fit desk (counts_in h) h.alternatives
            unfolding counts_fit
            alternatives-left f = rw (le-leb 1 h.symbols a, le-leb h.symbols desk.each s, le-leb h.unordered h.symbols o, le-leb h.terms desk.each t, le-leb h.hedges desk.each u, le-leb h.functions desk.each f)
