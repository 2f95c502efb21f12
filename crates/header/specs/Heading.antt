-- The first words of a question.
use Rattle.std.specs.Prelude.{ℕ, ◌/◌, ◌%◌, List, get_or}
use Rattle.language.specs.Trees.{Counts}
use Rattle.header.specs.declared.Header.{Header}

-- the first five words
abbrev pub header_of : List ℕ → Header
header_of ws = record { symbols = get_or ws 0 0 % 256; unordered = get_or ws 0 0 / 256; terms = get_or ws 1 0; hedges = get_or ws 2 0; functions = get_or ws 3 0; alternatives = get_or ws 4 0 }

abbrev pub counts_in : Header → Counts
counts_in h = record { symbols = h.symbols; unordered = h.unordered; terms = h.terms; hedges = h.hedges; functions = h.functions }
