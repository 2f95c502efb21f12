-- How many words the rows of a table have, row by row.
use Rattle.std.specs.Prelude.{ℕ, zero, suc, ◌+◌}

-- of n rows
unfoldable pub rows_length : ℕ → ℕ → ℕ
rows_length size zero = 0
rows_length size (suc n) = size + 4 + rows_length size n

-- how many pairs n rules have: the first with each later one, and then the pairs of these
unfoldable pub pair_count : ℕ → ℕ
pair_count zero = 0
pair_count (suc n) = n + pair_count n

-- of all pairs of n rules: the first with each later one, and then the pairs of these
unfoldable pub table_length : ℕ → ℕ → ℕ
table_length size zero = 0
table_length size (suc n) = rows_length size n + table_length size n
