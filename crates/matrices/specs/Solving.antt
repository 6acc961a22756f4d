-- X from its first n - m entries, so that A X is zero (document 01, "Drawing from lent bytes").
use Rattle.std.specs.Prelude.{List, ◌++◌, ℕ}
use Rattle.algebra.specs.Lists.{tab}
use Rattle.algebra.specs.Residues.{negative}
use Rattle.matrices.specs.Matrices.{row_times, row_of}

-- entry n - m + i: the negative of row i's sum over the entries before. As these have no entry n - m + i, that is the row of A times them
abbrev pub last_entry : ℕ → List ℕ → ℕ → ℕ → List ℕ → ℕ → ℕ
last_entry p a n m start i = negative p (row_times p (row_of a n m i) start i)

unfoldable pub completed : ℕ → List ℕ → ℕ → ℕ → List ℕ → List ℕ
completed p a n m start = start ++ tab m (last_entry p a n m start)
