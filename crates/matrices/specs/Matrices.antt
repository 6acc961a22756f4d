-- The matrix A = [A' | I] of m rows and n columns, given by a: the entries of A', row by row, n - m to a row (document 01, "The numbers").
use Rattle.std.specs.Prelude.{◌≡◌, Bool, cond, not, List, ℕ, ◌+◌, ◌-◌, ◌*◌, ◌%◌, ◌<◌, ◌≤◌, eqb, ltb, length, get_or}
use Rattle.algebra.specs.Lists.{tab, sum_below, first_from, stretch}
use Rattle.algebra.specs.Permutations.{longest, permute}

-- row i of A X, from that row of A': the sum of A'[i][j]·X[j] over j below n - m, plus X[n - m + i]
unfoldable pub row_times : ℕ → List ℕ → List ℕ → ℕ → ℕ
row_times p row x i = (sum_below (length row) (λ (j : ℕ). get_or row j 0 * get_or x j 0) + get_or x (length row + i) 0) % p

-- row i of A', as it lies in a
abbrev pub row_of : List ℕ → ℕ → ℕ → ℕ → List ℕ
row_of a n m i = stretch (n - m) i a

-- A X
unfoldable pub product : ℕ → List ℕ → ℕ → ℕ → List ℕ → List ℕ
product p a n m x = tab m (λ (i : ℕ). row_times p (row_of a n m i) x i)

-- row i of A at column k
unfoldable pub entry : List ℕ → ℕ → ℕ → ℕ
entry row i k = cond (ltb k (length row)) (get_or row k 0) (cond (eqb k (length row + i)) 1 0)

-- A_σ W: A_σ has column σ[j] of A at place j
unfoldable pub product_at : ℕ → List ℕ → ℕ → ℕ → List ℕ → List ℕ → List ℕ
product_at p a n m σ w =
    tab m (λ (i : ℕ). sum_below n (λ (j : ℕ). entry (row_of a n m i) i (get_or σ j 0) * get_or w j 0) % p)

-- whether row i of A X is not zero
abbrev pub nonzero_row : ℕ → List ℕ → ℕ → ℕ → List ℕ → ℕ → Bool
nonzero_row p a n m x i = not (eqb (row_times p (row_of a n m i) x i) 0)

-- the first row of A V_π that is not zero; m where every row is, so that the key π is valid for V
unfoldable pub key_fault : ℕ → List ℕ → ℕ → ℕ → List ℕ → List ℕ → ℕ
key_fault p a n m v π = first_from m 0 (nonzero_row p a n m (permute v π))

-- what the code asks of a system: m is 1 to n - 1, n is at most 64, and a has as many entries as they call for
pub record SystemFits (a : List ℕ) (n m : ℕ) : Type 0 where
  pub some : 0 < m
  pub less : m < n
  pub most : n ≤ longest
  pub entries : length a ≡ m * (n - m)
