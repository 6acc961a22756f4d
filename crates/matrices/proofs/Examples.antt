-- The definitions of `specs/` on examples, by computation. The matrix has the rows (1, 2) and (3, 4), modulo 7: m = 2, n = 4.
use mathlib.Core.Path.{◌≡◌, refl}
use mathlib.Core.List.{List, [], ◌∷◌}
use Prim.Native.Nat.{ℕ}
use Rattle.algebra.specs.Lists.{tab, sum_below, first_from, stretch}
use Rattle.algebra.specs.Residues.{negative}
use Rattle.algebra.specs.Permutations.{permute}
use Rattle.matrices.specs.Matrices.{row_times, product, entry, product_at, key_fault}
use Rattle.matrices.specs.Solving.{completed}

abbrev four : ℕ → ℕ → ℕ → ℕ → List ℕ
four a b c d = a ∷ b ∷ c ∷ d ∷ []

abbrev entries : List ℕ
entries = four 1 2 3 4

abbrev x : List ℕ
x = four 5 6 1 2

abbrev σ : List ℕ
σ = four 2 0 3 1

-- A X by rows is 5 + 12 + 1 and 15 + 24 + 2. A V_σ is zero for V = (1, 0, 1, 4), which σ makes (1, 1, 4, 0).
matrices : (product 7 entries 4 2 x ≡ 4 ∷ 6 ∷ [])
    × (product_at 7 entries 4 2 σ (four 1 5 2 6) ≡ 4 ∷ 6 ∷ [])
    × (key_fault 7 entries 4 2 (four 1 0 1 4) σ ≡ 2)
    × (key_fault 7 entries 4 2 (four 1 1 1 4) σ ≡ 1)
    × (key_fault 7 entries 4 2 (four 1 0 1 4) (four 0 1 2 3) ≡ 0)
unfolding product product_at key_fault row_times entry stretch permute first_from sum_below tab
matrices = (refl, refl, refl, refl, refl)

-- X starts with (5, 6); its rows sum to 5 + 12 and 15 + 24, of which 4 and 3 are the negatives. A row that sums to 0 is completed by 0.
solving : (completed 7 entries 4 2 (5 ∷ 6 ∷ []) ≡ four 5 6 4 3)
    × (product 7 entries 4 2 (four 5 6 4 3) ≡ 0 ∷ 0 ∷ [])
    × (completed 7 entries 4 2 (5 ∷ 1 ∷ []) ≡ four 5 1 0 2)
unfolding completed product negative row_times stretch sum_below tab
solving = (refl, refl, refl)
