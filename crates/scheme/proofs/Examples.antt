-- The definitions of a round on examples, by computation. The matrix has the rows (1, 2) and (3, 4), modulo 7: m = 2, n = 4. The hash stays folded.
use mathlib.Core.Path.{◌≡◌, refl}
use mathlib.Core.Bool.{true, false}
use mathlib.Core.List.{List, [], ◌∷◌, ◌++◌, zip_with}
use Prim.Native.Nat.{ℕ}
use Rattle.algebra.specs.Lists.{tab, sum_below, stretch, same_bytes}
use Rattle.algebra.specs.Residues.{negative, add_scaled, sub_scaled}
use Rattle.algebra.specs.Permutations.{permute}
use Rattle.matrices.specs.Matrices.{row_times, product, entry, product_at}
use Rattle.scheme.specs.Round.{System, Pair, pair, committed0, committed1, first_answer, opening, called_for, stand_in_committed, stand_in_answer}

abbrev four : ℕ → ℕ → ℕ → ℕ → List ℕ
four a b c d = a ∷ b ∷ c ∷ d ∷ []

abbrev system : System
system = record { p = 7; entries = four 1 2 3 4; n = 4; m = 2 }

-- V_π is (1, 1, 4, 0), and A V_π is zero
abbrev v : List ℕ
v = four 1 0 1 4

abbrev π : List ℕ
π = four 2 0 3 1

-- R and σ: R_σ is (6, 1, 2, 5), πσ is (0, 3, 1, 2), and V_πσ is (1, 4, 0, 1)
abbrev x : Pair
x = pair (four 5 6 1 2) (four 1 2 3 0)

abbrev σ : List ℕ
σ = x.permutation

abbrev τ : List ℕ
τ = four 0 3 1 2

-- W = R_σ + 3·V_πσ
abbrev w : List ℕ
w = four 2 6 2 1

card : (committed0 system x ≡ four 1 2 3 0 ++ (4 ∷ 6 ∷ []))
    × (committed1 π x ≡ four 0 3 1 2 ++ four 6 1 2 5)
    × (first_answer 7 v π 3 x ≡ w)
    × (opening π false σ ≡ four 1 2 3 0)
    × (opening π true σ ≡ τ)
unfolding committed0 committed1 first_answer opening product row_times add_scaled zip_with permute stretch sum_below tab
card = (refl, refl, refl, refl, refl)

-- what the register hashes is what the card hashed
register : (called_for system v 3 false σ w ≡ committed0 system x)
    × (called_for system v 3 true τ w ≡ committed1 π x)
    × (same_bytes σ σ ≡ true)
    × (same_bytes σ τ ≡ false)
    × (same_bytes σ (1 ∷ 2 ∷ []) ≡ false)
unfolding called_for committed0 committed1 product product_at row_times entry negative add_scaled sub_scaled zip_with permute stretch sum_below tab same_bytes
register = (refl, refl, refl, refl, refl)

-- lent W and σ for bit 0, R_σ and τ for bit 1, the stand-in shows what the card showed
stand_in_lem : (stand_in_committed system v 3 false (pair w σ) ≡ committed0 system x)
    × (stand_in_answer 7 v 3 false (pair w σ) ≡ w)
    × (stand_in_committed system v 3 true (pair (four 6 1 2 5) τ) ≡ committed1 π x)
    × (stand_in_answer 7 v 3 true (pair (four 6 1 2 5) τ) ≡ w)
unfolding stand_in_committed stand_in_answer called_for committed0 committed1 product product_at row_times entry add_scaled zip_with permute stretch sum_below tab
stand_in_lem = (refl, refl, refl, refl)
