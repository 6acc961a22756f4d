-- The definitions of `specs/` on examples, by computation, modulo 7.
use mathlib.Core.Path.{◌≡◌, refl}
use mathlib.Core.Bool.{true, false}
use mathlib.Core.List.{List, [], ◌∷◌, zip_with}
use Prim.Native.Nat.{ℕ}
use lib.Dec.{eqb}
use Rattle.algebra.specs.Lists.{tab, all_below, first_from, count, stretch, over}
use Rattle.algebra.specs.Residues.{modulus, negative, add_scaled, sub_scaled}
use Rattle.algebra.specs.Permutations.{is_perm, permute, compose, identity, place_of, inverse, unpermute}

abbrev four : ℕ → ℕ → ℕ → ℕ → List ℕ
four a b c d = a ∷ b ∷ c ∷ d ∷ []

abbrev x : List ℕ
x = four 5 6 1 2

abbrev σ : List ℕ
σ = four 2 0 3 1

abbrev τ : List ℕ
τ = four 1 2 3 0

lists : (over (1 ∷ 2 ∷ []) (four 6 7 8 9) ≡ four 1 2 8 9)
    × (stretch 2 1 (four 6 7 8 9) ≡ 8 ∷ 9 ∷ [])
    × (first_from 4 0 (eqb 2) ≡ 2)
    × (first_from 4 0 (eqb 9) ≡ 4)
    × (count 7 (four 7 8 7 9) ≡ 2)
unfolding over stretch first_from count
lists = (refl, refl, refl, refl, refl)

-- 3 + 4 is 0 modulo 7; the negative of 0 is 0
residues : (negative 7 3 ≡ 4)
    × (negative 7 0 ≡ 0)
    × (negative modulus 1 ≡ 250)
    × (negative modulus 0 ≡ 0)
    × (add_scaled 7 x 3 (four 1 2 3 4) ≡ four 1 5 3 0)
    × (sub_scaled 7 (four 1 5 3 0) 3 (four 1 2 3 4) ≡ x)
unfolding negative add_scaled sub_scaled zip_with
residues = (refl, refl, refl, refl, refl, refl)

-- a place twice, a place that is none, and another length
permutations : (is_perm 4 σ ≡ true)
    × (is_perm 4 (four 2 0 2 1) ≡ false)
    × (is_perm 4 (four 2 0 4 1) ≡ false)
    × (is_perm 5 σ ≡ false)
    × (permute x σ ≡ four 1 5 2 6)
    × (unpermute 4 (four 1 5 2 6) σ ≡ x)
    × (compose σ τ ≡ four 0 3 1 2)
    × (compose τ σ ≡ four 3 1 0 2)
    × (inverse 4 σ ≡ four 1 3 0 2)
    × (identity 4 ≡ four 0 1 2 3)
unfolding is_perm all_below count permute inverse place_of identity tab
permutations = (refl, refl, refl, refl, refl, refl, refl, refl, refl, refl)
