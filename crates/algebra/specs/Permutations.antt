-- Permutations, as lists of places (document 01, "The numbers").
use Rattle.std.specs.Prelude.{◌≡◌, Bool, cond, ◌&&◌, List, [], ◌∷◌, map, ℕ, suc, ◌<◌, eqb, length, get_or}
use Rattle.algebra.specs.Lists.{tab, all_below, count}

-- n is at most this
abbrev pub longest : ℕ
longest = 64

-- n places, each of 0 to n - 1 once: as a test, and as a proposition
unfoldable pub is_perm : ℕ → List ℕ → Bool
is_perm n σ = eqb (length σ) n && all_below n (λ (k : ℕ). eqb (count k σ) 1)

pub record IsPerm (n : ℕ) (σ : List ℕ) : Type 0 where
  pub len : length σ ≡ n
  pub once : (k : ℕ) → k < n → count k σ ≡ 1

-- V_θ has V[θ[j]] at place j
unfoldable pub permute : List ℕ → List ℕ → List ℕ
permute v θ = map (λ (k : ℕ). get_or v k 0) θ

-- the product στ sends j to σ[τ[j]]: it is σ_τ
abbrev pub compose : List ℕ → List ℕ → List ℕ
compose σ τ = permute σ τ

-- 0, 1, .., n - 1
unfoldable pub identity : ℕ → List ℕ
identity n = tab n (λ (j : ℕ). j)

-- the first place at which k stands
unfoldable pub place_of : ℕ → List ℕ → ℕ
place_of k [] = 0
place_of k (x ∷ xs) = cond (eqb k x) 0 (suc (place_of k xs))

-- the inverse of a permutation of n sends k to the place of k
unfoldable pub inverse : ℕ → List ℕ → List ℕ
inverse n σ = tab n (λ (k : ℕ). place_of k σ)

-- the U with U[σ[j]] = W[j], for a permutation σ of n: U_σ = W
abbrev pub unpermute : ℕ → List ℕ → List ℕ → List ℕ
unpermute n w σ = permute w (inverse n σ)
