-- Laws for rooms whose first bytes are lent on, and for the comparison of bytes.
use mathlib.Core.Path.{◌≡◌, refl, sym, ap, ◌∙◌, subst}
use mathlib.Core.Bool.{Bool, true, false, ◌&&◌}
use mathlib.Core.List.{List, [], ◌∷◌}
use Prim.Native.Nat.{ℕ, ◌+◌, ◌≤◌, ◌<◌}
use native.Mathlib.Numerals.{add-one}
use native.Mathlib.Omega.{arith}
use borrow.Author.Tests.{eq-eqb, ne_eqb}
use lib.Dec.{eqb}
use lib.ListN.{length, get_or, take, drop, length-take, drop_of_length-le}
use lib.Seq.{drop-cons}
use Rattle.std.specs.Cmp.Lexicographic.{pointwise}
use Rattle.algebra.specs.Lists.{over, same_bytes}
use Rattle.algebra.specs.Permutations.{IsPerm, permute, compose}
use Rattle.algebra.proofs.Lists.{front}
use Rattle.algebra.proofs.Permutations.{length-permute, compose-perm}

pub take_within : (n k : ℕ) (l : List ℕ) → n < k → length (take n l) < k
take_within n k l h = simp length-take (omega arith)

-- what was written as V_θ, lent on
pub front-permute : (v θ d y : List ℕ) (n : ℕ) → length θ ≡ n → y ≡ over (permute v θ) d → take n y ≡ permute v θ
front-permute v θ d y n e q = front (permute v θ) d y n (length-permute v θ ∙ e) q

-- the product of two permutations of one length is one of its own places
pub compose-own : (π σ : List ℕ) → IsPerm (length π) π → IsPerm (length σ) σ → length π ≡ length σ → IsPerm (length (compose π σ)) (compose π σ)
compose-own π σ h g e =
    subst (λ (n : ℕ). IsPerm n (compose π σ)) (sym (length-permute π σ)) (compose-perm (length σ) π σ (subst (λ (n : ℕ). IsPerm n π) e h) g)

-- ---- the comparison

pub same_pointwise : (x y : List ℕ) → pointwise eqb x y ≡ same_bytes x y
unfolding same_bytes
same_pointwise [] [] = refl
same_pointwise [] (y ∷ ys) = refl
same_pointwise (x ∷ xs) [] = refl
same_pointwise (x ∷ xs) (y ∷ ys) = ap (λ (b : Bool). eqb x y && b) (same_pointwise xs ys)

-- ---- the comparison, from the place i on

module _ (x y : List ℕ) (i : ℕ) where
  pub same_end : length x ≤ i → length y ≤ i → true ≡ same_bytes (drop i x) (drop i y)
  unfolding same_bytes
  same_end h k = rw (drop_of_length-le x h, drop_of_length-le y k)

  pub same_differ : i < length x → i < length y → (get_or x i 0 ≡ get_or y i 0 → ⊥) → false ≡ same_bytes (drop i x) (drop i y)
  unfolding same_bytes
  same_differ h k q = rw (drop-cons x i 0 h, drop-cons y i 0 k, ne_eqb (get_or x i 0) (get_or y i 0) q)

  pub same_skip : i < length x → i < length y → get_or x i 0 ≡ get_or y i 0
      → same_bytes (drop (i + 1) x) (drop (i + 1) y) ≡ same_bytes (drop i x) (drop i y)
  unfolding same_bytes
  same_skip h k e = rw (add-one, drop-cons x i 0 h, drop-cons y i 0 k, eq-eqb (get_or x i 0) (get_or y i 0) e)
