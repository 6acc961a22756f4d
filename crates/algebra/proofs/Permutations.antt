-- Laws of permutations. The heart is `reindex`: a sum over a permutation's places is the sum over all places. It goes by taking n - 1 out of the list.
use mathlib.Core.Path.{◌≡◌, refl, sym, ap, ◌∙◌, subst}
use mathlib.Core.Bool.{Bool, true, false, cond}
use mathlib.Core.List.{List, [], ◌∷◌}
use Prim.Native.Nat.{ℕ, zero, suc, ◌+◌, ◌≤◌, ◌<◌}
use native.Mathlib.Nat.{not-suc-le-zero, le_of_suc-le-suc, le_refl}
use native.Mathlib.Decide.{ℕ_discrete}
use native.Mathlib.Omega.{arith}
use borrow.Author.Tests.{eqb-true, eq-eqb, ne_eqb}
use lib.Dec.{eqb}
use lib.ListN.{length, get_or, take, drop, set, length-map, length-set}
use lib.Seq.{length-take-le, get_or-take, get_or-set_same, get_or-set_other, drop-set-lt}
use Rattle.algebra.specs.Lists.{tab, sum_below, count, over}
use Rattle.algebra.specs.Permutations.{is_perm, IsPerm, permute, compose, identity, place_of, inverse, unpermute}
use Rattle.algebra.proofs.Lists.{same-list, length-tab, get_or-tab, tab_of, over-parts, all_below-at, all_below-all, &&-left, &&-right}
use Rattle.algebra.proofs.Sums.{sum-front}

-- ---- a list without the first k in it

erase : ℕ → List ℕ → List ℕ
erase k [] = []
erase k (x ∷ xs) = cond (eqb k x) xs (x ∷ erase k xs)

length-erase : (k : ℕ) (σ : List ℕ) → 0 < count k σ → suc (length (erase k σ)) ≡ length σ
unfolding count erase
length-erase k [] h = absurd (not-suc-le-zero h)
length-erase k (x ∷ xs) h = step (eqb k x) (length-erase k xs) h
  where
    step : (b : Bool) → (0 < count k xs → suc (length (erase k xs)) ≡ length xs) → 0 < cond b 1 0 + count k xs
        → suc (length (cond b xs (x ∷ erase k xs))) ≡ suc (length xs)
    step true ih h = refl
    step false ih h = ap suc (ih (omega arith))

count-erase : (k j : ℕ) (σ : List ℕ) → (j ≡ k → ⊥) → count j (erase k σ) ≡ count j σ
unfolding count erase
count-erase k j [] ne = refl
count-erase k j (x ∷ xs) ne = step (eqb k x) refl (count-erase k j xs ne)
  where
    step : (b : Bool) → eqb k x ≡ b → count j (erase k xs) ≡ count j xs
        → count j (cond b xs (x ∷ erase k xs)) ≡ cond (eqb j x) 1 0 + count j xs
    step true e ih = rw (ne_eqb j x (λ q. ne (q ∙ sym (eqb-true k x e)))) (omega arith)
    step false e ih = ap (λ (z : ℕ). cond (eqb j x) 1 0 + z) ih

count-erase-same : (k : ℕ) (σ : List ℕ) → 0 < count k σ → count k σ ≡ suc (count k (erase k σ))
unfolding count erase
count-erase-same k [] h = absurd (not-suc-le-zero h)
count-erase-same k (x ∷ xs) h = step (eqb k x) refl (count-erase-same k xs) h
  where
    step : (b : Bool) → eqb k x ≡ b → (0 < count k xs → count k xs ≡ suc (count k (erase k xs))) → 0 < cond b 1 0 + count k xs
        → cond b 1 0 + count k xs ≡ suc (count k (cond b xs (x ∷ erase k xs)))
    step true e ih h = omega arith
    step false e ih h = rw e (let a = ih (omega arith) in omega arith)

-- ---- a list of n in which each of 0 to n - 1 stands

record Onto (n : ℕ) (σ : List ℕ) : Type 0 where
  pub len : length σ ≡ n
  pub has : (k : ℕ) → k < n → 0 < count k σ

onto : (n : ℕ) (σ : List ℕ) → IsPerm n σ → Onto n σ
onto n σ h = record { len = h.len; has = λ k l. let a = h.once k l in omega arith }

onto-erase : (n : ℕ) (σ : List ℕ) → Onto (suc n) σ → Onto n (erase n σ)
onto-erase n σ h =
    record {
      len = let a = length-erase n σ (h.has n (le_refl (suc n))) in let b = h.len in omega arith;
      has = λ k l. rw (count-erase n k σ (λ e. omega arith)) (h.has k (omega arith));
    }

-- nothing else stands in it
onto-below : (n : ℕ) (σ : List ℕ) → Onto n σ → (x : ℕ) → 0 < count x σ → x < n
unfolding count
onto-below zero [] h x c = absurd (not-suc-le-zero c)
onto-below zero (y ∷ ys) h x c = let a = h.len in absurd (omega arith)
onto-below (suc n) σ h x c = step (ℕ_discrete x n) (onto-below n (erase n σ) (onto-erase n σ h) x)
  where
    step : Dec (x ≡ n) → (0 < count x (erase n σ) → x < n) → x < suc n
    step (yes e) ih = omega arith
    step (no f) ih = let a = ih (rw (count-erase n x σ f) c) in omega arith

onto-once : (n : ℕ) (σ : List ℕ) → Onto n σ → (k : ℕ) → k < n → count k σ ≡ 1
onto-once zero σ h k l = absurd (not-suc-le-zero l)
onto-once (suc n) σ h k l = step (ℕ_discrete k n) (onto-once n (erase n σ) (onto-erase n σ h) k)
  where
    none : (c : ℕ) → (0 < c → n < n) → c ≡ 0
    none zero f = refl
    none (suc c) f = let a = f (omega arith) in absurd (omega arith)

    step : Dec (k ≡ n) → (k < n → count k (erase n σ) ≡ 1) → count k σ ≡ 1
    step (yes e) ih =
        ap (λ (z : ℕ). count z σ) e ∙ count-erase-same n σ (h.has n (le_refl (suc n)))
        ∙ ap suc (none (count n (erase n σ)) (onto-below n (erase n σ) (onto-erase n σ h) n))
    step (no f) ih = sym (count-erase n k σ f) ∙ ih (omega arith)

-- ---- sums

sum_over : (ℕ → ℕ) → List ℕ → ℕ
sum_over g [] = 0
sum_over g (x ∷ xs) = g x + sum_over g xs

sum-erase : (g : ℕ → ℕ) (k : ℕ) (σ : List ℕ) → 0 < count k σ → sum_over g σ ≡ g k + sum_over g (erase k σ)
unfolding count erase sum_over
sum-erase g k [] h = absurd (not-suc-le-zero h)
sum-erase g k (x ∷ xs) h = step (eqb k x) refl (sum-erase g k xs) h
  where
    step : (b : Bool) → eqb k x ≡ b → (0 < count k xs → sum_over g xs ≡ g k + sum_over g (erase k xs)) → 0 < cond b 1 0 + count k xs
        → g x + sum_over g xs ≡ g k + sum_over g (cond b xs (x ∷ erase k xs))
    step true e ih h = let a : g k ≡ g x = ap g (eqb-true k x e) in omega arith
    step false e ih h = let a = ih (omega arith) in omega arith

sum_over-onto : (g : ℕ → ℕ) (n : ℕ) (σ : List ℕ) → Onto n σ → sum_over g σ ≡ sum_below n g
unfolding sum_over sum_below
sum_over-onto g zero [] h = refl
sum_over-onto g zero (x ∷ xs) h = let a = h.len in absurd (omega arith)
sum_over-onto g (suc n) σ h =
    let a = sum_over-onto g n (erase n σ) (onto-erase n σ h) in
    let b = sum-erase g n σ (h.has n (le_refl (suc n))) in
    omega arith

sum-places : (g : ℕ → ℕ) (σ : List ℕ) → sum_below (length σ) (λ (j : ℕ). g (get_or σ j 0)) ≡ sum_over g σ
unfolding sum_over sum_below
sum-places g [] = refl
sum-places g (x ∷ xs) =
    sum-front (length xs) (λ (j : ℕ). g (get_or (x ∷ xs) j 0)) ∙ ap (λ (z : ℕ). g x + z) (sum-places g xs)

-- a sum over a permutation's places is the sum over all places
pub reindex : (g : ℕ → ℕ) (n : ℕ) (σ : List ℕ) → IsPerm n σ → sum_below n (λ (j : ℕ). g (get_or σ j 0)) ≡ sum_below n g
reindex g n σ h =
    ap (λ (k : ℕ). sum_below k (λ (j : ℕ). g (get_or σ j 0))) (sym h.len) ∙ sum-places g σ ∙ sum_over-onto g n σ (onto n σ h)

-- ---- what stands where

pub count-get_or : (σ : List ℕ) (j : ℕ) → j < length σ → 0 < count (get_or σ j 0) σ
unfolding count
count-get_or [] j h = absurd (not-suc-le-zero h)
count-get_or (x ∷ xs) zero h = rw (eq-eqb x x refl) (omega arith)
count-get_or (x ∷ xs) (suc j) h = let a = count-get_or xs j (le_of_suc-le-suc h) in omega arith

-- a permutation's places are below n
pub below : (n : ℕ) (σ : List ℕ) → IsPerm n σ → (j : ℕ) → j < n → get_or σ j 0 < n
below n σ h j l = onto-below n σ (onto n σ h) (get_or σ j 0) (count-get_or σ j (rw h.len l))

-- k stands at a place below n
abbrev pub Stands : ℕ → List ℕ → ℕ → Type 0
Stands n σ k = (q : ℕ) × (q < n) × (get_or σ q 0 ≡ k)

-- a list of n in which each of 0 to n - 1 stands is a permutation
pub from_places : (n : ℕ) (σ : List ℕ) → length σ ≡ n → ((k : ℕ) → k < n → Stands n σ k) → IsPerm n σ
from_places n σ len at = record { len = len; once = onto-once n σ (record { len = len; has = has }) }
  where
    has : (k : ℕ) → k < n → 0 < count k σ
    has k l = let q = at k l in subst (λ (z : ℕ). 0 < count z σ) q.2 (count-get_or σ q.0 (rw len q.1))

get_or-place_of : (k : ℕ) (σ : List ℕ) → 0 < count k σ → get_or σ (place_of k σ) 0 ≡ k
unfolding count place_of
get_or-place_of k [] h = absurd (not-suc-le-zero h)
get_or-place_of k (x ∷ xs) h = step (eqb k x) refl (get_or-place_of k xs) h
  where
    step : (b : Bool) → eqb k x ≡ b → (0 < count k xs → get_or xs (place_of k xs) 0 ≡ k) → 0 < cond b 1 0 + count k xs
        → get_or (x ∷ xs) (cond b 0 (suc (place_of k xs))) 0 ≡ k
    step true e ih h = sym (eqb-true k x e)
    step false e ih h = ih (omega arith)

place_of-below : (k : ℕ) (σ : List ℕ) → 0 < count k σ → place_of k σ < length σ
unfolding count place_of
place_of-below k [] h = absurd (not-suc-le-zero h)
place_of-below k (x ∷ xs) h = step (eqb k x) (place_of-below k xs) h
  where
    step : (b : Bool) → (0 < count k xs → place_of k xs < length xs) → 0 < cond b 1 0 + count k xs
        → cond b 0 (suc (place_of k xs)) < suc (length xs)
    step true ih h = omega arith
    step false ih h = let a = ih (omega arith) in omega arith

-- where a value stands at most once, its place is the one
place_of-get_or : (σ : List ℕ) → ((k : ℕ) → count k σ < 2) → (j : ℕ) → j < length σ → place_of (get_or σ j 0) σ ≡ j
unfolding count place_of
place_of-get_or [] few j h = absurd (not-suc-le-zero h)
place_of-get_or (x ∷ xs) few zero h = rw (eq-eqb x x refl)
place_of-get_or (x ∷ xs) few (suc j) h =
    step (eqb (get_or xs j 0) x) (few (get_or xs j 0)) (count-get_or xs j (le_of_suc-le-suc h))
    (place_of-get_or xs (λ k. let a = few k in omega arith) j (le_of_suc-le-suc h))
  where
    step : (b : Bool) → cond b 1 0 + count (get_or xs j 0) xs < 2 → 0 < count (get_or xs j 0) xs → place_of (get_or xs j 0) xs ≡ j
        → cond b 0 (suc (place_of (get_or xs j 0) xs)) ≡ suc j
    step true f c ih = absurd (omega arith)
    step false f c ih = ap suc ih

-- ---- V_θ

pub length-permute : (v θ : List ℕ) → length (permute v θ) ≡ length θ
unfolding permute
length-permute v θ = length-map θ (λ (k : ℕ). get_or v k 0)

pub get_or-permute : (v θ : List ℕ) (j : ℕ) → j < length θ → get_or (permute v θ) j 0 ≡ get_or v (get_or θ j 0) 0
unfolding permute
get_or-permute v [] j h = absurd (not-suc-le-zero h)
get_or-permute v (x ∷ xs) zero h = refl
get_or-permute v (x ∷ xs) (suc j) h = get_or-permute v xs j (le_of_suc-le-suc h)

-- V_θ as a table, which a loop writes
pub tab-permute : (v θ : List ℕ) → tab (length θ) (λ (j : ℕ). get_or v (get_or θ j 0) 0) ≡ permute v θ
tab-permute v θ = tab_of (length θ) (permute v θ) _ (length-permute v θ) (get_or-permute v θ)

-- (V_σ)_τ = V_στ
pub permute-compose : (n : ℕ) (v σ τ : List ℕ) → length σ ≡ n → IsPerm n τ → permute (permute v σ) τ ≡ permute v (compose σ τ)
permute-compose n v σ τ e h =
    same-list n _ _ (length-permute (permute v σ) τ ∙ h.len) (length-permute v (compose σ τ) ∙ length-permute σ τ ∙ h.len)
    (λ j l.
    let k : j < length τ = rw h.len l in
    get_or-permute (permute v σ) τ j k ∙ get_or-permute v σ (get_or τ j 0) (rw e (below n τ h j l))
    ∙ sym (get_or-permute v (compose σ τ) j (rw (length-permute σ τ) k) ∙ ap (λ (z : ℕ). get_or v z 0) (get_or-permute σ τ j k)))

pub permute-identity : (n : ℕ) (v : List ℕ) → length v ≡ n → permute v (identity n) ≡ v
unfolding identity
permute-identity n v e =
    same-list n _ v (length-permute v (tab n (λ (j : ℕ). j)) ∙ length-tab n _) e
    (λ j l.
    get_or-permute v (tab n (λ (j : ℕ). j)) j (rw (length-tab n (λ (j : ℕ). j)) l) ∙ ap (λ (z : ℕ). get_or v z 0) (get_or-tab n (λ (j : ℕ). j) j l))

pub identity-permute : (n : ℕ) (θ : List ℕ) → IsPerm n θ → permute (identity n) θ ≡ θ
unfolding identity
identity-permute n θ h =
    same-list n _ θ (length-permute (tab n (λ (j : ℕ). j)) θ ∙ h.len) h.len
    (λ j l. get_or-permute (tab n (λ (j : ℕ). j)) θ j (rw h.len l) ∙ get_or-tab n (λ (j : ℕ). j) (get_or θ j 0) (below n θ h j l))

pub identity-perm : (n : ℕ) → IsPerm n (identity n)
unfolding identity
identity-perm n = from_places n (tab n (λ (j : ℕ). j)) (length-tab n _) (λ k l. (k, l, get_or-tab n (λ (j : ℕ). j) k l))

-- ---- the inverse, and products

pub length-inverse : (n : ℕ) (σ : List ℕ) → length (inverse n σ) ≡ n
unfolding inverse
length-inverse n σ = length-tab n _

pub get_or-inverse : (n : ℕ) (σ : List ℕ) (k : ℕ) → k < n → get_or (inverse n σ) k 0 ≡ place_of k σ
unfolding inverse
get_or-inverse n σ k l = get_or-tab n (λ (i : ℕ). place_of i σ) k l

module _ (n : ℕ) (σ : List ℕ) (h : IsPerm n σ) where
  -- each of 0 to n - 1 stands at its place
  pub stands : (k : ℕ) → k < n → Stands n σ k
  stands k l =
      let c = (onto n σ h).has k l in
      (place_of k σ, subst (λ (z : ℕ). place_of k σ < z) h.len (place_of-below k σ c), get_or-place_of k σ c)

  -- at most once, whatever the value
  few : (k : ℕ) → count k σ < 2
  few k = go (count k σ) (h.once k) (onto-below n σ (onto n σ h) k)
    where
      go : (c : ℕ) → (k < n → c ≡ 1) → (0 < c → k < n) → c < 2
      go zero one lo = omega arith
      go (suc c) one lo = let a = one (lo (omega arith)) in omega arith

  -- what stands at the place j is sent back to j
  pub inverse-get_or : (j : ℕ) → j < n → get_or (inverse n σ) (get_or σ j 0) 0 ≡ j
  inverse-get_or j l = get_or-inverse n σ (get_or σ j 0) (below n σ h j l) ∙ place_of-get_or σ few j (rw h.len l)

  -- so no two places hold the same
  pub apart : (i j : ℕ) → i < n → j < n → get_or σ i 0 ≡ get_or σ j 0 → i ≡ j
  apart i j li lj e = sym (inverse-get_or i li) ∙ ap (λ (k : ℕ). get_or (inverse n σ) k 0) e ∙ inverse-get_or j lj

  pub inverse-perm : IsPerm n (inverse n σ)
  inverse-perm = from_places n (inverse n σ) (length-inverse n σ) (λ k l. (get_or σ k 0, below n σ h k l, inverse-get_or k l))

  -- σ σ⁻¹ and σ⁻¹ σ are the identity
  pub compose-inverse : compose σ (inverse n σ) ≡ identity n
  unfolding identity
  compose-inverse =
      sym (tab_of n (compose σ (inverse n σ)) (λ (j : ℕ). j) (length-permute σ (inverse n σ) ∙ length-inverse n σ)
      (λ j l.
      get_or-permute σ (inverse n σ) j (rw (length-inverse n σ) l) ∙ ap (λ (z : ℕ). get_or σ z 0) (get_or-inverse n σ j l) ∙ get_or-place_of j σ ((onto n σ h).has j l)))

  pub inverse-compose : compose (inverse n σ) σ ≡ identity n
  unfolding identity
  inverse-compose =
      sym (tab_of n (compose (inverse n σ) σ) (λ (j : ℕ). j) (length-permute (inverse n σ) σ ∙ h.len)
      (λ j l. get_or-permute (inverse n σ) σ j (rw h.len l) ∙ inverse-get_or j l))

  -- U_σ = W for the U with U[σ[j]] = W[j], and the other way round
  pub permute-unpermute : (w : List ℕ) → length w ≡ n → permute (unpermute n w σ) σ ≡ w
  permute-unpermute w e =
      permute-compose n w (inverse n σ) σ (length-inverse n σ) h ∙ ap (permute w) inverse-compose ∙ permute-identity n w e

  pub unpermute-permute : (u : List ℕ) → length u ≡ n → unpermute n (permute u σ) σ ≡ u
  unpermute-permute u e =
      permute-compose n u σ (inverse n σ) h.len inverse-perm ∙ ap (permute u) compose-inverse ∙ permute-identity n u e

pub compose-perm : (n : ℕ) (σ τ : List ℕ) → IsPerm n σ → IsPerm n τ → IsPerm n (compose σ τ)
compose-perm n σ τ h g =
    from_places n (compose σ τ) (length-permute σ τ ∙ g.len)
    (λ k l.
    let i = stands n σ h k l in
    let j = stands n τ g i.0 i.1 in
    (j.0, j.1, get_or-permute σ τ j.0 (rw g.len j.1) ∙ ap (λ (z : ℕ). get_or σ z 0) j.2 ∙ i.2))

-- σ⁻¹(στ) = τ and σ(σ⁻¹τ) = τ
pub inverse-undoes : (n : ℕ) (σ τ : List ℕ) → IsPerm n σ → IsPerm n τ → compose (inverse n σ) (compose σ τ) ≡ τ
inverse-undoes n σ τ h g =
    sym (permute-compose n (inverse n σ) σ τ h.len g) ∙ ap (λ (z : List ℕ). permute z τ) (inverse-compose n σ h) ∙ identity-permute n τ g

pub undoes-inverse : (n : ℕ) (σ τ : List ℕ) → IsPerm n σ → IsPerm n τ → compose σ (compose (inverse n σ) τ) ≡ τ
undoes-inverse n σ τ h g =
    sym (permute-compose n σ (inverse n σ) τ (length-inverse n σ) g) ∙ ap (λ (z : List ℕ). permute z τ) (compose-inverse n σ h)
    ∙ identity-permute n τ g

-- στ = σρ gives τ = ρ
pub cancel_left : (n : ℕ) (σ τ ρ : List ℕ) → IsPerm n σ → IsPerm n τ → IsPerm n ρ → compose σ τ ≡ compose σ ρ → τ ≡ ρ
cancel_left n σ τ ρ h g f e = sym (inverse-undoes n σ τ h g) ∙ ap (compose (inverse n σ)) e ∙ inverse-undoes n σ ρ h f

-- τσ = ρσ gives τ = ρ
pub cancel_right : (n : ℕ) (σ τ ρ : List ℕ) → IsPerm n σ → length τ ≡ n → length ρ ≡ n → compose τ σ ≡ compose ρ σ → τ ≡ ρ
cancel_right n σ τ ρ h g f e =
    sym (unpermute-permute n σ h τ g) ∙ ap (λ (z : List ℕ). unpermute n z σ) e ∙ unpermute-permute n σ h ρ f

-- ---- a loop that writes the U with U[σ[j]] = W[j] over the front of d: what out is after j turns

pub record Laid (σ w d out : List ℕ) (j : ℕ) : Type 0 where
  pub size : length out ≡ length d
  pub at : (i : ℕ) → i < j → get_or out (get_or σ i 0) 0 ≡ get_or w i 0
  pub rest : drop (length σ) out ≡ drop (length σ) d

pub laid_none : (σ w d : List ℕ) → Laid σ w d d 0
laid_none σ w d = record { size = refl; at = λ i h. absurd (not-suc-le-zero h); rest = refl }

module _ (σ w d out : List ℕ) (h : IsPerm (length σ) σ) (fits : length σ ≤ length d) where
  pub laid_more : (j : ℕ) → Laid σ w d out j → j < length σ → Laid σ w d (set out (get_or σ j 0) (get_or w j 0)) (j + 1)
  laid_more j t l =
      record {
        size = simp length-set t.size;
        at = λ i k. step i k (ℕ_discrete i j);
        rest = drop-set-lt (length σ) out (get_or σ j 0) (get_or w j 0) low ∙ t.rest;
      }
    where
      low : get_or σ j 0 < length σ
      low = below (length σ) σ h j l

      step : (i : ℕ) → i < j + 1 → Dec (i ≡ j) → get_or (set out (get_or σ j 0) (get_or w j 0)) (get_or σ i 0) 0 ≡ get_or w i 0
      step i k (yes e) = rw e (get_or-set_same out (get_or σ j 0) (get_or w j 0) 0 (let a = t.size in omega (arith, low)))
      step i k (no f) =
          get_or-set_other out (get_or σ j 0) (get_or σ i 0) (get_or w j 0) 0 (λ e. f (apart (length σ) σ h i j (omega arith) l e)) ∙ t.at i (omega arith)

  pub laid-all : (j : ℕ) → Laid σ w d out j → j ≡ length σ → length w ≡ length σ → out ≡ over (unpermute (length σ) w σ) d
  laid-all j t e len =
      over-parts (unpermute (length σ) w σ) d out (length σ) (length-permute w (inverse (length σ) σ) ∙ length-inverse (length σ) σ)
      (sym (unpermute-permute (length σ) σ h (take (length σ) out) fore) ∙ ap (λ (z : List ℕ). unpermute (length σ) z σ) back) t.rest
    where
      fore : length (take (length σ) out) ≡ length σ
      fore = length-take-le (length σ) out (let a = t.size in omega arith)

      back : permute (take (length σ) out) σ ≡ w
      back =
          same-list (length σ) _ w (length-permute (take (length σ) out) σ) len
          (λ i l.
          get_or-permute (take (length σ) out) σ i l ∙ get_or-take (length σ) out (get_or σ i 0) 0 (below (length σ) σ h i l) ∙ t.at i (rw e l))

-- ---- the test and the proposition

pub is_perm→ : (n : ℕ) (σ : List ℕ) → is_perm n σ ≡ true → IsPerm n σ
unfolding is_perm
is_perm→ n σ e =
    record {
      len = eqb-true (length σ) n (&&-left _ _ e);
      once = λ k l. eqb-true (count k σ) 1 (all_below-at n _ (&&-right (eqb (length σ) n) _ e) k l);
    }

pub is_perm← : (n : ℕ) (σ : List ℕ) → IsPerm n σ → is_perm n σ ≡ true
unfolding is_perm
is_perm← n σ h =
    rw (eq-eqb (length σ) n h.len) (all_below-all n (λ (k : ℕ). eqb (count k σ) 1) (λ k l. eq-eqb (count k σ) 1 (h.once k l)))
