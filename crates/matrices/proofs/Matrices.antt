-- Laws of A = [A' | I]: A_σ X_σ = A X, linearity, and what the fault of a key says.
use mathlib.Core.Path.{◌≡◌, refl, sym, ap, ◌∙◌, subst}
use mathlib.Core.Bool.{not, false≢true}
use mathlib.Core.List.{List}
use Prim.Native.Nat.{ℕ, ◌+◌, ◌-◌, ◌*◌, ◌%◌, ◌<◌}
use native.Mathlib.Nat.{mul-add, mul_comm, mul_assoc, one-mul, zero-mul, mod-mod, mod-lt, zero-add}
use native.Mathlib.Decide.{dec_lt}
use native.Mathlib.Omega.{arith}
use borrow.Author.Tests.{eqb-true, eq-eqb, ne_eqb, lt-ltb, le-ltb, not-false}
use lib.Dec.{eqb}
use lib.ListN.{length, get_or, replicate, length-replicate, get_or-replicate}
use Rattle.algebra.specs.Lists.{sum_below, first_from}
use Rattle.algebra.specs.Residues.{Residues, plus_times, add_scaled}
use Rattle.algebra.specs.Permutations.{IsPerm, permute, unpermute}
use Rattle.matrices.specs.Matrices.{row_times, row_of, product, entry, product_at, nonzero_row, key_fault, SystemFits}
use Rattle.algebra.proofs.Lists.{same-list, length-tab, get_or-tab, length-stretch, stretch-fits, Found, found}
use Rattle.algebra.proofs.Sums.{sum_split, sum_one, sum_cong, sum-add, sum-mul, sum-mod, cong_add, cong_mul}
use Rattle.algebra.proofs.Permutations.{reindex, get_or-permute, permute-unpermute}
use Rattle.algebra.proofs.Vectors.{length-add_scaled, get_or-add_scaled}

-- ---- one row, of d entries in A', among m rows

-- a row of A X by all the row's entries
row-entries : (p : ℕ) (row : List ℕ) (m : ℕ) (x : List ℕ) (i : ℕ) → i < m
    → row_times p row x i ≡ sum_below (length row + m) (λ (k : ℕ). entry row i k * get_or x k 0) % p
unfolding row_times entry
row-entries p row m x i l =
    ap (λ (z : ℕ). z % p)
    (sym
    (sum_split d m (λ (k : ℕ). entry row i k * get_or x k 0)
    ∙ (let u = sum_cong d (λ (k : ℕ). entry row i k * get_or x k 0) (λ (j : ℕ). get_or row j 0 * get_or x j 0) (λ j k. rw (lt-ltb j d k)) in
    let v = sum_one m i (λ (j : ℕ). entry row i (d + j) * get_or x (d + j) 0) l
    (λ j q. rw (le-ltb (d + j) d (omega arith), ne_eqb (d + j) (d + i) (λ e. q (omega arith))) (zero-mul _)) in
    let w : entry row i (d + i) * get_or x (d + i) 0 ≡ get_or x (d + i) 0 = rw (le-ltb (d + i) d (omega arith), eq-eqb (d + i) (d + i) refl) (one-mul _) in
    omega arith)))
  where
    d : ℕ
    d = length row

-- a row of A_σ X_σ is that row of A X
row-reindex : (p : ℕ) (row : List ℕ) (m : ℕ) (σ x : List ℕ) (i : ℕ) → IsPerm (length row + m) σ → i < m
    → sum_below (length row + m) (λ (j : ℕ). entry row i (get_or σ j 0) * get_or (permute x σ) j 0) % p ≡ row_times p row x i
row-reindex p row m σ x i h l =
    ap (λ (z : ℕ). z % p)
    (sum_cong (length row + m) _ (λ (j : ℕ). entry row i (get_or σ j 0) * get_or x (get_or σ j 0) 0)
    (λ j k. ap (λ (z : ℕ). entry row i (get_or σ j 0) * z) (get_or-permute x σ j (rw h.len k)))
    ∙ reindex (λ (k : ℕ). entry row i k * get_or x k 0) (length row + m) σ h)
    ∙ sym (row-entries p row m x i l)

-- a row of A (R + c·V)
one_term : (p c a r v : ℕ) → (a * plus_times p c r v) % p ≡ (a * r + c * (a * v)) % p
one_term p c a r v =
    cong_mul p a a ((r + c * v) % p) (r + c * v) refl (mod-mod (r + c * v) p)
    ∙ ap (λ (z : ℕ). z % p)
    (mul-add a r (c * v) ∙ ap (λ (z : ℕ). a * r + z) (sym (mul_assoc a c v) ∙ ap (λ (z : ℕ). z * v) (mul_comm a c) ∙ mul_assoc c a v))

row_linear : (p : ℕ) (row : List ℕ) (m c : ℕ) (r v : List ℕ) (i : ℕ) → length r ≡ length row + m → length v ≡ length row + m → i < m
    → row_times p row (add_scaled p r c v) i ≡ plus_times p c (row_times p row r i) (row_times p row v i)
unfolding row_times
row_linear p row m c r v i hr hv l =
    cong_add p _ (S r + c * S v) _ (get_or r (d + i) 0 + c * get_or v (d + i) 0)
    (sum-mod p d _ _ (λ j k. ap (λ (z : ℕ). (get_or row j 0 * z) % p) (at j (omega arith)) ∙ one_term p c (get_or row j 0) (get_or r j 0) (get_or v j 0))
    ∙ ap (λ (z : ℕ). z % p) (sum-add d _ _ ∙ ap (λ (z : ℕ). S r + z) (sum-mul d c _)))
    (ap (λ (z : ℕ). z % p) (at (d + i) (omega arith)) ∙ mod-mod _ p)
    ∙ ap (λ (z : ℕ). z % p) (let q = mul-add c (S v) (get_or v (d + i) 0) in omega arith)
    ∙ cong_add p (S r + get_or r (d + i) 0) _ (c * (S v + get_or v (d + i) 0)) _ (sym (mod-mod _ p))
    (cong_mul p c c _ _ refl (sym (mod-mod _ p)))
  where
    d : ℕ
    d = length row

    S : List ℕ → ℕ
    S x = sum_below d (λ (j : ℕ). get_or row j 0 * get_or x j 0)

    at : (j : ℕ) → j < d + m → get_or (add_scaled p r c v) j 0 ≡ plus_times p c (get_or r j 0) (get_or v j 0)
    at j k = get_or-add_scaled p r c v (hr ∙ sym hv) j (rw hr k)

-- ---- all rows

pub length-product : (p : ℕ) (a : List ℕ) (n m : ℕ) (x : List ℕ) → length (product p a n m x) ≡ m
unfolding product
length-product p a n m x = length-tab m _

pub get_or-product : (p : ℕ) (a : List ℕ) (n m : ℕ) (x : List ℕ) (i : ℕ) → i < m → get_or (product p a n m x) i 0 ≡ row_times p (row_of a n m i) x i
unfolding product
get_or-product p a n m x i l = get_or-tab m _ i l

pub residues-product : (p : ℕ) (a : List ℕ) (n m : ℕ) (x : List ℕ) → 0 < p → Residues p (product p a n m x)
unfolding row_times
residues-product p a n m x pos i h =
    let l : i < m = rw (length-product p a n m x) at h in
    rw (get_or-product p a n m x i l) (mod-lt _ pos)

module _ (p : ℕ) (a : List ℕ) (n m : ℕ) (fits : SystemFits a n m) where
  -- each row of A' has n - m entries
  pub row-length : (i : ℕ) → i < m → length (row_of a n m i) ≡ n - m
  row-length i l = length-stretch (n - m) i a (rw fits.entries (stretch-fits (n - m) i m l))

  columns : (i : ℕ) → i < m → length (row_of a n m i) + m ≡ n
  columns i l = let e = row-length i l in let k = fits.less in omega arith

  -- A_σ X_σ = A X
  pub product-reindex : (σ x : List ℕ) → IsPerm n σ → product_at p a n m σ (permute x σ) ≡ product p a n m x
  unfolding product_at
  product-reindex σ x h =
      same-list m _ _ (length-tab m _) (length-product p a n m x)
      (λ i l.
      let e = columns i l in
      get_or-tab m _ i l
      ∙ ap (λ (k : ℕ). sum_below k (λ (j : ℕ). entry (row_of a n m i) i (get_or σ j 0) * get_or (permute x σ) j 0) % p) (sym e)
      ∙ row-reindex p (row_of a n m i) m σ x i (subst (λ (k : ℕ). IsPerm k σ) (sym e) h) l
      ∙ sym (get_or-product p a n m x i l))

  -- A_σ W = A U where U[σ[j]] = W[j]
  pub product-unpermute : (σ w : List ℕ) → IsPerm n σ → length w ≡ n → product p a n m (unpermute n w σ) ≡ product_at p a n m σ w
  product-unpermute σ w h e =
      sym (product-reindex σ (unpermute n w σ) h) ∙ ap (product_at p a n m σ) (permute-unpermute n σ h w e)

  -- A (R + c·V) = A R + c·A V
  pub product_linear : (c : ℕ) (r v : List ℕ) → length r ≡ n → length v ≡ n
      → product p a n m (add_scaled p r c v) ≡ add_scaled p (product p a n m r) c (product p a n m v)
  product_linear c r v hr hv =
      let e : length (product p a n m r) ≡ length (product p a n m v) = length-product p a n m r ∙ sym (length-product p a n m v) in
      same-list m _ _ (length-product p a n m _) (length-add_scaled p _ c _ e ∙ length-product p a n m r)
      (λ i l.
      get_or-product p a n m _ i l
      ∙ row_linear p (row_of a n m i) m c r v i (hr ∙ sym (columns i l)) (hv ∙ sym (columns i l)) l
      ∙ sym (get_or-add_scaled p (product p a n m r) c (product p a n m v) e i (rw (length-product p a n m r) l)
      ∙ (rw (get_or-product p a n m r i l, get_or-product p a n m v i l))))

-- ---- the key

module _ (p : ℕ) (a : List ℕ) (n m : ℕ) (v π : List ℕ) where
  -- every row before the fault is zero, and the fault is not
  pub fault_found : Found (nonzero_row p a n m (permute v π)) 0 m (key_fault p a n m v π)
  unfolding key_fault
  fault_found =
      subst (λ (end : ℕ). Found (nonzero_row p a n m (permute v π)) 0 end (first_from m 0 (nonzero_row p a n m (permute v π)))) (zero-add m)
      (found (nonzero_row p a n m (permute v π)) m 0)

  -- no fault: A V_π is all zero
  pub valid→ : key_fault p a n m v π ≡ m → product p a n m (permute v π) ≡ replicate m 0
  valid→ e =
      same-list m _ _ (length-product p a n m (permute v π)) (length-replicate m 0)
      (λ i l.
      let row = row_times p (row_of a n m i) (permute v π) i in
      get_or-product p a n m (permute v π) i l
      ∙ eqb-true row 0 (not-false (eqb row 0) (fault_found.before i (omega arith) (rw e l)))
      ∙ sym (get_or-replicate m i 0 0 l))

  pub valid← : product p a n m (permute v π) ≡ replicate m 0 → key_fault p a n m v π ≡ m
  valid← e = step (dec_lt (key_fault p a n m v π) m)
    where
      k : ℕ
      k = key_fault p a n m v π

      zero_row : k < m → row_times p (row_of a n m k) (permute v π) k ≡ 0
      zero_row l = sym (get_or-product p a n m (permute v π) k l) ∙ ap (λ (x : List ℕ). get_or x k 0) e ∙ get_or-replicate m k 0 0 l

      step : Dec (k < m) → k ≡ m
      step (yes l) =
          absurd (false≢true (sym (ap not (eq-eqb (row_times p (row_of a n m k) (permute v π) k) 0 (zero_row l))) ∙ fault_found.here l))
      step (no q) = let h = fault_found.most in omega arith
