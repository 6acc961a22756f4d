-- Laws of the completed X: A X is zero, and so a key made of it has no fault.
use mathlib.Core.Path.{◌≡◌, refl, sym, ap, ap₂, ◌∙◌}
use mathlib.Core.List.{List, [], ◌∷◌, ◌++◌, append_assoc, append-nil}
use Prim.Native.Nat.{ℕ, ◌+◌, ◌-◌, ◌*◌, ◌%◌, ◌<◌, ◌≤◌}
use native.Mathlib.Nat.{mod-mod, mod-lt}
use native.Mathlib.Numerals.{add-one}
use native.Mathlib.Decide.{dec_lt}
use native.Mathlib.Omega.{arith}
use lib.ListN.{length, get_or, take, drop, set, replicate, length-append, length-set, take-append-drop, length-replicate, get_or-replicate, get_or-append, get_or-eq_default}
use lib.Seq.{length-take-le, get_or-append-add, get_or-take, get_or-set_same, get_or-set_other, set-set}
use Rattle.algebra.specs.Lists.{tab, sum_below, over}
use Rattle.algebra.specs.Residues.{Residues, negative}
use Rattle.algebra.specs.Permutations.{IsPerm, unpermute}
use Rattle.matrices.specs.Matrices.{row_times, row_of, product, key_fault, SystemFits}
use Rattle.matrices.specs.Solving.{last_entry, completed}
use Rattle.algebra.proofs.Lists.{same-list, length-tab, get_or-tab, over-more}
use Rattle.algebra.proofs.Sums.{sum_cong, cong_add}
use Rattle.algebra.proofs.Permutations.{inverse-perm, permute-unpermute}
use Rattle.algebra.proofs.Vectors.{residues-permute, negative_residue, plus_negative}
use Rattle.matrices.proofs.Matrices.{length-product, get_or-product, row-length, valid←}

-- a row of A X looks at no more than the first entries of X, and the row's own
pub same_row : (p : ℕ) (row x y : List ℕ) (i : ℕ) → ((j : ℕ) → j < length row → get_or x j 0 ≡ get_or y j 0)
    → get_or x (length row + i) 0 ≡ get_or y (length row + i) 0 → row_times p row x i ≡ row_times p row y i
unfolding row_times
same_row p row x y i h e =
    ap₂ (λ (s t : ℕ). (s + t) % p) (sum_cong (length row) _ _ (λ j l. ap (λ (z : ℕ). get_or row j 0 * z) (h j l))) e

module _ (p : ℕ) (a : List ℕ) (n m : ℕ) (start : List ℕ) where
  abbrev last : ℕ → ℕ
  last = last_entry p a n m start

  pub length-completed : length start ≡ n - m → m < n → length (completed p a n m start) ≡ n
  unfolding completed
  length-completed e l = length-append start (tab m last) ∙ (let t = length-tab m last in omega arith)

  get_or-start : (j : ℕ) → j < length start → get_or (completed p a n m start) j 0 ≡ get_or start j 0
  unfolding completed
  get_or-start j l = get_or-append start (tab m last) 0 j l

  get_or-last : (i : ℕ) → i < m → get_or (completed p a n m start) (length start + i) 0 ≡ last i
  unfolding completed
  get_or-last i l = get_or-append-add start (tab m last) i 0 ∙ get_or-tab m last i l

  pub residues-completed : 0 < p → length start ≡ n - m → m < n → Residues p start → Residues p (completed p a n m start)
  residues-completed pos e less r j l = step (dec_lt j (length start))
    where
      step : Dec (j < length start) → get_or (completed p a n m start) j 0 < p
      step (yes k) = rw (get_or-start j k) (r j k)
      step (no f) =
          let w = length-completed e less in
          let q : length start + (j - length start) ≡ j = omega arith in
          let g : get_or (completed p a n m start) j 0 ≡ last (j - length start) =
          ap (λ (z : ℕ). get_or (completed p a n m start) z 0) (sym q) ∙ get_or-last (j - length start) (omega arith) in
          rw g (negative_residue p _ pos)

  module _ (pos : 0 < p) (fits : SystemFits a n m) (e : length start ≡ n - m) where
    zero_row : (i : ℕ) → i < m → row_times p (row_of a n m i) (completed p a n m start) i ≡ 0
    unfolding row_times
    zero_row i l =
        let row = row_of a n m i in
        let d : length start ≡ length row = e ∙ sym (row-length p a n m fits i l) in
        let sum = sum_below (length row) (λ (j : ℕ). get_or row j 0 * get_or start j 0) in
        let s : sum_below (length row) (λ (j : ℕ). get_or row j 0 * get_or (completed p a n m start) j 0) ≡ sum =
        sum_cong (length row) _ _ (λ j k. ap (λ (z : ℕ). get_or row j 0 * z) (get_or-start j (rw d k))) in
        let t : get_or (completed p a n m start) (length row + i) 0 ≡ last i =
        ap (λ (z : ℕ). get_or (completed p a n m start) (z + i) 0) (sym d) ∙ get_or-last i l in
        let none : get_or start (length row + i) 0 ≡ 0 = get_or-eq_default start 0 (omega arith) in
        let r : row_times p row start i ≡ sum % p = ap (λ (z : ℕ). z % p) (omega arith) in
        ap₂ (λ (x y : ℕ). (x + y) % p) s (t ∙ ap (negative p) r)
        ∙ cong_add p sum (sum % p) (negative p (sum % p)) (negative p (sum % p)) (sym (mod-mod sum p)) refl
        ∙ plus_negative p (sum % p) (let k = mod-lt sum pos in omega arith)

    pub product-completed : product p a n m (completed p a n m start) ≡ replicate m 0
    product-completed =
        same-list m _ _ (length-product p a n m _) (length-replicate m 0)
        (λ i l. get_or-product p a n m _ i l ∙ zero_row i l ∙ sym (get_or-replicate m i 0 0 l))

    -- the V with V[π[j]] = X[j] has the key π, and is a vector of residues
    pub solved : (π : List ℕ) → IsPerm n π → key_fault p a n m (unpermute n (completed p a n m start) π) π ≡ m
    solved π h =
        valid← p a n m _ π
        (ap (product p a n m) (permute-unpermute n π h (completed p a n m start) (length-completed e fits.less)) ∙ product-completed)

    pub residues-solved : (π : List ℕ) → IsPerm n π → Residues p start → Residues p (unpermute n (completed p a n m start) π)
    residues-solved π h r =
        residues-permute p n _ _ (length-completed e fits.less) (inverse-perm n π h) (residues-completed pos e fits.less r)

-- ---- the loop that completes X: i entries are worked out

pub row_residue : (p : ℕ) (row x : List ℕ) (i : ℕ) → 0 < p → row_times p row x i < p
unfolding row_times
row_residue p row x i pos = mod-lt _ pos

module _ (p : ℕ) (a : List ℕ) (n m : ℕ) (d : List ℕ) where
  abbrev known : List ℕ
  known = take (n - m) d

  pub record Completing (x : List ℕ) (i : ℕ) : Type 0 where
    pub size : length x ≡ length d
    pub now : x ≡ over (take (n - m) d ++ tab i (last_entry p a n m (take (n - m) d))) d

  pub completing_none : n ≤ length d → Completing d 0
  unfolding over tab
  completing_none h =
      record {
        size = refl;
        now = sym (ap₂ (λ (l : List ℕ) (k : ℕ). l ++ drop k d) (append-nil known) (ap length (append-nil known) ∙ length-take-le (n - m) d (omega arith))
            ∙ take-append-drop (n - m) d);
      }

  module _ (fits : SystemFits a n m) (room : n ≤ length d) (x : List ℕ) (i : ℕ) (c : Completing x i) (l : i < m) where
    some : List ℕ
    some = known ++ tab i (last_entry p a n m known)

    length_some : length some ≡ n - m + i
    unfolding some
    length_some =
        let t = length-tab i (last_entry p a n m known) in
        let k = length-take-le (n - m) d (omega arith) in
        omega (arith, length-append known (tab i (last_entry p a n m known)))

    pub completing-row : row_times p (row_of a n m i) (take n (set x (n - m + i) 0)) i ≡ row_times p (row_of a n m i) known i
    unfolding some over
    completing-row =
        let less = fits.less in
        let r = row-length p a n m fits i l in
        let k = length-take-le (n - m) d (omega arith) in
        let s = c.size in
        let z = length_some in
        same_row p (row_of a n m i) _ _ i
        (λ j h.
        get_or-take n (set x (n - m + i) 0) j 0 (omega arith)
        ∙ get_or-set_other x (n - m + i) j 0 0 (λ e. omega arith)
        ∙ ap (λ (y : List ℕ). get_or y j 0) c.now
        ∙ get_or-append some (drop (length some) d) 0 j (omega arith)
        ∙ get_or-append known (tab i (last_entry p a n m known)) 0 j (omega arith))
        (ap (λ (y : ℕ). get_or (take n (set x (n - m + i) 0)) (y + i) 0) r
        ∙ get_or-take n (set x (n - m + i) 0) (n - m + i) 0 (omega arith)
        ∙ get_or-set_same x (n - m + i) 0 0 (omega arith)
        ∙ sym (get_or-eq_default known 0 (omega arith)))

    pub completing-more : (y : ℕ) → y ≡ last_entry p a n m known i → Completing (set (set x (n - m + i) 0) (n - m + i) y) (i + 1)
    unfolding tab some
    completing-more y e =
        let less = fits.less in
        record {
          size = simp length-set c.size;
          now = set-set x (n - m + i) 0 y
              ∙ ap (λ (z : List ℕ). set z (n - m + i) y) c.now
              ∙ over-more some d (n - m + i) y length_some (omega arith)
              ∙ ap (λ (z : List ℕ). over z d) (append_assoc known (tab i (last_entry p a n m known)) (y ∷ []) ∙ rw (add-one, e));
        }

  pub completing_all : (x : List ℕ) (i : ℕ) → Completing x i → i ≡ m → x ≡ over (completed p a n m (take (n - m) d)) d
  unfolding completed
  completing_all x i c e = c.now ∙ ap (λ (k : ℕ). over (known ++ tab k (last_entry p a n m known)) d) e
