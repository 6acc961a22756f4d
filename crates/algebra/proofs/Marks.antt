-- Laws for the test of a permutation by marks: a mark is set where its value was seen, and then it was seen once.
use mathlib.Core.Path.{◌≡◌, refl, sym, ap, ◌∙◌, subst}
use mathlib.Core.Bool.{Bool, true, false, cond}
use mathlib.Core.List.{List, [], ◌∷◌}
use Prim.Native.Nat.{ℕ, zero, suc, ◌+◌, ◌≤◌, ◌<◌}
use native.Mathlib.Nat.{not-suc-le-zero, le_refl}
use native.Mathlib.Numerals.{add-one}
use native.Mathlib.Decide.{ℕ_discrete}
use native.Mathlib.Omega.{arith}
use borrow.Author.Tests.{eq-eqb, ne_eqb}
use lib.Dec.{eqb}
use lib.ListN.{length, get_or, take, drop, set, replicate, take-append-drop, get_or-replicate}
use lib.Seq.{take_all, take-suc, get_or-set_same, get_or-set_other}
use Rattle.algebra.specs.Lists.{sum_below, count}
use Rattle.algebra.specs.Permutations.{longest, is_perm, IsPerm}
use Rattle.algebra.proofs.Lists.{count-append}
use Rattle.algebra.proofs.Sums.{sum-none, sum_one, sum-add}
use Rattle.algebra.proofs.Permutations.{below, is_perm→, is_perm←}

-- ---- counts

count-take : (k : ℕ) (s : List ℕ) (i : ℕ) → i < length s
    → count k (take (i + 1) s) ≡ count k (take i s) + cond (eqb k (get_or s i 0)) 1 0
unfolding count
count-take k s i h =
    ap (count k) (ap (λ (z : ℕ). take z s) (add-one i) ∙ take-suc s i 0 h) ∙ count-append k (take i s) (get_or s i 0 ∷ [])
    ∙ ap (λ (z : ℕ). count k (take i s) + z) (omega arith)

count-take-le : (k : ℕ) (s : List ℕ) (i : ℕ) → count k (take i s) ≤ count k s
count-take-le k s i = let a = ap (count k) (take-append-drop i s) in omega (arith, count-append k (take i s) (drop i s))

-- where all are below n the counts sum up to the length
sum-count : (n : ℕ) (s : List ℕ) → ((j : ℕ) → j < length s → get_or s j 0 < n) → sum_below n (λ (k : ℕ). count k s) ≡ length s
unfolding count
sum-count n [] h = sum-none n _ (λ j l. refl)
sum-count n (x ∷ xs) h =
    let a = sum-count n xs (λ j l. h (suc j) (omega arith)) in
    let b = sum_one n x (λ (k : ℕ). cond (eqb k x) 1 0) (h 0 (omega arith)) (λ j q. rw (ne_eqb j x q)) in
    let e : ◌≡◌ {A = ℕ} (cond (eqb x x) 1 0) 1 = rw (eq-eqb x x refl) in
    let f = sum-add n (λ (k : ℕ). cond (eqb k x) 1 0) (λ (k : ℕ). count k xs) in
    omega arith

sum-le : (n : ℕ) (f : ℕ → ℕ) → ((k : ℕ) → k < n → f k ≤ 1) → sum_below n f ≤ n
unfolding sum_below
sum-le zero f h = le_refl 0
sum-le (suc n) f h = let a = sum-le n f (λ k l. h k (omega arith)) in let b = h n (le_refl (suc n)) in omega arith

-- n numbers of at most 1 that sum up to n are each 1
all_one : (n : ℕ) (f : ℕ → ℕ) → ((k : ℕ) → k < n → f k ≤ 1) → sum_below n f ≡ n → (k : ℕ) → k < n → f k ≡ 1
unfolding sum_below
all_one zero f h e k l = absurd (not-suc-le-zero l)
all_one (suc n) f h e k l = step (ℕ_discrete k n) (λ e. all_one n f (λ k l. h k (omega arith)) e k)
  where
    a : sum_below n f ≤ n
    a = sum-le n f (λ k l. h k (omega arith))

    b : f n ≤ 1
    b = h n (le_refl (suc n))

    step : Dec (k ≡ n) → (sum_below n f ≡ n → k < n → f k ≡ 1) → f k ≡ 1
    step (yes q) ih = ap f q ∙ omega (arith, a, b)
    step (no q) ih = ih (omega (arith, a, b)) (omega arith)

-- ---- the answers of the test, each from what the loop knows

is_perm-false : (s : List ℕ) → (IsPerm (length s) s → ⊥) → false ≡ is_perm (length s) s
is_perm-false s f = go (is_perm (length s) s) refl
  where
    go : (b : Bool) → is_perm (length s) s ≡ b → false ≡ b
    go true e = absurd (f (is_perm→ (length s) s e))
    go false e = refl

-- a byte k that names no place
pub no_place : (s : List ℕ) (i k : ℕ) → i < length s → k ≡ get_or s i 0 → length s ≤ k → false ≡ is_perm (length s) s
no_place s i k l e h = is_perm-false s (λ q. let a = below (length s) s q i l in omega arith)

-- a byte k that was seen before
pub seen_before : (s : List ℕ) (i k : ℕ) → i < length s → k ≡ get_or s i 0 → k < length s → count k (take i s) ≡ 1
    → false ≡ is_perm (length s) s
seen_before s i k l e b h =
    is_perm-false s
    (λ q.
    let a = q.once k b in
    let d = count-take k s i l in
    let g : ◌≡◌ {A = ℕ} (cond (eqb k (get_or s i 0)) 1 0) 1 = rw (eq-eqb k (get_or s i 0) e) in
    let f = count-take-le k s (i + 1) in
    omega arith)

-- ---- the marks after i bytes
pub record Marked (s : List ℕ) (i : ℕ) (seen : List Bool) : Type 0 where
  pub mark : (k : ℕ) → k < longest → count k (take i s) ≡ cond (get_or seen k false) 1 0
  pub place : (j : ℕ) → j < i → get_or s j 0 < length s

pub marked_none : (s : List ℕ) → Marked s 0 (replicate longest false)
unfolding count
marked_none s =
    record {
      mark = λ k l. sym (ap (λ (b : Bool). cond b 1 0) (get_or-replicate longest k false false l));
      place = λ j l. absurd (not-suc-le-zero l);
    }

pub marked_more : (s : List ℕ) (i k : ℕ) (seen : List Bool) → Marked s i seen → i < length s → k ≡ get_or s i 0 → k < length s → k < length seen
    → get_or seen k false ≡ false → Marked s (i + 1) (set seen k true)
marked_more s i k seen inv h e lo b off =
    record { mark = λ j l. count-take j s i h ∙ step j l (ℕ_discrete j k); place = λ j l. at j l (ℕ_discrete j i) }
  where
    step : (j : ℕ) → j < longest → Dec (j ≡ k) → count j (take i s) + cond (eqb j (get_or s i 0)) 1 0 ≡ cond (get_or (set seen k true) j false) 1 0
    step j l (yes q) = rw (← e, inv.mark j l, q, off, eq-eqb k k refl, get_or-set_same seen k true false b)
    step j l (no q) = rw (← e, inv.mark j l, ne_eqb j k q, get_or-set_other seen k j true false q) (omega arith)

    at : (j : ℕ) → j < i + 1 → Dec (j ≡ i) → get_or s j 0 < length s
    at j l (yes q) = rw (q, ← e) lo
    at j l (no q) = inv.place j (omega arith)

-- each byte names a place, and none twice
pub all_seen : (s : List ℕ) (i : ℕ) (seen : List Bool) → length s ≤ longest → length s ≤ i → Marked s i seen → true ≡ is_perm (length s) s
all_seen s i seen h full inv =
    sym (is_perm← (length s) s (record { len = refl; once = all_one (length s) (λ (k : ℕ). count k s) once (sum-count (length s) s (λ j l. inv.place j (omega arith))) }))
  where
    small : (b : Bool) → cond b 1 0 ≤ 1
    small true = le_refl 1
    small false = omega arith

    once : (k : ℕ) → k < length s → count k s ≤ 1
    once k l = subst (λ (z : List ℕ). count k z ≤ 1) (take_all i s full) (let a = small (get_or seen k false) in omega (arith, inv.mark k (omega arith)))
