-- Laws for the code: a round's stretches as it cuts them, and writes that meet.
use mathlib.Core.Path.{◌≡◌, refl, sym, ap, ◌∙◌, subst}
use mathlib.Core.Bool.{Bool, true, false}
use mathlib.Core.List.{List, ◌++◌, append_assoc}
use Prim.Native.Nat.{ℕ, ◌+◌, ◌-◌, ◌*◌, ◌≤◌}
use native.Mathlib.Omega.{arith}
use lib.ListN.{length, take, drop, length-take, length-drop}
use lib.Seq.{take-take, take-add, drop_at, drop-drop, take-append-add, drop-append-add}
use Rattle.algebra.specs.Lists.{stretch, over, over_at}
use Rattle.algebra.specs.Permutations.{IsPerm}
use Rattle.algebra.proofs.Lists.{over-behind}
use Rattle.readers.specs.Choosing.{choice_of, vector_of, permutation_of}
use Rattle.rounds.specs.Layout.{half, half_start}

-- a permutation of n is one of its own places
pub own : (n : ℕ) (σ : List ℕ) → IsPerm n σ → IsPerm (length σ) σ
own n σ h = subst (λ (k : ℕ). IsPerm k σ) (sym h.len) h

-- R and σ of round k
pub vector-cut : (n k : ℕ) (x : List ℕ) → take (k * (n + n) + n - k * (n + n)) (drop (k * (n + n)) x) ≡ vector_of n (choice_of x n k)
unfolding vector_of stretch
vector-cut n k x =
    let e : k * (n + n) + n - k * (n + n) ≡ n = omega arith in
    rw e (sym (take-take n (n + n) (drop (k * (n + n)) x) (omega arith)))

pub permutation-cut : (n k : ℕ) (x : List ℕ) → k * (n + n) + (n + n) ≤ length x
    → take (k * (n + n) + n + n - (k * (n + n) + n)) (drop (k * (n + n) + n) x) ≡ permutation_of n (choice_of x n k)
unfolding permutation_of stretch
permutation-cut n k x h =
    let q = k * (n + n) in
    let y = drop q x in
    let e : q + n + n - (q + n) ≡ n = omega arith in
    let l : length (take n y) ≡ n = simp (length-take, length-drop) (omega arith) in
    rw e
    (sym
    (ap (λ (z : List ℕ). take n (drop n z)) (take-add n n y)
    ∙ ap (take n) (drop_at (take n y) (take n (drop n y)) n l)
    ∙ take-take n n (drop n y) (omega arith)
    ∙ ap (take n) (drop-drop n q x)))

-- the commitment of a bit
pub half-cut : (bit : Bool) (k start : ℕ) (s : List ℕ) → start ≡ half_start bit k → k * 64 + 64 ≤ length s
    → take (start + 32 - start) (drop start s) ≡ half bit (stretch 64 k s)
unfolding half_start half stretch
half-cut false k start s p h =
    let e : start + 32 - start ≡ 32 = omega arith in
    rw (e, p) (sym (take-take 32 64 (drop (k * 64) s) (omega arith)))
half-cut true k start s p h =
    let e : start + 32 - start ≡ 32 = omega arith in
    let t = drop (k * 64) s in
    let l : length (take 32 t) ≡ 32 = simp (length-take, length-drop) (omega arith) in
    rw (e, p)
    (sym
    (ap (λ (z : List ℕ). take 32 (drop 32 z)) (take-add 32 32 t)
    ∙ ap (take 32) (drop_at (take 32 t) (take 32 (drop 32 t)) 32 l)
    ∙ take-take 32 32 (drop 32 t) (omega arith)
    ∙ ap (take 32) (drop-drop 32 (k * 64) s)))

-- two writes that meet
pub over_meet : (l m d : List ℕ) (a b : ℕ) → b ≡ a + length l → a ≤ length d → over_at m b (over_at l a d) ≡ over_at (l ++ m) a d
unfolding over_at
over_meet l m d a b e h =
    let f : length (take a d) ≡ a = simp length-take (omega arith) in
    let g : b ≡ length (take a d) + length l = omega arith in
    ap (λ (z : ℕ). over_at m z (take a d ++ over l (drop a d))) g
    ∙ (rw (take-append-add (take a d) (over l (drop a d)) (length l), drop-append-add (take a d) (over l (drop a d)) (length l))
    (append_assoc (take a d) _ _ ∙ ap (λ (z : List ℕ). take a d ++ z) (over-behind l m (drop a d) (length l) refl)))

pub vector-length : (n : ℕ) (x : List ℕ) (k : ℕ) → k * (n + n) + (n + n) ≤ length x → length (vector_of n (choice_of x n k)) ≡ n
unfolding vector_of stretch
vector-length n x k h = simp (length-take, length-drop) (omega arith)

pub permutation-length : (n : ℕ) (x : List ℕ) (k : ℕ) → k * (n + n) + (n + n) ≤ length x → length (permutation_of n (choice_of x n k)) ≡ n
unfolding permutation_of stretch
permutation-length n x k h = simp (length-take, length-drop) (omega arith)

pub part_length : (from size : ℕ) (s : List ℕ) → from + size ≤ length s → length (take (from + size - from) (drop from s)) ≡ size
part_length from size s h = simp (length-take, length-drop) (omega arith)

-- the commitment of a bit lies inside the stretch of 64
pub half_ends : (bit : Bool) (k : ℕ) → half_start bit k + 32 ≤ k * 64 + 64
unfolding half_start
half_ends false k = omega arith
half_ends true k = omega arith
