-- Laws of the unused bits: a test of every number of a range is a test of every place, and bits that are looked at one after the other.
use mathlib.Core.Path.{◌≡◌, refl, sym, ap, ap₂, ◌∙◌}
use mathlib.Core.Bool.{Bool, true, false, not, ◌&&◌}
use mathlib.Core.List.{List}
use Prim.Native.Nat.{ℕ, zero, suc, ◌+◌, ◌-◌, ◌*◌, ◌≤◌, ◌<◌}
use native.Mathlib.Decide.{ℕ_discrete}
use native.Mathlib.Omega.{arith}
use lib.ListN.{length}
use Rattle.std.specs.List.{list_all, range_with_len}
use Rattle.algebra.specs.Lists.{all_below}
use Rattle.algebra.proofs.Lists.{all_below-all, all_below-none}
use Rattle.packed_bits.specs.PackedBits.{bit_at, clear_from, unused_clear}

-- the test of the first place comes first too
all_below-front : (n : ℕ) (f : ℕ → Bool) → all_below (suc n) f ≡ (f 0 && all_below n (λ (k : ℕ). f (suc k)))
unfolding all_below
all_below-front zero f = refl
all_below-front (suc n) f = ap (λ (b : Bool). f (suc n) && b) (all_below-front n f) ∙ swap (f (suc n)) (f 0) (all_below n (λ (k : ℕ). f (suc k)))
  where
    swap : (a b d : Bool) → (a && (b && d)) ≡ (b && (a && d))
    swap true b d = refl
    swap false true d = refl
    swap false false d = refl

pub all_range : (test f : ℕ → Bool) (N n : ℕ) → ((j : ℕ) → j < n → test (N + j) ≡ f j) → list_all test (range_with_len N n) ≡ all_below n f
unfolding all_below
all_range test f N zero h = refl
all_range test f N (suc n) h =
    let a : N ≡ N + 0 = omega arith in
    ap₂ (λ (x y : Bool). x && y) (ap test a ∙ h 0 (omega arith)) (all_range test (λ (k : ℕ). f (suc k)) (N + 1) n rest) ∙ sym (all_below-front n f)
  where
    rest : (j : ℕ) → j < n → test (N + 1 + j) ≡ f (suc j)
    rest j l = let b : N + 1 + j ≡ N + suc j = omega arith in ap test b ∙ h (suc j) (omega arith)

-- ---- a look at the bits one after the other: those from N to k are clear

pub record ClearTo (N : ℕ) (bytes : List ℕ) (k : ℕ) : Type 0 where
  pub from : N ≤ k
  pub clear : (j : ℕ) → N + j < k → bit_at bytes (N + j) ≡ false

pub clear_none : (N : ℕ) (bytes : List ℕ) → ClearTo N bytes N
clear_none N bytes = record { from = omega arith; clear = λ j l. absurd (omega arith) }

module _ (N : ℕ) (bytes : List ℕ) (k : ℕ) (t : ClearTo N bytes k) where
  pub clear-more : bit_at bytes k ≡ false → ClearTo N bytes (k + 1)
  clear-more e =
      let h = t.from in
      record { from = omega arith; clear = λ j l. step j l (ℕ_discrete (N + j) k) }
    where
      step : (j : ℕ) → N + j < k + 1 → Dec (N + j ≡ k) → bit_at bytes (N + j) ≡ false
      step j l (yes q) = ap (bit_at bytes) q ∙ e
      step j l (no f) = t.clear j (omega arith)

  pub clear-all : 8 * length bytes ≤ k → true ≡ unused_clear N bytes
  unfolding unused_clear
  clear-all h = sym (all_below-all (8 * length bytes - N) (clear_from N bytes) (λ j l. ap not (t.clear j (omega arith))))

  pub clear_not : k < 8 * length bytes → bit_at bytes k ≡ true → false ≡ unused_clear N bytes
  unfolding unused_clear
  clear_not h e =
      let f = t.from in
      let q : N + (k - N) ≡ k = omega arith in
      all_below-none (8 * length bytes - N) (clear_from N bytes) (k - N) (omega arith) (ap (λ (z : ℕ). not (bit_at bytes z)) q ∙ ap not e)
