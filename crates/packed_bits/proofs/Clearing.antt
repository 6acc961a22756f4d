-- Laws of cleared bits: those of the rounds stay, and no unused one is set.
use mathlib.Core.Path.{◌≡◌, sym, ap, ◌∙◌}
use mathlib.Core.Bool.{true, not}
use mathlib.Core.List.{List, ◌++◌}
use Prim.Native.Nat.{ℕ, zero, suc, ◌+◌, ◌-◌, ◌*◌, ◌/◌, ◌%◌, ◌^◌, ◌≤◌, ◌<◌}
use native.Mathlib.Nat.{add-zero, add-suc, mul-one, mul_assoc, pow-suc, one-le-pow, div-div-eq-div-mul, mul-div_cancel, mul-div-mul_right, mul-mod_left, mul_comm}
use native.Mathlib.Decide.{ℕ_discrete}
use native.Mathlib.Omega.{arith}
use lib.Dec.{eqb}
use lib.ListN.{length, get_or, take, drop, set, length-set, take-append-drop}
use lib.Seq.{length-take-le, get_or-set_same, get_or-set_other, set-append_left}
use Rattle.algebra.specs.Lists.{over}
use Rattle.algebra.proofs.Lists.{all_below-all}
use Rattle.packed_bits.specs.PackedBits.{bit_at, clear_from, unused_clear}
use Rattle.packed_bits.specs.Clearing.{packed_size, clear_low, cleared}

-- ---- one byte: bit u from below

pow_add : (a b : ℕ) → 2 ^ (a + b) ≡ 2 ^ a * 2 ^ b
pow_add a zero = ap (λ (k : ℕ). 2 ^ k) (add-zero a) ∙ sym (mul-one (2 ^ a))
pow_add a (suc b) =
    ap (λ (k : ℕ). 2 ^ k) (add-suc a b) ∙ pow-suc 2 (a + b) ∙ ap (λ (z : ℕ). z * 2) (pow_add a b)
    ∙ mul_assoc (2 ^ a) (2 ^ b) 2 ∙ ap (λ (z : ℕ). 2 ^ a * z) (sym (pow-suc 2 b))

module _ (x s u : ℕ) where
  keeps-bit : s ≤ u → clear_low s x / 2 ^ u % 2 ≡ x / 2 ^ u % 2
  keeps-bit h =
      let e : s + (u - s) ≡ u = omega arith in
      let t : 2 ^ u ≡ 2 ^ s * 2 ^ (u - s) = ap (λ (k : ℕ). 2 ^ k) (sym e) ∙ pow_add s (u - s) in
      ap (λ (z : ℕ). z % 2)
      (ap (λ (z : ℕ). clear_low s x / z) (t ∙ mul_comm (2 ^ s) (2 ^ (u - s)))
      ∙ mul-div-mul_right (x / 2 ^ s) (2 ^ (u - s)) (one-le-pow s 2 (omega arith))
      ∙ div-div-eq-div-mul x (2 ^ s) (2 ^ (u - s)) ∙ ap (λ (z : ℕ). x / z) (sym t))

  clears-bit : u < s → clear_low s x / 2 ^ u % 2 ≡ 0
  clears-bit h =
      let e : suc (s - u - 1) + u ≡ s = omega arith in
      let t : 2 ^ s ≡ 2 ^ (s - u - 1) * 2 * 2 ^ u = ap (λ (k : ℕ). 2 ^ k) (sym e) ∙ pow_add (suc (s - u - 1)) u ∙ ap (λ (z : ℕ). z * 2 ^ u) (pow-suc 2 (s - u - 1)) in
      let q = x / 2 ^ s in
      ap (λ (z : ℕ). z / 2 ^ u % 2)
      (ap (λ (z : ℕ). q * z) t ∙ sym (mul_assoc q (2 ^ (s - u - 1) * 2) (2 ^ u)))
      ∙ ap (λ (z : ℕ). z % 2) (mul-div_cancel (q * (2 ^ (s - u - 1) * 2)) (one-le-pow u 2 (omega arith)) ∙ sym (mul_assoc q (2 ^ (s - u - 1)) 2))
      ∙ mul-mod_left (q * 2 ^ (s - u - 1)) 2

-- ---- the bytes of N rounds

pub length-cleared : (N : ℕ) (bytes : List ℕ) → length (cleared N bytes) ≡ length bytes
unfolding cleared
length-cleared N bytes = simp length-set

module _ (N : ℕ) (bytes : List ℕ) (some : 0 < N) (size : length bytes ≡ packed_size N) where
  last_byte : get_or (cleared N bytes) (packed_size N - 1) 0 ≡ clear_low (8 * packed_size N - N) (get_or bytes (packed_size N - 1) 0)
  unfolding cleared
  last_byte = get_or-set_same bytes _ _ 0 (omega arith)

  pub cleared_keeps : (k : ℕ) → k < N → bit_at (cleared N bytes) k ≡ bit_at bytes k
  unfolding bit_at cleared
  cleared_keeps k l = step (ℕ_discrete (k / 8) (packed_size N - 1))
    where
      step : Dec (k / 8 ≡ packed_size N - 1) → eqb (get_or (cleared N bytes) (k / 8) 0 / 2 ^ (7 - k % 8) % 2) 1 ≡ eqb (get_or bytes (k / 8) 0 / 2 ^ (7 - k % 8) % 2) 1
      step (yes e) =
          ap (λ (z : ℕ). eqb (z / 2 ^ (7 - k % 8) % 2) 1) (ap (λ (z : ℕ). get_or (cleared N bytes) z 0) e ∙ last_byte)
          ∙ ap (λ (z : ℕ). eqb z 1)
          (keeps-bit (get_or bytes (packed_size N - 1) 0) (8 * packed_size N - N) (7 - k % 8) (omega arith)
          ∙ ap (λ (z : ℕ). get_or bytes z 0 / 2 ^ (7 - k % 8) % 2) (sym e))
      step (no f) = ap (λ (z : ℕ). eqb (z / 2 ^ (7 - k % 8) % 2) 1) (get_or-set_other bytes (packed_size N - 1) (k / 8) _ 0 f)

  pub cleared-clear : unused_clear N (cleared N bytes) ≡ true
  unfolding unused_clear bit_at
  cleared-clear =
      let s = length-cleared N bytes in
      all_below-all (8 * length (cleared N bytes) - N) (clear_from N (cleared N bytes))
      (λ j l.
      let e : (N + j) / 8 ≡ packed_size N - 1 = omega arith in
      ap (λ (z : ℕ). not (eqb z 1))
      (ap (λ (z : ℕ). get_or (cleared N bytes) z 0 / 2 ^ (7 - (N + j) % 8) % 2) e
      ∙ ap (λ (z : ℕ). z / 2 ^ (7 - (N + j) % 8) % 2) last_byte
      ∙ clears-bit (get_or bytes (packed_size N - 1) 0) (8 * packed_size N - N) (7 - (N + j) % 8) (omega arith)))

-- the first `size` of a longer list, one of them set
pub set_front : (d : List ℕ) (size i x : ℕ) → i < size → size ≤ length d → set d i x ≡ over (set (take size d) i x) d
unfolding over
set_front d size i x l h =
    let e = length-take-le size d h in
    ap (λ (z : List ℕ). set z i x) (sym (take-append-drop size d))
    ∙ set-append_left (take size d) (drop size d) i x (omega arith)
    ∙ ap (λ (k : ℕ). set (take size d) i x ++ drop k d) (sym (length-set (take size d) i x ∙ e))
