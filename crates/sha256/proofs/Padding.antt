-- The padding of §5.1.1 is what the standard asks for, and the number of blocks that it makes.
use mathlib.Core.List.{List}
use mathlib.Core.Path.{◌≡◌, refl, ap}
use Prim.Native.Nat.{ℕ, zero, suc, ◌+◌, ◌*◌, ◌/◌, ◌%◌, ◌≤◌}
use native.Mathlib.Omega.{arith}
use lib.ListN.{length, length-append, length-replicate}
use Rattle.sha256.specs.Standard.{bytes, zeros, padding, pad, block_count}

-- ---- §5.1.1 in bits: a message of l = 8 n bits, the bit 1, then k zeros, "where k is the smallest, non-negative solution to the equation
-- l + 1 + k ≡ 448 mod 512". Of these zeros seven end the byte of the bit 1, and eight are in each of the others

abbrev pub zero_bits : ℕ → ℕ
zero_bits n = 7 + 8 * zeros n

pub zeros_fit : (n : ℕ) → (8 * n + 1 + zero_bits n) % 512 ≡ 448
unfolding zeros
zeros_fit n = omega arith

pub zeros-least : (n k : ℕ) → (8 * n + 1 + k) % 512 ≡ 448 → zero_bits n ≤ k
unfolding zeros
zeros-least n k e = omega arith

-- ---- the number of blocks

pub length-bytes : (k x : ℕ) → length (bytes k x) ≡ k
unfolding bytes
length-bytes zero x = refl
length-bytes (suc k) x = ap suc (length-bytes k x)

length-padding : (n : ℕ) → length (padding n) ≡ zeros n + 9
unfolding padding
length-padding n = simp (length-append, length-replicate, length-bytes) (omega arith)

length-pad : (m : List ℕ) → length (pad m) ≡ (length m + 72) / 64 * 64
unfolding pad zeros
length-pad m = simp (length-append, length-padding) (omega arith)

-- the closed form of the number of blocks
pub block_count_lem : (m : List ℕ) → block_count m ≡ (length m + 72) / 64
unfolding block_count
block_count_lem m = rw (length-pad m) (omega arith)
