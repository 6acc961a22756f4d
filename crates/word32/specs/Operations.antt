-- Words of 32 bits, numbers below 2 ^ 32, and their operations: FIPS 180-4, §3.1, §3.2 and §4.1.2, by its names.
use Rattle.std.specs.Prelude.{ℕ, ◌+◌, ◌-◌, ◌*◌, ◌/◌, ◌%◌, ◌^◌, List, bit_and, bit_or, bit_xor, slice_index}

-- §3.1: the word of the four bytes from a place on, the highest first
unfoldable pub word_at : List ℕ → ℕ → ℕ
word_at s at = slice_index s at * 2 ^ 24 + slice_index s (at + 1) * 2 ^ 16 + slice_index s (at + 2) * 2 ^ 8 + slice_index s (at + 3)

-- §3.2, 1: of the bitwise operations, the complement
abbrev pub complement : ℕ → ℕ
complement x = 2 ^ 32 - 1 - x

-- §3.2, 2: addition modulo 2 ^ 32
infixl 6 ◌⊞◌
unfoldable pub ◌⊞◌ : ℕ → ℕ → ℕ
x ⊞ y = (x + y) % 2 ^ 32

-- §3.2, 3: the right shift
abbrev pub SHR : ℕ → ℕ → ℕ
SHR n x = x / 2 ^ n

-- §3.2, 4: the rotation to the right
unfoldable pub ROTR : ℕ → ℕ → ℕ
ROTR n x = bit_or (x / 2 ^ n) (x * 2 ^ (32 - n) % 2 ^ 32)

-- §4.1.2: the six functions
unfoldable pub Ch : ℕ → ℕ → ℕ → ℕ
Ch x y z = bit_xor (bit_and x y) (bit_and (complement x) z)

unfoldable pub Maj : ℕ → ℕ → ℕ → ℕ
Maj x y z = bit_xor (bit_xor (bit_and x y) (bit_and x z)) (bit_and y z)

unfoldable pub Σ0 : ℕ → ℕ
Σ0 x = bit_xor (bit_xor (ROTR 2 x) (ROTR 13 x)) (ROTR 22 x)

unfoldable pub Σ1 : ℕ → ℕ
Σ1 x = bit_xor (bit_xor (ROTR 6 x) (ROTR 11 x)) (ROTR 25 x)

unfoldable pub σ0 : ℕ → ℕ
σ0 x = bit_xor (bit_xor (ROTR 7 x) (ROTR 18 x)) (SHR 3 x)

unfoldable pub σ1 : ℕ → ℕ
σ1 x = bit_xor (bit_xor (ROTR 17 x) (ROTR 19 x)) (SHR 10 x)
