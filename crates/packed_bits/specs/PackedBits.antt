-- Packed bits: highest bit of a byte first (document 01, "Drawing from lent bytes").
use Rattle.std.specs.Prelude.{Bool, cond, not, ◌&&◌, List, ℕ, ◌+◌, ◌-◌, ◌*◌, ◌/◌, ◌%◌, ◌^◌, ◌<◌, eqb, ltb, length, get_or}
use Rattle.algebra.specs.Lists.{tab, sum_below, all_below}

-- each entry is a byte
abbrev pub Bytes : List ℕ → Type 0
Bytes s = (j : ℕ) → get_or s j 0 < 256

-- bit k
unfoldable pub bit_at : List ℕ → ℕ → Bool
bit_at bytes k = eqb (get_or bytes (k / 8) 0 / 2 ^ (7 - k % 8) % 2) 1

-- no bit from N on is set
abbrev pub clear_from : ℕ → List ℕ → ℕ → Bool
clear_from N bytes j = not (bit_at bytes (N + j))

unfoldable pub unused_clear : ℕ → List ℕ → Bool
unused_clear N bytes = all_below (8 * length bytes - N) (clear_from N bytes)

-- the byte of eight bits
unfoldable pub byte_of : (ℕ → Bool) → ℕ
byte_of b = sum_below 8 (λ (j : ℕ). cond (b j) (2 ^ (7 - j)) 0)

-- the bytes of the bits f 0, f 1, .., f (N - 1), with no bit from N on set
unfoldable pub pack : ℕ → (ℕ → Bool) → List ℕ
pack N f = tab ((N + 7) / 8) (λ (i : ℕ). byte_of (λ (j : ℕ). ltb (i * 8 + j) N && f (i * 8 + j)))
