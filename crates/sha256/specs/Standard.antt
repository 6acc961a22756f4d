-- SHA-256 of a message that is a list of bytes, by the names and in the order of FIPS 180-4, whose sections § cites.
-- A byte is a number below 2 ^ 8, a word a number below 2 ^ 32. The standard counts a message in bits, eight to a byte, and takes fewer than 2 ^ 64 of them.
-- §3.2 and §4.1.2 are in crate `word32`: its spec Operations; §4.2.2, §5.3.3 and what §6.2.2 does with one block in crate `compression`: its specs Constants and Block.
use Rattle.std.specs.Prelude.{List, [], ◌∷◌, ◌++◌, ℕ, zero, suc, ◌-◌, ◌*◌, ◌/◌, ◌%◌, ◌^◌, length, take, drop, replicate}
use Rattle.compression.specs.declared.Words.{Words}
use Rattle.compression.specs.Constants.{H0}
use Rattle.compression.specs.Block.{compress_of}

-- §3.1: the k bytes of a number, the highest first
unfoldable pub bytes : ℕ → ℕ → List ℕ
bytes zero x = []
bytes (suc k) x = x / 2 ^ (8 * k) % 2 ^ 8 ∷ bytes k x

-- §5.1.1: the padded message: the message, the bit 1 and seven zeros, the least number of bytes of zeros, and the count of bits in eight bytes.
-- That these zeros end the block, and that fewer would not: `zeros_fit` and `zeros-least` in proofs/Padding.antt
unfoldable pub zeros : ℕ → ℕ
zeros n = (119 - n % 64) % 64

unfoldable pub padding : ℕ → List ℕ
padding n = 0x80 ∷ (replicate (zeros n) 0 ++ bytes 8 (8 * n))

unfoldable pub pad : List ℕ → List ℕ
pad m = m ++ padding (length m)

-- §5.2.1: the number N of the blocks of a message, and the block that follows i others in a padded message
unfoldable pub block_count : List ℕ → ℕ
block_count m = length (pad m) / 64

unfoldable pub block_at : List ℕ → ℕ → List ℕ
block_at p i = take 64 (drop (64 * i) p)

-- §6.2.2: the hash value after the first i blocks of a padded message
unfoldable pub hash_value : List ℕ → ℕ → Words
hash_value p zero = H0
hash_value p (suc i) = compress_of (hash_value p i) (block_at p i)

-- §6.2.2: the message digest: the bytes of the eight words, one word after the other
unfoldable pub bytes_of_words : List ℕ → List ℕ
bytes_of_words [] = []
bytes_of_words (w ∷ ws) = bytes 4 w ++ bytes_of_words ws

unfoldable pub bytes_of : Words → List ℕ
bytes_of v = bytes_of_words (v.a ∷ v.b ∷ v.c ∷ v.d ∷ v.e ∷ v.f ∷ v.g ∷ v.h ∷ [])

unfoldable pub digest_of : List ℕ → List ℕ
digest_of m = bytes_of (hash_value (pad m) (block_count m))
