-- What other crates need to know of a digest: it has 32 bytes, each below 256.
use mathlib.Core.List.{List, [], ◌∷◌, ◌++◌}
use mathlib.Core.Path.{◌≡◌}
use Prim.Native.Nat.{ℕ, zero, suc, ◌*◌, ◌<◌}
use native.Mathlib.Omega.{arith}
use lib.ListN.{length, get_or, length-append}
use Rattle.sha256.proofs.Padding.{length-bytes}
use Rattle.sha256.specs.Standard.{bytes, bytes_of, bytes_of_words, digest_of}

length-words : (ws : List ℕ) → length (bytes_of_words ws) ≡ 4 * length ws
unfolding bytes_of_words
length-words [] = omega arith
length-words (w ∷ ws) = let e : length (bytes_of_words ws) ≡ 4 * length ws = length-words ws in simp (length-append, length-bytes) (omega arith)

pub digest_length : (m : List ℕ) → length (digest_of m) ≡ 32
unfolding digest_of bytes_of
digest_length m = length-words _

append-fits : (a b : List ℕ) → ((k : ℕ) → get_or a k 0 < 256) → ((k : ℕ) → get_or b k 0 < 256) → (k : ℕ) → get_or (a ++ b) k 0 < 256
append-fits [] b p q k = q k
append-fits (x ∷ a) b p q zero = p zero
append-fits (x ∷ a) b p q (suc k) = append-fits a b (λ (i : ℕ). p (suc i)) q k

bytes_fit : (n x k : ℕ) → get_or (bytes n x) k 0 < 256
unfolding bytes
bytes_fit zero x k = omega arith
bytes_fit (suc n) x zero = omega arith
bytes_fit (suc n) x (suc k) = bytes_fit n x k

words_fit : (ws : List ℕ) (k : ℕ) → get_or (bytes_of_words ws) k 0 < 256
unfolding bytes_of_words
words_fit [] k = omega arith
words_fit (w ∷ ws) k = append-fits (bytes 4 w) (bytes_of_words ws) (bytes_fit 4 w) (words_fit ws) k

pub digest_bytes : (m : List ℕ) (k : ℕ) → get_or (digest_of m) k 0 < 256
unfolding digest_of bytes_of
digest_bytes m k = words_fit _ k
