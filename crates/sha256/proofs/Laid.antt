-- Laws of what the code lays into a buffer: a part, the end of a message, the words of a digest.
use mathlib.Core.List.{List, [], ◌∷◌, ◌++◌, append_assoc, append-nil}
use mathlib.Core.Path.{◌≡◌, refl, sym, ap, ◌∙◌}
use Prim.Native.Nat.{ℕ, zero, suc, ◌+◌, ◌*◌, ◌≤◌, ◌<◌}
use native.Mathlib.Nat.{div-one, le_refl, not-suc-le-zero}
use native.Mathlib.Numerals.{add-one}
use native.Mathlib.Omega.{arith}
use lib.ListN.{length, get_or, take, drop, set, replicate, length-append, length-replicate, replicate-append-replicate}
use lib.Seq.{drop_at, paste, set_at, take-append-add, take-length, take-paste, take-suc}
use Rattle.std.specs.Int.{w32, w64, to_be_bytes}
use Rattle.sha256.proofs.Padding.{length-bytes}
use Rattle.sha256.specs.Standard.{bytes, bytes_of_words}

-- a part y
pub laid : (b y : List ℕ) (at : ℕ) → at ≤ length b → take (at + length y) (paste b at y (length y)) ≡ take at b ++ y
laid b y at h = take-paste b at y (length y) h (le_refl (length y)) ∙ ap (λ (l : List ℕ). take at b ++ l) (take-length y)

-- ---- the words of a digest

-- a word's bytes, and a count's, by std's name
pub word_bytes : (x : ℕ) → to_be_bytes w32 x ≡ bytes 4 x
unfolding bytes
word_bytes x = simp div-one

pub count_bytes : (x : ℕ) → to_be_bytes w64 x ≡ bytes 8 x
unfolding bytes
count_bytes x = simp div-one

words_append : (a b : List ℕ) → bytes_of_words (a ++ b) ≡ bytes_of_words a ++ bytes_of_words b
unfolding bytes_of_words
words_append [] b = refl
words_append (w ∷ a) b = rw (words_append a b) (sym (append_assoc (bytes 4 w) (bytes_of_words a) (bytes_of_words b)))

-- one word more
pub words_more : (ws out y : List ℕ) (i : ℕ) → i < length ws → 4 * i ≤ length out → take (4 * i) out ≡ bytes_of_words (take i ws) → y ≡ bytes 4 (get_or ws i 0)
    → take (4 * (i + 1)) (paste out (4 * i) y (length y)) ≡ bytes_of_words (take (i + 1) ws)
unfolding bytes_of_words
words_more ws out y i h room front e =
    let size : length y ≡ 4 = ap length e ∙ length-bytes 4 (get_or ws i 0) in
    let n : 4 * (i + 1) ≡ 4 * i + length y = omega arith in
    let w : bytes_of_words (take (i + 1) ws) ≡ bytes_of_words (take i ws) ++ y =
    rw (add-one, take-suc ws i 0 h, words_append (take i ws) (get_or ws i 0 ∷ []), append-nil (bytes 4 (get_or ws i 0)), e) in
    rw (n, laid out y (4 * i) room, front, w)

-- ---- the end of a message

-- zeros within zeros
take-zeros : (n k : ℕ) → k ≤ n → take {A = ℕ} k (replicate n 0) ≡ replicate k 0
take-zeros n zero h = refl
take-zeros zero (suc k) h = absurd (not-suc-le-zero h)
take-zeros (suc n) (suc k) h = ap (λ (l : List ℕ). 0 ∷ l) (take-zeros n k (omega arith))

drop-zeros : (n k : ℕ) → drop {A = ℕ} k (replicate (k + n) 0) ≡ replicate n 0
drop-zeros n k = rw (← replicate-append-replicate {A = ℕ} k n 0) (drop_at (replicate k 0) (replicate n 0) k (length-replicate {A = ℕ} k 0))

-- the bytes w that wait, the mark, z zeros and the count of bits, laid into zeros d
pub ended : (at u z : ℕ) (w bits d : List ℕ) → length w ≡ at → z ≤ u → d ≡ replicate (at + suc u) 0
    → take (at + z + 1 + length bits) (paste (set (paste d 0 w (length w)) at 0x80) (at + z + 1) bits (length bits)) ≡ w ++ (0x80 ∷ (replicate z 0 ++ bits))
ended at u z w bits d size h e =
    let o : 0 + length w ≡ at = omega arith in
    let i : at + z + 1 ≡ length w + suc z = omega arith in
    let t = w ++ (0x80 ∷ replicate u 0) in
    let first : paste d 0 w (length w) ≡ w ++ (0 ∷ replicate u 0) = rw (e, take-length w, o, drop-zeros (suc u) at) in
    let second : set (paste d 0 w (length w)) at 0x80 ≡ t = rw first (set_at w 0 (replicate u 0) 0x80 at size) in
    let room : length t ≡ length w + suc u = simp (length-append, length-replicate) in
    let front : take (at + z + 1) t ≡ w ++ (0x80 ∷ replicate z 0) = rw (i, take-append-add w (0x80 ∷ replicate u 0) (suc z), take-zeros u z h) in
    rw (second, laid t bits (at + z + 1) (omega arith), front) (append_assoc w (0x80 ∷ replicate z 0) bits)
