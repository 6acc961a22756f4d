-- Laws of a stream: what each step makes of the message that was absorbed, as the functions of `src/stream.rt` go.
use mathlib.Core.List.{List, ◌++◌, append_assoc}
use mathlib.Core.Path.{◌≡◌, refl, sym, ap, ◌∙◌}
use Prim.Native.Nat.{ℕ, zero, suc, ◌+◌, ◌*◌, ◌/◌, ◌%◌, ◌≤◌, ◌<◌, ◌-◌}
use native.Mathlib.Omega.{arith}
use lib.ListN.{length, take, drop, length-append, length-drop, drop_of_length-le, take-append-drop}
use lib.Seq.{drop-append-le, drop_at, length-take-le, take_all, take-append-le}
use Rattle.sha256.specs.Absorbed.{Absorbed, Absorbs, Chained}
use Rattle.sha256.specs.Standard.{block_at, block_count, bytes_of, digest_of, hash_value, pad, padding}
use Rattle.compression.specs.Block.{compress_of}
use Rattle.compression.specs.declared.Words.{Words}
use Rattle.sha256.specs.declared.stream.Stream.{Stream}

-- ---- whole blocks

-- what follows whole blocks changes neither them nor their hash value
block_left : (m y : List ℕ) (i : ℕ) → 64 * i + 64 ≤ length m → block_at (m ++ y) i ≡ block_at m i
unfolding block_at
block_left m y i h =
    let p : 64 * i ≤ length m = omega arith in
    let q : 64 ≤ length (drop (64 * i) m) = rw length-drop (omega arith) in
    rw (drop-append-le (64 * i) m y p) (take-append-le 64 (drop (64 * i) m) y q)

hash-left : (m y : List ℕ) (i : ℕ) → 64 * i ≤ length m → hash_value (m ++ y) i ≡ hash_value m i
unfolding hash_value
hash-left m y zero h = refl
hash-left m y (suc i) h = rw (hash-left m y i (omega arith), block_left m y i (omega arith))

-- one block more
pub chained_more : (v : Words) (m y : List ℕ) → Chained v m → length y ≡ 64 → Chained (compress_of v y) (m ++ y)
unfolding hash_value block_at
chained_more v m y k size =
    let e : length (m ++ y) ≡ length m + length y = length-append m y in
    let w : length m % 64 ≡ 0 = k.whole in
    let n : length m ≡ 64 * (length m / 64) = omega arith in
    let q : length (m ++ y) / 64 ≡ suc (length m / 64) = omega arith in
    let d : take 64 (drop (64 * (length m / 64)) (m ++ y)) ≡ y = rw (drop_at m y (64 * (length m / 64)) n) (take_all 64 y (omega arith)) in
    record { whole = omega arith; value = rw (q, d, hash-left m y (length m / 64) (omega arith), ← k.value) }

-- ---- a stream has the hash value of the whole blocks of its message

abbrev pub whole_of : List ℕ → List ℕ
whole_of m = take (64 * (length m / 64)) m

pub chained : (s : Stream) (m : List ℕ) → Absorbed s m → Chained s.words (whole_of m)
chained s m k =
    let e : length (whole_of m) ≡ 64 * (length m / 64) = length-take-le (64 * (length m / 64)) m (omega arith) in
    let q : length (whole_of m) / 64 ≡ length m / 64 = omega arith in
    let d = drop (64 * (length m / 64)) m in
    let l : hash_value m (length m / 64) ≡ hash_value (whole_of m) (length m / 64) =
    ap (λ (p : List ℕ). hash_value p (length m / 64)) (sym (take-append-drop (64 * (length m / 64)) m)) ∙ hash-left (whole_of m) d (length m / 64) (omega arith) in
    record { whole = omega arith; value = rw q (k.words ∙ l) }

-- with the bytes that wait, and a part y after them, that is the message and y
pub rejoined : (s : Stream) (m y : List ℕ) → Absorbed s m → whole_of m ++ (take (s.count % 64) s.buffer ++ y) ≡ m ++ y
rejoined s m y k =
    rw (k.count, k.waiting, ← append_assoc (whole_of m) (drop (64 * (length m / 64)) m) y, take-append-drop (64 * (length m / 64)) m)

-- no byte waits
pub none_waits : (s : Stream) (m : List ℕ) → Absorbed s m → s.count % 64 ≡ 0 → Chained s.words m
none_waits s m k none =
    let n : s.count ≡ length m = k.count in
    record { whole = omega arith; value = k.words }

pub absorbed : (s : Stream) (m : List ℕ) → s.count ≡ length m → Chained s.words m → Absorbed s m
absorbed s m n k =
    let w : length m % 64 ≡ 0 = k.whole in
    let l : length m ≤ 64 * (length m / 64) = omega arith in
    record { count = n; words = k.value; waiting = rw w (sym (drop_of_length-le m l)) }

-- ---- a part that is laid into the buffer

-- a part y after the bytes that wait, which does not end the block
pub waited : (s : Stream) (m y b : List ℕ) → Absorbed s m → take (s.count % 64 + length y) b ≡ take (s.count % 64) s.buffer ++ y → s.count % 64 + length y < 64
    → Absorbed (record { words = s.words; buffer = b; count = s.count + length y }) (m ++ y)
waited s m y b k front h =
    let e : length (m ++ y) ≡ length m + length y = length-append m y in
    let n : s.count ≡ length m = k.count in
    let q : length (m ++ y) / 64 ≡ length m / 64 = omega arith in
    let r : length (m ++ y) % 64 ≡ length m % 64 + length y = omega arith in
    record {
      count = omega arith;
      words = rw q (k.words ∙ sym (hash-left m y (length m / 64) (omega arith)));
      waiting =
          rw (q, r)
          (rw k.count at front ∙ ap (λ (l : List ℕ). l ++ y) k.waiting ∙ sym (drop-append-le (64 * (length m / 64)) m y (omega arith)));
    }

-- one that ends it
pub filled : (s : Stream) (m y b : List ℕ) → Absorbed s m → take (s.count % 64 + length y) b ≡ take (s.count % 64) s.buffer ++ y → s.count % 64 + length y ≡ 64
    → length b ≡ 64 → Absorbed (record { words = compress_of s.words b; buffer = b; count = s.count + length y }) (m ++ y)
filled s m y b k front full size =
    let n : s.count ≡ length m = k.count in
    let e : length (m ++ y) ≡ length m + length y = length-append m y in
    let f : b ≡ take (s.count % 64) s.buffer ++ y = sym (take_all 64 b (omega arith)) ∙ (rw full at front) in
    let j : whole_of m ++ b ≡ m ++ y = ap (λ (l : List ℕ). whole_of m ++ l) f ∙ rejoined s m y k in
    absorbed _ (m ++ y) (omega arith) (rw j at (chained_more s.words (whole_of m) b (chained s m k) size))

-- ---- a part p that is absorbed in two pieces, a and b

pub both : (s r t : Stream) (p a b : List ℕ) → p ≡ a ++ b → Absorbs s a r → Absorbs r b t → Absorbs s p t
both s r t p a b e h k =
    let size : length p ≡ length a + length b = ap length e ∙ length-append a b in
    record {
      count = omega (arith, h.count, k.count);
      message = λ m q. rw (e, ← append_assoc m a b) (k.message (m ++ a) (h.message m q));
    }

pub rest_of : (p : List ℕ) (i : ℕ) → take (length p - i) (drop i p) ≡ drop i p
rest_of p i = take_all (length p - i) (drop i p) (rw length-drop (omega arith))

-- ---- the end

-- a hash value of a message and its padding is that of the digest
pub digested : (v : Words) (m : List ℕ) → Chained v (m ++ padding (length m)) → bytes_of v ≡ digest_of m
unfolding digest_of pad block_count
digested v m k = ap bytes_of k.value
