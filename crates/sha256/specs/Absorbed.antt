-- What a stream has to do with the message that it has absorbed.
use Rattle.std.specs.Prelude.{List, ◌++◌, ◌≡◌, ℕ, ◌+◌, ◌*◌, ◌/◌, ◌%◌, length, take, drop}
use Rattle.sha256.specs.Standard.{hash_value}
use Rattle.compression.specs.declared.Words.{Words}
use Rattle.sha256.specs.declared.stream.Stream.{Stream}

-- v is the hash value of a message of whole blocks
pub record Chained (v : Words) (m : List ℕ) : Type 0 where
  pub whole : length m % 64 ≡ 0
  pub value : v ≡ hash_value m (length m / 64)

-- the stream s has absorbed the message m: the count is the message's length, the words are the hash value after its whole blocks, and the buffer begins with the bytes since, which wait
pub record Absorbed (s : Stream) (m : List ℕ) : Type 0 where
  pub count : s.count ≡ length m
  pub words : s.words ≡ hash_value m (length m / 64)
  pub waiting : take (length m % 64) s.buffer ≡ drop (64 * (length m / 64)) m

-- a step that absorbs a part: whatever message the stream s has absorbed, the stream r has absorbed that part too
pub record Absorbs (s : Stream) (part : List ℕ) (r : Stream) : Type 0 where
  pub count : r.count ≡ s.count + length part
  pub message : (m : List ℕ) → Absorbed s m → Absorbed r (m ++ part)
