-- `bytes_of` lays each word's bytes after those of the words before it: after i words the first 4 i bytes are those words'.
use mathlib.Core.Path.{◌≡◌}
use Prim.Native.Nat.{◌*◌}
use lib.ListN.{length, take}
use Rattle.sha256.specs.Standard.{bytes_of_words}
use Rattle.sha256.proofs.bytes.bytes_of.Given as goal

abbrev pub invariant-loop-i : goal.invariant-loop-i
invariant-loop-i l = (length l.out ≡ 32) × (take (4 * l.i) l.out ≡ bytes_of_words (take l.i l.word-items))
