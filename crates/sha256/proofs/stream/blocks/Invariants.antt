-- `blocks` goes on from the hash value of whole blocks: after the blocks `done` of the part it has that of the message and those.
use Rattle.std.proofs.Common.{◌≡◌, ℕ, List, ◌++◌, ◌%◌, length}
use Rattle.std.specs.Slice.Iter.{chunks_exact_rest, chunks_exact_size}
use Rattle.sha256.specs.Absorbed.{Chained}
use Rattle.sha256.proofs.stream.blocks.Given as goal

abbrev pub invariant-loop-block : goal.invariant-loop-block
invariant-loop-block l =
    goal.iterator-loop-block.can_next l.block-iterator
    × goal.iterator-loop-block.is_finite l.block-iterator
    × (chunks_exact_size l.block-iterator ≡ 64)
    × ((done : List ℕ) × (l.part ≡ done ++ chunks_exact_rest l.block-iterator) × (length done % 64 ≡ 0)
    × ((m : List ℕ) → Chained l.initial.v m → Chained l.v (m ++ done)))
