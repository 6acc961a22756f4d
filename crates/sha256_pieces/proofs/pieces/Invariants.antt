-- `pieces` has absorbed the front `done` of the message after each turn, and all of it at the end.
use Rattle.std.proofs.Common.{◌≡◌, ℕ, List, ◌++◌}
use Rattle.std.specs.Slice.Iter.{chunks_rest}
use Rattle.sha256.specs.Absorbed.{Absorbed}
use Rattle.sha256_pieces.proofs.pieces.Given as goal

abbrev pub invariant-loop-piece : goal.invariant-loop-piece
invariant-loop-piece l =
    goal.iterator-loop-piece.can_next l.piece-iterator
    × goal.iterator-loop-piece.is_finite l.piece-iterator
    × ((done : List ℕ) × (l.message ≡ done ++ chunks_rest l.piece-iterator) × Absorbed l.s done)
