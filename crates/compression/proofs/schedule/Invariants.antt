-- `schedule` is the schedule of the block: its first t words are those of the definition, through both loops.
use mathlib.Core.Path.{◌≡◌}
use lib.ListN.{length, take}
use Rattle.compression.specs.Block.{W}
use Rattle.compression.proofs.schedule.Given as goal

abbrev pub invariant-loop-t : goal.invariant-loop-t
invariant-loop-t l = (take l.t l.w ≡ W l.block l.t) × (length l.w ≡ 64)

abbrev pub invariant-loop-t-2 : goal.invariant-loop-t-2
invariant-loop-t-2 l = (take l.t l.w ≡ W l.block l.t) × (length l.w ≡ 64)
