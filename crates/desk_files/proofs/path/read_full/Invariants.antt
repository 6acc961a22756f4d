-- `read_full` meets its contract: what has come is at the front of the room, and what is left of the room gets smaller.
use Rattle.std.proofs.Common.{length, ◌-◌, ◌≤◌}
use Rattle.desk_files.proofs.path.read_full.Given as goal

abbrev pub invariant-loop-done : goal.invariant-loop-done
invariant-loop-done g l = l.done ≤ length l.room

abbrev pub decreases-loop-done : goal.decreases-loop-done
decreases-loop-done g l = length l.initial.room - l.done
