-- `check_values` meets its contract: no residue before the place j is refused.
use Rattle.std.proofs.Common.{◌≡◌}
use Rattle.refusals.specs.Buffer.{buffer_number}
use Rattle.refusals.specs.Told.{fine, first_below}
use Rattle.bodies.specs.Bodies.{residue_at}
use Rattle.bodies.proofs.check_values.Given as goal

abbrev pub invariant-loop-j : goal.invariant-loop-j
invariant-loop-j l = first_below l.j (residue_at (buffer_number l.buffer) l.at l.list) ≡ fine
