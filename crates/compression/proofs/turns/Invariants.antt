-- `turns` is the 64 turns: after t of them, where t is a multiple of 4, the working variables are those of the definition.
use mathlib.Core.Path.{◌≡◌}
use Prim.Native.Nat.{◌-◌, ◌%◌, ◌≤◌}
use Rattle.compression.specs.Block.{turns_of}
use Rattle.compression.proofs.turns.Given as goal

abbrev pub invariant-loop-t : goal.invariant-loop-t
invariant-loop-t l = (l.t ≤ 64) × (l.t % 4 ≡ 0) × (l.s ≡ turns_of l.w l.t l.initial.s)

abbrev pub decreases-loop-t : goal.decreases-loop-t
decreases-loop-t l = 64 - l.t
