-- `half_start` meets its contract.
use mathlib.Core.Path.{refl}
use native.Mathlib.Omega.{arith}
use Rattle.rounds.specs.Layout.{half_start}
use Rattle.rounds.proofs.layout.half_start.Goals as goal

pub returns-then-bit : goal.returns-then-bit
unfolding half_start
returns-then-bit c = rw c.if-bit.true (refl, omega arith)

pub returns : goal.returns
unfolding half_start
returns c = rw c.if-bit.false (refl, omega arith)
