-- `measure_below` meets its contract: p is the place after those that are measured.
use mathlib.Core.Path.{◌≡◌}
use Rattle.std.specs.Prelude.{Some}
use Rattle.random.specs.Drawings.{used_by}
use Rattle.random.specs.Sequences.{some_below}
use Rattle.random.proofs.sequence.measure_below.Given as goal

abbrev pub invariant-loop : goal.invariant-loop
invariant-loop l = Some l.p ≡ used_by (some_below l.limit l.counter l.random l.at)
