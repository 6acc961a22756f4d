-- `write_below` meets its contract: those that are drawn stand over the front.
use Rattle.random.specs.Sequences.{one_below}
use Rattle.random.proofs.Sequences.{Written}
use Rattle.random.proofs.sequence.write_below.Given as goal

abbrev pub invariant-loop-place : goal.invariant-loop-place
invariant-loop-place l = Written (one_below l.limit l.random) l.at l.initial.place-items l.place-items l.place-index l.p
