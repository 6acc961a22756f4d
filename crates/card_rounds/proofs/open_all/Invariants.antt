-- `open_all` meets its contract: after k turns the openings of the first k rounds stand over the front.
use Rattle.algebra.proofs.Lists.{Joining}
use Rattle.rounds.specs.Rounds.{opening_at}
use Rattle.card_rounds.proofs.open_all.Given as goal

abbrev pub invariant-loop-k : goal.invariant-loop-k
invariant-loop-k l = Joining (opening_at l.n l.pi l.bits l.choices) l.initial.out l.out l.k
