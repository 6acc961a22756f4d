-- `commit_all` meets its contract: after k turns the commitments of the first k rounds stand over the front.
use Rattle.scheme.specs.Round.{as_system}
use Rattle.algebra.proofs.Lists.{Joining}
use Rattle.rounds.specs.Rounds.{commitments_at}
use Rattle.card_rounds.proofs.commit_all.Given as goal

abbrev pub invariant-loop-k : goal.invariant-loop-k
invariant-loop-k l = Joining (commitments_at (as_system l.a) l.pi l.choices) l.initial.out l.out l.k
