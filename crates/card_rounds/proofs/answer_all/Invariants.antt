-- `answer_all` meets its contract: after k turns the first answers of the first k rounds stand over the front.
use Rattle.algebra.specs.Residues.{modulus}
use Rattle.algebra.proofs.Lists.{Joining}
use Rattle.rounds.specs.Rounds.{answer_at}
use Rattle.card_rounds.proofs.answer_all.Given as goal

abbrev pub invariant-loop-k : goal.invariant-loop-k
invariant-loop-k l = Joining (answer_at modulus l.n l.v l.pi l.challenges l.choices) l.initial.out l.out l.k
