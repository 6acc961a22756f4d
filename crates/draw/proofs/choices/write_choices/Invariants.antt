-- `write_choices` meets its contract: the first k rounds stand over the front.
use Rattle.draw_rules.specs.Making.{draw_choice}
use Rattle.random.proofs.Sequences.{Written}
use Rattle.draw.proofs.choices.write_choices.Given as goal

abbrev pub invariant-loop-k : goal.invariant-loop-k
invariant-loop-k l = Written (draw_choice l.n l.random) 0 l.initial.out l.out l.k l.p
