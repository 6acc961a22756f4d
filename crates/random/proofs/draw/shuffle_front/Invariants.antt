-- `shuffle_front` meets its contract: after each turn the list over the front of the output goes on to the whole drawing.
use Rattle.random.proofs.Drawings.{Shuffling}
use Rattle.random.proofs.draw.shuffle_front.Given as goal

abbrev pub invariant-loop-i : goal.invariant-loop-i
invariant-loop-i l = Shuffling l.n l.random l.at l.initial.out l.out l.p l.i
