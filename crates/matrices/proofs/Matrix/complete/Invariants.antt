-- `complete` meets its contract: in each turn one more entry of the completed X stands in its place.
use Rattle.algebra.specs.Residues.{modulus}
use Rattle.matrices.proofs.Solving.{Completing}
use Rattle.matrices.proofs.Matrix.complete.Given as goal

abbrev pub invariant-loop-i : goal.invariant-loop-i
invariant-loop-i l = Completing modulus l.self.entries.now l.self.n l.self.m l.initial.x l.x l.i
