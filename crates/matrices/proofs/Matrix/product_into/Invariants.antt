-- `product_into` meets its contract: A X is the table of its rows, written one a turn.
use Prim.Native.Nat.{ℕ}
use Rattle.matrices.specs.Matrices.{row_times, row_of}
use Rattle.algebra.specs.Residues.{modulus}
use Rattle.algebra.proofs.Lists.{Tabulated}
use Rattle.matrices.proofs.Matrix.product_into.Given as goal

abbrev pub invariant-loop-i : goal.invariant-loop-i
invariant-loop-i l = Tabulated (λ (k : ℕ). row_times modulus (row_of l.self.entries.now l.self.n l.self.m k) l.x k) l.initial.out l.out l.i
