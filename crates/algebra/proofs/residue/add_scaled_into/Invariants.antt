-- `add_scaled_into` meets its contract: R + c·V is the table of its entries, written one a turn.
use Prim.Native.Nat.{ℕ}
use lib.ListN.{get_or}
use Rattle.algebra.specs.Residues.{modulus, plus_times}
use Rattle.algebra.proofs.Lists.{Tabulated}
use Rattle.algebra.proofs.residue.add_scaled_into.Given as goal

abbrev pub invariant-loop-j : goal.invariant-loop-j
invariant-loop-j l = Tabulated (λ (k : ℕ). plus_times modulus l.c (get_or l.r k 0) (get_or l.v k 0)) l.initial.out l.out l.j
