-- `copy_into` meets its contract: a list is the table of its entries, written one a turn.
use Prim.Native.Nat.{ℕ}
use lib.ListN.{get_or}
use Rattle.algebra.proofs.Lists.{Tabulated}
use Rattle.algebra.proofs.output.copy_into.Given as goal

abbrev pub invariant-loop-j : goal.invariant-loop-j
invariant-loop-j l = Tabulated (λ (k : ℕ). get_or l.list k 0) l.initial.out l.out l.j
