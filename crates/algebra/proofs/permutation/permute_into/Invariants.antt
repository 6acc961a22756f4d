-- `permute_into` meets its contract: V_θ is the table of its entries, written one a turn.
use Prim.Native.Nat.{ℕ}
use lib.ListN.{get_or}
use Rattle.algebra.proofs.Lists.{Tabulated}
use Rattle.algebra.proofs.permutation.permute_into.Given as goal

abbrev pub invariant-loop-j : goal.invariant-loop-j
invariant-loop-j l = Tabulated (λ (k : ℕ). get_or l.v (get_or l.theta k 0) 0) l.initial.out l.out l.j
