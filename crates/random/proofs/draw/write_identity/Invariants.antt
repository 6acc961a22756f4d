-- `write_identity` meets its contract: the identity is the table of its places.
use Prim.Native.Nat.{ℕ}
use Rattle.algebra.proofs.Lists.{Tabulated}
use Rattle.random.proofs.draw.write_identity.Given as goal

abbrev pub invariant-loop-j : goal.invariant-loop-j
invariant-loop-j l = Tabulated (λ (k : ℕ). k) l.initial.place-items l.place-items l.j
