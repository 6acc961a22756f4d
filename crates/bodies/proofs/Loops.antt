-- Laws for the loops that check bodies: residues and permutations.
use mathlib.Core.Path.{◌≡◌, ap, ap₂, ◌∙◌}
use mathlib.Core.Bool.{Bool, true, false}
use mathlib.Core.List.{List}
use Prim.Native.Nat.{ℕ, ◌+◌, ◌-◌, ◌*◌, ◌≤◌, ◌<◌}
use native.Mathlib.Omega.{arith}
use borrow.Author.Tests.{lt-ltb, le-ltb}
use lib.ListN.{length, get_or, take, drop}
use Rattle.refusals.specs.Number.{VALUE, PERM}
use Rattle.refusals.specs.Told.{refused, fine}
use Rattle.algebra.specs.Lists.{stretch}
use Rattle.algebra.specs.Residues.{modulus}
use Rattle.algebra.specs.Permutations.{is_perm}
use Rattle.algebra.proofs.Lists.{from-stretch, length-stretch}
use Rattle.bodies.specs.Bodies.{residue_at, permutation_at}

-- ---- residues

module _ (b at : ℕ) (l : List ℕ) (j : ℕ) where
  pub residue_fine : get_or l j 0 < modulus → residue_at b at l j ≡ fine
  residue_fine h = rw (lt-ltb (get_or l j 0) modulus h)

  pub residue_refused : modulus ≤ get_or l j 0 → residue_at b at l j ≡ refused VALUE b (at + j)
  residue_refused h = rw (le-ltb (get_or l j 0) modulus h)

-- ---- permutations, whose first byte is at `from` in the list

module _ (b n at : ℕ) (l : List ℕ) (k from : ℕ) (e : from ≡ k * n) (h : from + n ≤ length l) where
  part-perm : is_perm (length (take (from + n - from) (drop from l))) (take (from + n - from) (drop from l)) ≡ is_perm n (stretch n k l)
  part-perm =
      let s = from-stretch n k from l e in
      ap₂ is_perm (ap length s ∙ length-stretch n k l (omega arith)) s

  pub permutation-fine : {r : Bool} → r ≡ is_perm (length (take (from + n - from) (drop from l))) (take (from + n - from) (drop from l)) → r ≡ true
      → permutation_at b n at l k ≡ fine
  permutation-fine q t = rw (← part-perm, ← q, t)

  pub permutation_refused : {r : Bool} → r ≡ is_perm (length (take (from + n - from) (drop from l))) (take (from + n - from) (drop from l)) → r ≡ false
      → permutation_at b n at l k ≡ refused PERM b (at + from)
  permutation_refused q t = rw (← part-perm, ← q, t, e)
