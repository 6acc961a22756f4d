-- The values that the rest of a body holds: rows of A', a vector, permutations, digests, challenges, first answers, or the N bits.
use Rattle.std.specs.Prelude.{cond, List, [], ◌∷◌, ℕ, zero, suc, ◌+◌, ◌-◌, take, drop}
use Rattle.algebra.specs.Lists.{tab}
use Rattle.kinds.specs.declared.Kind.{Kind}
use Rattle.kinds.specs.declared.Kind.TheVariants.{System, Public, Secret, Commitments, Challenges, Answers, Bits, Openings}
use Rattle.packed_bits.specs.PackedBits.{bit_at}

-- a list cut into pieces of one size
unfoldable pub cut : ℕ → ℕ → List ℕ → List (List ℕ)
cut zero size l = []
cut (suc count) size l = take size l ∷ cut count size (drop size l)

-- the values, by the numbers a and b
abbrev pub values_of : Kind → ℕ → ℕ → List ℕ → List (List ℕ)
values_of System n m rest = cut m (n - m) rest
values_of Public n z rest = cut 1 n rest
values_of Secret n z rest = cut 1 n rest
values_of Commitments N z rest = cut (N + N) 32 rest
values_of Challenges N z rest = cut 1 N rest
values_of Answers n N rest = cut N n rest
values_of Bits N z rest = tab N (λ (k : ℕ). cond (bit_at rest k) 1 0) ∷ []
values_of Openings n N rest = cut N n rest
