-- Two rounds of n = 2 on examples, by computation. The hash stays folded.
use mathlib.Core.Path.{◌≡◌, refl}
use mathlib.Core.Bool.{true, false}
use mathlib.Core.List.{List, [], ◌∷◌, ◌++◌, zip_with}
use Prim.Native.Nat.{ℕ, ◌+◌}
use Rattle.algebra.specs.Lists.{tab, stretch, joined}
use Rattle.algebra.specs.Residues.{add_scaled}
use Rattle.algebra.specs.Permutations.{permute}
use Rattle.packed_bits.specs.PackedBits.{bit_at}
use Rattle.readers.specs.Choosing.{vector_of, permutation_of}
use Rattle.scheme.specs.Round.{pair, opened, first_answer, opening}
use Rattle.rounds.specs.Layout.{pair_at, messages, half, half_start, challenge_at, opened_at}
use Rattle.rounds.specs.Rounds.{answer_at, opening_at}

abbrev two : ℕ → ℕ → List ℕ
two a b = a ∷ b ∷ []

-- R is (1, 2) and then (3, 4), σ exchanges the places and then does not
abbrev choices : List ℕ
choices = two 1 2 ++ two 1 0 ++ two 3 4 ++ two 0 1

-- bit 0 and then bit 1, highest first
abbrev bits : List ℕ
bits = 64 ∷ []

layout : (pair_at 2 choices 0 ≡ pair (two 1 2) (two 1 0))
    × (pair_at 2 choices 1 ≡ pair (two 3 4) (two 0 1))
    × (half_start false 1 ≡ 64)
    × (half_start true 1 ≡ 96)
unfolding vector_of permutation_of stretch half_start
layout = (refl, refl, refl, refl)

-- of round 1, whose bit is 1, the last 32 bytes of the commitments are opened
messages_of_two : let x = messages (tab 128 (λ (k : ℕ). k)) (two 3 5) (two 5 0 ++ two 6 2) bits (two 1 0 ++ two 1 0) in
    (challenge_at x 1 ≡ 5) × (opened_at 2 x 1 ≡ opened (tab 32 (λ (k : ℕ). 96 + k)) (two 6 2) (two 1 0))
unfolding opened_at half stretch bit_at tab
messages_of_two = (refl, refl)

-- modulo 7, with V = (1, 2), a π that exchanges the places, and the challenges 3 and 5:
-- W is (2, 1) + 3·(1, 2) and then (3, 4) + 5·(2, 1); σ is opened and then πσ
run : (joined 2 (answer_at 7 2 (two 1 2) (two 1 0) (two 3 5) choices) ≡ two 5 0 ++ two 6 2)
    × (joined 2 (opening_at 2 (two 1 0) bits choices) ≡ two 1 0 ++ two 1 0)
unfolding joined first_answer opening vector_of permutation_of stretch add_scaled zip_with permute tab bit_at
run = (refl, refl)
