-- The definitions of `specs/` on an example, by computation.
use mathlib.Core.Path.{◌≡◌, refl}
use mathlib.Core.List.{List, [], ◌∷◌, ◌++◌}
use Prim.Native.Nat.{ℕ}
use native.Mathlib.Omega.{arith}
use Rattle.algebra.specs.Lists.{tab, sum_below, stretch}
use Rattle.algebra.specs.Residues.{negative}
use Rattle.algebra.specs.Permutations.{permute, identity, place_of, inverse}
use Rattle.matrices.specs.Matrices.{row_times, SystemFits}
use Rattle.matrices.specs.Solving.{completed}
use Rattle.random.specs.Drawings.{draw_left, draw_below, drew, ran_out, exchange, shuffle, draw_permutation}
use Rattle.writers.specs.Writing.{frame}
use Rattle.random.specs.Sequences.{many_times, one_below}
use Rattle.key_making.specs.Key.{public_key, key_frames, draw_pair, draw_key, key_size}

-- n = 4, m = 2, A' of the rows (1, 2) and (3, 4): π = (0, 3, 1, 2), and X = (5, 6, -17, -39)
abbrev entries : List ℕ
entries = 1 ∷ 2 ∷ 3 ∷ 4 ∷ []

key : (draw_key entries 4 2 (6 ∷ 255 ∷ 4 ∷ 7 ∷ 5 ∷ 6 ∷ 1 ∷ [])
    ≡ drew ((0 ∷ 7 ∷ 1 ∷ 2 ∷ 4 ∷ 5 ∷ 234 ∷ 212 ∷ 6 ∷ []) ++ (0 ∷ 7 ∷ 1 ∷ 3 ∷ 4 ∷ 0 ∷ 3 ∷ 1 ∷ 2 ∷ [])) 6)
    × (draw_key entries 4 2 (6 ∷ 255 ∷ 4 ∷ 7 ∷ 5 ∷ []) ≡ ran_out)
    × (draw_key entries 4 2 (6 ∷ 255 ∷ []) ≡ ran_out)
    × (key_size 4 ≡ 18)
unfolding draw_key draw_pair key_frames public_key completed row_times stretch sum_below negative permute inverse place_of many_times one_below draw_below draw_left draw_permutation shuffle exchange identity tab frame
key = (refl, refl, refl, refl)

-- the system of this key fits, so that `key-drawn` holds of it
system : SystemFits entries 4 2
system = record { some = omega arith; less = omega arith; most = omega arith; entries = refl }
