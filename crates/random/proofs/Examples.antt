-- The definitions of `specs/` on examples, by computation.
use mathlib.Core.Path.{◌≡◌, refl}
use mathlib.Core.List.{List, [], ◌∷◌}
use Prim.Native.Nat.{ℕ}
use Rattle.algebra.specs.Lists.{tab}
use Rattle.algebra.specs.Residues.{modulus}
use Rattle.algebra.specs.Permutations.{identity}
use Rattle.std.specs.Prelude.{Some, None}
use Rattle.random.specs.Drawings.{draw_left, draw_below, drew, ran_out, largest_multiple, exchange, shuffle, draw_permutation}

abbrev four : ℕ → ℕ → ℕ → ℕ → List ℕ
four a b c d = a ∷ b ∷ c ∷ d ∷ []

-- 255 is skipped for 3 places, and for a residue; no byte is for 4 places
drawings : (largest_multiple 3 ≡ 255)
    × (largest_multiple 4 ≡ 256)
    × (largest_multiple 63 ≡ 252)
    × (draw_below modulus (four 255 251 250 9) 0 ≡ Some (250, 3))
    × (draw_below modulus (four 255 251 250 9) 3 ≡ Some (9, 4))
    × (draw_below modulus (255 ∷ 251 ∷ []) 0 ≡ None)
    × (draw_permutation 4 (four 6 255 4 7) 0 ≡ drew (four 0 3 1 2) 4)
    × (draw_permutation 4 (99 ∷ four 6 255 4 7) 1 ≡ drew (four 0 3 1 2) 5)
    × (draw_permutation 4 (6 ∷ 255 ∷ 4 ∷ []) 0 ≡ ran_out)
unfolding draw_below draw_left draw_permutation shuffle exchange identity tab
drawings = (refl, refl, refl, refl, refl, refl, refl, refl, refl)
