-- Examples by computation.
use mathlib.Core.Path.{◌≡◌, refl}
use mathlib.Core.Bool.{true, false, not}
use mathlib.Core.List.{[], ◌∷◌}
use Prim.Native.Nat.{ℕ}
use lib.Dec.{eqb}
use Rattle.algebra.specs.Lists.{tab, sum_below, all_below}
use Rattle.packed_bits.specs.PackedBits.{bit_at, unused_clear, byte_of, pack}
use Rattle.packed_bits.specs.Clearing.{cleared}

-- nine bits take two bytes, of which the last seven bits are unused
bits : (bit_at (191 ∷ 128 ∷ []) 0 ≡ true)
    × (bit_at (191 ∷ 128 ∷ []) 1 ≡ false)
    × (bit_at (191 ∷ 128 ∷ []) 8 ≡ true)
    × (unused_clear 9 (191 ∷ 128 ∷ []) ≡ true)
    × (unused_clear 9 (191 ∷ 129 ∷ []) ≡ false)
    × (pack 9 (λ (k : ℕ). not (eqb k 1)) ≡ 191 ∷ 128 ∷ [])
unfolding unused_clear bit_at all_below pack byte_of tab sum_below
bits = (refl, refl, refl, refl, refl, refl)

-- 11 bits of two bytes: the last five are unused; of 16 bits none is
cleared-bits : (cleared 11 (181 ∷ 255 ∷ []) ≡ 181 ∷ 224 ∷ [])
    × (cleared 16 (181 ∷ 255 ∷ []) ≡ 181 ∷ 255 ∷ [])
    × (cleared 1 (127 ∷ []) ≡ 0 ∷ [])
unfolding cleared
cleared-bits = (refl, refl, refl)
