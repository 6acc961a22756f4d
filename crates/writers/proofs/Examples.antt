-- Examples by computation: frames as they are written, and each refusal of a writer.
use mathlib.Core.Path.{◌≡◌, refl}
use mathlib.Core.List.{[], ◌∷◌}
use Rattle.refusals.specs.Number.{SHAPE, VALUE, PERM, ROOM}
use Rattle.refusals.specs.Buffer.{NONE, SYSTEM, BITS, OPENINGS, OUTPUT}
use Rattle.refusals.specs.Told.{done, refused, first_below}
use Rattle.algebra.specs.Lists.{all_below, count, stretch}
use Rattle.algebra.specs.Permutations.{is_perm}
use Rattle.packed_bits.specs.PackedBits.{bit_at, unused_clear}
use Rattle.kinds.specs.declared.Kind.TheVariants.{System, Bits, Openings}
use Rattle.bodies.specs.Bodies.{values, permutations}
use Rattle.writers.specs.Writing.{frame, plain_check, writing}

-- n = 4, m = 2, A' = (1, 2, 3, 250); nine bits; two permutations of two
writers : (frame System 4 2 (1 ∷ 2 ∷ 3 ∷ 250 ∷ []) ≡ 0 ∷ 8 ∷ 1 ∷ 1 ∷ 4 ∷ 2 ∷ 1 ∷ 2 ∷ 3 ∷ 250 ∷ [])
    × (writing System 4 2 (1 ∷ 2 ∷ 3 ∷ 250 ∷ []) 10 ≡ done (10 ∷ []))
    × (writing System 4 2 (1 ∷ 2 ∷ 3 ∷ 250 ∷ []) 9 ≡ refused ROOM OUTPUT 10)
    × (writing System 65 2 [] 0 ≡ refused SHAPE NONE 0)
    × (writing System 4 2 (251 ∷ []) 0 ≡ refused SHAPE SYSTEM 0)
    × (writing System 4 2 (1 ∷ 2 ∷ 251 ∷ 251 ∷ []) 0 ≡ refused VALUE SYSTEM 2)
    × (writing Bits 9 0 (191 ∷ 129 ∷ []) 0 ≡ refused SHAPE BITS 0)
    × (frame Bits 9 0 (191 ∷ 128 ∷ []) ≡ 0 ∷ 5 ∷ 1 ∷ 7 ∷ 9 ∷ 191 ∷ 128 ∷ [])
    × (writing Openings 2 2 (0 ∷ 1 ∷ 1 ∷ 1 ∷ []) 0 ≡ refused PERM OPENINGS 2)
unfolding frame writing plain_check values permutations first_below unused_clear bit_at is_perm all_below count stretch
writers = (refl, refl, refl, refl, refl, refl, refl, refl, refl)
