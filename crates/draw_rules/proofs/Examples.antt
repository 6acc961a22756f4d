-- The definitions of `specs/` on examples, by computation.
use mathlib.Core.Path.{◌≡◌, refl}
use mathlib.Core.Bool.{true, false}
use mathlib.Core.List.{[], ◌∷◌}
use Rattle.refusals.specs.Number.{SHAPE, ROOM, DRAW}
use Rattle.refusals.specs.Buffer.{NONE, RANDOM, OUTPUT}
use Rattle.refusals.specs.Told.{done, refused}
use Rattle.std.specs.Prelude.{Some, None}
use Rattle.algebra.specs.Lists.{tab}
use Rattle.algebra.specs.Permutations.{identity}
use Rattle.random.specs.Drawings.{draw_left, draw_below, drew, ran_out, exchange, shuffle, draw_permutation}
use Rattle.packed_bits.specs.Clearing.{cleared}
use Rattle.writers.specs.Writing.{frame}
use Rattle.random.specs.Sequences.{many_times, one_below, draw_residues}
use Rattle.draw_rules.specs.Making.{draw_challenges, draw_bits, draw_choice, draw_choices}
use Rattle.draw_rules.specs.Telling.{bare, choices_fit, telling}

-- 255 and 251 are skipped, and counted
challenges : (draw_residues 2 (255 ∷ 7 ∷ 251 ∷ 250 ∷ 9 ∷ []) 0 ≡ drew (7 ∷ 250 ∷ []) 4)
    × (draw_challenges 2 (255 ∷ 7 ∷ 251 ∷ 250 ∷ 9 ∷ []) ≡ drew (0 ∷ 5 ∷ 1 ∷ 5 ∷ 2 ∷ 7 ∷ 250 ∷ []) 4)
    × (draw_challenges 2 (255 ∷ 7 ∷ 251 ∷ []) ≡ ran_out)
unfolding draw_challenges many_times one_below draw_below draw_left frame
challenges = (refl, refl, refl)

-- 11 bits take two bytes, whatever they are
bits : (draw_bits 11 (181 ∷ 255 ∷ 9 ∷ []) ≡ drew (0 ∷ 5 ∷ 1 ∷ 7 ∷ 11 ∷ 181 ∷ 224 ∷ []) 2)
    × (draw_bits 11 (181 ∷ []) ≡ ran_out)
unfolding draw_bits many_times one_below draw_below draw_left frame cleared
bits = (refl, refl)

-- two rounds of n = 2: R = (9, 250), then 6 is even and exchanges; R = (3, 4) past a skipped 255, then 7 is odd
choices : (draw_choices 2 2 (9 ∷ 250 ∷ 6 ∷ 255 ∷ 3 ∷ 4 ∷ 7 ∷ []) ≡ drew (9 ∷ 250 ∷ 1 ∷ 0 ∷ 3 ∷ 4 ∷ 0 ∷ 1 ∷ []) 7)
    × (draw_choices 2 2 (9 ∷ 250 ∷ 6 ∷ 255 ∷ 3 ∷ 4 ∷ []) ≡ ran_out)
unfolding draw_choices draw_choice many_times one_below draw_below draw_left draw_permutation shuffle exchange identity tab
choices = (refl, refl)

-- numbers, then ROOM with the whole need, then DRAW with the bytes lent
orders : (telling (bare false) 8 7 None 5 ≡ refused SHAPE NONE 0)
    × (telling (bare true) 8 7 None 5 ≡ refused ROOM OUTPUT 8)
    × (telling (bare true) 8 8 None 5 ≡ refused DRAW RANDOM 5)
    × (telling (bare true) 8 9 (Some 5) 5 ≡ done (5 ∷ []))
    × (choices_fit 64 2 64 ≡ true)
    × (choices_fit 64 1 64 ≡ false)
    × (choices_fit 64 2 65 ≡ false)
    × (choices_fit 250 2 65 ≡ true)
    × (choices_fit 64 2 0 ≡ false)
unfolding telling
orders = (refl, refl, refl, refl, refl, refl, refl, refl, refl)
