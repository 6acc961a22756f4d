-- The refusals of the verdict before its rounds, on examples, by computation: the small system and sample input of document 01. The hash is not
-- computed.
use mathlib.Core.Path.{◌≡◌, refl}
use mathlib.Core.Bool.{true, false}
use mathlib.Core.List.{List, [], ◌∷◌, ◌++◌}
use Prim.Native.Nat.{ℕ}
use lib.ListN.{replicate}
use Rattle.refusals.specs.Number.{SHORT, LONG, SHAPE, WEAK}
use Rattle.refusals.specs.Buffer.{NONE, SYSTEM, PUBLIC, COMMITMENTS, CHALLENGES, ANSWERS, BITS, OPENINGS}
use Rattle.refusals.specs.Told.{Told, refused, first_below}
use Rattle.algebra.specs.Lists.{all_below, count, stretch}
use Rattle.algebra.specs.Permutations.{is_perm}
use Rattle.packed_bits.specs.PackedBits.{bit_at, unused_clear}
use Rattle.bodies.specs.Bodies.{values, permutations}
use Rattle.frames.specs.Reading.{header, shape, reading}
use Rattle.register_rules.specs.Verdict.{sign_on, basis_check, exchange_check, frames_check, enough, judging}
use Rattle.register_input.specs.Cutting.{front, behind, sign_on_of, judging_input}

abbrev system : List ℕ
system = 0 ∷ 6 ∷ 1 ∷ 1 ∷ 3 ∷ 1 ∷ 1 ∷ 2 ∷ []

abbrev key : List ℕ
key = 0 ∷ 6 ∷ 1 ∷ 2 ∷ 3 ∷ 3 ∷ 240 ∷ 5 ∷ []

abbrev commitments : List ℕ
commitments = 0 ∷ 67 ∷ 1 ∷ 4 ∷ 1 ∷ replicate 64 0

abbrev challenges : List ℕ
challenges = 0 ∷ 4 ∷ 1 ∷ 5 ∷ 1 ∷ 7 ∷ []

abbrev answers : List ℕ
answers = 0 ∷ 7 ∷ 1 ∷ 6 ∷ 3 ∷ 1 ∷ 41 ∷ 45 ∷ 204 ∷ []

abbrev bits : List ℕ
bits = 0 ∷ 4 ∷ 1 ∷ 7 ∷ 1 ∷ 0 ∷ []

abbrev openings : List ℕ
openings = 0 ∷ 7 ∷ 1 ∷ 8 ∷ 3 ∷ 1 ∷ 1 ∷ 0 ∷ 2 ∷ []

-- the sample, and what it is when bytes follow
abbrev sample : List ℕ → List ℕ
sample more = 1 ∷ (system ++ key ++ commitments ++ challenges ++ answers ++ bits ++ openings ++ more)

sample_weak : judging_input (sample []) ≡ refused WEAK NONE 0
unfolding judging_input sign_on_of front behind judging frames_check basis_check exchange_check enough reading header shape values permutations first_below is_perm all_below count stretch unused_clear bit_at
sample_weak = refl

-- the frames in order, all of them before the grade: there is no grade 0
abbrev told : List ℕ → List ℕ → List ℕ → List ℕ → List ℕ → List ℕ → List ℕ → Told
told s v c e w b o = judging 0 (sign_on s v c e w b o)

frames_in_order : (told [] [] [] [] [] [] [] ≡ refused SHORT SYSTEM 0)
    × (told system [] [] [] [] [] [] ≡ refused SHORT PUBLIC 0)
    × (told system key [] [] [] [] [] ≡ refused SHORT COMMITMENTS 0)
    × (told system key commitments [] [] [] [] ≡ refused SHORT CHALLENGES 0)
    × (told system key commitments challenges [] [] [] ≡ refused SHORT ANSWERS 0)
    × (told system key commitments challenges answers [] [] ≡ refused SHORT BITS 0)
    × (told system key commitments challenges answers bits [] ≡ refused SHORT OPENINGS 0)
    × (told system key commitments challenges answers bits openings ≡ refused WEAK NONE 0)
unfolding judging frames_check basis_check exchange_check enough reading header shape values permutations first_below is_perm all_below count stretch unused_clear bit_at
frames_in_order = (refl, refl, refl, refl, refl, refl, refl, refl)

-- frames that are well formed alone and differ from an earlier one: n = 2, or N = 2
frames_agree : (told system (0 ∷ 5 ∷ 1 ∷ 2 ∷ 2 ∷ 3 ∷ 240 ∷ []) [] [] [] [] [] ≡ refused SHAPE PUBLIC 4)
    × (told system key commitments (0 ∷ 5 ∷ 1 ∷ 5 ∷ 2 ∷ 7 ∷ 7 ∷ []) [] [] [] ≡ refused SHAPE CHALLENGES 4)
    × (told system key commitments challenges (0 ∷ 6 ∷ 1 ∷ 6 ∷ 2 ∷ 1 ∷ 41 ∷ 45 ∷ []) [] [] ≡ refused SHAPE ANSWERS 4)
    × (told system key commitments challenges answers (0 ∷ 4 ∷ 1 ∷ 7 ∷ 2 ∷ 0 ∷ []) [] ≡ refused SHAPE BITS 4)
    × (told system key commitments challenges answers bits (0 ∷ 6 ∷ 1 ∷ 8 ∷ 2 ∷ 1 ∷ 1 ∷ 0 ∷ []) ≡ refused SHAPE OPENINGS 4)
unfolding judging frames_check basis_check exchange_check reading header shape values permutations first_below unused_clear all_below bit_at
frames_agree = (refl, refl, refl, refl, refl)

grades : (enough 1 19 ≡ false) × (enough 1 20 ≡ true) × (enough 2 30 ≡ false) × (enough 2 31 ≡ true) × (enough 0 64 ≡ false) × (enough 3 64 ≡ false)
unfolding enough
grades = (refl, refl, refl, refl, refl, refl)

-- bytes left over belong to the last frame; missing ones make theirs SHORT
abbrev cut_short : List ℕ
cut_short = 1 ∷ (system ++ key ++ (0 ∷ 67 ∷ 1 ∷ 4 ∷ 1 ∷ []))

cutting : (judging_input (sample (0 ∷ [])) ≡ refused LONG OPENINGS 0)
    × (judging_input cut_short ≡ refused SHORT COMMITMENTS 0)
    × (judging_input (1 ∷ 0 ∷ []) ≡ refused SHORT SYSTEM 0)
    × (judging_input [] ≡ refused SHORT SYSTEM 0)
    × (front (0 ∷ 0 ∷ 1 ∷ 1 ∷ []) ≡ 0 ∷ 0 ∷ [])
    × (behind (0 ∷ 1 ∷ 1 ∷ 1 ∷ []) ≡ 1 ∷ [])
unfolding judging_input sign_on_of front behind judging frames_check basis_check exchange_check reading header shape values permutations first_below unused_clear all_below bit_at
cutting = (refl, refl, refl, refl, refl, refl)
