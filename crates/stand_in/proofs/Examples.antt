-- The refusals of the stand-in's call on examples, by computation: n = 3, m = 1. The hash is not computed.
use mathlib.Core.Path.{◌≡◌, refl}
use mathlib.Core.List.{List, [], ◌∷◌}
use Prim.Native.Nat.{ℕ}
use Rattle.refusals.specs.Number.{SHORT, SHAPE, VALUE, PERM, ROOM}
use Rattle.refusals.specs.Buffer.{NONE, SYSTEM, PUBLIC, CHOICES, OUTPUT}
use Rattle.refusals.specs.Told.{Told, done, refused, first_below}
use Rattle.algebra.specs.Lists.{all_below, count, stretch}
use Rattle.algebra.specs.Permutations.{is_perm}
use Rattle.bodies.specs.Bodies.{values, permutations}
use Rattle.frames.specs.Reading.{header, shape, reading}
use Rattle.readers.specs.Choosing.{vector_of, permutation_of, choice_check, choices_check}
use Rattle.stand_in.specs.Standing.{lent_check, standing}

abbrev system : List ℕ
system = 0 ∷ 6 ∷ 1 ∷ 1 ∷ 3 ∷ 1 ∷ 7 ∷ 250 ∷ []

abbrev key : List ℕ
key = 0 ∷ 6 ∷ 1 ∷ 2 ∷ 3 ∷ 0 ∷ 250 ∷ 9 ∷ []

-- a key of two places, well formed alone
abbrev shorter : List ℕ
shorter = 0 ∷ 5 ∷ 1 ∷ 2 ∷ 2 ∷ 0 ∷ 250 ∷ []

abbrev lent : List ℕ
lent = 5 ∷ 0 ∷ 250 ∷ 2 ∷ 0 ∷ 1 ∷ []

-- with no output where something else is refused: each refusal comes before ROOM
abbrev refusal : ℕ → ℕ → List ℕ → List ℕ → List ℕ → Told
refusal c bit s k l = standing c bit s k l 0

accepted : (standing 250 1 system key lent 38 ≡ done (38 ∷ []))
    × (standing 0 0 system key lent 99 ≡ done (38 ∷ []))
    × (standing 0 0 system key lent 37 ≡ refused ROOM OUTPUT 38)
unfolding standing lent_check reading header shape values permutations first_below choices_check choice_check vector_of permutation_of is_perm all_below count stretch
accepted = (refl, refl, refl)

numbers-first : (refusal 251 0 [] [] [] ≡ refused SHAPE NONE 0)
    × (refusal 250 2 [] [] [] ≡ refused SHAPE NONE 0)
unfolding standing lent_check
numbers-first = (refl, refl)

frames_then : (refusal 250 1 [] [] [] ≡ refused SHORT SYSTEM 0)
    × (refusal 250 1 system [] [] ≡ refused SHORT PUBLIC 0)
    × (refusal 250 1 system shorter [] ≡ refused SHAPE PUBLIC 4)
unfolding standing lent_check reading header shape values first_below
frames_then = (refl, refl, refl)

lent_last : (refusal 250 1 system key [] ≡ refused SHAPE CHOICES 0)
    × (refusal 250 1 system key (5 ∷ 0 ∷ 251 ∷ 2 ∷ 0 ∷ 0 ∷ []) ≡ refused VALUE CHOICES 2)
    × (refusal 250 1 system key (5 ∷ 0 ∷ 250 ∷ 2 ∷ 0 ∷ 0 ∷ []) ≡ refused PERM CHOICES 3)
unfolding standing lent_check reading header shape values permutations first_below choices_check choice_check vector_of permutation_of is_perm all_below count stretch
lent_last = (refl, refl, refl)
