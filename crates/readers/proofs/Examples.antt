-- Examples by computation: a frame of each kind, and each refusal that the kind can give.
use mathlib.Core.Path.{◌≡◌, refl}
use mathlib.Core.List.{List, [], ◌∷◌, ◌++◌}
use Prim.Native.Nat.{ℕ}
use lib.ListN.{replicate}
use Rattle.refusals.specs.Number.{SHORT, LONG, VERSION, KIND, SHAPE, VALUE, PERM}
use Rattle.refusals.specs.Buffer.{NONE, SYSTEM, PUBLIC, SECRET, CHOICES, COMMITMENTS, CHALLENGES, ANSWERS, BITS, OPENINGS}
use Rattle.refusals.specs.Told.{Told, done, refused, fine, first_below}
use Rattle.algebra.specs.Lists.{all_below, count, stretch}
use Rattle.algebra.specs.Permutations.{is_perm}
use Rattle.kinds.specs.declared.Kind.{Kind}
use Rattle.kinds.specs.declared.Kind.TheVariants.{System, Public, Secret, Commitments, Challenges, Answers, Bits, Openings}
use Rattle.kinds.specs.Kinds.{limits, alone}
use Rattle.packed_bits.specs.PackedBits.{bit_at, unused_clear}
use Rattle.bodies.specs.Bodies.{values, permutations}
use Rattle.frames.specs.Reading.{header, shape, reading, opening_check, opening_of}
use Rattle.readers.specs.Choosing.{vector_of, permutation_of, choice_check, choices_check}

-- a reading of a frame alone
abbrev read : Kind → List ℕ → Told
read k s = reading k alone s

-- ---- the header, the same for each kind: n = 4, m = 2, A' = (1, 2, 3, 250)

abbrev system : List ℕ
system = 0 ∷ 8 ∷ 1 ∷ 1 ∷ 4 ∷ 2 ∷ 1 ∷ 2 ∷ 3 ∷ 250 ∷ []

headers : (read System system ≡ done (4 ∷ 2 ∷ 6 ∷ []))
    × (read System [] ≡ refused SHORT SYSTEM 0)
    × (read System (0 ∷ 1 ∷ 1 ∷ []) ≡ refused SHORT SYSTEM 0)
    × (read System (0 ∷ 9 ∷ 1 ∷ 1 ∷ 4 ∷ 2 ∷ 1 ∷ 2 ∷ 3 ∷ 250 ∷ []) ≡ refused SHORT SYSTEM 0)
    × (read System (0 ∷ 0 ∷ 1 ∷ 1 ∷ []) ≡ refused LONG SYSTEM 0)
    × (read System (system ++ (0 ∷ [])) ≡ refused LONG SYSTEM 0)
    × (read System (0 ∷ 2 ∷ 2 ∷ 2 ∷ []) ≡ refused VERSION SYSTEM 2)
    × (read System (0 ∷ 2 ∷ 1 ∷ 2 ∷ []) ≡ refused KIND SYSTEM 3)
    × (read System (0 ∷ 3 ∷ 1 ∷ 1 ∷ 4 ∷ []) ≡ refused SHAPE SYSTEM 4)
unfolding reading header shape values first_below
headers = (refl, refl, refl, refl, refl, refl, refl, refl, refl)

-- ---- the body of each kind

systems : (read System (0 ∷ 8 ∷ 1 ∷ 1 ∷ 4 ∷ 2 ∷ 1 ∷ 251 ∷ 3 ∷ 252 ∷ []) ≡ refused VALUE SYSTEM 7)
    × (read System (0 ∷ 8 ∷ 1 ∷ 1 ∷ 4 ∷ 4 ∷ 1 ∷ 2 ∷ 3 ∷ 4 ∷ []) ≡ refused SHAPE SYSTEM 4)
    × (read System (0 ∷ 5 ∷ 1 ∷ 1 ∷ 1 ∷ 1 ∷ 1 ∷ []) ≡ refused SHAPE SYSTEM 4)
    × (reading System (record { places = limits 5 5; rounds = limits 1 64 }) system ≡ refused SHAPE SYSTEM 4)
unfolding reading header shape values first_below
systems = (refl, refl, refl, refl)

-- a vector of zeros and one with repeats are read
public-keys : (read Public (0 ∷ 5 ∷ 1 ∷ 2 ∷ 2 ∷ 0 ∷ 0 ∷ []) ≡ done (2 ∷ 0 ∷ 5 ∷ []))
    × (read Public (0 ∷ 6 ∷ 1 ∷ 2 ∷ 3 ∷ 9 ∷ 250 ∷ 9 ∷ []) ≡ done (3 ∷ 0 ∷ 5 ∷ []))
    × (read Public (0 ∷ 5 ∷ 1 ∷ 2 ∷ 2 ∷ 0 ∷ 255 ∷ []) ≡ refused VALUE PUBLIC 6)
    × (read Public (0 ∷ 4 ∷ 1 ∷ 2 ∷ 2 ∷ 0 ∷ []) ≡ refused SHAPE PUBLIC 4)
unfolding reading header shape values first_below
public-keys = (refl, refl, refl, refl)

secret-keys : (read Secret (0 ∷ 6 ∷ 1 ∷ 3 ∷ 3 ∷ 2 ∷ 0 ∷ 1 ∷ []) ≡ done (3 ∷ 0 ∷ 5 ∷ []))
    × (read Secret (0 ∷ 6 ∷ 1 ∷ 3 ∷ 3 ∷ 2 ∷ 0 ∷ 2 ∷ []) ≡ refused PERM SECRET 5)
    × (read Secret (0 ∷ 6 ∷ 1 ∷ 3 ∷ 3 ∷ 2 ∷ 0 ∷ 255 ∷ []) ≡ refused PERM SECRET 5)
    × (read Secret (0 ∷ 4 ∷ 1 ∷ 3 ∷ 1 ∷ 0 ∷ []) ≡ refused SHAPE SECRET 4)
unfolding reading header shape permutations first_below is_perm all_below count stretch
secret-keys = (refl, refl, refl, refl)

commitments : (read Commitments (0 ∷ 67 ∷ 1 ∷ 4 ∷ 1 ∷ replicate 64 255) ≡ done (1 ∷ 0 ∷ 5 ∷ []))
    × (read Commitments (0 ∷ 67 ∷ 1 ∷ 4 ∷ 2 ∷ replicate 64 255) ≡ refused SHAPE COMMITMENTS 4)
    × (read Commitments (0 ∷ 3 ∷ 1 ∷ 4 ∷ 0 ∷ []) ≡ refused SHAPE COMMITMENTS 4)
unfolding reading header shape
commitments = (refl, refl, refl)

challenges : (read Challenges (0 ∷ 5 ∷ 1 ∷ 5 ∷ 2 ∷ 250 ∷ 0 ∷ []) ≡ done (2 ∷ 0 ∷ 5 ∷ []))
    × (read Challenges (0 ∷ 5 ∷ 1 ∷ 5 ∷ 2 ∷ 250 ∷ 251 ∷ []) ≡ refused VALUE CHALLENGES 6)
    × (read Challenges (0 ∷ 5 ∷ 1 ∷ 5 ∷ 3 ∷ 250 ∷ 0 ∷ []) ≡ refused SHAPE CHALLENGES 4)
unfolding reading header shape values first_below
challenges = (refl, refl, refl)

first-answers : (read Answers (0 ∷ 8 ∷ 1 ∷ 6 ∷ 2 ∷ 2 ∷ 1 ∷ 2 ∷ 3 ∷ 4 ∷ []) ≡ done (2 ∷ 2 ∷ 6 ∷ []))
    × (read Answers (0 ∷ 8 ∷ 1 ∷ 6 ∷ 2 ∷ 2 ∷ 251 ∷ 2 ∷ 3 ∷ 4 ∷ []) ≡ refused VALUE ANSWERS 6)
    × (read Answers (0 ∷ 8 ∷ 1 ∷ 6 ∷ 2 ∷ 1 ∷ 1 ∷ 2 ∷ 3 ∷ 4 ∷ []) ≡ refused SHAPE ANSWERS 4)
unfolding reading header shape values first_below
first-answers = (refl, refl, refl)

-- nine bits take two bytes, of which the last seven bits are unused
bits : (read Bits (0 ∷ 5 ∷ 1 ∷ 7 ∷ 9 ∷ 191 ∷ 128 ∷ []) ≡ done (9 ∷ 0 ∷ 5 ∷ []))
    × (read Bits (0 ∷ 5 ∷ 1 ∷ 7 ∷ 9 ∷ 191 ∷ 129 ∷ []) ≡ refused SHAPE BITS 4)
    × (read Bits (0 ∷ 5 ∷ 1 ∷ 7 ∷ 8 ∷ 191 ∷ 128 ∷ []) ≡ refused SHAPE BITS 4)
unfolding reading header shape unused_clear bit_at all_below
bits = (refl, refl, refl)

abbrev two-openings : List ℕ
two-openings = 0 ∷ 10 ∷ 1 ∷ 8 ∷ 3 ∷ 2 ∷ 2 ∷ 0 ∷ 1 ∷ 0 ∷ 1 ∷ 2 ∷ []

openings : (read Openings two-openings ≡ done (3 ∷ 2 ∷ 6 ∷ []))
    × (read Openings (0 ∷ 10 ∷ 1 ∷ 8 ∷ 3 ∷ 2 ∷ 2 ∷ 0 ∷ 1 ∷ 0 ∷ 1 ∷ 1 ∷ []) ≡ refused PERM OPENINGS 9)
    × (read Openings (0 ∷ 10 ∷ 1 ∷ 8 ∷ 2 ∷ 2 ∷ 2 ∷ 0 ∷ 1 ∷ 0 ∷ 1 ∷ 2 ∷ []) ≡ refused SHAPE OPENINGS 4)
    × (opening_of two-openings 0 ≡ 2 ∷ 0 ∷ 1 ∷ [])
    × (opening_of two-openings 1 ≡ 0 ∷ 1 ∷ 2 ∷ [])
    × (opening_check two-openings 2 ≡ refused SHAPE NONE 0)
    × (opening_of two-openings 2 ≡ [])
    × (opening_check [] 0 ≡ refused SHORT OPENINGS 0)
unfolding reading header shape permutations first_below is_perm all_below count stretch opening_check opening_of
openings = (refl, refl, refl, refl, refl, refl, refl, refl)

-- ---- choices: n = 2, two rounds, R before σ

choices : (choices_check 2 2 (250 ∷ 0 ∷ 1 ∷ 0 ∷ 7 ∷ 7 ∷ 0 ∷ 1 ∷ []) ≡ fine)
    × (choices_check 2 1 (250 ∷ 0 ∷ 1 ∷ 0 ∷ 7 ∷ 7 ∷ 0 ∷ 1 ∷ []) ≡ refused SHAPE CHOICES 0)
    × (choices_check 2 2 (250 ∷ 0 ∷ 1 ∷ 1 ∷ 7 ∷ 251 ∷ 0 ∷ 1 ∷ []) ≡ refused PERM CHOICES 2)
    × (choices_check 2 2 (250 ∷ 0 ∷ 1 ∷ 0 ∷ 7 ∷ 251 ∷ 0 ∷ 0 ∷ []) ≡ refused VALUE CHOICES 5)
unfolding choices_check choice_check vector_of permutation_of values permutations first_below is_perm all_below count stretch
choices = (refl, refl, refl, refl)
