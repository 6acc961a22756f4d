-- What the card asks, on the small system of document 01: n = 3, m = 1, A' = (1, 2), V = (3, 240, 5), π = (2, 0, 1), R = (10, 20, 30), σ = (1, 0, 2). The
-- hash is not computed. Each neighbouring pair of an order by an input that is wrong in both ways.
use mathlib.Core.Path.{◌≡◌, refl}
use mathlib.Core.List.{List, [], ◌∷◌}
use Prim.Native.Nat.{ℕ}
use lib.ListN.{replicate}
use Rattle.refusals.specs.Number.{SHORT, SHAPE, VALUE, PERM, KEY, ROOM, STAGE}
use Rattle.refusals.specs.Buffer.{NONE, SYSTEM, PUBLIC, SECRET, CHOICES, CHALLENGES, BITS, OUTPUT}
use Rattle.refusals.specs.Told.{refused, fine, first_below}
use Rattle.algebra.specs.Lists.{tab, sum_below, all_below, first_from, count, stretch}
use Rattle.algebra.specs.Permutations.{is_perm, permute}
use Rattle.matrices.specs.Matrices.{row_times, key_fault}
use Rattle.packed_bits.specs.PackedBits.{bit_at, unused_clear}
use Rattle.bodies.specs.Bodies.{values, permutations}
use Rattle.frames.specs.Reading.{header, shape, reading}
use Rattle.readers.specs.Choosing.{vector_of, permutation_of, choice_check, choices_check}
use Rattle.card_rules.specs.declared.session.Session.{Session}
use Rattle.card_rules.specs.Stages.{IDLE, COMMITTED, ANSWERED, CLOSED}
use Rattle.card_rules.specs.Keys.{Keys, keys, keys_check, valid_check, key_check}
use Rattle.card_rules.specs.Asking.{at_rest, record_fits, kept_fit, rest_check, begin_check, answer_check, open_check}

abbrev system : List ℕ
system = 0 ∷ 6 ∷ 1 ∷ 1 ∷ 3 ∷ 1 ∷ 1 ∷ 2 ∷ []

abbrev public-key : List ℕ
public-key = 0 ∷ 6 ∷ 1 ∷ 2 ∷ 3 ∷ 3 ∷ 240 ∷ 5 ∷ []

abbrev good : Keys
good = keys system public-key (0 ∷ 6 ∷ 1 ∷ 3 ∷ 3 ∷ 2 ∷ 0 ∷ 1 ∷ [])

-- π = (0, 1, 2): the sum of row 0 is 237
abbrev wrong : Keys
wrong = keys system public-key (0 ∷ 6 ∷ 1 ∷ 3 ∷ 3 ∷ 0 ∷ 1 ∷ 2 ∷ [])

-- a public key and a secret key of two places
abbrev shorter-public : Keys
shorter-public = keys system (0 ∷ 5 ∷ 1 ∷ 2 ∷ 2 ∷ 0 ∷ 250 ∷ []) []

abbrev shorter-secret : Keys
shorter-secret = keys system public-key (0 ∷ 5 ∷ 1 ∷ 3 ∷ 2 ∷ 0 ∷ 1 ∷ [])

-- one round of choices
abbrev choices : List ℕ
choices = 10 ∷ 20 ∷ 30 ∷ 1 ∷ 0 ∷ 2 ∷ []

abbrev at : ℕ → ℕ → ℕ → Session
at stage n rounds = record { stage = stage; n = n; m = 1; rounds = rounds; challenges = replicate 64 250 }

-- ---- the key check

key_checks : (key_check good ≡ fine)
    × (key_check wrong ≡ refused KEY SECRET 0)
    × (key_check (keys [] [] []) ≡ refused SHORT SYSTEM 0)
    × (key_check (keys system [] []) ≡ refused SHORT PUBLIC 0)
    × (key_check shorter-public ≡ refused SHAPE PUBLIC 4)
    × (key_check shorter-secret ≡ refused SHAPE SECRET 4)
unfolding key_check keys_check valid_check reading header shape values permutations first_below is_perm all_below count stretch key_fault first_from row_times permute tab sum_below
key_checks = (refl, refl, refl, refl, refl, refl)

-- ---- begin: stage, N, keys, choices, KEY, ROOM

begins : (begin_check (at IDLE 0 0) 1 good choices 69 ≡ fine)
    × (begin_check (at CLOSED 9 99) 1 good choices 69 ≡ fine)
    × (begin_check (at COMMITTED 3 1) 0 good choices 69 ≡ refused STAGE NONE 0)
    × (begin_check (at 4 3 1) 1 good choices 69 ≡ refused STAGE NONE 0)
    × (begin_check (at IDLE 0 0) 65 (keys [] [] []) choices 69 ≡ refused SHAPE NONE 0)
    × (begin_check (at IDLE 0 0) 1 (keys [] [] []) [] 69 ≡ refused SHORT SYSTEM 0)
    × (begin_check (at IDLE 0 0) 1 wrong [] 0 ≡ refused SHAPE CHOICES 0)
    × (begin_check (at IDLE 0 0) 1 wrong (10 ∷ 251 ∷ 30 ∷ 1 ∷ 0 ∷ 0 ∷ []) 0 ≡ refused VALUE CHOICES 1)
    × (begin_check (at IDLE 0 0) 1 wrong (replicate 6 0) 0 ≡ refused PERM CHOICES 3)
    × (begin_check (at IDLE 0 0) 1 wrong choices 0 ≡ refused KEY SECRET 0)
    × (begin_check (at IDLE 0 0) 1 good choices 68 ≡ refused ROOM OUTPUT 69)
unfolding begin_check at_rest rest_check keys_check valid_check reading header shape values permutations first_below is_perm all_below count stretch key_fault first_from row_times permute tab sum_below choices_check choice_check vector_of permutation_of
begins = (refl, refl, refl, refl, refl, refl, refl, refl, refl, refl, refl)

-- ---- answer: stage, keys, the rest of STAGE, the message, choices, KEY, ROOM

abbrev challenge : List ℕ
challenge = 0 ∷ 4 ∷ 1 ∷ 5 ∷ 1 ∷ 7 ∷ []

answers : (answer_check (at COMMITTED 3 1) good challenge choices 9 ≡ fine)
    × (answer_check (at ANSWERED 3 1) (keys [] [] []) challenge choices 9 ≡ refused STAGE NONE 0)
    × (answer_check (at COMMITTED 4 1) (keys [] [] []) challenge choices 9 ≡ refused SHORT SYSTEM 0)
    × (answer_check (at COMMITTED 4 1) good [] choices 9 ≡ refused STAGE NONE 0)
    × (answer_check (at COMMITTED 3 0) good [] choices 9 ≡ refused STAGE NONE 0)
    × (answer_check (at COMMITTED 3 1) good (0 ∷ 4 ∷ 1 ∷ 5 ∷ 1 ∷ 251 ∷ []) [] 9 ≡ refused VALUE CHALLENGES 5)
    × (answer_check (at COMMITTED 3 2) good challenge [] 9 ≡ refused SHAPE CHALLENGES 4)
    × (answer_check (at COMMITTED 3 1) wrong challenge [] 0 ≡ refused SHAPE CHOICES 0)
    × (answer_check (at COMMITTED 3 1) wrong challenge choices 0 ≡ refused KEY SECRET 0)
    × (answer_check (at COMMITTED 3 1) good challenge choices 8 ≡ refused ROOM OUTPUT 9)
unfolding answer_check record_fits rest_check keys_check valid_check reading header shape values permutations first_below is_perm all_below count stretch key_fault first_from row_times permute tab sum_below choices_check choice_check vector_of permutation_of
answers = (refl, refl, refl, refl, refl, refl, refl, refl, refl, refl)

-- ---- open: the same order, and the challenges kept

abbrev bit : List ℕ
bit = 0 ∷ 4 ∷ 1 ∷ 7 ∷ 1 ∷ 128 ∷ []

-- 251 kept as the challenge of round 1
abbrev high : ℕ → Session
high rounds = record { stage = ANSWERED; n = 3; m = 1; rounds = rounds; challenges = 250 ∷ 251 ∷ replicate 62 0 }

opens : (open_check (at ANSWERED 3 1) good bit choices 9 ≡ fine)
    × (open_check (high 1) good bit choices 9 ≡ fine)
    × (open_check (high 2) good [] choices 9 ≡ refused STAGE NONE 0)
    × (open_check (at COMMITTED 3 1) (keys [] [] []) bit choices 9 ≡ refused STAGE NONE 0)
    × (open_check (at ANSWERED 3 1) good (0 ∷ 4 ∷ 1 ∷ 7 ∷ 1 ∷ 129 ∷ []) [] 9 ≡ refused SHAPE BITS 4)
    × (open_check (at ANSWERED 3 1) wrong bit [] 0 ≡ refused SHAPE CHOICES 0)
    × (open_check (at ANSWERED 3 1) wrong bit choices 0 ≡ refused KEY SECRET 0)
    × (open_check (at ANSWERED 3 1) good bit choices 8 ≡ refused ROOM OUTPUT 9)
unfolding open_check record_fits kept_fit rest_check keys_check valid_check reading header shape values permutations first_below is_perm all_below count stretch key_fault first_from row_times permute tab sum_below choices_check choice_check vector_of permutation_of bit_at unused_clear
opens = (refl, refl, refl, refl, refl, refl, refl, refl)
