-- Examples by computation: answers on document 01's small system, n = 3 and m = 1.
use mathlib.Core.Path.{◌≡◌, refl}
use mathlib.Core.List.{List, [], ◌∷◌}
use Prim.Native.Nat.{ℕ, ◌<◌}
use lib.ListN.{length}
use Rattle.refusals.specs.Number.{SHAPE, VALUE, ROOM}
use Rattle.refusals.specs.Buffer.{NONE, CHOICES, CHALLENGES, OUTPUT}
use Rattle.refusals.specs.Told.{fine, first_below}
use Rattle.algebra.specs.Lists.{all_below, count, stretch}
use Rattle.algebra.specs.Permutations.{is_perm}
use Rattle.sha256.specs.Call.{LONGEST, told_of}
use Rattle.sha256.proofs.Call.{told_long}
use Rattle.kinds.specs.declared.Kind.TheVariants.{System, Public, Challenges}
use Rattle.kinds.specs.Kinds.{alone}
use Rattle.bodies.specs.Bodies.{values, permutations}
use Rattle.frames.specs.Reading.{header, shape, reading, opening_check}
use Rattle.card_for_c.specs.declared.Answer.{Answer}
use Rattle.card_for_c.specs.Answers.{answer_of}
use Rattle.signon.specs.Calls.{hash_told, opening_told}

abbrev answer : ℕ → ℕ → ℕ → Answer
answer number buffer place = record { number = number; buffer = buffer; place = place }

-- n = 3 and m = 1 are 3 + 256 · 1; a kind of one number answers it alone
readers : (answer_of (reading System alone (0 ∷ 6 ∷ 1 ∷ 1 ∷ 3 ∷ 1 ∷ 1 ∷ 2 ∷ [])) ≡ answer 0 0 259)
    × (answer_of (reading Public alone (0 ∷ 6 ∷ 1 ∷ 2 ∷ 3 ∷ 3 ∷ 240 ∷ 5 ∷ [])) ≡ answer 0 0 3)
    × (answer_of (reading Challenges alone (0 ∷ 4 ∷ 1 ∷ 5 ∷ 1 ∷ 251 ∷ [])) ≡ answer VALUE CHALLENGES 5)
unfolding reading header shape values first_below
readers = (refl, refl, refl)

-- σ = (1, 0, 2) and πσ = (0, 2, 1), opened in rounds 0 and 1
abbrev openings : List ℕ
openings = 0 ∷ 10 ∷ 1 ∷ 8 ∷ 3 ∷ 2 ∷ 1 ∷ 0 ∷ 2 ∷ 0 ∷ 2 ∷ 1 ∷ []

named_rounds : (answer_of (opening_told openings 0) ≡ answer 0 0 6)
    × (answer_of (opening_told openings 1) ≡ answer 0 0 9)
    × (answer_of (opening_told openings 2) ≡ answer SHAPE NONE 0)
unfolding opening_told opening_check reading header shape permutations first_below is_perm all_below count stretch
named_rounds = (refl, refl, refl)

-- a digest has 32 bytes; a message that is too long is told before a missing room
rooms : (answer_of (hash_told [] 32) ≡ answer 0 0 32) × (answer_of (hash_told [] 31) ≡ answer ROOM OUTPUT 32)
unfolding hash_told told_of
rooms = (refl, refl)

too_long : (message : List ℕ) → LONGEST < length message → (room : ℕ) → answer_of (hash_told message room) ≡ answer SHAPE CHOICES 0
unfolding hash_told
too_long message l room = rw (← told_long message l)

-- a call that has no value to tell
nothing : answer_of fine ≡ answer 0 0 0
nothing = refl
