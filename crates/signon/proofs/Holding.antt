-- No call of those beside the card tells anything that its answer does not hold.
use mathlib.Core.Path.{◌≡◌}
use mathlib.Core.List.{List, [], ◌∷◌}
use Prim.Native.Nat.{ℕ, ◌+◌, ◌*◌, ◌/◌, ◌%◌, ◌≤◌, ◌<◌}
use native.Mathlib.Omega.{arith}
use Rattle.refusals.specs.Number.{SHAPE, PERM, ROOM, DRAW, STAGE, SECOND}
use Rattle.refusals.specs.Told.{Told, done, first}
use Rattle.refusals.proofs.Chain.{UpTo, ends_done, done_most, first-most, most-more}
use Rattle.std.specs.Prelude.{Option}
use Rattle.sha256.specs.Call.{told_of}
use Rattle.sha256.proofs.Call.{told-most}
use Rattle.kinds.specs.declared.Kind.{Kind}
use Rattle.kinds.specs.Kinds.{alone, table}
use Rattle.frames.specs.Reading.{first_of, second_of, reading, opening_check}
use Rattle.writers.specs.Writing.{writing}
use Rattle.writers.proofs.Outcomes.{room_most, room_one, writing-most, writing-one}
use Rattle.frames.proofs.Facts.{reading-told, numbers-small}
use Rattle.readers.proofs.Outcomes.{reading-most, opening-most}
use Rattle.draw_rules.specs.Telling.{telling}
use Rattle.draw_rules.proofs.Outcomes.{telling-most, telling-one}
use Rattle.stand_in.specs.Standing.{standing}
use Rattle.stand_in.proofs.Outcomes.{standing-most, standing-one}
use Rattle.card_rules.specs.Keys.{Keys, key_check}
use Rattle.card_rules.proofs.Outcomes.{key-most, key-none}
use Rattle.register_rules.specs.Verdict.{SignOn, judging}
use Rattle.register_rules.proofs.Outcomes.{judging-most, judging-one}
use Rattle.card_for_c.specs.Answers.{Held}
use Rattle.card_for_c.proofs.Holding.{none, one, held_one, held_none}
use Rattle.signon.specs.Calls.{digest_size, hash_told, opening_place, opening_told}

-- ---- the numbers of a frame

-- the numbers of a frame are bytes, and its kind says where the rest starts
abbrev pub numbers : Kind → ℕ → List ℕ
numbers kind place = place % 256 ∷ place / 256 ∷ (table kind).start ∷ []

-- ---- the key check

pub key_held : (k : Keys) → Held none (key_check k)
key_held k = held_none STAGE (key_check k) (key-most k) (key-none k)

-- ---- the register, and the stand-in

pub verdict_held : (grade : ℕ) (x : SignOn) → Held one (judging grade x)
verdict_held grade x = held_one SECOND (judging grade x) (judging-most x grade) (λ v e. (_, judging-one x grade v e))

pub stand_in_held : (c bit : ℕ) (system key lent : List ℕ) (room : ℕ) → Held one (standing c bit system key lent room)
stand_in_held c bit system key lent room =
    held_one ROOM (standing c bit system key lent room) (standing-most c bit system key lent room) (λ v e. (_, standing-one c bit system key lent room v e))

-- ---- drawings, writers and the hash

pub draw_held : (checked : Told) → UpTo DRAW checked → (need room : ℕ) (used : Option ℕ) (lent : ℕ) → Held one (telling checked need room used lent)
draw_held checked h need room used lent =
    held_one DRAW (telling checked need room used lent) (telling-most checked need room used lent h) (telling-one checked need room used lent)

pub write_held : (k : Kind) (a b : ℕ) (plain : List ℕ) (room : ℕ) → Held one (writing k a b plain room)
write_held k a b plain room = held_one ROOM (writing k a b plain room) (writing-most k a b plain room) (λ v e. (_, writing-one k a b plain room v e))

pub hash_held : (message : List ℕ) (room : ℕ) → Held one (hash_told message room)
unfolding hash_told
hash_held message room =
    let check = told_of message in
    held_one ROOM _ (room_most check digest_size room (most-more SHAPE ROOM check (omega arith) (told-most message)))
    (λ v e. (digest_size, room_one check digest_size room v e))

-- ---- readers

both-back : (a b : ℕ) → a < 256 → ((a + 256 * b) % 256 ≡ a) × ((a + 256 * b) / 256 ≡ b)
both-back a b l = (omega arith, omega arith)

-- a frame's numbers are far below 256
pub numbers-read : (k : Kind) (s v : List ℕ) → reading k alone s ≡ done v → (first_of s ≤ 64) × (second_of k s ≤ 64)
numbers-read k s v e = numbers-small k (first_of s) (second_of k s) (reading-told k alone s v e).0.form.numbers

pub read_held : (k : Kind) (s : List ℕ) → Held (numbers k) (reading k alone s)
read_held k s =
    record {
      success = λ v e. let small = (numbers-read k s v e).0 in let p = both-back (first_of s) (second_of k s) (omega arith) in rw (← (reading-told k alone s v e).1, p.0, p.1);
      refusal = λ x y z e. (reading-most k alone s x y z e).0;
    }

pub opening_held : (s : List ℕ) (round : ℕ) → Held one (opening_told s round)
unfolding opening_told
opening_held s round =
    let there : Told = done (opening_place s round ∷ []) in
    held_one PERM (first (opening_check s round) there) (first-most PERM (opening_check s round) there (opening-most s round) (done_most PERM (opening_place s round ∷ [])))
    (λ v e. (_, ends_done (opening_check s round) (opening_place s round ∷ []) v e))
