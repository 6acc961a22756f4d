-- What begin, answer and open ask before they do anything, each in its order (document 01, "The card's three calls" and "Refusal numbers").
use Rattle.std.specs.Prelude.{Bool, ◌&&◌, ◌||◌, List, ℕ, eqb, ltb, leb, get_or}
use Rattle.refusals.specs.Number.{SHAPE, ROOM, STAGE}
use Rattle.refusals.specs.Buffer.{NONE, OUTPUT}
use Rattle.refusals.specs.Told.{Told, first, demand}
use Rattle.algebra.specs.Lists.{all_below}
use Rattle.algebra.specs.Residues.{modulus}
use Rattle.kinds.specs.declared.Kind.TheVariants.{Commitments, Challenges, Answers, Bits, Openings}
use Rattle.kinds.specs.Kinds.{within, alone, exactly, frame_size}
use Rattle.frames.specs.Reading.{reading}
use Rattle.readers.specs.Choosing.{choices_check}
use Rattle.card_rules.specs.declared.session.Session.{Session}
use Rattle.card_rules.specs.Stages.{IDLE, COMMITTED, ANSWERED, CLOSED}
use Rattle.card_rules.specs.Keys.{Keys, places_of, rows_of, keys_check, valid_check}

-- STAGE
abbrev pub staged : Bool → Told
staged test = demand test STAGE NONE 0

-- begin is called from idle or closed
unfoldable pub at_rest : ℕ → Bool
at_rest stage = eqb stage IDLE || eqb stage CLOSED

-- the rest of STAGE, at answer and open: the record's n and m are the system's, and its N is 1 to 64
unfoldable pub record_fits : Session → ℕ → ℕ → Bool
record_fits s n m = eqb s.n n && (eqb s.m m && within alone.rounds s.rounds)

-- at open: none of the first N kept challenges is above 250
abbrev pub kept_fits : List ℕ → ℕ → Bool
kept_fits challenges j = ltb (get_or challenges j 0) modulus

unfoldable pub kept_fit : ℕ → List ℕ → Bool
kept_fit N challenges = all_below N (kept_fits challenges)

-- what comes last at each of the three: the choices, KEY, ROOM
unfoldable pub rest_check : Keys → ℕ → List ℕ → ℕ → ℕ → Told
rest_check k N choices need room =
    first (choices_check (places_of k) N choices)
    (first (valid_check k)
    (demand (leb need room) ROOM OUTPUT need))

-- what is written: commitments, first answers, openings
abbrev pub commitments_size : ℕ → ℕ
commitments_size N = frame_size Commitments N 0

abbrev pub answers_size : ℕ → ℕ → ℕ
answers_size n N = frame_size Answers n N

abbrev pub openings_size : ℕ → ℕ → ℕ
openings_size n N = frame_size Openings n N

unfoldable pub begin_check : Session → ℕ → Keys → List ℕ → ℕ → Told
begin_check s N k choices room =
    first (staged (at_rest s.stage))
    (first (demand (within alone.rounds N) SHAPE NONE 0)
    (first (keys_check k)
    (rest_check k N choices (commitments_size N) room)))

unfoldable pub answer_check : Session → Keys → List ℕ → List ℕ → ℕ → Told
answer_check s k message choices room =
    first (staged (eqb s.stage COMMITTED))
    (first (keys_check k)
    (first (staged (record_fits s (places_of k) (rows_of k)))
    (first (reading Challenges (exactly (places_of k) s.rounds) message)
    (rest_check k s.rounds choices (answers_size (places_of k) s.rounds) room))))

unfoldable pub open_check : Session → Keys → List ℕ → List ℕ → ℕ → Told
open_check s k message choices room =
    first (staged (eqb s.stage ANSWERED))
    (first (keys_check k)
    (first (staged (record_fits s (places_of k) (rows_of k)))
    (first (staged (kept_fit s.rounds s.challenges))
    (first (reading Bits (exactly (places_of k) s.rounds) message)
    (rest_check k s.rounds choices (openings_size (places_of k) s.rounds) room)))))
