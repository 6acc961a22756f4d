-- The register's verdict (document 01, "One round" and "Refusal numbers").
use Rattle.refusals.specs.declared.Refusal.{Refusal}
use Rattle.std.specs.Prelude.{◌≡◌, Bool, true, false, cond, ◌&&◌, ◌||◌, List, [], ◌∷◌, ℕ, ◌≤◌, eqb, leb, length, Result}
use Rattle.refusals.specs.Number.{WEAK, FIRST, SECOND}
use Rattle.refusals.specs.Buffer.{NONE, OPENINGS}
use Rattle.refusals.specs.Told.{Told, done, refused, fine, first, demand, means_count}
use Rattle.matrices.specs.Matrices.{SystemFits}
use Rattle.kinds.specs.declared.Kind.TheVariants.{System, Public, Commitments, Challenges, Answers, Bits, Openings}
use Rattle.kinds.specs.Kinds.{alone, of_places, exactly}
use Rattle.frames.specs.Reading.{first_of, second_of, rest_of, reading}
use Rattle.packed_bits.specs.PackedBits.{bit_at}
use Rattle.scheme.specs.Round.{System as SystemOf, system_of}
use Rattle.rounds.specs.Layout.{Messages, messages, MessagesFit}
use Rattle.rounds.specs.Rounds.{passes_at, first_failing}

-- what the register is lent: the frames of kinds 1, 2 and 4 to 8
pub record SignOn : Type 0 where
  pub system : List ℕ
  pub key : List ℕ
  pub commitments : List ℕ
  pub challenges : List ℕ
  pub answers : List ℕ
  pub bits : List ℕ
  pub openings : List ℕ

abbrev pub sign_on : List ℕ → List ℕ → List ℕ → List ℕ → List ℕ → List ℕ → List ℕ → SignOn
sign_on system key commitments challenges answers bits openings =
    record { system = system; key = key; commitments = commitments; challenges = challenges; answers = answers; bits = bits; openings = openings }

-- n is the system's, N that of the commitments
abbrev pub places_in : SignOn → ℕ
places_in x = first_of x.system

abbrev pub rounds_in : SignOn → ℕ
rounds_in x = first_of x.commitments

-- ---- the frames in order; the later buffer is the one that differs

-- the system, the public key and the commitments, which fix n and N
unfoldable pub basis_check : List ℕ → List ℕ → List ℕ → Told
basis_check system key commitments =
    first (reading System alone system)
    (first (reading Public (of_places (first_of system)) key)
    (first (reading Commitments (of_places (first_of system)) commitments) fine))

-- the messages that follow
unfoldable pub exchange_check : ℕ → ℕ → List ℕ → List ℕ → List ℕ → List ℕ → Told
exchange_check n N challenges answers bits openings =
    first (reading Challenges (exactly n N) challenges)
    (first (reading Answers (exactly n N) answers)
    (first (reading Bits (exactly n N) bits)
    (first (reading Openings (exactly n N) openings) fine)))

unfoldable pub frames_check : SignOn → Told
frames_check x =
    first (basis_check x.system x.key x.commitments)
    (exchange_check (places_in x) (rounds_in x) x.challenges x.answers x.bits x.openings)

-- ---- the grade: 1 is the inspector, 2 the register keeper

-- the least rounds of a grade: 20 by source document 002, for one chance in 1,000,000; 31 by source document 003, for 2^-30
abbrev pub least : ℕ → ℕ
least grade = cond (eqb grade 1) 20 31

-- there is no other grade
unfoldable pub enough : ℕ → ℕ → Bool
enough grade N = (eqb grade 1 || eqb grade 2) && leb (least grade) N

-- ---- the rounds

abbrev pub system_in : SignOn → SystemOf
system_in x = system_of (rest_of System x.system) (first_of x.system) (second_of System x.system)

abbrev pub vector_in : SignOn → List ℕ
vector_in x = rest_of Public x.key

abbrev pub messages_in : SignOn → Messages
messages_in x =
    messages (rest_of Commitments x.commitments) (rest_of Challenges x.challenges) (rest_of Answers x.answers) (rest_of Bits x.bits)
    (rest_of Openings x.openings)

-- the bit of round k, and whether the round passes
abbrev pub bit_in : SignOn → ℕ → Bool
bit_in x k = bit_at (rest_of Bits x.bits) k

abbrev pub round_passes : SignOn → ℕ → Bool
round_passes x k = passes_at (system_in x) (vector_in x) (messages_in x) k

-- the first round that does not pass, N where all do
abbrev pub rounds_passed : SignOn → ℕ
rounds_passed x = first_failing (system_in x) (vector_in x) (messages_in x) (rounds_in x)

-- a round of bit 0 that does not pass is FIRST, of bit 1 SECOND
abbrev pub number_of : Bool → ℕ
number_of false = FIRST
number_of true = SECOND

unfoldable pub rounds_check : SignOn → Told
rounds_check x =
    cond (eqb (rounds_passed x) (rounds_in x)) (done (rounds_in x ∷ [])) (refused (number_of (bit_in x (rounds_passed x))) OPENINGS (rounds_passed x))

-- ---- the verdict: accepted N, or the first refusal

unfoldable pub judging : ℕ → SignOn → Told
judging grade x = first (frames_check x) (first (demand (enough grade (rounds_in x)) WEAK NONE 0) (rounds_check x))

-- what the verdict promises; it writes nothing
pub record Judges (grade : ℕ) (x : SignOn) (answer : Result ℕ Refusal) : Type 0 where
  pub says : means_count answer ≡ judging grade x

-- ---- what the code asks of frames before it looks at rounds

pub record SignOnFits (x : SignOn) : Type 0 where
  pub system_there : 6 ≤ length x.system
  pub key_there : 5 ≤ length x.key
  pub commitments_there : 5 ≤ length x.commitments
  pub challenges_there : 5 ≤ length x.challenges
  pub answers_there : 6 ≤ length x.answers
  pub bits_there : 5 ≤ length x.bits
  pub openings_there : 6 ≤ length x.openings
  pub system_fits : SystemFits (rest_of System x.system) (places_in x) (second_of System x.system)
  pub vector_fits : length (vector_in x) ≡ places_in x
  pub messages_fit : MessagesFit (places_in x) (rounds_in x) (messages_in x)
