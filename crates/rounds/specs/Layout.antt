-- Where round k lies in the choices and in each message (source document 004, definition 3.2).
use Rattle.std.specs.Prelude.{◌≡◌, Bool, true, false, List, ℕ, ◌+◌, ◌*◌, ◌<◌, ◌≤◌, length, get_or, take, drop}
use Rattle.algebra.specs.Lists.{stretch}
use Rattle.algebra.specs.Residues.{modulus, Residues}
use Rattle.algebra.specs.Permutations.{longest, IsPerm}
use Rattle.packed_bits.specs.PackedBits.{bit_at}
use Rattle.kinds.specs.Kinds.{pair_size}
use Rattle.readers.specs.Choosing.{choice_size, choice_of, vector_of, permutation_of}
use Rattle.scheme.specs.Round.{System, Pair, pair, WellFormed, Opened, opened}

-- R and σ of round k
abbrev pub pair_at : ℕ → List ℕ → ℕ → Pair
pair_at n choices k = pair (vector_of n (choice_of choices n k)) (permutation_of n (choice_of choices n k))

-- every round's choices are well formed
pub record AllWell (s : System) (N : ℕ) (choices : List ℕ) : Type 0 where
  pub size : length choices ≡ N * choice_size s.n
  pub each : (k : ℕ) → k < N → WellFormed s (pair_at s.n choices k)

-- what the code asks of a vector, a key and the choices: of round k, and of N rounds
pub record RoundFits (n : ℕ) (v π choices : List ℕ) (k : ℕ) : Type 0 where
  pub most : n ≤ longest
  pub few : k < 256
  pub vector : length v ≡ n
  pub key : IsPerm n π
  pub there : k * choice_size n + choice_size n ≤ length choices
  pub perm : IsPerm n (pair_at n choices k).permutation

pub record CardFits (n N : ℕ) (v π choices : List ℕ) : Type 0 where
  pub few : N < 257
  pub each : (k : ℕ) → k < N → RoundFits n v π choices k

-- the bodies of the five messages, without their numbers
pub record Messages : Type 0 where
  pub commitments : List ℕ
  pub challenges : List ℕ
  pub answers : List ℕ
  pub bits : List ℕ
  pub openings : List ℕ

abbrev pub messages : List ℕ → List ℕ → List ℕ → List ℕ → List ℕ → Messages
messages commitments challenges answers bits openings =
    record { commitments = commitments; challenges = challenges; answers = answers; bits = bits; openings = openings }

-- what the code asks of the messages of N rounds: their sizes, challenges that are residues, openings that are permutations
pub record MessagesFit (n N : ℕ) (x : Messages) : Type 0 where
  pub few : N < 256
  pub commitments : length x.commitments ≡ N * pair_size
  pub challenges : length x.challenges ≡ N
  pub residues : Residues modulus x.challenges
  pub answers : length x.answers ≡ N * n
  pub bits : N ≤ 8 * length x.bits
  pub openings : length x.openings ≡ N * n
  pub perms : (k : ℕ) → k < N → IsPerm n (stretch n k x.openings)

-- C0 or C1 of the two of a round
unfoldable pub half : Bool → List ℕ → List ℕ
half false both = take 32 both
half true both = take 32 (drop 32 both)

-- where it starts among the commitments
unfoldable pub half_start : Bool → ℕ → ℕ
half_start false k = k * pair_size
half_start true k = k * pair_size + 32

abbrev pub challenge_at : Messages → ℕ → ℕ
challenge_at x k = get_or x.challenges k 0

-- what is opened of round k
unfoldable pub opened_at : ℕ → Messages → ℕ → Opened
opened_at n x k = opened (half (bit_at x.bits k) (stretch pair_size k x.commitments)) (stretch n k x.answers) (stretch n k x.openings)
