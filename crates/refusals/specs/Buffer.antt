-- The buffers by document 01's numbers. NONE is named where no buffer is at fault.
use Rattle.std.specs.Prelude.{ℕ}
use Rattle.refusals.specs.declared.Buffer.{Buffer}
use Rattle.refusals.specs.declared.Buffer.TheVariants.{NoBuffer, System, Public, Secret, Choices, Commitments, Challenges, Answers, Bits, Openings, Random, Output}

abbrev pub NONE : ℕ
NONE = 0

abbrev pub SYSTEM : ℕ
SYSTEM = 1

abbrev pub PUBLIC : ℕ
PUBLIC = 2

abbrev pub SECRET : ℕ
SECRET = 3

abbrev pub CHOICES : ℕ
CHOICES = 4

abbrev pub COMMITMENTS : ℕ
COMMITMENTS = 5

abbrev pub CHALLENGES : ℕ
CHALLENGES = 6

abbrev pub ANSWERS : ℕ
ANSWERS = 7

abbrev pub BITS : ℕ
BITS = 8

abbrev pub OPENINGS : ℕ
OPENINGS = 9

abbrev pub RANDOM : ℕ
RANDOM = 10

abbrev pub OUTPUT : ℕ
OUTPUT = 11

-- the number of a buffer
abbrev pub buffer_number : Buffer → ℕ
buffer_number NoBuffer = NONE
buffer_number System = SYSTEM
buffer_number Public = PUBLIC
buffer_number Secret = SECRET
buffer_number Choices = CHOICES
buffer_number Commitments = COMMITMENTS
buffer_number Challenges = CHALLENGES
buffer_number Answers = ANSWERS
buffer_number Bits = BITS
buffer_number Openings = OPENINGS
buffer_number Random = RANDOM
buffer_number Output = OUTPUT
