-- The table of kinds (document 01, "Frames" and "The numbers").
use Rattle.std.specs.Prelude.{◌≡◌, ◌⊎◌, Bool, ◌&&◌, ℕ, ◌+◌, ◌-◌, ◌*◌, ◌/◌, ◌≤◌, ◌<◌, leb, Result, MatchResult}
use Rattle.refusals.specs.Buffer.{SYSTEM, PUBLIC, SECRET, COMMITMENTS, CHALLENGES, ANSWERS, BITS, OPENINGS}
use Rattle.algebra.specs.Permutations.{longest}
use Rattle.kinds.specs.declared.Kind.{Kind}
use Rattle.kinds.specs.declared.Kind.TheVariants.{System, Public, Secret, Commitments, Challenges, Answers, Bits, Openings}
use Rattle.kinds.specs.declared.UnknownKind.{UnknownKind}
use Rattle.kinds.specs.declared.Limits.{Limits}
use Rattle.kinds.specs.declared.Expected.{Expected}

-- from the least to the greatest
abbrev pub limits : ℕ → ℕ → Limits
limits least greatest = record { least = least; greatest = greatest }

abbrev pub within : Limits → ℕ → Bool
within l x = leb l.least x && leb x l.greatest

-- N is at most this
abbrev pub most_rounds : ℕ
most_rounds = 64

-- what is asked of a frame alone: n is 2 to 64, N is 1 to 64
abbrev pub alone : Expected
alone = record { places = limits 2 longest; rounds = limits 1 most_rounds }

-- what is asked inside a call: once n is known, and once N is known too
abbrev pub of_places : ℕ → Expected
of_places n = record { places = limits n n; rounds = alone.rounds }

abbrev pub exactly : ℕ → ℕ → Expected
exactly n N = record { places = limits n n; rounds = limits N N }

-- what is asked inside a call asks no more of the code than a frame alone does
pub record Modest (e : Expected) : Type 0 where
  pub places : e.places.greatest ≤ longest
  pub rounds : e.rounds.greatest ≤ most_rounds

-- a kind: its number, version and buffer; where the rest of the body starts, after one number or two; the limits of the first number, and of
-- the second by the first (0 where there is none); and how many bytes the rest has by the numbers
pub record Row : Type 0 where
  pub number : ℕ
  pub version : ℕ
  pub buffer : ℕ
  pub start : ℕ
  pub first : Expected → Limits
  pub second : Expected → ℕ → Limits
  pub size : ℕ → ℕ → ℕ

abbrev row : ℕ → ℕ → ℕ → ℕ → (Expected → Limits) → (Expected → ℕ → Limits) → (ℕ → ℕ → ℕ) → Row
row number version buffer start first second size =
    record { number = number; version = version; buffer = buffer; start = start; first = first; second = second; size = size }

abbrev places : Expected → Limits
places e = e.places

abbrev rounds : Expected → Limits
rounds e = e.rounds

abbrev below : Expected → ℕ → Limits
below e n = limits 1 (n - 1)

abbrev alike : Expected → ℕ → Limits
alike e n = e.rounds

abbrev none : Expected → ℕ → Limits
none e a = limits 0 0

-- the bytes of C0 and C1, the commitments of a round
abbrev pub pair_size : ℕ
pair_size = 64

abbrev pub table : Kind → Row
table System = row 1 1 SYSTEM 6 places below (λ (n m : ℕ). m * (n - m))
table Public = row 2 1 PUBLIC 5 places none (λ (n z : ℕ). n)
table Secret = row 3 1 SECRET 5 places none (λ (n z : ℕ). n)
table Commitments = row 4 1 COMMITMENTS 5 rounds none (λ (N z : ℕ). pair_size * N)
table Challenges = row 5 1 CHALLENGES 5 rounds none (λ (N z : ℕ). N)
table Answers = row 6 1 ANSWERS 6 places alike (λ (n N : ℕ). n * N)
table Bits = row 7 1 BITS 5 rounds none (λ (N z : ℕ). (N + 7) / 8)
table Openings = row 8 1 OPENINGS 6 places alike (λ (n N : ℕ). n * N)

-- whether the numbers a and b are within the limits of their kind
abbrev pub fits : Kind → Expected → ℕ → ℕ → Bool
fits k e a b = within ((table k).first e) a && within ((table k).second e a) b

-- the bytes of a frame with the numbers a and b
abbrev pub frame_size : Kind → ℕ → ℕ → ℕ
frame_size k a b = (table k).start + (table k).size a b

-- the result is the kind of this number, or an error with a number that is no kind's
abbrev pub Numbers : ℕ → Result Kind UnknownKind → Type 0
Numbers number r = MatchResult r (λ k. (table k).number ≡ number) (λ e. (e.0 ≡ number) × ∥ (number ≡ 0) ⊎ (8 < number) ∥₁)
