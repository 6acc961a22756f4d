-- What an honest card sends in N rounds, and the first round that does not pass.
use Rattle.std.specs.Prelude.{Bool, not, List, ◌++◌, ℕ, get_or}
use Rattle.algebra.specs.Lists.{joined, first_from}
use Rattle.sha256.specs.Standard.{digest_of}
use Rattle.packed_bits.specs.PackedBits.{bit_at}
use Rattle.scheme.specs.Round.{System, committed0, committed1, first_answer, opening, passes}
use Rattle.rounds.specs.Layout.{pair_at, Messages, challenge_at, opened_at}

-- what round k adds to each message: C0 and C1; W; the opened permutation
abbrev pub commitments_at : System → List ℕ → List ℕ → ℕ → List ℕ
commitments_at s π choices k = digest_of (committed0 s (pair_at s.n choices k)) ++ digest_of (committed1 π (pair_at s.n choices k))

abbrev pub answer_at : ℕ → ℕ → List ℕ → List ℕ → List ℕ → List ℕ → ℕ → List ℕ
answer_at p n v π challenges choices k = first_answer p v π (get_or challenges k 0) (pair_at n choices k)

abbrev pub opening_at : ℕ → List ℕ → List ℕ → List ℕ → ℕ → List ℕ
opening_at n π bits choices k = opening π (bit_at bits k) (pair_at n choices k).permutation

-- the messages of an honest card
abbrev pub honest_run : System → List ℕ → List ℕ → ℕ → List ℕ → List ℕ → List ℕ → Messages
honest_run s v π N choices challenges bits =
    record {
      commitments = joined N (commitments_at s π choices);
      challenges = challenges;
      answers = joined N (answer_at s.p s.n v π challenges choices);
      bits = bits;
      openings = joined N (opening_at s.n π bits choices);
    }

-- whether round k passes, and does not
unfoldable pub passes_at : System → List ℕ → Messages → ℕ → Bool
passes_at s v x k = passes s v (challenge_at x k) (bit_at x.bits k) (opened_at s.n x k)

abbrev pub fails_at : System → List ℕ → Messages → ℕ → Bool
fails_at s v x k = not (passes_at s v x k)

-- the first of N rounds that does not pass; N where all do, so that it is also the count of rounds passed
unfoldable pub first_failing : System → List ℕ → Messages → ℕ → ℕ
first_failing s v x N = first_from N 0 (fails_at s v x)
