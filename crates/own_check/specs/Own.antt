-- The card's own check: commitments and first answers formed anew, and looked at as the register would (document 01, "The card's three calls").
use Rattle.std.specs.Prelude.{Bool, true, false, not, List, ℕ, get_or}
use Rattle.algebra.specs.Lists.{first_from}
use Rattle.packed_bits.specs.PackedBits.{bit_at}
use Rattle.scheme.specs.Round.{System, Pair, committed0, committed1, honest, opened_of, passes}
use Rattle.rounds.specs.Layout.{pair_at}

-- what the commitment of a bit is the hash of
unfoldable pub committed : System → List ℕ → Bool → Pair → List ℕ
committed s π false x = committed0 s x
committed s π true x = committed1 π x

-- whether the register passes a round of this card
unfoldable pub own_passes : System → List ℕ → List ℕ → ℕ → Bool → Pair → Bool
own_passes s v π c bit x = passes s v c bit (opened_of bit (honest s v π c bit x))

abbrev pub own_fails : System → List ℕ → List ℕ → List ℕ → List ℕ → List ℕ → ℕ → Bool
own_fails s v π choices challenges bits k = not (own_passes s v π (get_or challenges k 0) (bit_at bits k) (pair_at s.n choices k))

-- the first of N rounds that it does not pass; N where it passes all
unfoldable pub own_failing : System → List ℕ → List ℕ → ℕ → List ℕ → List ℕ → List ℕ → ℕ
own_failing s v π N choices challenges bits = first_from N 0 (own_fails s v π choices challenges bits)
