-- The stages of a session by document 01's numbers.
use Rattle.std.specs.Prelude.{ℕ}

abbrev pub IDLE : ℕ
IDLE = 0

abbrev pub COMMITTED : ℕ
COMMITTED = 1

abbrev pub ANSWERED : ℕ
ANSWERED = 2

abbrev pub CLOSED : ℕ
CLOSED = 3
