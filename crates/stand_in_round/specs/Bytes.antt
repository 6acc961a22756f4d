-- The round that the stand-in makes, as bytes (document 01, "One round").
use Rattle.std.specs.Prelude.{List, ◌++◌, ℕ, ◌+◌}
use Rattle.scheme.specs.Round.{Opened}

-- the commitment, W and the permutation
unfoldable pub round_bytes : Opened → List ℕ
round_bytes o = (o.commitment ++ o.answer) ++ o.permutation

-- how many there are
abbrev pub round_size : ℕ → ℕ
round_size n = 32 + n + n
