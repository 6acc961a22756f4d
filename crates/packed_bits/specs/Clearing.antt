-- The bits of N rounds, of bytes as they come: the unused low bits of the last are cleared (document 01, "Drawing from lent bytes").
use Rattle.std.specs.Prelude.{List, ℕ, ◌+◌, ◌-◌, ◌*◌, ◌/◌, ◌^◌, get_or, set}

-- as many bytes as N bits take
abbrev pub packed_size : ℕ → ℕ
packed_size N = (N + 7) / 8

-- x without its lowest `spare` bits
abbrev pub clear_low : ℕ → ℕ → ℕ
clear_low spare x = x / 2 ^ spare * 2 ^ spare

unfoldable pub cleared : ℕ → List ℕ → List ℕ
cleared N bytes = set bytes (packed_size N - 1) (clear_low (8 * packed_size N - N) (get_or bytes (packed_size N - 1) 0))
