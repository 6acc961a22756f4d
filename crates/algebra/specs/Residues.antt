-- Residues modulo p, and vectors of them (document 01, "The numbers").
use Rattle.std.specs.Prelude.{◌≡◌, ℕ, ◌+◌, ◌-◌, ◌*◌, ◌%◌, ◌<◌, length, get_or}
use mathlib.Core.List.{List, zip_with}

-- the p of the code
abbrev pub modulus : ℕ
modulus = 251

-- each entry is a residue
abbrev pub Residues : ℕ → List ℕ → Type 0
Residues p x = (j : ℕ) → j < length x → get_or x j 0 < p

-- -x, for a residue x: it is 0 where x is 0
unfoldable pub negative : ℕ → ℕ → ℕ
negative p x = (p - x) % p

-- r + c·v
abbrev pub plus_times : ℕ → ℕ → ℕ → ℕ → ℕ
plus_times p c r v = (r + c * v) % p

-- R + c·V, entry by entry
unfoldable pub add_scaled : ℕ → List ℕ → ℕ → List ℕ → List ℕ
add_scaled p r c v = zip_with (plus_times p c) r v

-- W - c·V, which is W + (-c)·V
unfoldable pub sub_scaled : ℕ → List ℕ → ℕ → List ℕ → List ℕ
sub_scaled p w c v = add_scaled p w (negative p c) v

-- p is a prime: above 1, and nothing between 1 and p divides it
pub record Prime (p : ℕ) : Type 0 where
  pub above : 1 < p
  pub whole : (d : ℕ) → 1 < d → d < p → p % d ≡ 0 → ⊥
