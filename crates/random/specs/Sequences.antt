-- Drawings one after the other: each starts at the place of the lent bytes where the one before ended.
use Rattle.std.specs.Prelude.{List, [], ◌∷◌, ◌++◌, ℕ, zero, suc}
use Rattle.algebra.specs.Residues.{modulus}
use Rattle.random.specs.Drawings.{draw_below, Drawing, drew, ran_out, with}

-- the list drawn; nothing where the bytes ran out
abbrev pub list_of : Drawing → List ℕ
list_of (drew list at) = list
list_of ran_out = []

-- what is made of the list drawn
abbrev pub made : (List ℕ → List ℕ) → Drawing → Drawing
made f (drew list at) = drew (f list) at
made f ran_out = ran_out

-- a drawing and then another from the place where it ended, the lists joined
abbrev pub and_then : Drawing → (ℕ → Drawing) → Drawing
and_then (drew list at) next = made (λ (more : List ℕ). list ++ more) (next at)
and_then ran_out next = ran_out

-- n times the same
unfoldable pub many_times : ℕ → (ℕ → Drawing) → ℕ → Drawing
many_times zero next at = drew [] at
many_times (suc n) next at = and_then (many_times n next at) next

-- a byte below the limit
unfoldable pub one_below : ℕ → List ℕ → ℕ → Drawing
one_below limit random at = with (draw_below limit random at) (λ (x next : ℕ). drew (x ∷ []) next)

-- n of them
abbrev pub some_below : ℕ → ℕ → List ℕ → ℕ → Drawing
some_below limit n random at = many_times n (one_below limit random) at

-- every byte is below this
abbrev pub byte_limit : ℕ
byte_limit = 256

-- n residues
abbrev pub draw_residues : ℕ → List ℕ → ℕ → Drawing
draw_residues n random at = some_below modulus n random at
