-- The choices of a card: for each round R, n residues, and then σ (document 01, "The card's three calls").
use Rattle.std.specs.Prelude.{List, ℕ, ◌+◌, ◌*◌, eqb, length, take, drop}
use Rattle.refusals.specs.Number.{SHAPE}
use Rattle.refusals.specs.Buffer.{CHOICES}
use Rattle.refusals.specs.Told.{Told, first, first_below, demand}
use Rattle.algebra.specs.Lists.{stretch}
use Rattle.bodies.specs.Bodies.{values, permutations}

-- the choices of one round
abbrev pub choice_size : ℕ → ℕ
choice_size n = n + n

abbrev pub choice_of : List ℕ → ℕ → ℕ → List ℕ
choice_of choices n k = stretch (choice_size n) k choices

-- R and σ in the choices of one round
unfoldable pub vector_of : ℕ → List ℕ → List ℕ
vector_of n choice = take n choice

unfoldable pub permutation_of : ℕ → List ℕ → List ℕ
permutation_of n choice = take n (drop n choice)

-- one round, whose first byte is at the offset `at`: VALUE, then PERM
unfoldable pub choice_check : ℕ → ℕ → List ℕ → Told
choice_check n at choice = first (values CHOICES at (vector_of n choice)) (permutations CHOICES n (at + n) 1 (permutation_of n choice))

abbrev pub choice_at : ℕ → List ℕ → ℕ → Told
choice_at n choices k = choice_check n (k * choice_size n) (choice_of choices n k)

-- the length, then the rounds in order
unfoldable pub choices_check : ℕ → ℕ → List ℕ → Told
choices_check n N choices =
    first (demand (eqb (length choices) (N * choice_size n)) SHAPE CHOICES 0)
    (first_below N (choice_at n choices))
