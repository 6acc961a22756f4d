-- What the code may rest on once the checks are past, as plain facts.
use Rattle.std.specs.Prelude.{◌≡◌, List, ℕ, ◌≤◌, length}
use Rattle.algebra.specs.Residues.{modulus, Residues}
use Rattle.algebra.specs.Permutations.{IsPerm}
use Rattle.matrices.specs.Matrices.{SystemFits}
use Rattle.kinds.specs.Kinds.{most_rounds}
use Rattle.scheme.specs.Round.{System, system_of, ValidKey}
use Rattle.rounds.specs.Layout.{AllWell}
use Rattle.card_rules.specs.Keys.{Keys, places_of, rows_of, entries_of, public_of, secret_of}

-- of the frames
pub record KeysFit (k : Keys) : Type 0 where
  pub system_there : 6 ≤ length k.system
  pub public_there : 5 ≤ length k.public
  pub secret_there : 5 ≤ length k.secret
  pub system : SystemFits (entries_of k) (places_of k) (rows_of k)
  pub vector : length (public_of k) ≡ places_of k
  pub residues : Residues modulus (public_of k)
  pub perm : IsPerm (places_of k) (secret_of k)

-- the system of a round
abbrev pub matrix_of : Keys → System
matrix_of k = system_of (entries_of k) (places_of k) (rows_of k)

-- of all that is lent for N rounds
pub record LentFits (k : Keys) (N : ℕ) (choices : List ℕ) : Type 0 where
  pub keys : KeysFit k
  pub some : 1 ≤ N
  pub most : N ≤ most_rounds
  pub valid : ValidKey (matrix_of k) (public_of k) (secret_of k)
  pub well : AllWell (matrix_of k) N choices
