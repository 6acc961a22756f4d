-- The frames of system, public key and secret key: what is asked of them, and the key check (document 01, "The numbers" and "Refusal numbers").
use Rattle.refusals.specs.declared.Refusal.{Refusal}
use Rattle.std.specs.Prelude.{◌≡◌, List, ℕ, eqb, ⊤, Result}
use Rattle.refusals.specs.Number.{KEY}
use Rattle.refusals.specs.Buffer.{SECRET}
use Rattle.refusals.specs.Told.{Told, fine, means, first, demand}
use Rattle.algebra.specs.Residues.{modulus}
use Rattle.matrices.specs.Matrices.{key_fault}
use Rattle.kinds.specs.declared.Kind.TheVariants.{System, Public, Secret}
use Rattle.kinds.specs.Kinds.{alone, of_places}
use Rattle.frames.specs.Reading.{first_of, second_of, rest_of, reading}

-- the frames of kinds 1 to 3
pub record Keys : Type 0 where
  pub system : List ℕ
  pub public : List ℕ
  pub secret : List ℕ

abbrev pub keys : List ℕ → List ℕ → List ℕ → Keys
keys system public secret = record { system = system; public = public; secret = secret }

-- n, m, the entries of A', V and π
abbrev pub places_of : Keys → ℕ
places_of k = first_of k.system

abbrev pub rows_of : Keys → ℕ
rows_of k = second_of System k.system

abbrev pub entries_of : Keys → List ℕ
entries_of k = rest_of System k.system

abbrev pub public_of : Keys → List ℕ
public_of k = rest_of Public k.public

abbrev pub secret_of : Keys → List ℕ
secret_of k = rest_of Secret k.secret

-- buffers 1, 2, 3; n is the system's
unfoldable pub keys_check : Keys → Told
keys_check k =
    first (reading System alone k.system)
    (first (reading Public (of_places (places_of k)) k.public)
    (first (reading Secret (of_places (places_of k)) k.secret) fine))

-- the first row of A V_π that is not zero; m where every row is
abbrev pub fault_of : Keys → ℕ
fault_of k = key_fault modulus (entries_of k) (places_of k) (rows_of k) (public_of k) (secret_of k)

-- KEY
unfoldable pub valid_check : Keys → Told
valid_check k = demand (eqb (fault_of k) (rows_of k)) KEY SECRET (fault_of k)

-- the key check
unfoldable pub key_check : Keys → Told
key_check k = first (keys_check k) (valid_check k)

-- what the key check promises; it writes nothing
pub record ChecksKey (k : Keys) (answer : Result ⊤ Refusal) : Type 0 where
  pub says : means answer ≡ key_check k
