-- What the stand-in's call tells and writes (document 01, "One round" and "Refusal numbers").
use Rattle.refusals.specs.declared.Refusal.{Refusal}
use Rattle.std.specs.Prelude.{◌≡◌, List, [], ◌∷◌, ℕ, eqb, ltb, leb, length, Result}
use Rattle.refusals.specs.Number.{SHAPE, ROOM}
use Rattle.refusals.specs.Buffer.{NONE, OUTPUT}
use Rattle.refusals.specs.Told.{Told, done, first, demand, means_count}
use Rattle.algebra.specs.Residues.{modulus}
use Rattle.kinds.specs.declared.Kind.TheVariants.{System, Public}
use Rattle.kinds.specs.Kinds.{alone, of_places}
use Rattle.frames.specs.Reading.{first_of, second_of, rest_of, reading}
use Rattle.writers.specs.Writing.{out_after}
use Rattle.readers.specs.Choosing.{vector_of, permutation_of, choices_check}
use Rattle.scheme.specs.Round.{system_of, pair, Opened, stand_in}
use Rattle.stand_in_round.specs.Bytes.{round_size, round_bytes}

-- the numbers, then the frames, then the vector and the permutation, lent as one round of choices is
unfoldable pub lent_check : ℕ → ℕ → List ℕ → List ℕ → List ℕ → Told
lent_check c bit system key lent =
    first (demand (ltb c modulus) SHAPE NONE 0)
    (first (demand (ltb bit 2) SHAPE NONE 0)
    (first (reading System alone system)
    (first (reading Public (of_places (first_of system)) key)
    (choices_check (first_of system) 1 lent))))

-- then ROOM; a success tells the bytes written
unfoldable pub standing : ℕ → ℕ → List ℕ → List ℕ → List ℕ → ℕ → Told
standing c bit system key lent room =
    first (lent_check c bit system key lent)
    (first (demand (leb (round_size (first_of system)) room) ROOM OUTPUT (round_size (first_of system)))
    (done (round_size (first_of system) ∷ [])))

-- the round of the values lent
unfoldable pub stand_in_of : ℕ → ℕ → List ℕ → List ℕ → List ℕ → Opened
stand_in_of c bit system key lent =
    stand_in (system_of (rest_of System system) (first_of system) (second_of System system)) (rest_of Public key) c (eqb bit 1)
    (pair (vector_of (first_of system) lent) (permutation_of (first_of system) lent))

-- what the stand-in promises: its answer, and every byte of the output
pub record StandsIn (c bit : ℕ) (system key lent out : List ℕ) (answer : Result ℕ Refusal) (after : List ℕ) : Type 0 where
  pub says : means_count answer ≡ standing c bit system key lent (length out)
  pub writes : after ≡ out_after answer (round_bytes (stand_in_of c bit system key lent)) out
