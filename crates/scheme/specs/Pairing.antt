-- Demand 3, for one round: for a valid key and a challenge and bit fixed beforehand, the card's choices pair off one to one with the stand-in's,
-- and each pair gives the same opened commitment, first answer and opened permutation. Nothing is said of the commitment that stays closed,
-- and nothing is assumed of the hash.
use Rattle.std.specs.Prelude.{◌≡◌, Bool, true, false, List, ℕ}
use Rattle.algebra.specs.Residues.{sub_scaled}
use Rattle.algebra.specs.Permutations.{permute, compose, inverse, unpermute}
use Rattle.scheme.specs.Round.{System, Pair, pair, WellFormed, first_answer, honest, opened_of, stand_in}

-- from the card's choices (R, σ) to the stand-in's. Bit 0: (R_σ + c·V_πσ, σ). Bit 1: (R_σ, πσ)
unfoldable pub there : System → List ℕ → List ℕ → ℕ → Bool → Pair → Pair
there s v π c false x = pair (first_answer s.p v π c x) x.permutation
there s v π c true x = pair (permute x.vector x.permutation) (compose π x.permutation)

-- from the stand-in's (U, θ) to the card's. Bit 0: σ = θ, and R_σ = U - c·V_πσ. Bit 1: σ = π⁻¹θ, and R_σ = U
unfoldable pub back : System → List ℕ → List ℕ → ℕ → Bool → Pair → Pair
back s v π c false y =
    record {
      vector = unpermute s.n (sub_scaled s.p y.vector c (permute v (compose π y.permutation))) y.permutation;
      permutation = y.permutation;
    }
back s v π c true y =
    record {
      vector = unpermute s.n y.vector (compose (inverse s.n π) y.permutation);
      permutation = compose (inverse s.n π) y.permutation;
    }

pub record Pairing (s : System) (v π : List ℕ) (c : ℕ) (bit : Bool) : Type 0 where
  pub there-well : (x : Pair) → WellFormed s x → WellFormed s (there s v π c bit x)
  pub back-well : (y : Pair) → WellFormed s y → WellFormed s (back s v π c bit y)
  pub back-there : (x : Pair) → WellFormed s x → back s v π c bit (there s v π c bit x) ≡ x
  pub there_back : (y : Pair) → WellFormed s y → there s v π c bit (back s v π c bit y) ≡ y
  pub same : (x : Pair) → WellFormed s x → opened_of bit (honest s v π c bit x) ≡ stand_in s v c bit (there s v π c bit x)
