-- One round (document 01, "One round"; source document 003, section 2, decides). The hash is SHA-256, of which nothing is used but its name.
use Rattle.std.specs.Prelude.{◌≡◌, Bool, true, false, List, ◌++◌, ℕ, ◌<◌, length, replicate}
use Rattle.algebra.specs.Lists.{same_bytes}
use Rattle.algebra.specs.Residues.{modulus, Residues, add_scaled, sub_scaled}
use Rattle.algebra.specs.Permutations.{IsPerm, permute, compose}
use Rattle.matrices.specs.Matrices.{product, product_at, SystemFits}
use Rattle.matrices.specs.declared.Matrix.{Matrix}
use Rattle.sha256.specs.Standard.{digest_of}

-- the system that all share: the modulus, the entries of A' by rows, n and m
pub record System : Type 0 where
  pub p : ℕ
  pub entries : List ℕ
  pub n : ℕ
  pub m : ℕ

-- the system of the code
abbrev pub system_of : List ℕ → ℕ → ℕ → System
system_of a n m = record { p = modulus; entries = a; n = n; m = m }

abbrev pub as_system : Matrix → System
as_system a = system_of a.entries.now a.n a.m

pub record Sound (s : System) : Type 0 where
  pub some : 0 < s.p
  pub fits : SystemFits s.entries s.n s.m

-- A X and A_σ W
abbrev pub times : System → List ℕ → List ℕ
times s x = product s.p s.entries s.n s.m x

abbrev pub times_at : System → List ℕ → List ℕ → List ℕ
times_at s σ w = product_at s.p s.entries s.n s.m σ w

-- a key π is valid for V when A V_π is all zero
pub record ValidKey (s : System) (v π : List ℕ) : Type 0 where
  pub perm : IsPerm s.n π
  pub zero : times s (permute v π) ≡ replicate s.m 0

-- a vector and a permutation: the card's choices of a round, R and σ, and what the stand-in is lent
pub record Pair : Type 0 where
  pub vector : List ℕ
  pub permutation : List ℕ

abbrev pub pair : List ℕ → List ℕ → Pair
pair vector permutation = record { vector = vector; permutation = permutation }

-- the choices are R, n residues, and σ
pub record WellFormed (s : System) (x : Pair) : Type 0 where
  pub size : length x.vector ≡ s.n
  pub residues : Residues s.p x.vector
  pub perm : IsPerm s.n x.permutation

-- ---- the card, with the key π

-- what C0 is the hash of: σ and then AR. What C1 is the hash of: πσ and then R_σ
unfoldable pub committed0 : System → Pair → List ℕ
committed0 s x = x.permutation ++ times s x.vector

unfoldable pub committed1 : List ℕ → Pair → List ℕ
committed1 π x = compose π x.permutation ++ permute x.vector x.permutation

-- W = R_σ + c·V_πσ
unfoldable pub first_answer : ℕ → List ℕ → List ℕ → ℕ → Pair → List ℕ
first_answer p v π c x = add_scaled p (permute x.vector x.permutation) c (permute v (compose π x.permutation))

-- for bit 0 the card opens σ, for bit 1 πσ
unfoldable pub opening : List ℕ → Bool → List ℕ → List ℕ
opening π false σ = σ
opening π true σ = compose π σ

-- what an honest round shows
pub record Honest : Type 0 where
  pub zero : List ℕ
  pub one : List ℕ
  pub answer : List ℕ
  pub permutation : List ℕ

unfoldable pub honest : System → List ℕ → List ℕ → ℕ → Bool → Pair → Honest
honest s v π c bit x =
    record {
      zero = digest_of (committed0 s x);
      one = digest_of (committed1 π x);
      answer = first_answer s.p v π c x;
      permutation = opening π bit x.permutation;
    }

-- ---- the register

-- what the hash is taken of when a round is opened: for bit 0 of σ and A_σ W, for bit 1 of τ and W - c·V_τ
unfoldable pub called_for : System → List ℕ → ℕ → Bool → List ℕ → List ℕ → List ℕ
called_for s v c false θ w = θ ++ times_at s θ w
called_for s v c true θ w = θ ++ sub_scaled s.p w c (permute v θ)

-- what is opened of a round: the commitment of its bit, the first answer and the permutation. The other commitment is not in it.
pub record Opened : Type 0 where
  pub commitment : List ℕ
  pub answer : List ℕ
  pub permutation : List ℕ

abbrev pub opened : List ℕ → List ℕ → List ℕ → Opened
opened commitment answer permutation = record { commitment = commitment; answer = answer; permutation = permutation }

-- a round passes when that hash is its commitment
unfoldable pub passes : System → List ℕ → ℕ → Bool → Opened → Bool
passes s v c bit o = same_bytes (digest_of (called_for s v c bit o.permutation o.answer)) o.commitment

-- what is opened of an honest round
abbrev pub commitment_of : Bool → Honest → List ℕ
commitment_of false h = h.zero
commitment_of true h = h.one

abbrev pub opened_of : Bool → Honest → Opened
opened_of bit h = opened (commitment_of bit h) h.answer h.permutation

-- ---- the stand-in, with no key: a lent vector and permutation

-- what its commitment is the hash of: for bit 0 what passes, for bit 1 the permutation and the vector
unfoldable pub stand_in_committed : System → List ℕ → ℕ → Bool → Pair → List ℕ
stand_in_committed s v c false y = called_for s v c false y.permutation y.vector
stand_in_committed s v c true y = y.permutation ++ y.vector

-- its first answer: for bit 0 the vector, for bit 1 the vector + c·V_τ
unfoldable pub stand_in_answer : ℕ → List ℕ → ℕ → Bool → Pair → List ℕ
stand_in_answer p v c false y = y.vector
stand_in_answer p v c true y = add_scaled p y.vector c (permute v y.permutation)

unfoldable pub stand_in : System → List ℕ → ℕ → Bool → Pair → Opened
stand_in s v c bit y = opened (digest_of (stand_in_committed s v c bit y)) (stand_in_answer s.p v c bit y) y.permutation
