-- Laws of a round: an honest round passes, and so does the stand-in's.
use mathlib.Core.Path.{◌≡◌, refl, sym, ap, ◌∙◌}
use mathlib.Core.Bool.{Bool, true, false}
use mathlib.Core.List.{List, ◌++◌}
use Prim.Native.Nat.{ℕ, ◌≤◌}
use lib.ListN.{length, get_or, get_or-replicate}
use Rattle.algebra.specs.Lists.{same_bytes}
use Rattle.algebra.specs.Residues.{add_scaled, sub_scaled}
use Rattle.algebra.specs.Permutations.{IsPerm, permute, compose}
use Rattle.algebra.proofs.Lists.{same_self, same_true}
use Rattle.algebra.proofs.Permutations.{length-permute, permute-compose, compose-perm}
use Rattle.algebra.proofs.Vectors.{residues-permute, permute-add_scaled, add-zeros, sub-add}
use Rattle.matrices.proofs.Matrices.{length-product, residues-product, product-reindex, product_linear}
use Rattle.sha256.specs.Standard.{digest_of}
use Rattle.scheme.specs.Round.{System, Sound, times, times_at, ValidKey, Pair, WellFormed, committed0, committed1, first_answer, opening, honest, called_for, Opened, passes, commitment_of, opened_of, stand_in_committed, stand_in_answer, stand_in}

-- a round passes exactly when its commitment is the hash called for
module _ (s : System) (v : List ℕ) (c : ℕ) (bit : Bool) (o : Opened) where
  pub passes← : o.commitment ≡ digest_of (called_for s v c bit o.permutation o.answer) → passes s v c bit o ≡ true
  unfolding passes
  passes← e = ap (same_bytes (digest_of (called_for s v c bit o.permutation o.answer))) e ∙ same_self _

  pub passes→ : passes s v c bit o ≡ true → o.commitment ≡ digest_of (called_for s v c bit o.permutation o.answer)
  unfolding passes
  passes→ e = sym (same_true (digest_of (called_for s v c bit o.permutation o.answer)) o.commitment e)

-- a vector under a permutation of n has n entries
pub length_under : (n : ℕ) (x θ : List ℕ) → IsPerm n θ → length (permute x θ) ≡ n
length_under n x θ h = length-permute x θ ∙ h.len

-- ---- an honest round

-- what it shows
pub honest-shows : (s : System) (v π : List ℕ) (c : ℕ) (bit : Bool) (x : Pair)
    → honest s v π c bit x
    ≡ record { zero = digest_of (committed0 s x); one = digest_of (committed1 π x); answer = first_answer s.p v π c x; permutation = opening π bit x.permutation }
unfolding honest
honest-shows s v π c bit x = refl

module _ (s : System) (v π : List ℕ) (ok : Sound s) (key : ValidKey s v π) (c : ℕ) (x : Pair) (well : WellFormed s x) where
  long : length (permute x.vector x.permutation) ≡ length (permute v (compose π x.permutation))
  long =
      length_under s.n x.vector x.permutation well.perm
      ∙ sym (length_under s.n v (compose π x.permutation) (compose-perm s.n π x.permutation key.perm well.perm))

  -- A_σ W = AR
  pub honest-zero : times_at s x.permutation (first_answer s.p v π c x) ≡ times s x.vector
  unfolding first_answer
  honest-zero =
      let r = x.vector in
      let σ = x.permutation in
      let w = permute v π in
      let lw = length_under s.n v π key.perm in
      ap (times_at s σ)
      (ap (add_scaled s.p (permute r σ) c) (sym (permute-compose s.n v π σ key.perm.len well.perm))
      ∙ sym (permute-add_scaled s.p s.n c r w σ well.size lw well.perm))
      ∙ product-reindex s.p s.entries s.n s.m ok.fits σ (add_scaled s.p r c w) well.perm
      ∙ product_linear s.p s.entries s.n s.m ok.fits c r w well.size lw
      ∙ add-zeros s.p c (times s r) (times s w) (length-product s.p s.entries s.n s.m r ∙ sym (length-product s.p s.entries s.n s.m w))
      (residues-product s.p s.entries s.n s.m r ok.some)
      (λ i l. ap (λ (z : List ℕ). get_or z i 0) key.zero ∙ get_or-replicate s.m i 0 0 (rw (length-product s.p s.entries s.n s.m w) at l))

  -- W - c·V_πσ = R_σ
  pub honest-one : c ≤ s.p → sub_scaled s.p (first_answer s.p v π c x) c (permute v (compose π x.permutation)) ≡ permute x.vector x.permutation
  unfolding first_answer
  honest-one small =
      sub-add s.p c (permute x.vector x.permutation) (permute v (compose π x.permutation)) small long
      (residues-permute s.p s.n x.vector x.permutation well.size well.perm well.residues)

  -- with a valid key an honest round passes, for every challenge and both bits
  pub honest_called : c ≤ s.p → (bit : Bool)
      → commitment_of bit (honest s v π c bit x) ≡ digest_of (called_for s v c bit (opening π bit x.permutation) (first_answer s.p v π c x))
  unfolding honest called_for opening committed0 committed1
  honest_called small false = ap (λ (z : List ℕ). digest_of (x.permutation ++ z)) (sym honest-zero)
  honest_called small true = ap (λ (z : List ℕ). digest_of (compose π x.permutation ++ z)) (sym (honest-one small))

  pub honest-passes : c ≤ s.p → (bit : Bool) → passes s v c bit (opened_of bit (honest s v π c bit x)) ≡ true
  unfolding honest
  honest-passes small bit = passes← s v c bit (opened_of bit (honest s v π c bit x)) (honest_called small bit)

-- ---- the stand-in's round passes, with no key

pub stand_in_passes : (s : System) (v : List ℕ) (c : ℕ) → c ≤ s.p → (bit : Bool) (y : Pair) → WellFormed s y → passes s v c bit (stand_in s v c bit y) ≡ true
unfolding stand_in stand_in_committed stand_in_answer
stand_in_passes s v c small false y well = passes← s v c false (stand_in s v c false y) refl
stand_in_passes s v c small true y well = passes← s v c true (stand_in s v c true y) (called y well)
  where
    called : (y : Pair) → WellFormed s y
        → digest_of (y.permutation ++ y.vector) ≡ digest_of (called_for s v c true y.permutation (add_scaled s.p y.vector c (permute v y.permutation)))
    called y well = unfold called_for in
        ap (λ (z : List ℕ). digest_of (y.permutation ++ z))
        (sym (sub-add s.p c y.vector (permute v y.permutation) small (well.size ∙ sym (length_under s.n v y.permutation well.perm)) well.residues))
