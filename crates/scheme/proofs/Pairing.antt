-- The pairing of demand 3: the maps keep what is well formed, undo each other, and show the same.
use mathlib.Core.Path.{◌≡◌, refl, sym, ap, ap₂, ◌∙◌}
use mathlib.Core.Bool.{Bool, true, false}
use mathlib.Core.List.{List}
use Prim.Native.Nat.{ℕ, ◌≤◌}
use lib.ListN.{length}
use Rattle.algebra.specs.Residues.{add_scaled, sub_scaled}
use Rattle.algebra.specs.Permutations.{IsPerm, permute, compose, inverse, unpermute}
use Rattle.algebra.proofs.Permutations.{compose-perm, inverse-perm, permute-unpermute, unpermute-permute, inverse-undoes, undoes-inverse}
use Rattle.algebra.proofs.Vectors.{length-add_scaled, residues-add_scaled, length-sub_scaled, residues-sub_scaled, residues-permute, sub-add, add-sub}
use Rattle.scheme.specs.Round.{System, Sound, ValidKey, Pair, pair, WellFormed, committed1, first_answer, opening, honest, opened, opened_of, stand_in_committed, stand_in_answer, stand_in}
use Rattle.scheme.specs.Pairing.{there, back, Pairing}
use Rattle.scheme.proofs.Laws.{length_under, honest_called}

module _ (s : System) (v π : List ℕ) (ok : Sound s) (key : ValidKey s v π) (c : ℕ) (small : c ≤ s.p) where
  -- V_πσ is as long as a vector of n
  long : (u σ : List ℕ) → length u ≡ s.n → IsPerm s.n σ → length u ≡ length (permute v (compose π σ))
  long u σ e h = e ∙ sym (length_under s.n v (compose π σ) (compose-perm s.n π σ key.perm h))

  -- the σ that πσ came from
  backσ : List ℕ → List ℕ
  backσ θ = compose (inverse s.n π) θ

  backσ-perm : (θ : List ℕ) → IsPerm s.n θ → IsPerm s.n (backσ θ)
  unfolding backσ
  backσ-perm θ h = compose-perm s.n (inverse s.n π) θ (inverse-perm s.n π key.perm) h

  -- a vector put back by σ
  unpermuted : (u σ : List ℕ) → length u ≡ s.n → IsPerm s.n σ → WellFormed s (pair u σ)
      → WellFormed s (pair (unpermute s.n u σ) σ)
  unpermuted u σ e h w =
      record {
        size = length_under s.n u (inverse s.n σ) (inverse-perm s.n σ h);
        residues = residues-permute s.p s.n u (inverse s.n σ) e (inverse-perm s.n σ h) w.residues;
        perm = h;
      }

  well-there : (bit : Bool) (x : Pair) → WellFormed s x → WellFormed s (there s v π c bit x)
  unfolding there first_answer
  well-there false x h =
      let e = length_under s.n x.vector x.permutation h.perm in
      let l = long (permute x.vector x.permutation) x.permutation e h.perm in
      record {
        size = length-add_scaled s.p (permute x.vector x.permutation) c (permute v (compose π x.permutation)) l ∙ e;
        residues = residues-add_scaled s.p (permute x.vector x.permutation) c (permute v (compose π x.permutation)) l ok.some;
        perm = h.perm;
      }
  well-there true x h =
      record {
        size = length_under s.n x.vector x.permutation h.perm;
        residues = residues-permute s.p s.n x.vector x.permutation h.size h.perm h.residues;
        perm = compose-perm s.n π x.permutation key.perm h.perm;
      }

  -- R_σ from W
  taken : (y : Pair) → WellFormed s y → WellFormed s (pair (sub_scaled s.p y.vector c (permute v (compose π y.permutation))) y.permutation)
  taken y h =
      let l = long y.vector y.permutation h.size h.perm in
      record {
        size = length-sub_scaled s.p y.vector c (permute v (compose π y.permutation)) l ∙ h.size;
        residues = residues-sub_scaled s.p y.vector c (permute v (compose π y.permutation)) l ok.some;
        perm = h.perm;
      }

  well-back : (bit : Bool) (y : Pair) → WellFormed s y → WellFormed s (back s v π c bit y)
  unfolding back backσ
  well-back false y h = let t = taken y h in unpermuted _ y.permutation t.size h.perm t
  well-back true y h =
      let b = backσ-perm y.permutation h.perm in
      unpermuted y.vector (backσ y.permutation) h.size b (record { size = h.size; residues = h.residues; perm = b })

  -- ---- there and back

  back-there : (bit : Bool) (x : Pair) → WellFormed s x → back s v π c bit (there s v π c bit x) ≡ x
  unfolding there back first_answer
  back-there false x h =
      let r = x.vector in
      let σ = x.permutation in
      let e = length_under s.n r σ h.perm in
      ap (λ (z : List ℕ). pair z σ)
      (ap (λ (z : List ℕ). unpermute s.n z σ)
      (sub-add s.p c (permute r σ) (permute v (compose π σ)) small (long (permute r σ) σ e h.perm) (residues-permute s.p s.n r σ h.size h.perm h.residues))
      ∙ unpermute-permute s.n σ h.perm r h.size)
  back-there true x h =
      let r = x.vector in
      let σ = x.permutation in
      let e = inverse-undoes s.n π σ key.perm h.perm in
      ap (λ (z : List ℕ). pair (unpermute s.n (permute r σ) z) z) e
      ∙ ap (λ (z : List ℕ). pair z σ) (unpermute-permute s.n σ h.perm r h.size)

  there_back : (bit : Bool) (y : Pair) → WellFormed s y → there s v π c bit (back s v π c bit y) ≡ y
  unfolding there back first_answer backσ
  there_back false y h =
      let u = y.vector in
      let σ = y.permutation in
      let t = taken y h in
      let l = long u σ h.size h.perm in
      ap (λ (z : List ℕ). pair z σ)
      (ap (λ (z : List ℕ). add_scaled s.p z c (permute v (compose π σ)))
      (permute-unpermute s.n σ h.perm (sub_scaled s.p u c (permute v (compose π σ))) t.size)
      ∙ add-sub s.p c u (permute v (compose π σ)) small l h.residues)
  there_back true y h =
      let u = y.vector in
      let θ = y.permutation in
      let b = backσ-perm θ h.perm in
      ap₂ (λ (a b : List ℕ). pair a b)
      (permute-unpermute s.n (backσ θ) b u h.size)
      (undoes-inverse s.n π θ key.perm h.perm)

  -- ---- what a pair shows

  same : (bit : Bool) (x : Pair) → WellFormed s x → opened_of bit (honest s v π c bit x) ≡ stand_in s v c bit (there s v π c bit x)
  same false x h = unfold honest stand_in stand_in_committed stand_in_answer there opening in
      ap (λ (z : List ℕ). opened z (first_answer s.p v π c x) x.permutation) (honest_called s v π ok key c x h small false)
  same true x h = unfold honest stand_in stand_in_committed stand_in_answer there opening committed1 first_answer in refl

  pub pairing : (bit : Bool) → Pairing s v π c bit
  pairing bit =
      record {
        there-well = well-there bit;
        back-well = well-back bit;
        back-there = back-there bit;
        there_back = there_back bit;
        same = same bit;
      }
