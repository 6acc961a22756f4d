-- Laws of the tests of STAGE.
use mathlib.Core.Path.{◌≡◌, refl, sym, ap, ◌∙◌}
use mathlib.Core.Bool.{Bool, true, false, ◌&&◌, false≢true, and_comm}
use mathlib.Core.List.{List}
use Prim.Native.Nat.{ℕ, zero, suc, ◌+◌, ◌≤◌, ◌<◌}
use native.Mathlib.Nat.{not-suc-le-zero}
use native.Mathlib.Decide.{ℕ_discrete}
use native.Mathlib.Omega.{arith}
use borrow.Author.Tests.{eq-eqb, ne_eqb, lt-ltb, le-ltb, eqb-true, ltb-true}
use lib.Dec.{eqb, ltb}
use lib.ListN.{length, get_or, take}
use Rattle.std.specs.List.{list_all}
use Rattle.std.proofs.lemmas.List.Folds.{list_all_more}
use Rattle.algebra.specs.Lists.{all_below}
use Rattle.algebra.specs.Residues.{modulus}
use Rattle.algebra.proofs.Lists.{&&-left, &&-right, all_below-at, all_below-none, all_below-all}
use Rattle.kinds.specs.Kinds.{within, alone}
use Rattle.frames.proofs.Facts.{within-told}
use Rattle.card_rules.specs.declared.session.Session.{Session}
use Rattle.card_rules.specs.Stages.{IDLE, COMMITTED, ANSWERED, CLOSED}
use Rattle.card_rules.specs.Asking.{at_rest, record_fits, kept_fits, kept_fit}

-- ---- begin's stages

pub idle_rests : (stage : ℕ) → stage ≡ IDLE → true ≡ at_rest stage
unfolding at_rest
idle_rests stage e = rw (eq-eqb stage IDLE e)

pub closed_decides : (stage : ℕ) → (stage ≡ IDLE → ⊥) → (b : Bool) → b ≡ eqb stage CLOSED → b ≡ at_rest stage
unfolding at_rest
closed_decides stage f b e = rw (ne_eqb stage IDLE f) e

-- neither committed nor answered
pub rests_apart : (stage : ℕ) → at_rest stage ≡ true → (stage ≡ COMMITTED → ⊥) × (stage ≡ ANSWERED → ⊥)
unfolding at_rest
rests_apart stage e = (λ q. false≢true (ap at_rest (sym q) ∙ e), λ q. false≢true (ap at_rest (sym q) ∙ e))

-- ---- the record

module _ (s : Session) (n m : ℕ) where
  pub other_places : (s.n ≡ n → ⊥) → false ≡ record_fits s n m
  unfolding record_fits
  other_places f = rw (ne_eqb s.n n f)

  pub other_rows : s.n ≡ n → (s.m ≡ m → ⊥) → false ≡ record_fits s n m
  unfolding record_fits
  other_rows e f = rw (eq-eqb s.n n e, ne_eqb s.m m f)

  pub rounds_decide : s.n ≡ n → s.m ≡ m → (b : Bool) → b ≡ within alone.rounds s.rounds → b ≡ record_fits s n m
  unfolding record_fits
  rounds_decide e f b q = rw (eq-eqb s.n n e, eq-eqb s.m m f) q

  pub record_told : record_fits s n m ≡ true → (s.n ≡ n) × (s.m ≡ m) × (1 ≤ s.rounds) × (s.rounds ≤ 64)
  unfolding record_fits
  record_told t =
      let a = &&-left (eqb s.n n) _ t in
      let b = &&-right (eqb s.n n) _ t in
      let w = within-told alone.rounds s.rounds (&&-right (eqb s.m m) _ b) in
      (eqb-true _ _ a, eqb-true _ _ (&&-left (eqb s.m m) _ b), w.0, w.1)

-- ---- the challenges kept

-- the code's test of the first N is that of each place
pub kept_tested : (N : ℕ) (challenges : List ℕ) → N ≤ length challenges → list_all (λ x. ltb x modulus) (take N challenges) ≡ kept_fit N challenges
unfolding kept_fit all_below
kept_tested zero challenges h = refl
kept_tested (suc N) challenges h =
    let e : suc N ≡ N + 1 = omega arith in
    ap (λ n. list_all (λ x. ltb x modulus) (take n challenges)) e ∙ list_all_more _ challenges N 0 (omega arith)
    ∙ ap (λ b. b && kept_fits challenges N) (kept_tested N challenges (omega arith)) ∙ and_comm (kept_fit N challenges) (kept_fits challenges N)

-- looked at one after the other: those before j are residues

pub record KeptTo (N : ℕ) (challenges : List ℕ) (j : ℕ) : Type 0 where
  pub most : j ≤ N
  pub each : (i : ℕ) → i < j → get_or challenges i 0 < modulus

module _ (N : ℕ) (challenges : List ℕ) where
  pub kept-none : KeptTo N challenges 0
  kept-none = record { most = omega arith; each = λ i l. absurd (not-suc-le-zero l) }

  module _ (j : ℕ) (h : KeptTo N challenges j) where
    pub kept_more : j < N → get_or challenges j 0 < modulus → KeptTo N challenges (j + 1)
    kept_more l e = record { most = omega arith; each = λ i k. step i k (ℕ_discrete i j) }
      where
        step : (i : ℕ) → i < j + 1 → Dec (i ≡ j) → get_or challenges i 0 < modulus
        step i k (yes q) = rw q e
        step i k (no q) = h.each i (omega arith)

    pub kept_high : j < N → modulus ≤ get_or challenges j 0 → false ≡ kept_fit N challenges
    unfolding kept_fit
    kept_high l e = all_below-none N (kept_fits challenges) j l (le-ltb _ modulus e)

    pub kept-all : N ≤ j → true ≡ kept_fit N challenges
    unfolding kept_fit
    kept-all l =
        let m = h.most in
        sym (all_below-all N (kept_fits challenges) (λ i k. lt-ltb _ modulus (h.each i (omega arith))))

  pub kept-told : kept_fit N challenges ≡ true → (j : ℕ) → j < N → get_or challenges j 0 < modulus
  unfolding kept_fit
  kept-told t j l = ltb-true _ _ (all_below-at N (kept_fits challenges) t j l)
