-- Laws of the order of refusals, an answer each, as the code finds them. The frames have theirs in crate `frames`.
use Rattle.std.specs.Prelude.{⊤, Result, Ok, Err}
use mathlib.Core.Path.{◌≡◌, refl, sym, ap, ◌∙◌}
use mathlib.Core.Bool.{true, false}
use mathlib.Core.List.{[], ◌∷◌}
use Prim.Native.Nat.{ℕ}
use borrow.Author.Tests.{eq-eqb, ne_eqb}
use lib.Dec.{leb}
use Rattle.refusals.specs.declared.Refusal.{Refusal}
use Rattle.refusals.specs.Number.{WEAK}
use Rattle.refusals.specs.Buffer.{NONE, OPENINGS}
use Rattle.refusals.specs.Told.{Told, done, refused, told, means, first, demand}
use Rattle.refusals.proofs.Chain.{goes_on, stops}
use Rattle.register_rules.specs.Verdict.{SignOn, rounds_in, frames_check, enough, rounds_passed, bit_in, number_of, rounds_check, judging}

-- ---- the grades

module _ (grade N : ℕ) where
  pub inspector : grade ≡ 1 → leb 20 N ≡ enough grade N
  unfolding enough
  inspector e = rw (eq-eqb grade 1 e)

  pub keeper : (grade ≡ 1 → ⊥) → grade ≡ 2 → leb 31 N ≡ enough grade N
  unfolding enough
  keeper f e = rw (ne_eqb grade 1 f, eq-eqb grade 2 e)

  pub no_grade : (grade ≡ 1 → ⊥) → (grade ≡ 2 → ⊥) → false ≡ enough grade N
  unfolding enough
  no_grade f g = rw (ne_eqb grade 1 f, ne_eqb grade 2 g)

-- ---- document 01's order: the frames, then WEAK, then the rounds

pub in_order : (grade : ℕ) (x : SignOn) → judging grade x ≡ first (frames_check x) (first (demand (enough grade (rounds_in x)) WEAK NONE 0) (rounds_check x))
unfolding judging
in_order grade x = refl

pub bad_frames : (grade : ℕ) (x : SignOn) (frames : Result ⊤ Refusal) (r : Refusal) → means frames ≡ frames_check x → frames ≡ Err r → told r ≡ judging grade x
bad_frames grade x frames r m e = stops _ m e ∙ sym (in_order grade x)

module _ (grade : ℕ) (x : SignOn) (frames : Result ⊤ Refusal) (m : means frames ≡ frames_check x) (e : frames ≡ (Ok tt)) where
  pub too_weak : enough grade (rounds_in x) ≡ false → refused WEAK NONE 0 ≡ judging grade x
  too_weak t = goes_on m e (rw t) ∙ sym (in_order grade x)

  pub rounds_decide : enough grade (rounds_in x) ≡ true → (t : Told) → t ≡ rounds_check x → t ≡ judging grade x
  rounds_decide s t d = goes_on m e (rw s d) ∙ sym (in_order grade x)

-- ---- the rounds; `passed` is what the code finds, and N what it has read

module _ (x : SignOn) (passed N : ℕ) (e : passed ≡ rounds_passed x) (q : N ≡ rounds_in x) where
  pub all_passed : passed ≡ N → done (N ∷ []) ≡ rounds_check x
  unfolding rounds_check
  all_passed z = rw (eq-eqb (rounds_passed x) (rounds_in x) (sym e ∙ z ∙ q), q)

  pub round_failed : (passed ≡ N → ⊥) → (number : ℕ) → number ≡ number_of (bit_in x passed) → refused number OPENINGS passed ≡ rounds_check x
  unfolding rounds_check
  round_failed f number d =
      rw (ne_eqb (rounds_passed x) (rounds_in x) (λ z. f (e ∙ z ∙ sym q)), ← e) (ap (λ (k : ℕ). refused k OPENINGS passed) d)
