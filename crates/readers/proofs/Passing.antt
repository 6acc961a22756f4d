-- What passes the checks: residues, permutations, and choices made of them.
use mathlib.Core.Path.{◌≡◌, sym, ap, ap₂, ◌∙◌, subst}
use mathlib.Core.Bool.{Bool}
use mathlib.Core.List.{List, ◌++◌}
use Prim.Native.Nat.{ℕ, ◌+◌, ◌-◌, ◌*◌, ◌<◌}
use native.Mathlib.Nat.{zero-mul}
use native.Mathlib.Omega.{arith}
use borrow.Author.Tests.{eq-eqb}
use lib.ListN.{length, take}
use lib.Seq.{take_all, take_at, drop_at}
use Rattle.refusals.specs.Number.{PERM}
use Rattle.refusals.specs.Buffer.{CHOICES}
use Rattle.refusals.specs.Told.{fine, first, demand}
use Rattle.refusals.proofs.Chain.{below-fine}
use Rattle.algebra.specs.Lists.{stretch}
use Rattle.algebra.specs.Residues.{modulus, Residues}
use Rattle.algebra.specs.Permutations.{IsPerm}
use Rattle.matrices.specs.Matrices.{SystemFits}
use Rattle.algebra.proofs.Lists.{from-stretch}
use Rattle.algebra.proofs.Permutations.{is_perm←}
use Rattle.kinds.specs.declared.Kind.TheVariants.{System}
use Rattle.kinds.specs.Kinds.{alone}
use Rattle.bodies.specs.Bodies.{residue_at, values, permutation_at, permutations}
use Rattle.frames.specs.Reading.{first_of, second_of, rest_of}
use Rattle.readers.specs.Choosing.{choice_size, choice_of, vector_of, permutation_of, choice_check, choice_at, choices_check}
use Rattle.frames.proofs.Facts.{FrameFits, first-within, second-within, rest-length}
use Rattle.bodies.proofs.Loops.{residue_fine}

pub residues-pass : (b at : ℕ) (l : List ℕ) → Residues modulus l → values b at l ≡ fine
unfolding values
residues-pass b at l r = below-fine (length l) (residue_at b at l) (λ j h. residue_fine b at l j (r j h))

-- a stretch that is all of a list
whole : (n : ℕ) (l : List ℕ) → length l ≡ n → stretch n 0 l ≡ l
whole n l e =
    sym (from-stretch n 0 0 l (sym (zero-mul n)))
    ∙ take_all (0 + n - 0) l (omega arith)

pub permutations-pass : (b n at count : ℕ) (l : List ℕ) → ((k : ℕ) → k < count → IsPerm n (stretch n k l)) → permutations b n at count l ≡ fine
unfolding permutations
permutations-pass b n at count l h =
    below-fine count (permutation_at b n at l) (λ k i. ap (λ (t : Bool). demand t PERM b (at + k * n)) (is_perm← n (stretch n k l) (h k i)))

pub permutation-passes : (b n at : ℕ) (l : List ℕ) → IsPerm n l → permutations b n at 1 l ≡ fine
permutation-passes b n at l h =
    permutations-pass b n at 1 l
    (λ k i.
    let z : k ≡ 0 = omega arith in
    subst (IsPerm n) (sym (ap (λ (j : ℕ). stretch n j l) z ∙ whole n l h.len)) h)

-- ---- the choices

-- the choices of one round, R and then σ, well formed
pub record Chosen (n : ℕ) (choice : List ℕ) : Type 0 where
  pub vector : List ℕ
  pub permutation : List ℕ
  pub both : choice ≡ vector ++ permutation
  pub len : length vector ≡ n
  pub residues : Residues modulus vector
  pub perm : IsPerm n permutation

-- R and σ as they lie in them
pub choice_parts : (n : ℕ) (r σ : List ℕ) → length r ≡ n → length σ ≡ n → (vector_of n (r ++ σ) ≡ r) × (permutation_of n (r ++ σ) ≡ σ)
unfolding vector_of permutation_of
choice_parts n r σ e f = (take_at r σ n e, ap (take n) (drop_at r σ n e) ∙ take_all n σ (omega arith))

choice_passes : (n at : ℕ) (choice : List ℕ) → Chosen n choice → choice_check n at choice ≡ fine
unfolding choice_check
choice_passes n at choice c =
    let p = choice_parts n c.vector c.permutation c.len c.perm.len in
    ap₂ first (ap (values CHOICES at) (ap (vector_of n) c.both ∙ p.0) ∙ residues-pass CHOICES at c.vector c.residues)
    (ap (permutations CHOICES n (at + n) 1) (ap (permutation_of n) c.both ∙ p.1) ∙ permutation-passes CHOICES n (at + n) c.permutation c.perm)

pub choices-pass : (n N : ℕ) (choices : List ℕ) → length choices ≡ N * choice_size n → ((k : ℕ) → k < N → Chosen n (choice_of choices n k))
    → choices_check n N choices ≡ fine
unfolding choices_check
choices-pass n N choices e h =
    rw (eq-eqb (length choices) (N * choice_size n) e)
    (below-fine N (choice_at n choices) (λ k l. choice_passes n (k * choice_size n) (choice_of choices n k) (h k l)))

-- ---- a system that is read fits the matrix

pub system-fits : (s : List ℕ) → FrameFits System alone s → SystemFits (rest_of System s) (first_of s) (second_of System s)
system-fits s f =
    let w = first-within System alone (first_of s) (second_of System s) f.form.numbers in
    let v = second-within System alone (first_of s) (second_of System s) f.form.numbers in
    record { some = omega arith; less = omega arith; most = omega arith; entries = rest-length System alone s f.form }
