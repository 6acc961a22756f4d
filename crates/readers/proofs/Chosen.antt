-- What the checks of residues, permutations and choices say where they refuse nothing.
use mathlib.Core.Path.{◌≡◌, refl, sym, ap, ◌∙◌}
use mathlib.Core.Bool.{Bool, true, false}
use mathlib.Core.List.{List, [], ◌∷◌}
use Prim.Native.Nat.{ℕ, zero, suc, ◌+◌, ◌*◌, ◌≤◌, ◌<◌}
use native.Mathlib.Nat.{zero-mul}
use native.Mathlib.Omega.{arith}
use borrow.Author.Tests.{eqb-true, eq-eqb, ltb-true}
use lib.Dec.{eqb, ltb}
use lib.ListN.{length, get_or, take, drop, length-take}
use lib.Seq.{take_all, get_or-drop}
use Rattle.refusals.specs.Number.{SHAPE, VALUE, PERM}
use Rattle.refusals.specs.Buffer.{CHOICES}
use Rattle.refusals.specs.Told.{done, refused, first_below, demand}
use Rattle.refusals.proofs.Chain.{first_done, demand_done, below_none, below-stops, below_passed}
use Rattle.algebra.specs.Lists.{stretch}
use Rattle.algebra.specs.Residues.{modulus, Residues}
use Rattle.algebra.specs.Permutations.{is_perm, IsPerm}
use Rattle.algebra.proofs.Permutations.{apart, is_perm→}
use Rattle.bodies.specs.Bodies.{residue_at, values, permutation_at, permutations}
use Rattle.readers.specs.Choosing.{choice_size, choice_of, vector_of, permutation_of, choice_check, choice_at, choices_check}
use Rattle.frames.proofs.Facts.{test_holds, rest_done}
use Rattle.readers.proofs.Passing.{residues-pass}

pub values-told : (b at : ℕ) (l v : List ℕ) → values b at l ≡ done v → Residues modulus l
unfolding values
values-told b at l v e j h =
    let p = below_passed (length l) (residue_at b at l) v e j h in
    ltb-true _ _ (demand_done (ltb (get_or l j 0) modulus) VALUE b (at + j) p.0 p.1)

pub permutations-told : (b n at count : ℕ) (l v : List ℕ) → permutations b n at count l ≡ done v → (k : ℕ) → k < count → IsPerm n (stretch n k l)
unfolding permutations
permutations-told b n at count l v e k h =
    let p = below_passed count (permutation_at b n at l) v e k h in
    is_perm→ n (stretch n k l) (demand_done (is_perm n (stretch n k l)) PERM b (at + k * n) p.0 p.1)

-- the first stretch is the whole where there is no other
pub first-stretch : (size : ℕ) (l : List ℕ) → length l ≤ size → stretch size 0 l ≡ l
unfolding stretch
first-stretch size l h = rw (zero-mul size) (take_all size l h)

pub permutation-told : (b n at : ℕ) (l v : List ℕ) → length l ≤ n → permutations b n at 1 l ≡ done v → IsPerm n l
permutation-told b n at l v h e = rw (first-stretch n l h) at (permutations-told b n at 1 l v e 0 (omega arith))

-- ---- the choices

pub record Choice (n : ℕ) (choice : List ℕ) : Type 0 where
  pub residues : Residues modulus (vector_of n choice)
  pub perm : IsPerm n (permutation_of n choice)

choice_told : (n at : ℕ) (choice v : List ℕ) → choice_check n at choice ≡ done v → Choice n choice
unfolding choice_check
choice_told n at choice v e =
    let p = first_done (values CHOICES at (vector_of n choice)) (permutations CHOICES n (at + n) 1 (permutation_of n choice)) v e in
    record {
      residues = values-told CHOICES at (vector_of n choice) p.0.0 p.0.1;
      perm = permutation-told CHOICES n (at + n) (permutation_of n choice) v (cut n choice) p.1;
    }
  where
    cut : (n : ℕ) (choice : List ℕ) → length (permutation_of n choice) ≤ n
    cut n choice = unfold permutation_of in simp length-take (omega arith)

pub choices-told : (n N : ℕ) (choices v : List ℕ) → choices_check n N choices ≡ done v
    → (length choices ≡ N * choice_size n) × ((k : ℕ) → k < N → Choice n (choice_of choices n k))
unfolding choices_check
choices-told n N choices v e =
    let t = eqb (length choices) (N * choice_size n) in
    let r = first_below N (choice_at n choices) in (
      eqb-true _ _ (test_holds t SHAPE CHOICES 0 r v e),
      λ k h.
          let p = below_passed N (choice_at n choices) v (rest_done t SHAPE CHOICES 0 r v e) k h in
          choice_told n (k * choice_size n) (choice_of choices n k) p.0 p.1,
    )

-- ---- zeros are no choices

abbrev pub Zeros : List ℕ → Type 0
Zeros l = (j : ℕ) → get_or l j 0 ≡ 0

zeros-take : (n : ℕ) (l : List ℕ) → Zeros l → Zeros (take n l)
zeros-take zero l z j = refl
zeros-take (suc n) [] z j = refl
zeros-take (suc n) (x ∷ xs) z zero = z 0
zeros-take (suc n) (x ∷ xs) z (suc j) = zeros-take n xs (λ i. z (suc i)) j

zeros-drop : (n : ℕ) (l : List ℕ) → Zeros l → Zeros (drop n l)
zeros-drop n l z j = get_or-drop n l j 0 ∙ z (n + j)

zeros-stretch : (size k : ℕ) (l : List ℕ) → Zeros l → Zeros (stretch size k l)
unfolding stretch
zeros-stretch size k l z = zeros-take size (drop (k * size) l) (zeros-drop (k * size) l z)

-- they have the same value at two places
no_perm : (n : ℕ) (l : List ℕ) → 2 ≤ n → Zeros l → IsPerm n l → ⊥
no_perm n l h z p = let q : ◌≡◌ {A = ℕ} 0 1 = apart n l p 0 1 (omega arith) (omega arith) (z 0 ∙ sym (z 1)) in absurd (omega arith)

zeros_no_perm : (n : ℕ) (l : List ℕ) → 2 ≤ n → Zeros l → is_perm n l ≡ false
zeros_no_perm n l h z = step (is_perm n l) refl
  where
    step : (b : Bool) → is_perm n l ≡ b → b ≡ false
    step false e = refl
    step true e = absurd (no_perm n l h z (is_perm→ n l e))

module _ (n : ℕ) (h : 2 ≤ n) where
  zero-permutation : (b at : ℕ) (l : List ℕ) → Zeros l → permutations b n at 1 l ≡ refused PERM b at
  unfolding permutations
  zero-permutation b at l z =
      let e : permutation_at b n at l 0 ≡ refused PERM b at =
      ap (λ (t : Bool). demand t PERM b (at + 0 * n)) (zeros_no_perm n (stretch n 0 l) h (zeros-stretch n 0 l z)) ∙ ap (refused PERM b) (omega (arith, zero-mul n)) in
      sym (below-stops (permutation_at b n at l) 0 (below_none _) 1 (omega arith) e)

  zero-choice : (at : ℕ) (choice : List ℕ) → Zeros choice → choice_check n at choice ≡ refused PERM CHOICES (at + n)
  unfolding choice_check vector_of permutation_of
  zero-choice at choice z =
      rw (residues-pass CHOICES at (take n choice) (λ j l. rw (zeros-take n choice z j) (omega arith)))
      (zero-permutation CHOICES (at + n) (take n (drop n choice)) (zeros-take n (drop n choice) (zeros-drop n choice z)))

  -- PERM of round 0
  pub zeros_refused : (N : ℕ) (choices : List ℕ) → 1 ≤ N → length choices ≡ N * choice_size n → Zeros choices → choices_check n N choices ≡ refused PERM CHOICES n
  unfolding choices_check
  zeros_refused N choices some e z =
      let q : choice_at n choices 0 ≡ refused PERM CHOICES n =
      zero-choice (0 * choice_size n) (choice_of choices n 0) (zeros-stretch (choice_size n) 0 choices z) ∙ ap (refused PERM CHOICES) (omega (arith, zero-mul (choice_size n))) in
      rw (eq-eqb (length choices) (N * choice_size n) e) (sym (below-stops (choice_at n choices) 0 (below_none _) N some q))

  pub zeros_not_chosen : (choices : List ℕ) (k : ℕ) → Zeros choices → IsPerm n (permutation_of n (choice_of choices n k)) → ⊥
  unfolding permutation_of
  zeros_not_chosen choices k z p =
      let c = choice_of choices n k in
      no_perm n (take n (drop n c)) h (zeros-take n (drop n c) (zeros-drop n c (zeros-stretch (choice_size n) k choices z))) p
