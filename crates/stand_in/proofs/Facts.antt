-- What a check that refuses nothing says of the bytes lent, as plain facts.
use mathlib.Core.Path.{◌≡◌, refl, sym, ap, ◌∙◌, subst}
use mathlib.Core.List.{List, ◌++◌}
use Prim.Native.Nat.{ℕ, ◌+◌, ◌-◌, ◌≤◌, ◌<◌}
use native.Mathlib.Omega.{arith}
use borrow.Author.Tests.{ltb-true, lt-ltb}
use lib.Dec.{eqb, ltb}
use lib.ListN.{length, take, drop, length-append}
use lib.Seq.{length-take-le}
use Rattle.refusals.specs.Number.{SHAPE}
use Rattle.refusals.specs.Buffer.{NONE}
use Rattle.refusals.specs.Told.{Told, done, fine, first, demand}
use Rattle.refusals.proofs.Chain.{first_done}
use Rattle.algebra.specs.Lists.{stretch}
use Rattle.algebra.specs.Residues.{modulus}
use Rattle.algebra.specs.Permutations.{IsPerm}
use Rattle.matrices.specs.Matrices.{SystemFits}
use Rattle.kinds.specs.declared.Kind.TheVariants.{System, Public}
use Rattle.kinds.specs.Kinds.{alone, of_places}
use Rattle.frames.specs.Reading.{first_of, second_of, rest_of, reading}
use Rattle.readers.specs.Choosing.{vector_of, permutation_of, choices_check}
use Rattle.frames.proofs.Facts.{test_holds, rest_done, rest-length, FrameFits, reading-told, fits_read, first-asked}
use Rattle.frames.proofs.Orders.{from, rest_part}
use Rattle.readers.proofs.Passing.{Chosen, choice_parts, choices-pass, system-fits}
use Rattle.readers.proofs.Chosen.{Choice, choices-told, first-stretch}
use Rattle.scheme.specs.Round.{system_of, Pair, pair, WellFormed, stand_in}
use Rattle.stand_in.specs.Standing.{lent_check, stand_in_of}

-- the choices of one round
one_choice_told : (n : ℕ) (choices v : List ℕ) → choices_check n 1 choices ≡ done v → (length choices ≡ n + n) × Choice n choices
one_choice_told n choices v e =
    let c = choices-told n 1 choices v e in
    let z : length choices ≡ n + n = omega (arith, c.0) in
    (z, subst (Choice n) (first-stretch (n + n) choices (omega arith)) (c.1 0 (omega arith)))

pub record StandInFits (c bit : ℕ) (system key lent : List ℕ) : Type 0 where
  pub challenge : c < modulus
  pub one_bit : bit < 2
  pub system_there : 6 ≤ length system
  pub system_fits : SystemFits (rest_of System system) (first_of system) (second_of System system)
  pub key_there : 5 ≤ length key
  pub key_fits : length (rest_of Public key) ≡ first_of system
  pub size : length lent ≡ first_of system + first_of system
  pub well : WellFormed (system_of (rest_of System system) (first_of system) (second_of System system)) (pair (vector_of (first_of system) lent) (permutation_of (first_of system) lent))

pub lent-told : (c bit : ℕ) (system key lent v : List ℕ) → lent_check c bit system key lent ≡ done v → StandInFits c bit system key lent
unfolding lent_check vector_of
lent-told c bit system key lent v e =
    let n = first_of system in
    let t1 = ltb c modulus in
    let t2 = ltb bit 2 in
    let r5 : Told = choices_check n 1 lent in
    let r4 : Told = first (reading Public (of_places n) key) r5 in
    let r3 : Told = first (reading System alone system) r4 in
    let r2 : Told = first (demand t2 SHAPE NONE 0) r3 in
    let e2 = rest_done t1 SHAPE NONE 0 r2 v e in
    let a = first_done (reading System alone system) r4 v (rest_done t2 SHAPE NONE 0 r3 v e2) in
    let b = first_done (reading Public (of_places n) key) r5 v a.1 in
    let s = (reading-told System alone system a.0.0 a.0.1).0 in
    let k = (reading-told Public (of_places n) key b.0.0 b.0.1).0.form in
    let x = one_choice_told n lent v b.1 in
    let z = x.0 in
    record {
      challenge = ltb-true _ _ (test_holds t1 SHAPE NONE 0 r2 v e);
      one_bit = ltb-true _ _ (test_holds t2 SHAPE NONE 0 r3 v e2);
      system_there = s.form.there;
      system_fits = system-fits system s;
      key_there = k.there;
      key_fits = rest-length Public (of_places n) key k ∙ first-asked Public (of_places n) key k n refl;
      size = x.0;
      well = record { size = length-take-le n lent (omega arith); residues = x.1.residues; perm = x.1.perm };
    }

-- ---- the values lent, as the code cuts them

module _ (c bit : ℕ) (system key lent : List ℕ) (h : StandInFits c bit system key lent) (a : List ℕ) (n m : ℕ) (o : a ≡ rest_of System system) (p : n ≡ first_of system) (q : m ≡ second_of System system) where
  tail : from n lent ≡ permutation_of n lent
  unfolding permutation_of
  tail = let z = h.size in let e : length lent - n ≡ n = omega arith in ap (λ (k : ℕ). take k (drop n lent)) e

  pub parts_fit : SystemFits a n m
      × (length (from 5 key) ≡ n)
      × (length (take n lent) ≡ n)
      × IsPerm (length (from n lent)) (from n lent)
      × (length (from n lent) ≡ n)
  parts_fit =
      let z = h.size in
      let t : IsPerm n (from n lent) = rw (tail, p) h.well.perm in (
        rw (o, p, q) h.system_fits,
        rw (rest_part Public key 5 refl, p) h.key_fits,
        length-take-le n lent (omega arith),
        subst (λ (k : ℕ). IsPerm k (from n lent)) (sym t.len) t,
        t.len,
      )

  pub parts_stand_in : stand_in (system_of a n m) (from 5 key) c (eqb bit 1) (pair (take n lent) (from n lent)) ≡ stand_in_of c bit system key lent
  unfolding stand_in_of vector_of
  parts_stand_in = rw (o, rest_part Public key 5 refl, tail, p, q)

-- ---- a vector and a permutation, lent one behind the other

module _ (c bit : ℕ) (system key : List ℕ) (y : Pair) (well : WellFormed (system_of (rest_of System system) (first_of system) (second_of System system)) y) where
  pub stand_in_of_lem : stand_in_of c bit system key (y.vector ++ y.permutation)
      ≡ stand_in (system_of (rest_of System system) (first_of system) (second_of System system)) (rest_of Public key) c (eqb bit 1) y
  unfolding stand_in_of
  stand_in_of_lem = let p = choice_parts (first_of system) y.vector y.permutation well.size well.perm.len in rw (p.0, p.1)

  -- they are accepted
  pub lent-passes : c < modulus → bit < 2 → FrameFits System alone system → FrameFits Public (of_places (first_of system)) key
      → lent_check c bit system key (y.vector ++ y.permutation) ≡ fine
  unfolding lent_check
  lent-passes h l f g =
      let n = first_of system in
      let lent = y.vector ++ y.permutation in
      let z : length lent ≡ n + n = omega (arith, length-append y.vector y.permutation, well.size, well.perm.len) in
      let chosen : Chosen n lent = record { vector = y.vector; permutation = y.permutation; both = refl; len = well.size; residues = well.residues; perm = well.perm } in
      rw (lt-ltb c modulus h, lt-ltb bit 2 l, fits_read System alone system f, fits_read Public (of_places n) key g)
      (choices-pass n 1 lent (omega arith)
      (λ k i.
      let q : k ≡ 0 = omega arith in
      subst (Chosen n) (sym (ap (λ (j : ℕ). stretch (n + n) j lent) q ∙ first-stretch (n + n) lent (omega arith))) chosen))
