-- No second outcome fits what the stand-in's call promises, a refused call changes nothing, and what an accepted call writes has the size told and
-- passes.
use Rattle.std.specs.Prelude.{Result, Ok, Err}
use mathlib.Core.Path.{◌≡◌, sym, ap, ◌∙◌}
use mathlib.Core.Bool.{true}
use mathlib.Core.List.{List, [], ◌∷◌}
use Prim.Native.Nat.{ℕ, ◌≤◌}
use native.Mathlib.Omega.{arith}
use borrow.Author.Tests.{le-leb}
use lib.Dec.{eqb, ltb, leb}
use lib.ListN.{length}
use Rattle.refusals.specs.declared.Refusal.{Refusal}
use Rattle.refusals.specs.Number.{SHAPE, PERM, ROOM}
use Rattle.refusals.specs.Buffer.{NONE, OUTPUT}
use Rattle.refusals.specs.Told.{Told, done, fine, first, demand}
use Rattle.refusals.proofs.Chain.{count_fixes, Passed, UpTo, first_done, test_most, most-more}
use Rattle.algebra.specs.Residues.{modulus}
use Rattle.kinds.specs.declared.Kind.TheVariants.{System, Public}
use Rattle.kinds.specs.Kinds.{alone, of_places}
use Rattle.frames.specs.Reading.{first_of, second_of, rest_of, reading}
use Rattle.readers.specs.Choosing.{choices_check}
use Rattle.readers.proofs.Outcomes.{frame-most, choices-most}
use Rattle.writers.specs.Writing.{out_after}
use Rattle.writers.proofs.Outcomes.{room_most, room_one}
use Rattle.scheme.specs.Round.{system_of, passes}
use Rattle.scheme.proofs.Laws.{stand_in_passes}
use Rattle.stand_in_round.specs.Bytes.{round_size, round_bytes}
use Rattle.stand_in_round.proofs.Laid.{round_size_lem}
use Rattle.stand_in.specs.Standing.{lent_check, standing, stand_in_of, StandsIn}
use Rattle.stand_in.proofs.Facts.{StandInFits, lent-told}

module _ (c bit : ℕ) (system key lent out : List ℕ) where
  pub one_stand_in : (r q : Result ℕ Refusal) (x y : List ℕ) → StandsIn c bit system key lent out r x → StandsIn c bit system key lent out q y → (r ≡ q) × (x ≡ y)
  one_stand_in r q x y p s =
      let e : r ≡ q = count_fixes r q (p.says ∙ sym s.says) in
      (e, p.writes ∙ ap (λ (t : Result ℕ Refusal). out_after t (round_bytes (stand_in_of c bit system key lent)) out) e ∙ sym s.writes)

  pub refused_changes_nothing : (r : Refusal) (after : List ℕ) → StandsIn c bit system key lent out (Err r) after → after ≡ out
  refused_changes_nothing r after p = p.writes

  -- a call whose lent bytes pass and for which there is room tells the size of a round
  pub passed_tells : lent_check c bit system key lent ≡ fine → round_size (first_of system) ≤ length out → standing c bit system key lent (length out) ≡ done (round_size (first_of system) ∷ [])
  unfolding standing
  passed_tells e l = rw (e, le-leb (round_size (first_of system)) (length out) l)

  -- ---- an accepted call

  module _ (bytes : ℕ) (after : List ℕ) (p : StandsIn c bit system key lent out (Ok bytes) after) where
    abbrev n : ℕ
    n = first_of system

    abbrev room : Told
    room = first (demand (leb (round_size n) (length out)) ROOM OUTPUT (round_size n)) (done (round_size n ∷ []))

    accepted : Passed (lent_check c bit system key lent) × (room ≡ done (bytes ∷ []))
    unfolding standing
    accepted = first_done (lent_check c bit system key lent) room (bytes ∷ []) (sym p.says)

    fits : StandInFits c bit system key lent
    fits = lent-told c bit system key lent accepted.0.0 accepted.0.1

    -- it tells how many bytes it has written
    pub told-size : length (round_bytes (stand_in_of c bit system key lent)) ≡ bytes
    unfolding stand_in_of
    told-size =
        let e = (first_done (demand (leb (round_size n) (length out)) ROOM OUTPUT (round_size n)) (done (round_size n ∷ [])) (bytes ∷ []) accepted.1).1 in
        let z : round_size n ≡ bytes = cc in
        round_size_lem (system_of (rest_of System system) n (second_of System system)) (rest_of Public key) c (eqb bit 1) _ n fits.well.size fits.well.perm ∙ z

    -- the register passes the round that it has written
    pub written-passes : passes (system_of (rest_of System system) (first_of system) (second_of System system)) (rest_of Public key) c (eqb bit 1) (stand_in_of c bit system key lent) ≡ true
    unfolding stand_in_of
    written-passes =
        let small : c ≤ modulus = omega (arith, fits.challenge) in
        stand_in_passes (system_of (rest_of System system) (first_of system) (second_of System system)) (rest_of Public key) c small (eqb bit 1) _ fits.well

-- ---- what the call tells: the bytes written, or a refusal by the numbers up to ROOM

module _ (c bit : ℕ) (system key lent : List ℕ) where
  lent-most : UpTo ROOM (lent_check c bit system key lent)
  unfolding lent_check
  lent-most =
      let n = first_of system in
      let choices = choices_check n 1 lent in
      let r4 : Told = first (reading Public (of_places n) key) choices in
      let r3 : Told = first (reading System alone system) r4 in
      let r2 : Told = first (demand (ltb bit 2) SHAPE NONE 0) r3 in
      test_most ROOM (ltb c modulus) SHAPE NONE 0 r2 (omega arith) (omega arith)
      (test_most ROOM (ltb bit 2) SHAPE NONE 0 r3 (omega arith) (omega arith)
      (frame-most ROOM System alone system r4 (omega arith)
      (frame-most ROOM Public (of_places n) key choices (omega arith) (most-more PERM ROOM choices (omega arith) (choices-most n 1 lent)))))

  pub standing-most : (room : ℕ) → UpTo ROOM (standing c bit system key lent room)
  unfolding standing
  standing-most room = room_most (lent_check c bit system key lent) (round_size (first_of system)) room lent-most

  pub standing-one : (room : ℕ) (values : List ℕ) → standing c bit system key lent room ≡ done values → values ≡ round_size (first_of system) ∷ []
  unfolding standing
  standing-one room values e = room_one (lent_check c bit system key lent) (round_size (first_of system)) room values e
