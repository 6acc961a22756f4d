-- No second outcome fits what the verdict promises. It is lent nothing to write to. And what it tells.
use Rattle.refusals.specs.declared.Refusal.{Refusal}
use Rattle.std.specs.Prelude.{Result}
use mathlib.Core.Path.{◌≡◌, sym, ◌∙◌}
use mathlib.Core.Bool.{Bool, true, false, cond}
use mathlib.Core.List.{List, [], ◌∷◌}
use Prim.Native.Nat.{ℕ, ◌≤◌}
use native.Mathlib.Omega.{arith}
use lib.Dec.{eqb}
use Rattle.refusals.specs.Number.{WEAK, SECOND}
use Rattle.refusals.specs.Buffer.{NONE, OPENINGS}
use Rattle.refusals.specs.Told.{Told, done, refused, fine, first, demand}
use Rattle.refusals.proofs.Chain.{count_fixes, UpTo, first_done, done_most, first-most, test_most}
use Rattle.kinds.specs.declared.Kind.TheVariants.{System, Public, Commitments, Challenges, Answers, Bits, Openings}
use Rattle.kinds.specs.Kinds.{alone, of_places, exactly}
use Rattle.frames.specs.Reading.{reading}
use Rattle.readers.proofs.Outcomes.{frame-most}
use Rattle.register_rules.specs.Verdict.{SignOn, places_in, rounds_in, basis_check, exchange_check, frames_check, enough, bit_in, rounds_passed, number_of, rounds_check, judging, Judges}

pub one_verdict : (grade : ℕ) (x : SignOn) (a b : Result ℕ Refusal) → Judges grade x a → Judges grade x b → a ≡ b
one_verdict grade x a b p q = count_fixes a b (p.says ∙ sym q.says)

-- ---- what the verdict tells: one value, N, or a refusal by the numbers up to SECOND

module _ (x : SignOn) where
  frames-most : UpTo SECOND (frames_check x)
  unfolding frames_check basis_check exchange_check
  frames-most =
      let n = places_in x in
      let N = rounds_in x in
      let b3 : Told = first (reading Commitments (of_places n) x.commitments) fine in
      let b2 : Told = first (reading Public (of_places n) x.key) b3 in
      let r4 : Told = first (reading Openings (exactly n N) x.openings) fine in
      let r3 : Told = first (reading Bits (exactly n N) x.bits) r4 in
      let r2 : Told = first (reading Answers (exactly n N) x.answers) r3 in
      let r1 : Told = first (reading Challenges (exactly n N) x.challenges) r2 in
      first-most SECOND (first (reading System alone x.system) b2) r1
      (frame-most SECOND System alone x.system b2 (omega arith)
      (frame-most SECOND Public (of_places n) x.key b3 (omega arith)
      (frame-most SECOND Commitments (of_places n) x.commitments fine (omega arith) (done_most SECOND []))))
      (frame-most SECOND Challenges (exactly n N) x.challenges r2 (omega arith)
      (frame-most SECOND Answers (exactly n N) x.answers r3 (omega arith)
      (frame-most SECOND Bits (exactly n N) x.bits r4 (omega arith)
      (frame-most SECOND Openings (exactly n N) x.openings fine (omega arith) (done_most SECOND [])))))

  number-most : (bit : Bool) → (1 ≤ number_of bit) × (number_of bit ≤ SECOND)
  number-most false = (omega arith, omega arith)
  number-most true = (omega arith, omega arith)

  -- what the rounds tell, by whether all pass
  abbrev rounds_told : Bool → Told
  rounds_told all = cond all (done (rounds_in x ∷ [])) (refused (number_of (bit_in x (rounds_passed x))) OPENINGS (rounds_passed x))

  told-most : (all : Bool) → UpTo SECOND (rounds_told all)
  told-most true = done_most SECOND (rounds_in x ∷ [])
  told-most false = λ k l p e. let q : number_of (bit_in x (rounds_passed x)) ≡ k = cc in rw q at (number-most (bit_in x (rounds_passed x)))

  told-one : (all : Bool) (values : List ℕ) → rounds_told all ≡ done values → values ≡ rounds_in x ∷ []
  told-one true values e = cc
  told-one false values e = let z : ◌≡◌ {A = ℕ} 0 1 = cc in absurd (omega arith)

  module _ (grade : ℕ) where
    pub judging-most : UpTo SECOND (judging grade x)
    unfolding judging rounds_check
    judging-most =
        let rounds = rounds_told (eqb (rounds_passed x) (rounds_in x)) in
        first-most SECOND (frames_check x) (first (demand (enough grade (rounds_in x)) WEAK NONE 0) rounds) frames-most
        (test_most SECOND (enough grade (rounds_in x)) WEAK NONE 0 rounds (omega arith) (omega arith) (told-most (eqb (rounds_passed x) (rounds_in x))))

    pub judging-one : (values : List ℕ) → judging grade x ≡ done values → values ≡ rounds_in x ∷ []
    unfolding judging rounds_check
    judging-one values e =
        let weak = demand (enough grade (rounds_in x)) WEAK NONE 0 in
        let rounds = rounds_told (eqb (rounds_passed x) (rounds_in x)) in
        told-one (eqb (rounds_passed x) (rounds_in x)) values (first_done weak rounds values (first_done (frames_check x) (first weak rounds) values e).1).1
