-- What frames that are refused nothing say, as plain facts.
use mathlib.Core.Path.{◌≡◌, refl, ap, ap₂, ◌∙◌, subst}
use mathlib.Core.List.{List}
use Prim.Native.Nat.{ℕ, ◌*◌, ◌≤◌}
use native.Mathlib.Nat.{mul_comm}
use native.Mathlib.Omega.{arith}
use lib.ListN.{length}
use Rattle.refusals.specs.Told.{Told, done, fine, first}
use Rattle.refusals.proofs.Chain.{first_done}
use Rattle.algebra.specs.Lists.{stretch}
use Rattle.algebra.specs.Permutations.{longest, IsPerm}
use Rattle.matrices.specs.Matrices.{SystemFits}
use Rattle.kinds.specs.declared.Kind.TheVariants.{System, Public, Commitments, Challenges, Answers, Bits, Openings}
use Rattle.kinds.specs.Kinds.{alone, of_places, exactly}
use Rattle.frames.specs.Reading.{first_of, second_of, rest_of, reading}
use Rattle.packed_bits.specs.PackedBits.{bit_at}
use Rattle.frames.proofs.Facts.{FrameFits, reading-told, first-within, first-asked, second-asked, rest-length}
use Rattle.frames.proofs.Orders.{from, rest_part}
use Rattle.readers.proofs.Passing.{system-fits}
use Rattle.readers.proofs.Chosen.{values-told, permutations-told}
use Rattle.scheme.specs.Round.{system_of}
use Rattle.rounds.specs.Layout.{Messages, messages, MessagesFit}
use Rattle.rounds.specs.Rounds.{first_failing}
use Rattle.register_rules.specs.Verdict.{SignOn, places_in, rounds_in, basis_check, exchange_check, frames_check, messages_in, rounds_passed, SignOnFits}

-- ---- every frame is well formed and agrees with the earlier ones

pub record BasisFits (s v c : List ℕ) : Type 0 where
  pub system : FrameFits System alone s
  pub key : FrameFits Public (of_places (first_of s)) v
  pub commitments : FrameFits Commitments (of_places (first_of s)) c

pub record ExchangeFits (n N : ℕ) (c w b o : List ℕ) : Type 0 where
  pub challenges : FrameFits Challenges (exactly n N) c
  pub answers : FrameFits Answers (exactly n N) w
  pub bits : FrameFits Bits (exactly n N) b
  pub openings : FrameFits Openings (exactly n N) o

pub record FramesFit (x : SignOn) : Type 0 where
  pub basis : BasisFits x.system x.key x.commitments
  pub exchange : ExchangeFits (places_in x) (rounds_in x) x.challenges x.answers x.bits x.openings

pub basis-told : (system key commitments v : List ℕ) → basis_check system key commitments ≡ done v → BasisFits system key commitments
unfolding basis_check
basis-told system key commitments v e =
    let n = first_of system in
    let r3 : Told = first (reading Commitments (of_places n) commitments) fine in
    let r2 : Told = first (reading Public (of_places n) key) r3 in
    let a = first_done (reading System alone system) r2 v e in
    let b = first_done (reading Public (of_places n) key) r3 v a.1 in
    let c = first_done (reading Commitments (of_places n) commitments) fine v b.1 in
    record {
      system = (reading-told System alone system a.0.0 a.0.1).0;
      key = (reading-told Public (of_places n) key b.0.0 b.0.1).0;
      commitments = (reading-told Commitments (of_places n) commitments c.0.0 c.0.1).0;
    }

exchange-told : (n N : ℕ) (challenges answers bits openings v : List ℕ) → exchange_check n N challenges answers bits openings ≡ done v
    → ExchangeFits n N challenges answers bits openings
unfolding exchange_check
exchange-told n N challenges answers bits openings v e =
    let q = exactly n N in
    let r4 : Told = first (reading Openings (exactly n N) openings) fine in
    let r3 : Told = first (reading Bits (exactly n N) bits) r4 in
    let r2 : Told = first (reading Answers (exactly n N) answers) r3 in
    let a = first_done (reading Challenges q challenges) r2 v e in
    let b = first_done (reading Answers q answers) r3 v a.1 in
    let c = first_done (reading Bits q bits) r4 v b.1 in
    let d = first_done (reading Openings q openings) fine v c.1 in
    record {
      challenges = (reading-told Challenges q challenges a.0.0 a.0.1).0;
      answers = (reading-told Answers q answers b.0.0 b.0.1).0;
      bits = (reading-told Bits q bits c.0.0 c.0.1).0;
      openings = (reading-told Openings q openings d.0.0 d.0.1).0;
    }

pub frames-told : (x : SignOn) (v : List ℕ) → frames_check x ≡ done v → FramesFit x
unfolding frames_check
frames-told x v e =
    let r = exchange_check (places_in x) (rounds_in x) x.challenges x.answers x.bits x.openings in
    let a = first_done (basis_check x.system x.key x.commitments) r v e in
    record {
      basis = basis-told x.system x.key x.commitments a.0.0 a.0.1;
      exchange = exchange-told (places_in x) (rounds_in x) x.challenges x.answers x.bits x.openings v a.1;
    }

-- n and N are at most 64
pub numbers-most : (system key commitments : List ℕ) → BasisFits system key commitments → (first_of system ≤ longest) × (first_of commitments ≤ longest)
numbers-most system key commitments h =
    let n = first_of system in
    let w = first-within System alone n (second_of System system) h.system.form.numbers in
    let v = first-within Commitments (of_places n) (first_of commitments) (second_of Commitments commitments) h.commitments.form.numbers in
    (omega arith, omega arith)

-- ---- what the code asks

-- a stretch of n for each of N rounds
stretches_size : (n N a b : ℕ) → a ≡ n → b ≡ N → a * b ≡ N * n
stretches_size n N a b p q = ap₂ (λ (y z : ℕ). y * z) p q ∙ mul_comm n N

messages_fit_lem : (n N : ℕ) (commitments challenges answers bits openings : List ℕ) → N ≤ longest → length (rest_of Commitments commitments) ≡ 64 * N
    → ExchangeFits n N challenges answers bits openings
    → MessagesFit n N (messages (rest_of Commitments commitments) (rest_of Challenges challenges) (rest_of Answers answers) (rest_of Bits bits) (rest_of Openings openings))
messages_fit_lem n N commitments challenges answers bits openings most size h =
    let q = exactly n N in
    let f = h.challenges.form in
    let g = h.answers.form in
    let b = h.bits.form in
    let o = h.openings.form in
    let on = first-asked Openings q openings o n refl in
    let oN = second-asked Openings q openings o N refl in
    let bN = first-asked Bits q bits b N refl in
    let bl = rest-length Bits q bits b in
    record {
      few = omega arith;
      commitments = omega arith;
      challenges = rest-length Challenges q challenges f ∙ first-asked Challenges q challenges f N refl;
      residues = values-told _ _ (rest_of Challenges challenges) h.challenges.content.0 h.challenges.content.1;
      answers = rest-length Answers q answers g
          ∙ stretches_size n N (first_of answers) (second_of Answers answers) (first-asked Answers q answers g n refl) (second-asked Answers q answers g N refl);
      bits = omega arith;
      openings = rest-length Openings q openings o ∙ stretches_size n N (first_of openings) (second_of Openings openings) on oN;
      perms = λ k l.
          subst (λ (z : ℕ). IsPerm z (stretch z k (rest_of Openings openings))) on
          (permutations-told _ (first_of openings) _ (second_of Openings openings) (rest_of Openings openings) h.openings.content.0 h.openings.content.1 k (omega arith));
    }

pub sign_on_fits : (x : SignOn) → FramesFit x → SignOnFits x
sign_on_fits x h =
    let n = places_in x in
    let key = h.basis.key.form in
    let commitments = h.basis.commitments.form in
    record {
      system_there = h.basis.system.form.there;
      key_there = key.there;
      commitments_there = commitments.there;
      challenges_there = h.exchange.challenges.form.there;
      answers_there = h.exchange.answers.form.there;
      bits_there = h.exchange.bits.form.there;
      openings_there = h.exchange.openings.form.there;
      system_fits = system-fits x.system h.basis.system;
      vector_fits = rest-length Public (of_places n) x.key key ∙ first-asked Public (of_places n) x.key key n refl;
      messages_fit = messages_fit_lem n (rounds_in x) x.commitments x.challenges x.answers x.bits x.openings
          (numbers-most x.system x.key x.commitments h.basis).1
          (rest-length Commitments (of_places n) x.commitments commitments)
          h.exchange;
    }

-- ---- the bodies, as the code cuts them

abbrev parts : SignOn → Messages
parts x = messages (from 5 x.commitments) (from 5 x.challenges) (from 6 x.answers) (from 5 x.bits) (from 6 x.openings)

parts-messages : (x : SignOn) → parts x ≡ messages_in x
parts-messages x =
    rw (
      rest_part Commitments x.commitments 5 refl,
      rest_part Challenges x.challenges 5 refl,
      rest_part Answers x.answers 6 refl,
      rest_part Bits x.bits 5 refl,
      rest_part Openings x.openings 6 refl,
    )

module _ (x : SignOn) (a : List ℕ) (n m N : ℕ) (o : a ≡ rest_of System x.system) (p : n ≡ places_in x) (q : m ≡ second_of System x.system) (r : N ≡ rounds_in x) where
  pub parts_fit : SignOnFits x → SystemFits a n m × (length (from 5 x.key) ≡ n) × MessagesFit n N (parts x)
  parts_fit h = (
    rw (o, p, q) h.system_fits,
    rw (rest_part Public x.key 5 refl, p) h.vector_fits,
    rw (parts-messages x, p, r) h.messages_fit,
  )

  pub parts_passed : first_failing (system_of a n m) (from 5 x.key) (parts x) N ≡ rounds_passed x
  parts_passed = rw (o, rest_part Public x.key 5 refl, parts-messages x, p, q, r)

-- the bit of a round, as the code cuts it
pub bit_cut : (bits : List ℕ) (k : ℕ) → bit_at (from 5 bits) k ≡ bit_at (rest_of Bits bits) k
bit_cut bits k = ap (λ (s : List ℕ). bit_at s k) (rest_part Bits bits 5 refl)
