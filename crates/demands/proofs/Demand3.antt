-- Demand 3. "One round shows nothing of the key in what it opens: for a valid key and a challenge and bit fixed beforehand, the card's choices pair off
-- one to one with the stand-in's, and each pair gives the same opened commitment, first answer and opened permutation, byte by byte." (The maps
-- `there` and `back` and the record `Pairing`: crates/scheme/specs/Pairing.antt.)
use mathlib.Core.Path.{◌≡◌, refl, sym, ap, ◌∙◌}
use mathlib.Core.Bool.{Bool, true, false, cond}
use mathlib.Core.List.{List, [], ◌∷◌, ◌++◌}
use Prim.Native.Nat.{ℕ, ◌≤◌, ◌<◌}
use native.Mathlib.Omega.{arith}
use lib.Dec.{eqb}
use lib.ListN.{length, get_or}
use Rattle.refusals.specs.Told.{done}
use Rattle.algebra.specs.Residues.{modulus}
use Rattle.kinds.specs.declared.Kind.TheVariants.{Challenges, Bits}
use Rattle.frames.specs.Reading.{rest_of}
use Rattle.packed_bits.specs.PackedBits.{bit_at}
use Rattle.scheme.specs.Round.{Sound, Pair, WellFormed, stand_in}
use Rattle.scheme.specs.Pairing.{there, Pairing}
use Rattle.scheme.proofs.Pairing.{pairing}
use Rattle.rounds.specs.Layout.{Messages, pair_at, opened_at}
use Rattle.rounds.proofs.Runs.{honest-opened}
use Rattle.card_rules.specs.Keys.{Keys, places_of, public_of, secret_of}
use Rattle.card_rules.specs.Lent.{matrix_of, LentFits}
use Rattle.stand_in_round.specs.Bytes.{round_size}
use Rattle.stand_in.specs.Standing.{standing, stand_in_of}
use Rattle.stand_in.proofs.Facts.{stand_in_of_lem, lent-passes}
use Rattle.stand_in.proofs.Outcomes.{passed_tells}
use Rattle.register_rules.specs.Verdict.{messages_in}
use Rattle.demands.proofs.Demand2.{SignedOn, sent_by, lent, begun_facts, challenge-below, sent-messages}

-- ---- for every key that the card's checks let pass, every challenge and both bits, the choices pair off

sound : (k : Keys) (N : ℕ) (choices : List ℕ) → LentFits k N choices → Sound (matrix_of k)
sound k N choices h = record { some = omega arith; fits = h.keys.system }

pub choices_pair_off : (k : Keys) (N : ℕ) (choices : List ℕ) → LentFits k N choices → (c : ℕ) → c ≤ modulus → (bit : Bool) → Pairing (matrix_of k) (public_of k) (secret_of k) c bit
choices_pair_off k N choices h c small bit = pairing (matrix_of k) (public_of k) (secret_of k) (sound k N choices h) h.valid c small bit

-- ---- over the calls: round j of what begin, answer and open write is what the stand-in's call writes, lent the partner of the round's choices

abbrev pub number : Bool → ℕ
number bit = cond bit 1 0

number-one : (bit : Bool) → eqb (number bit) 1 ≡ bit
number-one true = refl
number-one false = refl

number_bit : (bit : Bool) → number bit < 2
number_bit true = omega arith
number_bit false = omega arith

module _ (N : ℕ) (k : Keys) (choices challenges bits : List ℕ) (c : SignedOn N k choices challenges bits) (j : ℕ) (l : j < N) where
  abbrev pub challenge : ℕ
  challenge = get_or (rest_of Challenges challenges) j 0

  abbrev pub bit : Bool
  bit = bit_at (rest_of Bits bits) j

  abbrev pub chosen : Pair
  chosen = pair_at (places_of k) choices j

  -- the partner of the round's choices, vector and then permutation
  abbrev pub partner : Pair
  partner = there (matrix_of k) (public_of k) (secret_of k) challenge bit chosen

  facts : LentFits k N choices
  facts = lent N k choices challenges bits c

  pairs : Pairing (matrix_of k) (public_of k) (secret_of k) challenge bit
  pairs = choices_pair_off k N choices facts challenge (let h = challenge-below N k choices challenges bits c j l in omega arith) bit

  partner-well : WellFormed (matrix_of k) partner
  partner-well = pairs.there-well chosen (facts.well.each j l)

  -- the stand-in's call takes it
  pub stand_in_tells : (out : List ℕ) → round_size (places_of k) ≤ length out
      → standing challenge (number bit) k.system k.public (partner.vector ++ partner.permutation) (length out) ≡ done (round_size (places_of k) ∷ [])
  stand_in_tells out room =
      let f = (begun_facts N k choices challenges bits c).found.read in
      passed_tells challenge (number bit) k.system k.public (partner.vector ++ partner.permutation) out
      (lent-passes challenge (number bit) k.system k.public partner partner-well (challenge-below N k choices challenges bits c j l) (number_bit bit) f.system f.public) room

  -- and what it writes is what the card's round opens
  pub same_round : opened_at (places_of k) (messages_in (sent_by N k choices challenges bits c)) j
      ≡ stand_in_of challenge (number bit) k.system k.public (partner.vector ++ partner.permutation)
  same_round =
      ap (λ (x : Messages). opened_at (places_of k) x j) (sent-messages N k choices challenges bits c)
      ∙ honest-opened (matrix_of k) (public_of k) (secret_of k) (sound k N choices facts) facts.valid N choices facts.well (rest_of Challenges challenges) (rest_of Bits bits) j l
      ∙ pairs.same chosen (facts.well.each j l)
      ∙ ap (λ (b : Bool). stand_in (matrix_of k) (public_of k) challenge b partner) (sym (number-one bit))
      ∙ sym (stand_in_of_lem challenge (number bit) k.system k.public partner partner-well)
