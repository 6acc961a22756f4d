-- The hypotheses of the demands' theorems are met: 20 rounds of the small system of document 01. Refusals are computed; of the hash one digest.
use Rattle.std.specs.Prelude.{Ok}
use mathlib.Core.Path.{◌≡◌, refl}
use mathlib.Core.Bool.{true, false}
use mathlib.Core.List.{List, [], ◌∷◌, ◌++◌}
use Prim.Native.Nat.{ℕ, zero, suc}
use native.Mathlib.Nat.{not-suc-le-zero}
use native.Mathlib.Omega.{arith}
use lib.ListN.{length, replicate, length-replicate}
use Rattle.refusals.specs.Told.{done, fine, first_below}
use Rattle.algebra.specs.Lists.{tab, sum_below, all_below, first_from, count, stretch, over, same_bytes}
use Rattle.algebra.specs.Permutations.{is_perm, permute}
use Rattle.matrices.specs.Matrices.{row_times, entry, product_at, key_fault}
use Rattle.compression.specs.Constants.{H0, K}
use Rattle.compression.specs.Block.{T1, T2, W, compress_of, expand_of, sum_of, turn_of, turns_of, word_of}
use Rattle.word32.specs.Operations.{Ch, Maj, ROTR, word_at, ◌⊞◌, Σ0, Σ1, σ0, σ1}
use Rattle.sha256.specs.Standard.{block_at, block_count, bytes, bytes_of, bytes_of_words, digest_of, hash_value, pad, padding, zeros}
use Rattle.kinds.specs.declared.Kind.TheVariants.{Commitments, Challenges, Answers, Openings}
use Rattle.packed_bits.specs.PackedBits.{bit_at, unused_clear}
use Rattle.bodies.specs.Bodies.{values, permutations}
use Rattle.frames.specs.Reading.{header, shape, reading, rest_of}
use Rattle.writers.specs.Writing.{frame}
use Rattle.readers.specs.Choosing.{vector_of, permutation_of, choice_check, choices_check}
use Rattle.scheme.specs.Round.{called_for, passes}
use Rattle.scheme.specs.Pairing.{Pairing}
use Rattle.rounds.specs.Layout.{half, opened_at}
use Rattle.rounds.specs.Rounds.{passes_at}
use Rattle.card_rules.specs.declared.session.Session.{Session}
use Rattle.card_rules.specs.Keys.{Keys, keys, public_of, secret_of, keys_check, valid_check}
use Rattle.card_rules.specs.Lent.{matrix_of}
use Rattle.card_rules.specs.Asking.{at_rest, record_fits, kept_fit, rest_check, begin_check, answer_check, open_check}
use Rattle.card_rules.proofs.Facts.{open_told_lem}
use Rattle.card_steps.specs.Steps.{begin_told, begun, commitments_of, answer_told, answered, answers_of, open_refusal, open_told, closed, openings_of, zeroed, fresh}
use Rattle.card_steps.proofs.Opening.{open_ready, own-fine}
use Rattle.stand_in.specs.Standing.{stand_in_of}
use Rattle.register_rules.specs.Verdict.{SignOn, sign_on, basis_check, exchange_check, frames_check, enough, messages_in, judging}
use Rattle.register_rules.proofs.Facts.{frames-told}
use Rattle.register_rules.proofs.Exact.{Accepts, Fails, accepted→}
use Rattle.demands.proofs.Demand2.{SignedOn, sent_by, lent, honest-card-accepted}
use Rattle.demands.proofs.Demand3.{choices_pair_off, partner, same_round}

abbrev pub N : ℕ
N = 20

abbrev pub small : Keys
small = keys (0 ∷ 6 ∷ 1 ∷ 1 ∷ 3 ∷ 1 ∷ 1 ∷ 2 ∷ []) (0 ∷ 6 ∷ 1 ∷ 2 ∷ 3 ∷ 3 ∷ 240 ∷ 5 ∷ []) (0 ∷ 6 ∷ 1 ∷ 3 ∷ 3 ∷ 2 ∷ 0 ∷ 1 ∷ [])

-- R = (10, 20, 30) and σ = (1, 0, 2) in each round
abbrev pub chosen : ℕ → List ℕ
chosen zero = []
chosen (suc n) = (10 ∷ 20 ∷ 30 ∷ 1 ∷ 0 ∷ 2 ∷ []) ++ chosen n

abbrev pub choices : List ℕ
choices = chosen N

abbrev pub challenges : List ℕ
challenges = 0 ∷ 23 ∷ 1 ∷ 5 ∷ N ∷ replicate N 7

abbrev pub bits : List ℕ
bits = 0 ∷ 6 ∷ 1 ∷ 7 ∷ N ∷ 170 ∷ 85 ∷ 240 ∷ []

-- outputs of the very size
abbrev pub outputs : ℕ → List ℕ
outputs size = replicate size 0

begin-told : done (1285 ∷ []) ≡ begin_told fresh N small choices (length (outputs 1285))
unfolding begin_told fresh begin_check at_rest rest_check keys_check valid_check reading header shape values permutations first_below is_perm all_below count stretch key_fault first_from row_times permute tab sum_below choices_check choice_check vector_of permutation_of
begin-told = rw (length-replicate {A = ℕ} 1285 0) refl

answer-told : done (66 ∷ []) ≡ answer_told (begun N small) small challenges choices (length (outputs 66))
unfolding answer_told begun answer_check record_fits rest_check keys_check valid_check reading header shape values permutations first_below is_perm all_below count stretch key_fault first_from row_times permute tab sum_below choices_check choice_check vector_of permutation_of
answer-told = refl

after-answer : Session
after-answer = answered (begun N small) (rest_of Challenges challenges)

open_checked : open_check after-answer small bits choices (length (outputs 66)) ≡ fine
unfolding after-answer answered begun over open_check record_fits kept_fit rest_check keys_check valid_check reading header shape values permutations first_below is_perm all_below count stretch key_fault first_from row_times permute tab sum_below choices_check choice_check vector_of permutation_of bit_at unused_clear
open_checked = refl

open_told-fine : done (66 ∷ []) ≡ open_told after-answer small bits choices (length (outputs 66))
unfolding open_told open_refusal after-answer answered begun
open_told-fine =
    rw (open_checked, ← own-fine after-answer small bits choices (open_ready after-answer small bits choices (length (outputs 66)) (open_told_lem after-answer small bits choices (length (outputs 66)) [] open_checked)))

-- the three calls
pub signed : SignedOn N small choices challenges bits
unfolding after-answer
signed =
    record {
      record₀ = fresh;
      out₁ = outputs 1285;
      begin = record { told = Ok 1285; next = begun N small };
      commitments = over (frame Commitments N 0 (commitments_of N small choices)) (outputs 1285);
      bytes₁ = 1285;
      begins = record { says = begin-told; moves = refl; writes = refl };
      begin-told = refl;
      out₂ = outputs 66;
      answer = record { told = Ok 66; next = after-answer };
      answers = over (frame Answers 3 (begun N small).rounds (answers_of (begun N small).rounds small challenges choices)) (outputs 66);
      bytes₂ = 66;
      answering = record { says = answer-told; moves = refl; writes = refl };
      answer-told = refl;
      out₃ = outputs 66;
      open' = record { told = Ok 66; next = closed after-answer };
      left = zeroed choices;
      openings = over (frame Openings 3 after-answer.rounds (openings_of after-answer.rounds small bits choices)) (outputs 66);
      bytes₃ = 66;
      opens = record { says = open_told-fine; moves = refl; clears = refl; writes = refl };
      open-told = refl;
    }

-- an inspector's sign-on, accepted
pub small-card-accepted : judging 1 (sent_by N small choices challenges bits signed) ≡ done (N ∷ [])
unfolding enough
small-card-accepted = honest-card-accepted N small choices challenges bits signed 1 refl

-- ---- of demand 3: round 0 of it, of challenge 7 and bit 1, and its partner

pub small_choices_pair_off : Pairing (matrix_of small) (public_of small) (secret_of small) 7 true
small_choices_pair_off = choices_pair_off small N choices (lent N small choices challenges bits signed) 7 (omega arith) true

pub small_round_paired : opened_at 3 (messages_in (sent_by N small choices challenges bits signed)) 0
    ≡ stand_in_of 7 1 small.system small.public ((partner N small choices challenges bits signed 0 (omega arith)).vector ++ (partner N small choices challenges bits signed 0 (omega arith)).permutation)
unfolding bit_at
small_round_paired = same_round N small choices challenges bits signed 0 (omega arith)

-- ---- of the exact verdict: accepted, and refused at round 0, where the commitments are zeros

pub small-accepts : Accepts 1 (sent_by N small choices challenges bits signed)
small-accepts = (accepted→ 1 (sent_by N small choices challenges bits signed) (N ∷ []) small-card-accepted).1

-- W for challenge 7, and σ
abbrev answered_by_hand : ℕ → List ℕ
answered_by_hand zero = []
answered_by_hand (suc n) = (41 ∷ 45 ∷ 204 ∷ []) ++ answered_by_hand n

abbrev opened_by_hand : ℕ → List ℕ
opened_by_hand zero = []
opened_by_hand (suc n) = (1 ∷ 0 ∷ 2 ∷ []) ++ opened_by_hand n

abbrev pub zero-commitments : SignOn
zero-commitments =
    sign_on small.system small.public (5 ∷ 3 ∷ 1 ∷ 4 ∷ N ∷ replicate 1280 0) challenges (0 ∷ 64 ∷ 1 ∷ 6 ∷ 3 ∷ N ∷ answered_by_hand N)
    (0 ∷ 6 ∷ 1 ∷ 7 ∷ N ∷ 0 ∷ 0 ∷ 0 ∷ []) (0 ∷ 64 ∷ 1 ∷ 8 ∷ 3 ∷ N ∷ opened_by_hand N)

zero-commitments-read : frames_check zero-commitments ≡ fine
unfolding frames_check basis_check exchange_check reading header shape values permutations first_below is_perm all_below count stretch bit_at unused_clear
zero-commitments-read = refl

-- the hash of σ and A_σ W is not 32 zeros
pub small_fails : Fails 1 zero-commitments false 0
unfolding enough passes_at opened_at half passes called_for product_at entry stretch sum_below tab same_bytes bit_at H0 K T1 T2 W ◌⊞◌ Ch Maj ROTR block_at block_count bytes bytes_of bytes_of_words compress_of digest_of expand_of hash_value pad padding sum_of turn_of turns_of word_at word_of zeros Σ0 Σ1 σ0 σ1
small_fails =
    record {
      frames = frames-told zero-commitments [] zero-commitments-read;
      suffices = refl;
      below = omega arith;
      before = λ k l. absurd (not-suc-le-zero l);
      here = refl;
      asked = refl;
    }
