-- The frames that begin, answer and open write are read back as the values formed, which are, round by round, those of an honest round.
use mathlib.Core.Path.{◌≡◌, refl, ◌∙◌}
use mathlib.Core.Bool.{Bool, true}
use mathlib.Core.List.{List, [], ◌∷◌, ◌++◌}
use Prim.Native.Nat.{ℕ, ◌*◌, ◌≤◌, ◌<◌}
use native.Mathlib.Nat.{mul_comm}
use native.Mathlib.Omega.{arith}
use borrow.Author.Tests.{le-leb}
use lib.ListN.{length, get_or}
use Rattle.refusals.specs.Told.{done}
use Rattle.algebra.specs.Lists.{stretch}
use Rattle.algebra.specs.Residues.{modulus}
use Rattle.algebra.specs.Permutations.{IsPerm}
use Rattle.algebra.proofs.Lists.{length-joined, stretch-joined}
use Rattle.algebra.proofs.Vectors.{residues-joined}
use Rattle.kinds.specs.declared.Kind.{Kind}
use Rattle.kinds.specs.declared.Kind.TheVariants.{Commitments, Challenges, Answers, Bits, Openings}
use Rattle.kinds.specs.Kinds.{limits, within, alone, table, frame_size}
use Rattle.frames.specs.Reading.{rest_of, reading}
use Rattle.writers.specs.Writing.{frame}
use Rattle.packed_bits.specs.PackedBits.{bit_at}
use Rattle.writers.proofs.Writing.{Plain}
use Rattle.readers.proofs.Passing.{residues-pass, permutations-pass}
use Rattle.writers.proofs.Spelling.{Spells, written_read, frame-spells}
use Rattle.scheme.specs.Round.{honest}
use Rattle.scheme.proofs.Laws.{honest-shows}
use Rattle.rounds.specs.Layout.{pair_at, messages}
use Rattle.rounds.specs.Rounds.{answer_at, opening_at, honest_run}
use Rattle.rounds.proofs.Runs.{commitments-length, answer-length, answer-residues, opening-length, opening-perm}
use Rattle.card_rules.specs.Keys.{Keys, places_of, public_of, secret_of}
use Rattle.card_rules.specs.Lent.{matrix_of, LentFits}
use Rattle.card_steps.specs.Steps.{commitments_of, answers_of, openings_of}

-- ---- a frame that is read back as the values of its rounds

pub record ReadBack (k : Kind) (a b : ℕ) (rest : List ℕ) : Type 0 where
  pub reads : reading k alone (frame k a b rest) ≡ done (a ∷ b ∷ (table k).start ∷ [])
  pub spells : Spells k a b rest (frame k a b rest)
  pub size : length (frame k a b rest) ≡ frame_size k a b

read_back : (k : Kind) (a b : ℕ) (rest : List ℕ) → Plain k a b rest → ReadBack k a b rest
read_back k a b rest p =
    let s = frame-spells k a b rest p.numbers in
    let z = s.size in
    let w = p.size in
    record { reads = written_read k a b rest p; spells = s; size = omega arith }

in_limits : (least greatest x : ℕ) → least ≤ x → x ≤ greatest → within (limits least greatest) x ≡ true
in_limits least greatest x h l = rw (le-leb least x h, le-leb x greatest l)

-- ---- what an honest card shows in round j

module _ (k : Keys) (N : ℕ) (choices : List ℕ) (h : LentFits k N choices) where
  abbrev n : ℕ
  n = places_of k

  n-limits : within alone.places n ≡ true
  n-limits = let s = h.keys.system in let a = s.some in let b = s.less in let c = s.most in in_limits 2 64 n (omega arith) c

  N-limits : within alone.rounds N ≡ true
  N-limits = in_limits 1 64 N h.some h.most

  -- commitments: C0 and C1 of each round, whatever will be asked
  commitments-size : length (commitments_of N k choices) ≡ N * 64
  unfolding commitments_of
  commitments-size = length-joined 64 N _ (λ j l. commitments-length (matrix_of k) (secret_of k) choices j)

  pub commitments-read : ReadBack Commitments N 0 (commitments_of N k choices)
  commitments-read =
      read_back Commitments N 0 (commitments_of N k choices)
      (record {
        numbers = rw N-limits;
        size = commitments-size ∙ mul_comm N 64;
        content = ([], refl);
        spare = refl;
      })

  pub commitments-honest : (c : ℕ) (bit : Bool) (j : ℕ) → j < N
      → stretch 64 j (commitments_of N k choices)
      ≡ (honest (matrix_of k) (public_of k) (secret_of k) c bit (pair_at n choices j)).zero ++ (honest (matrix_of k) (public_of k) (secret_of k) c bit (pair_at n choices j)).one
  unfolding commitments_of
  commitments-honest c bit j l =
      stretch-joined 64 N _ (λ i g. commitments-length (matrix_of k) (secret_of k) choices i) j l
      ∙ (rw (honest-shows (matrix_of k) (public_of k) (secret_of k) c bit (pair_at n choices j)))

  -- first answers: W of each round
  module _ (message : List ℕ) where
    abbrev challenges : List ℕ
    challenges = rest_of Challenges message

    answers-length : (j : ℕ) → j < N → length (answer_at modulus n (public_of k) (secret_of k) challenges choices j) ≡ n
    answers-length j l =
        answer-length modulus n (public_of k) (secret_of k) (get_or challenges j 0) (pair_at n choices j) h.keys.perm (h.well.each j l).perm

    pub answers-read : ReadBack Answers n N (answers_of N k message choices)
    unfolding answers_of
    answers-read =
        read_back Answers n N (answers_of N k message choices)
        (record {
          numbers = rw (n-limits, N-limits);
          size = length-joined n N _ answers-length ∙ mul_comm N n;
          content = ([], residues-pass _ 0 _ (residues-joined modulus N _ (λ j l. answer-residues modulus n (public_of k) (secret_of k) (get_or challenges j 0) (pair_at n choices j) (omega arith) h.keys.perm (h.well.each j l).perm)));
          spare = refl;
        })

    pub answers-honest : (bit : Bool) (j : ℕ) → j < N
        → stretch n j (answers_of N k message choices) ≡ (honest (matrix_of k) (public_of k) (secret_of k) (get_or challenges j 0) bit (pair_at n choices j)).answer
    unfolding answers_of
    answers-honest bit j l =
        stretch-joined n N _ answers-length j l
        ∙ (rw (honest-shows (matrix_of k) (public_of k) (secret_of k) (get_or challenges j 0) bit (pair_at n choices j)))

  -- openings: σ or πσ of each round
  module _ (message : List ℕ) where
    abbrev bits : List ℕ
    bits = rest_of Bits message

    openings-length : (j : ℕ) → j < N → length (opening_at n (secret_of k) bits choices j) ≡ n
    openings-length j l = opening-length n (secret_of k) (bit_at bits j) _ (h.well.each j l).perm

    openings-perm : (j : ℕ) → j < N → IsPerm n (stretch n j (openings_of N k message choices))
    unfolding openings_of
    openings-perm j l =
        rw (stretch-joined n N _ openings-length j l) (opening-perm n (secret_of k) (bit_at bits j) _ h.keys.perm (h.well.each j l).perm)

    pub openings-read : ReadBack Openings n N (openings_of N k message choices)
    unfolding openings_of
    openings-read =
        read_back Openings n N (openings_of N k message choices)
        (record {
          numbers = rw (n-limits, N-limits);
          size = length-joined n N _ openings-length ∙ mul_comm N n;
          content = ([], permutations-pass _ n 0 N _ openings-perm);
          spare = refl;
        })

    pub openings-honest : (c j : ℕ) → j < N
        → stretch n j (openings_of N k message choices) ≡ (honest (matrix_of k) (public_of k) (secret_of k) c (bit_at bits j) (pair_at n choices j)).permutation
    unfolding openings_of
    openings-honest c j l =
        stretch-joined n N _ openings-length j l
        ∙ (rw (honest-shows (matrix_of k) (public_of k) (secret_of k) c (bit_at bits j) (pair_at n choices j)))

-- ---- all three together are an honest run

pub honest-messages : (k : Keys) (N : ℕ) (choices challenges bits : List ℕ)
    → messages (commitments_of N k choices) (rest_of Challenges challenges) (answers_of N k challenges choices) (rest_of Bits bits) (openings_of N k bits choices)
    ≡ honest_run (matrix_of k) (public_of k) (secret_of k) N choices (rest_of Challenges challenges) (rest_of Bits bits)
unfolding commitments_of answers_of openings_of
honest-messages k N choices _ _ = refl
