-- What is lent for N rounds, as the code cuts it, and frames written heading first.
use mathlib.Core.Path.{◌≡◌, refl, ap, ◌∙◌}
use mathlib.Core.List.{List}
use Prim.Native.Nat.{ℕ, ◌+◌, ◌-◌, ◌*◌, ◌≤◌}
use native.Mathlib.Omega.{arith}
use lib.ListN.{length}
use borrow.Rule.Slice.PartMut.{put_mid, mid_of}
use Rattle.algebra.specs.Lists.{joined, over, over_at}
use Rattle.algebra.specs.Residues.{modulus}
use Rattle.matrices.specs.Matrices.{SystemFits}
use Rattle.algebra.proofs.Lists.{part_over, stretch-fits}
use Rattle.kinds.specs.declared.Kind.{Kind}
use Rattle.kinds.specs.declared.Kind.TheVariants.{System, Challenges, Bits}
use Rattle.kinds.specs.Kinds.{exactly, table}
use Rattle.frames.specs.Reading.{rest_of}
use Rattle.readers.specs.Choosing.{choice_size}
use Rattle.writers.specs.Writing.{heading, frame}
use Rattle.frames.proofs.Facts.{rest-length, FrameFits, first-asked}
use Rattle.frames.proofs.Orders.{from, rest_part}
use Rattle.writers.proofs.Writing.{framed}
use Rattle.scheme.specs.Round.{System as Matrix}
use Rattle.rounds.specs.Layout.{CardFits}
use Rattle.rounds.specs.Rounds.{commitments_at, answer_at, opening_at}
use Rattle.card_rules.specs.Keys.{Keys, places_of, rows_of, public_of, secret_of}
use Rattle.card_rules.specs.Lent.{matrix_of, LentFits}
use Rattle.card_steps.specs.Steps.{commitments_of, answers_of, openings_of}

-- a frame: its heading, and the rest over the part behind it
pub body_written : (k : Kind) (a b : ℕ) (rest out d : List ℕ) (start size : ℕ) → start ≡ (table k).start → size ≡ length rest
    → d ≡ over (heading k ((table k).start - 2 + size) a b) out → start + length rest ≤ length d
    → put_mid start (length d - start) d (over rest (mid_of start (length d - start) d)) ≡ over (frame k a b rest) out
body_written k a b rest out d start size p q e l =
    part_over rest d start (length d - start) (omega arith) (omega arith)
    ∙ ap (over_at rest start) (e ∙ ap (λ (z : ℕ). over (heading k ((table k).start - 2 + z) a b) out) q)
    ∙ framed k a b rest out start p

-- what the loops over rounds ask
pub card-fits : (k : Keys) (N : ℕ) (choices v : List ℕ) → LentFits k N choices → length v ≡ places_of k → CardFits (places_of k) N v (secret_of k) choices
card-fits k N choices v h e =
    let m = h.most in
    let s = h.well.size in
    record {
      few = omega arith;
      each = λ j l.
          record {
            most = h.keys.system.most;
            few = omega arith;
            vector = e;
            key = h.keys.perm;
            there = rw s (stretch-fits (choice_size (places_of k)) j N l);
            perm = (h.well.each j l).perm;
          };
    }

-- ---- the values lent, as the code cuts them

pub system_part : (k : Keys) (N : ℕ) (choices : List ℕ) → LentFits k N choices → (n m : ℕ) → n ≡ places_of k → m ≡ rows_of k → SystemFits (from 6 k.system) n m
system_part k N choices h n m p q = rw (rest_part System k.system 6 refl, p, q) h.keys.system

-- with V, and with no vector
module _ (k : Keys) (N : ℕ) (choices : List ℕ) (h : LentFits k N choices) (n : ℕ) (v π : List ℕ) (p : n ≡ places_of k) (a : v ≡ public_of k) (b : π ≡ secret_of k) where
  pub card-parts : CardFits n N v π choices
  card-parts = rw (a, b, p) (card-fits k N choices (public_of k) h h.keys.vector)

  pub answers-formed : (message : List ℕ) → joined N (answer_at modulus n v π (from 5 message) choices) ≡ answers_of N k message choices
  unfolding answers_of
  answers-formed message = rw (rest_part Challenges message 5 refl, a, b, p)

module _ (k : Keys) (N : ℕ) (choices : List ℕ) (h : LentFits k N choices) (n : ℕ) (π : List ℕ) (p : n ≡ places_of k) (b : π ≡ secret_of k) where
  pub key-parts : CardFits n N π π choices
  key-parts = rw (b, p) (card-fits k N choices (secret_of k) h h.keys.perm.len)

  pub openings-formed : (message : List ℕ) → joined N (opening_at n π (from 5 message) choices) ≡ openings_of N k message choices
  unfolding openings_of
  openings-formed message = rw (rest_part Bits message 5 refl, b, p)

pub commitments-formed : (k : Keys) (N : ℕ) (choices : List ℕ) (s : Matrix) (π : List ℕ) → s ≡ matrix_of k → π ≡ secret_of k
    → joined N (commitments_at s π choices) ≡ commitments_of N k choices
unfolding commitments_of
commitments-formed k N choices s π e b = rw (e, b)

-- ---- the incoming messages

-- as many challenges as rounds
pub challenges-sent : (n N : ℕ) (message : List ℕ) → FrameFits Challenges (exactly n N) message → length (from 5 message) ≡ N
challenges-sent n N message f =
    rw (rest_part Challenges message 5 refl) (rest-length Challenges (exactly n N) message f.form ∙ first-asked Challenges (exactly n N) message f.form N refl)

-- and a bit for each
pub bits-sent : (n N : ℕ) (message : List ℕ) → FrameFits Bits (exactly n N) message → N ≤ 8 * length (rest_of Bits message)
bits-sent n N message f =
    let e = rest-length Bits (exactly n N) message f.form in
    let q = first-asked Bits (exactly n N) message f.form N refl in
    omega arith
