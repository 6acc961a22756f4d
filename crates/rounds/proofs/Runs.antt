-- With a valid key no round of an honest run fails, for all challenges and bits; and what the first failing round says.
use mathlib.Core.Path.{◌≡◌, sym, ap, ap₂, ◌∙◌, subst}
use mathlib.Core.Bool.{Bool, true, false, not, false≢true}
use mathlib.Core.List.{List, ◌++◌}
use Prim.Native.Nat.{ℕ, ◌≤◌, ◌<◌}
use native.Mathlib.Nat.{zero-add}
use native.Mathlib.Decide.{dec_lt}
use native.Mathlib.Omega.{arith}
use lib.ListN.{length, get_or, take, length-append}
use lib.Seq.{take_at, drop_at, take_all}
use Rattle.algebra.specs.Lists.{stretch, joined, first_from}
use Rattle.algebra.specs.Residues.{Residues}
use Rattle.algebra.specs.Permutations.{IsPerm, permute, compose}
use Rattle.algebra.proofs.Lists.{stretch-joined, Found, found}
use Rattle.algebra.proofs.Permutations.{compose-perm}
use Rattle.algebra.proofs.Vectors.{length-add_scaled, residues-add_scaled}
use Rattle.sha256.specs.Standard.{digest_of}
use Rattle.sha256.proofs.Digest.{digest_length}
use Rattle.packed_bits.specs.PackedBits.{bit_at}
use Rattle.scheme.specs.Round.{System, Sound, ValidKey, Pair, committed0, committed1, first_answer, opening, honest, opened, commitment_of, opened_of, passes}
use Rattle.scheme.proofs.Laws.{length_under, honest-passes}
use Rattle.rounds.specs.Layout.{pair_at, AllWell, Messages, half, opened_at}
use Rattle.rounds.specs.Rounds.{commitments_at, answer_at, opening_at, honest_run, passes_at, fails_at, first_failing}

-- ---- the lengths of what a round adds

pub commitments-length : (s : System) (π choices : List ℕ) (k : ℕ) → length (commitments_at s π choices k) ≡ 64
commitments-length s π choices k =
    let a = digest_length (committed0 s (pair_at s.n choices k)) in
    let b = digest_length (committed1 π (pair_at s.n choices k)) in
    simp length-append (omega arith)

pub answer-length : (p n : ℕ) (v π : List ℕ) (c : ℕ) (x : Pair) → IsPerm n π → IsPerm n x.permutation → length (first_answer p v π c x) ≡ n
unfolding first_answer
answer-length p n v π c x key h =
    let e = length_under n x.vector x.permutation h in
    length-add_scaled p (permute x.vector x.permutation) c (permute v (compose π x.permutation))
    (e ∙ sym (length_under n v (compose π x.permutation) (compose-perm n π x.permutation key h))) ∙ e

pub answer-residues : (p n : ℕ) (v π : List ℕ) (c : ℕ) (x : Pair) → 0 < p → IsPerm n π → IsPerm n x.permutation → Residues p (first_answer p v π c x)
unfolding first_answer
answer-residues p n v π c x some key h =
    residues-add_scaled p (permute x.vector x.permutation) c (permute v (compose π x.permutation))
    (length_under n x.vector x.permutation h ∙ sym (length_under n v (compose π x.permutation) (compose-perm n π x.permutation key h))) some

pub opening-length : (n : ℕ) (π : List ℕ) (bit : Bool) (σ : List ℕ) → IsPerm n σ → length (opening π bit σ) ≡ n
unfolding opening
opening-length n π false σ h = h.len
opening-length n π true σ h = length_under n π σ h

pub opening-perm : (n : ℕ) (π : List ℕ) (bit : Bool) (σ : List ℕ) → IsPerm n π → IsPerm n σ → IsPerm n (opening π bit σ)
unfolding opening
opening-perm n π false σ key h = h
opening-perm n π true σ key h = compose-perm n π σ key h

-- the half of a bit is the commitment of that bit
half-honest : (s : System) (v π : List ℕ) (c : ℕ) (b bit : Bool) (x : Pair)
    → half bit (digest_of (committed0 s x) ++ digest_of (committed1 π x)) ≡ commitment_of bit (honest s v π c b x)
unfolding half honest
half-honest s v π c b false x = take_at (digest_of (committed0 s x)) (digest_of (committed1 π x)) 32 (digest_length (committed0 s x))
half-honest s v π c b true x =
    ap (take 32) (drop_at (digest_of (committed0 s x)) (digest_of (committed1 π x)) 32 (digest_length (committed0 s x)))
    ∙ take_all 32 (digest_of (committed1 π x)) (let e = digest_length (committed1 π x) in omega arith)

-- ---- the first round that does not pass: all before it pass, and it does not

pub failing_found : (s : System) (v : List ℕ) (x : Messages) (N : ℕ) → Found (fails_at s v x) 0 N (first_failing s v x N)
unfolding first_failing
failing_found s v x N =
    subst (λ (end : ℕ). Found (fails_at s v x) 0 end (first_from N 0 (fails_at s v x))) (zero-add N) (found (fails_at s v x) N 0)

pub all_pass : (s : System) (v : List ℕ) (x : Messages) (N : ℕ) → ((k : ℕ) → k < N → passes_at s v x k ≡ true) → first_failing s v x N ≡ N
all_pass s v x N h = step (dec_lt (first_failing s v x N) N)
  where
    step : Dec (first_failing s v x N < N) → first_failing s v x N ≡ N
    step (yes l) = absurd (false≢true (sym (ap not (h (first_failing s v x N) l)) ∙ (failing_found s v x N).here l))
    step (no q) = let m = (failing_found s v x N).most in omega arith

-- ---- an honest run

module _ (s : System) (v π : List ℕ) (ok : Sound s) (key : ValidKey s v π) (N : ℕ) (choices : List ℕ) (well : AllWell s N choices) (challenges bits : List ℕ) where
  -- what is opened of round k is what the honest round opens
  pub honest-opened : (k : ℕ) → k < N
      → opened_at s.n (honest_run s v π N choices challenges bits) k
      ≡ opened_of (bit_at bits k) (honest s v π (get_or challenges k 0) (bit_at bits k) (pair_at s.n choices k))
  unfolding opened_at honest
  honest-opened k l =
      let x = pair_at s.n choices k in
      let bit = bit_at bits k in
      let c = get_or challenges k 0 in
      let e = stretch-joined 64 N (commitments_at s π choices) (λ j h. commitments-length s π choices j) k l in
      let f = stretch-joined s.n N (answer_at s.p s.n v π challenges choices) (λ j h. answer-length s.p s.n v π (get_or challenges j 0) (pair_at s.n choices j) key.perm (well.each j h).perm) k l in
      let g = stretch-joined s.n N (opening_at s.n π bits choices) (λ j h. opening-length s.n π (bit_at bits j) _ (well.each j h).perm) k l in
      ap (λ (z : List ℕ). opened z (stretch s.n k (joined N (answer_at s.p s.n v π challenges choices))) (stretch s.n k (joined N (opening_at s.n π bits choices))))
      (ap (half bit) e ∙ half-honest s v π c bit bit x)
      ∙ ap₂ (opened (commitment_of bit (honest s v π c bit x))) f g

  -- so every round passes, and none fails
  pub honest_round_passes : (k : ℕ) → k < N → get_or challenges k 0 ≤ s.p → passes_at s v (honest_run s v π N choices challenges bits) k ≡ true
  unfolding passes_at
  honest_round_passes k l small =
      ap (passes s v (get_or challenges k 0) (bit_at bits k)) (honest-opened k l)
      ∙ honest-passes s v π ok key (get_or challenges k 0) (pair_at s.n choices k) (well.each k l) small (bit_at bits k)

  pub none_fails : ((k : ℕ) → k < N → get_or challenges k 0 ≤ s.p) → first_failing s v (honest_run s v π N choices challenges bits) N ≡ N
  none_fails small = all_pass s v (honest_run s v π N choices challenges bits) N (λ k l. honest_round_passes k l (small k l))
