-- A round is written commitment, W, permutation, one behind the other.
use mathlib.Core.Path.{◌≡◌, sym, ap, ◌∙◌}
use mathlib.Core.Bool.{Bool, true, false}
use mathlib.Core.List.{List, ◌++◌}
use Prim.Native.Nat.{ℕ, ◌+◌, ◌≤◌}
use native.Mathlib.Omega.{arith}
use lib.ListN.{length, length-append}
use borrow.Rule.Slice.PartMut.{put_mid, mid_of}
use Rattle.algebra.specs.Lists.{over, over_at}
use Rattle.algebra.specs.Residues.{modulus}
use Rattle.algebra.specs.Permutations.{IsPerm, permute}
use Rattle.algebra.proofs.Lists.{part_over, over-behind}
use Rattle.algebra.proofs.Vectors.{length-add_scaled}
use Rattle.sha256.specs.Standard.{digest_of}
use Rattle.sha256.proofs.Digest.{digest_length}
use Rattle.scheme.specs.Round.{System, Pair, pair, stand_in_committed, stand_in_answer, stand_in}
use Rattle.scheme.proofs.Laws.{length_under}
use Rattle.stand_in_round.specs.Bytes.{round_size, round_bytes}

-- W has n residues
answer-length : (p n : ℕ) (v : List ℕ) (c : ℕ) (bit : Bool) (y : Pair) → length y.vector ≡ n → IsPerm n y.permutation → length (stand_in_answer p v c bit y) ≡ n
unfolding stand_in_answer
answer-length p n v c false y e h = e
answer-length p n v c true y e h =
    length-add_scaled p y.vector c (permute v y.permutation) (e ∙ sym (length_under n v y.permutation h)) ∙ e

-- W over a lent part, back in its place
pub answer-over : (v : List ℕ) (c : ℕ) (bit : Bool) (u θ d : List ℕ) (at k : ℕ) → length u ≡ length θ → IsPerm (length θ) θ → length θ ≤ k → at + k ≤ length d
    → put_mid at k d (over (stand_in_answer modulus v c bit (pair u θ)) (mid_of at k d)) ≡ over_at (stand_in_answer modulus v c bit (pair u θ)) at d
answer-over v c bit u θ d at k e h l f =
    let w = stand_in_answer modulus v c bit (pair u θ) in
    let z : length w ≡ length θ = answer-length modulus (length θ) v c bit (pair u θ) e h in
    part_over w d at k (omega arith) f

module _ (s : System) (v : List ℕ) (c : ℕ) (bit : Bool) (y : Pair) (n : ℕ) (e : length y.vector ≡ n) (h : IsPerm n y.permutation) where
  pub round_laid : (d out one two all : List ℕ) → d ≡ digest_of (stand_in_committed s v c bit y) → one ≡ over d out
      → two ≡ over_at (stand_in_answer s.p v c bit y) 32 one → all ≡ over_at y.permutation (32 + n) two
      → all ≡ over (round_bytes (stand_in s v c bit y)) out
  unfolding round_bytes stand_in
  round_laid d out one two all q a b z =
      let w = stand_in_answer s.p v c bit y in
      let k : length d ≡ 32 = ap length q ∙ digest_length (stand_in_committed s v c bit y) in
      let l : length w ≡ n = answer-length s.p n v c bit y e h in
      let m : length (d ++ w) ≡ 32 + n = omega (arith, length-append d w) in
      z
      ∙ ap (over_at y.permutation (32 + n)) (b ∙ ap (over_at w 32) a ∙ over-behind d w out 32 k)
      ∙ over-behind (d ++ w) y.permutation out (32 + n) m
      ∙ ap (λ (x : List ℕ). over ((x ++ w) ++ y.permutation) out) q

  pub round_size_lem : length (round_bytes (stand_in s v c bit y)) ≡ round_size n
  unfolding round_bytes stand_in
  round_size_lem =
      let d = digest_of (stand_in_committed s v c bit y) in
      let w = stand_in_answer s.p v c bit y in
      let k = digest_length (stand_in_committed s v c bit y) in
      let l = answer-length s.p n v c bit y e h in
      let m = h.len in
      omega (arith, length-append (d ++ w) y.permutation, length-append d w)
