-- `commit_at` meets its contract: C0 at its place, and C1 behind it.
use mathlib.Core.Path.{sym, ap, ap₂, ◌∙◌}
use mathlib.Core.List.{List, ◌++◌}
use Prim.Native.Nat.{ℕ, ◌+◌, ◌*◌}
use native.Mathlib.Omega.{arith}
use lib.ListN.{length}
use Rattle.scheme.specs.Round.{Pair, as_system, committed0, committed1}
use Rattle.algebra.specs.Lists.{over_at}
use Rattle.sha256.specs.Standard.{digest_of}
use Rattle.sha256.proofs.Digest.{digest_length}
use Rattle.rounds.proofs.Cuts.{own, over_meet}
use Rattle.card_rounds.proofs.commit_at.Goals as goal

pub commitment_zero-zero-requires : goal.commitment_zero-zero-requires
commitment_zero-zero-requires c = ap (λ (x : Pair). length x.permutation) c.pair_at-x.ensures ∙ c.requires.0.perm.len

pub commitment_one-one-requires : goal.commitment_one-one-requires
commitment_one-one-requires c = let h = c.requires.0 in
    let l = h.perm.len in
    rw (ap (λ (x : Pair). x.permutation) c.pair_at-x.ensures) (own _ _ h.key, own _ _ h.perm, h.key.len ∙ sym l, omega arith)

pub returns : goal.returns
returns c = let d = c.args.out.now in
    let at = c.args.k * 64 in
    let s = as_system c.args.a.now in
    let π = c.args.pi.now in
    let z = c.commitment_zero-zero.ensures ∙ ap (λ (x : Pair). digest_of (committed0 s x)) c.pair_at-x.ensures in
    let o = c.commitment_one-one.ensures ∙ ap (λ (x : Pair). digest_of (committed1 π x)) c.pair_at-x.ensures in
    c.copy_at-2.ensures
    ∙ ap (over_at _ (at + 32)) c.copy_at.ensures
    ∙ over_meet _ _ d at (at + 32) (ap (λ (n : ℕ). at + n) (sym (ap length c.commitment_zero-zero.ensures ∙ digest_length _))) (omega arith)
    ∙ ap₂ (λ (p q : List ℕ). over_at (p ++ q) at d) z o
