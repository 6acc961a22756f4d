-- `open_at` meets its contract: what was written goes back to its place.
use mathlib.Core.Path.{sym, ap, ◌∙◌}
use mathlib.Core.Bool.{Bool}
use mathlib.Core.List.{List}
use Prim.Native.Nat.{ℕ, ◌-◌, ◌*◌}
use native.Mathlib.Omega.{arith}
use lib.ListN.{length}
use borrow.Rule.Slice.PartMut.{put_mid, mid_of}
use Rattle.scheme.specs.Round.{opening}
use Rattle.algebra.specs.Lists.{over, over_at}
use Rattle.algebra.proofs.Lists.{part_over}
use Rattle.rounds.specs.Layout.{pair_at}
use Rattle.rounds.proofs.Cuts.{own}
use Rattle.rounds.proofs.Runs.{opening-length}
use Rattle.card_rounds.proofs.open_at.Goals as goal

pub open_into-requires : goal.open_into-requires
open_into-requires c = let h = c.requires.0 in
    let l = h.perm.len in
    rw c.permutation_of-sigma.ensures (own _ _ h.key, own _ _ h.perm, h.key.len ∙ sym l, omega arith)

pub returns : goal.returns
returns c = let d = c.args.out.now in
    let at = c.args.k * c.args.n in
    let π = c.args.pi.now in
    let σ = (pair_at c.args.n c.args.choices.now c.args.k).permutation in
    let bit = c.bit_at-bit.result in
    let l = opening-length c.args.n π bit σ c.requires.0.perm in
    ap (put_mid at (length d - at) d)
    (c.open_into.ensures ∙ ap (λ (z : List ℕ). over (opening π bit z) (mid_of at (length d - at) d)) c.permutation_of-sigma.ensures)
    ∙ part_over (opening π bit σ) d at (length d - at) (omega arith) (omega arith)
    ∙ ap (λ (z : Bool). over_at (opening π z σ) at d) c.bit_at-bit.ensures
