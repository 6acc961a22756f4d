-- `answer_at` meets its contract: what was written goes back to its place.
use mathlib.Core.Path.{sym, ap, ◌∙◌}
use Prim.Native.Nat.{◌-◌, ◌*◌}
use native.Mathlib.Omega.{arith}
use lib.ListN.{length, get_or}
use borrow.Rule.Slice.PartMut.{put_mid, mid_of}
use Rattle.scheme.specs.Round.{Pair, first_answer}
use Rattle.algebra.specs.Lists.{over}
use Rattle.algebra.specs.Residues.{modulus}
use Rattle.algebra.proofs.Lists.{part_over}
use Rattle.rounds.specs.Layout.{pair_at}
use Rattle.rounds.proofs.Cuts.{own}
use Rattle.rounds.proofs.Runs.{answer-length}
use Rattle.card_rounds.proofs.answer_at.Goals as goal

pub first_answer_into-requires : goal.first_answer_into-requires
first_answer_into-requires c = let h = c.requires.0 in
    let l = h.perm.len in
    let v = h.vector in
    rw (ap (λ (x : Pair). x.permutation) c.pair_at.ensures) (own _ _ h.key, own _ _ h.perm, h.key.len ∙ sym l, v ∙ sym l, omega arith, omega arith)

pub returns : goal.returns
returns c = let n = c.args.n in
    let d = c.args.out.now in
    let at = c.args.k * n in
    let v = c.args.v.now in
    let π = c.args.pi.now in
    let ask = get_or c.args.challenges.now c.args.k 0 in
    let x = pair_at n c.args.choices.now c.args.k in
    let l = answer-length modulus n v π ask x c.requires.0.key c.requires.0.perm in
    ap (put_mid at (length d - at) d)
    (c.first_answer_into.ensures ∙ ap (λ (y : Pair). over (first_answer modulus v π ask y) (mid_of at (length d - at) d)) c.pair_at.ensures)
    ∙ part_over (first_answer modulus v π ask x) d at (length d - at) (omega arith) (omega arith)
