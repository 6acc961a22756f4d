-- `passes_at` meets its contract: each stretch is that of round k.
use mathlib.Core.Path.{sym, ap, ap₂, ◌∙◌}
use mathlib.Core.Bool.{Bool}
use mathlib.Core.List.{List}
use Prim.Native.Nat.{ℕ, ◌+◌, ◌-◌, ◌*◌}
use native.Mathlib.Omega.{arith}
use lib.ListN.{get_or, take, drop}
use Rattle.scheme.specs.Round.{passes, as_system, opened}
use Rattle.algebra.specs.Lists.{stretch}
use Rattle.algebra.proofs.Lists.{part_stretch, stretch-fits}
use Rattle.rounds.specs.Layout.{half, opened_at}
use Rattle.rounds.specs.Rounds.{passes_at}
use Rattle.rounds.proofs.Cuts.{own, half-cut, part_length, half_ends}
use Rattle.rounds.proofs.register.passes_at.Goals as goal

pub invariant_of-opened : goal.invariant_of-opened
invariant_of-opened c =
    let n = c.args.a.now.n in
    let x = c.args.x.now in
    let k = c.args.k in
    let h = c.requires.1 in
    let f = stretch-fits n k c.args.rounds c.requires.2 in
    let q = stretch-fits 64 k c.args.rounds c.requires.2 in
    let ea = h.answers in
    let eo = h.openings in
    let ec = h.commitments in
    let s = c.half_start-start in
    let e = half_ends c.bit_at-bit.result k in
    record {
      size = part_length s.result 32 x.commitments.now (omega (arith, s.ensures.0));
      even = part_length (k * n) n x.answers.now (omega arith) ∙ sym (part_length (k * n) n x.openings.now (omega arith));
      perm = rw (part_stretch n k x.openings.now) (own n _ (h.perms k c.requires.2));
    }

pub returns : goal.returns
unfolding passes_at opened_at
returns c = let n = c.args.a.now.n in
    let x = c.args.x.now in
    let k = c.args.k in
    let v = c.args.v.now in
    let s = as_system c.args.a.now in
    let ask = get_or x.challenges.now k 0 in
    let q = stretch-fits 64 k c.args.rounds c.requires.2 in
    let ec = c.requires.1.commitments in
    let bit = c.bit_at-bit in
    let from = k * n in
    let w = take (from + n - from) (drop from x.answers.now) in
    let θ = take (from + n - from) (drop from x.openings.now) in
    let h = half-cut bit.result k c.half_start-start.result x.commitments.now c.half_start-start.ensures.0 (omega arith) in
    c.passes.ensures
    ∙ ap (λ (z : List ℕ). passes s v ask bit.result (opened z w θ)) h
    ∙ ap₂ (λ (w θ : List ℕ). passes s v ask bit.result (opened (half bit.result (stretch 64 k x.commitments.now)) w θ)) (part_stretch n k x.answers.now) (part_stretch n k x.openings.now)
    ∙ ap (λ (z : Bool). passes s v ask z (opened (half z (stretch 64 k x.commitments.now)) (stretch n k x.answers.now) (stretch n k x.openings.now))) bit.ensures
