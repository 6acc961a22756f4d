-- `clear_unused` meets its contract: of the bytes in front the last is set.
use mathlib.Core.Path.{sym, ap, ◌∙◌}
use Prim.Native.Nat.{◌-◌, ◌*◌}
use native.Mathlib.Omega.{arith}
use lib.ListN.{set}
use lib.Seq.{get_or-take}
use Rattle.packed_bits.specs.Clearing.{packed_size, clear_low, cleared}
use Rattle.packed_bits.proofs.Clearing.{set_front}
use Rattle.packed_bits.proofs.clear_unused.Goals as goal

pub returns : goal.returns
unfolding cleared
returns c = let g = c.args in
    let d = g.bytes.now in
    let size = packed_size g.rounds in
    ap (set d (size - 1)) (c.clear_low.ensures ∙ ap (clear_low (8 * size - g.rounds)) (sym (get_or-take size d (size - 1) 0 (omega arith))))
    ∙ set_front d size (size - 1) _ (omega arith) (omega arith)
