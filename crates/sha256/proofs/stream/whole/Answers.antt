-- `whole` has nothing waiting, so that the part's whole blocks go on from the hash value, and what is left of the part waits.
use Rattle.std.proofs.Common.{◌≡◌, ◌++◌, ◌+◌, length, arith, refl, length-append}
use Rattle.sha256.proofs.Absorbing.{absorbed, both, none_waits}
use Rattle.sha256.specs.Absorbed.{Absorbs}
use Rattle.sha256.proofs.stream.whole.Goals as goal

pub returns : goal.returns
returns c =
    let s = c.args.s in
    let front = c.split_at.result.0.now in
    let first : Absorbs s front (record { words = c.blocks-s.result; buffer = s.buffer; count = s.count + length front }) =
    record {
      count = refl;
      message =
          λ m k.
          let n : s.count ≡ length m = k.count in
          let e : length (m ++ front) ≡ length m + length front = length-append m front in
          absorbed _ (m ++ front) (omega arith) (c.blocks-s.ensures m (none_waits s m k (omega arith)));
    } in
    both _ _ _ _ _ _ c.split_at.ensures.by_index.0 first c.wait.ensures
