-- `fill` lays the part after the bytes that wait, which makes the next block of the message, and compresses that.
use mathlib.Core.List.{◌++◌}
use mathlib.Core.Path.{◌≡◌, refl}
use Prim.Native.Nat.{◌+◌, ◌%◌}
use native.Mathlib.Omega.{arith}
use borrow.Author.Rules.{rules}
use lib.ListN.{length, take}
use Rattle.sha256.proofs.Absorbing.{filled}
use Rattle.sha256.proofs.Laid.{laid}
use Rattle.sha256.proofs.stream.fill.Goals as goal

pub returns : goal.returns
returns c = let g = c.args in
    let size : length g.s.buffer ≡ 64 = search rules in
    let y = g.part.now in
    let front : take (g.s.count % 64 + length y) c.lay.new.buffer ≡ take (g.s.count % 64) g.s.buffer ++ y =
    rw c.lay.ensures (laid g.s.buffer y (g.s.count % 64) (omega arith)) in
    record { count = refl; message = λ m k. rw c.compress-s.ensures (filled g.s m y c.lay.new.buffer k front (omega arith) (search rules)) }
