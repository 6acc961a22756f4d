-- `finish` goes on from the hash value of the whole blocks, over the bytes that wait and the padding: together the padded message.
use mathlib.Core.List.{List, ◌++◌}
use mathlib.Core.Path.{◌≡◌, ap, ◌∙◌}
use Prim.Native.Nat.{ℕ, ◌+◌, ◌%◌}
use lib.ListN.{length, take}
use Rattle.sha256.proofs.Absorbing.{chained, rejoined, whole_of, digested}
use Rattle.sha256.specs.Standard.{padding}
use Rattle.sha256.proofs.stream.finish.Goals as goal

pub returns : goal.returns
returns c = λ m k.
    let s = c.args.s in
    let z = c.zeros_of in
    let t = take (s.count % 64 + z.result + 9) c.lay_end.new.tail in
    let e : t ≡ take (s.count % 64) s.buffer ++ padding s.count = rw z.ensures.0 c.lay_end.ensures in
    let j : whole_of m ++ t ≡ m ++ padding (length m) =
    ap (λ (l : List ℕ). whole_of m ++ l) e ∙ rejoined s m (padding s.count) k ∙ ap (λ (n : ℕ). m ++ padding n) k.count in
    c.bytes_of.ensures ∙ digested c.blocks-2.result m (rw j at (c.blocks-2.ensures (whole_of m) (chained s m k)))
