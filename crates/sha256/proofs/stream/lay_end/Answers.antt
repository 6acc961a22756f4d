-- `lay_end` lays the bytes that wait, the mark and the count of bits into zeros; the zeros left between are those of the padding.
use mathlib.Core.List.{List, ◌∷◌, ◌++◌}
use mathlib.Core.Path.{◌≡◌, ap, ◌∙◌}
use Prim.Native.Nat.{ℕ, suc, ◌+◌, ◌-◌, ◌*◌, ◌%◌}
use native.Mathlib.Omega.{arith}
use borrow.Author.Rules.{rules}
use lib.ListN.{length, take, replicate, set}
use lib.Seq.{length-take-le, paste}
use Rattle.sha256.proofs.Laid.{count_bytes, ended}
use Rattle.sha256.specs.Standard.{padding}
use Rattle.sha256.proofs.stream.lay_end.Goals as goal

pub returns : goal.returns
unfolding padding
returns c = let n = c.args.n in
    let w : length (take (n % 64) c.args.buffer.now) ≡ n % 64 = length-take-le (n % 64) c.args.buffer.now (omega arith) in
    let z = c.zeros_of in
    let bits = c.to_be_bytes in
    let eight : length bits.result ≡ 8 = search rules in
    let front = take (n % 64) c.args.buffer.now in
    let d = c.args.tail.now in
    let e : 128 ≡ n % 64 + suc (127 - n % 64) = omega arith in
    let end : n % 64 + z.result + 1 + length bits.result ≡ n % 64 + z.result + 9 = omega arith in
    let laid : c.lay-2.new.buffer ≡ paste (set (paste d 0 front (length front)) (n % 64) 0x80) (n % 64 + z.result + 1) bits.result (length bits.result) =
    rw (← c.lay.ensures) c.lay-2.ensures in
    rw (← z.ensures.0, ← end, laid)
    (ended (n % 64) (127 - n % 64) z.result front bits.result d w (omega (arith, z.ensures.1)) (c.requires.2 ∙ ap (λ (k : ℕ). replicate k 0) e)
    ∙ ap (λ (l : List ℕ). front ++ (0x80 ∷ (replicate z.result 0 ++ l))) (bits.ensures ∙ count_bytes (8 * n)))
