-- `write_bits` meets its contract: the bytes, cleared, are the front of the room.
use mathlib.Core.Path.{sym, ap, ◌∙◌}
use mathlib.Core.List.{List}
use Prim.Native.Nat.{ℕ}
use Rattle.random.specs.Drawings.{Drawing, drawn_over}
use Rattle.algebra.specs.Lists.{over}
use Rattle.algebra.proofs.Lists.{front}
use Rattle.packed_bits.specs.Clearing.{packed_size, cleared}
use Rattle.writers.specs.Writing.{frame}
use Rattle.packed_bits.proofs.Clearing.{length-cleared}
use Rattle.draw_rules.specs.Making.{draw_bits}
use Rattle.random.specs.Sequences.{made, some_below, byte_limit}
use Rattle.random.proofs.Sequences.{drew_of, drawn_front}
use Rattle.kinds.specs.declared.Kind.TheVariants.{Bits}
use Rattle.draw.proofs.messages.write_bits.Goals as goal

pub returns : goal.returns
unfolding draw_bits
returns c = let g = c.args in
    let n = g.rounds in
    let random = g.random.now in
    let s = c.size-size in
    let w = c.write_below in
    let u = c.clear_unused in
    let room = w.new.out in
    let d = some_below byte_limit (packed_size n) random 0 in
    let q = rw s.ensures.0 at w.ensures in
    let a = drew_of d w.result q.0 in
    let r = drawn_front byte_limit random (packed_size n) 0 _ a.0 _ room a.1 q.1 in
    let t = front (cleared n a.0) room u.new.bytes s.result (length-cleared n a.0 ∙ r.0 ∙ sym s.ensures.0) (u.ensures ∙ ap (λ (l : List ℕ). over (cleared n l) room) r.1) in
    c.put_frame.ensures
    ∙ ap (λ (l : List ℕ). over (frame Bits n 0 l) g.out.now) t
    ∙ sym (ap (λ (z : Drawing). drawn_over (made (λ (l : List ℕ). frame Bits n 0 (cleared n l)) z) g.out.now) a.1)
