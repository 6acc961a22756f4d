-- `put_heading` meets its contract: the first bytes of an array that holds two numbers.
use mathlib.Core.Path.{◌≡◌, refl, ap, ◌∙◌}
use mathlib.Core.List.{List}
use Prim.Native.Nat.{ℕ, ◌+◌, ◌-◌, ◌/◌, ◌%◌}
use native.Mathlib.Omega.{arith}
use lib.ListN.{get_or}
use Rattle.algebra.specs.Lists.{over}
use Rattle.writers.proofs.Writing.{laid-heading}
use Rattle.writers.proofs.put_heading.Goals as goal

pub returns : goal.returns
returns c = let g = c.args in
    let s = c.start-start in
    let n = s.result - 2 + g.size in
    let high : get_or c.to_be_bytes.result 0 0 ≡ n / 256 = rw c.to_be_bytes.ensures (omega arith) in
    let low : get_or c.to_be_bytes.result 1 0 ≡ n % 256 = rw c.to_be_bytes.ensures refl in
    (rw (high, low) at c.copy_into.ensures)
    ∙ ap (λ (l : List ℕ). over l g.out.now) (laid-heading g.kind s.result g.size _ _ g.a g.b s.ensures.0 c.version.ensures c.number.ensures)
