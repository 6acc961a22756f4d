-- `draw_bits` meets its contract: a law of the order for each answer.
use mathlib.Core.Path.{sym, ap, ◌∙◌}
use mathlib.Core.List.{List, []}
use Prim.Native.Nat.{ℕ}
use native.Mathlib.Omega.{arith}
use Rattle.refusals.specs.declared.Buffer.TheVariants.{Output}
use Rattle.refusals.specs.declared.Reason.TheVariants.{Room}
use Rattle.random.specs.Drawings.{used_by}
use Rattle.packed_bits.specs.Clearing.{packed_size, cleared}
use Rattle.kinds.specs.Kinds.{within, alone}
use Rattle.writers.specs.Writing.{frame}
use Rattle.draw_rules.specs.Telling.{refusal}
use Rattle.draw_rules.specs.Making.{draw_bits}
use Rattle.random.specs.Sequences.{some_below, byte_limit}
use Rattle.draw_rules.proofs.Orders.{bad_numbers, no_room, good-numbers, runs-out, takes}
use Rattle.random.proofs.Sequences.{made_used}
use Rattle.kinds.specs.declared.Kind.TheVariants.{Bits}
use Rattle.draw.proofs.messages.draw_bits.Goals as goal

pub returns-then-not-rounds_fit : goal.returns-then-not-rounds_fit
returns-then-not-rounds_fit c = let g = c.args in
    bad_numbers _ _ _ _ (within alone.rounds g.rounds) (sym c.rounds_fit.ensures ∙ c.if-not-rounds_fit.true) c.refuse.ensures

pub returns-then-out-need : goal.returns-then-out-need
returns-then-out-need c = let g = c.args in
    let s = c.frame_size-need.ensures.0 in
    no_room _ _ _ _ _ [] (good-numbers (within alone.rounds g.rounds) (sym c.rounds_fit.ensures ∙ c.if-not-rounds_fit.false)) (omega arith) (c.refuse-then-out-need.ensures ∙ ap (refusal Room Output) s)

pub returns-in-None : goal.returns-in-None
unfolding draw_bits
returns-in-None c = let g = c.args in
    let s = c.frame_size-need.ensures.0 in
    runs-out _ _ _ _ _ [] (good-numbers (within alone.rounds g.rounds) (sym c.rounds_fit.ensures ∙ c.if-not-rounds_fit.false)) (omega arith)
    (sym c.in-None.is ∙ c.measure_below.ensures ∙ ap (λ (k : ℕ). used_by (some_below byte_limit k g.random.now 0)) c.size.ensures.0 ∙ sym (made_used (λ (l : List ℕ). frame Bits g.rounds 0 (cleared g.rounds l)) (some_below byte_limit (packed_size g.rounds) g.random.now 0))) c.refuse-in-None.ensures

pub returns-in-Some : goal.returns-in-Some
unfolding draw_bits
returns-in-Some c = let g = c.args in
    let s = c.frame_size-need.ensures.0 in
    takes _ _ _ _ _ [] (good-numbers (within alone.rounds g.rounds) (sym c.rounds_fit.ensures ∙ c.if-not-rounds_fit.false)) (omega arith)
    (sym c.in-Some.is ∙ c.measure_below.ensures ∙ ap (λ (k : ℕ). used_by (some_below byte_limit k g.random.now 0)) c.size.ensures.0 ∙ sym (made_used (λ (l : List ℕ). frame Bits g.rounds 0 (cleared g.rounds l)) (some_below byte_limit (packed_size g.rounds) g.random.now 0))) c.write_bits.ensures
