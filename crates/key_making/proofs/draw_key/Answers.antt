-- `draw_key` meets its contract: a law of the order for each answer.
use mathlib.Core.Path.{refl, sym, ap₂, ◌∙◌}
use mathlib.Core.List.{List, []}
use Prim.Native.Nat.{ℕ, ◌+◌}
use native.Mathlib.Omega.{arith}
use lib.ListN.{take, drop}
use Rattle.refusals.specs.declared.Buffer.TheVariants.{Output}
use Rattle.refusals.specs.declared.Reason.TheVariants.{Room}
use Rattle.draw_rules.specs.Telling.{refusal}
use Rattle.key_making.specs.Key.{key_frames, draw_pair, draw_key}
use Rattle.draw_rules.proofs.Orders.{no_room, runs-out, takes}
use Rattle.random.proofs.Sequences.{made_used}
use Rattle.key_making.proofs.draw_key.Goals as goal

pub returns-then-out-need : goal.returns-then-out-need
returns-then-out-need c = let s = c.frame_size.ensures.0 in
    let t = c.frame_size-2.ensures.0 in
    no_room _ _ _ _ _ [] refl (omega arith) (c.refuse.ensures ∙ ap₂ (λ (x y : ℕ). refusal Room Output (x + y)) s t)

pub returns-in-None : goal.returns-in-None
unfolding draw_key
returns-in-None c = let s = c.frame_size.ensures.0 in
    let t = c.frame_size-2.ensures.0 in
    runs-out _ _ _ _ _ [] refl (omega arith) (sym c.in-None.is ∙ c.measure_pair.ensures ∙ sym (made_used (λ (l : List ℕ). key_frames c.args.a.now.entries.now c.args.a.now.n c.args.a.now.m (take c.args.a.now.n l) (drop c.args.a.now.n l)) (draw_pair c.args.a.now.n c.args.a.now.m c.args.random.now))) c.refuse-in-None.ensures

pub returns-in-Some : goal.returns-in-Some
unfolding draw_key
returns-in-Some c = let s = c.frame_size.ensures.0 in
    let t = c.frame_size-2.ensures.0 in
    takes _ _ _ _ _ [] refl (omega arith) (sym c.in-Some.is ∙ c.measure_pair.ensures ∙ sym (made_used (λ (l : List ℕ). key_frames c.args.a.now.entries.now c.args.a.now.n c.args.a.now.m (take c.args.a.now.n l) (drop c.args.a.now.n l)) (draw_pair c.args.a.now.n c.args.a.now.m c.args.random.now))) c.write_key.ensures
