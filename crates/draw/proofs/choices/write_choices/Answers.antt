-- `write_choices` meets its contract: the first k rounds stand over the front.
use mathlib.Core.Path.{◌≡◌, ap, ◌∙◌, subst}
use mathlib.Core.List.{List}
use Prim.Native.Nat.{ℕ, ◌-◌, ◌*◌}
use native.Mathlib.Omega.{arith}
use borrow.Author.Rules.{rules}
use lib.ListN.{length}
use borrow.Rule.Slice.PartMut.{mid_of}
use Rattle.random.specs.Drawings.{Drawing, drawn_over}
use Rattle.algebra.proofs.Lists.{stretch-fits}
use Rattle.readers.specs.Choosing.{choice_size}
use Rattle.readers.proofs.Passing.{Chosen}
use Rattle.draw_rules.specs.Making.{draw_choice, draw_choices}
use Rattle.draw_rules.proofs.Making.{choice_chosen}
use Rattle.random.proofs.Sequences.{drew_of, behind, written_none, written_more, written_enough, written_all, Always, written_each}
use Rattle.draw.proofs.choices.write_choices.Goals as goal

pub loop-k-init : goal.loop-k-init
loop-k-init c = written_none _ _ _

pub write_choice-p-requires : goal.write_choice-p-requires
unfolding draw_choices
write_choice-p-requires c = let f = stretch-fits (choice_size c.args.n) _ _ c.loop-k-test.true in
    (written_enough _ _ _ _ _ _ c.loop-k.invariant _ c.loop-k-test.true c.requires.0, search rules, search rules, omega arith)

pub loop-k-preserved : goal.loop-k-preserved
loop-k-preserved c = let n = c.args.n in
    let random = c.args.random.now in
    let l = c.loop-k in
    let w = l.invariant in
    let from = l.k * choice_size n in
    let one = c.write_choice-p in
    let a = drew_of (draw_choice n random l.p) one.result one.ensures.0 in
    let s = (subst (Always (λ (z : List ℕ). (length z ≡ choice_size n) × Chosen n z)) a.1 (choice_chosen n random c.requires.1 l.p)).0 in
    let e = (written_each (Chosen n) (choice_size n) (draw_choice n random) (choice_chosen n random c.requires.1) _ _ _ _ _ w).len in
    let f = stretch-fits (choice_size n) _ _ c.loop-k-test.true in
    written_more _ _ _ _ _ _ w a.0 _ _ a.1 (search rules)
    (behind w.list a.0 c.args.out.now l.out _ from (length l.out - from) (omega arith) w.now
    (one.ensures.1 ∙ ap (λ (d : Drawing). drawn_over d (mid_of from (length l.out - from) l.out)) a.1) (omega arith) (omega arith))

pub returns : goal.returns
unfolding draw_choices
returns c = (written_all _ _ _ _ _ _ c.loop-k.invariant c.args.rounds (omega arith)).1
