-- `check_choices` meets its contract: no round before the k-th is refused, and that one starts at k·2n.
use mathlib.Core.Path.{◌≡◌, refl, sym, ap, ◌∙◌}
use Prim.Native.Nat.{◌*◌}
use native.Mathlib.Omega.{arith}
use borrow.Author.Rules.{rules}
use borrow.Author.Tests.{eq-eqb, ne_eqb}
use lib.ListN.{length}
use Rattle.refusals.specs.Told.{means}
use Rattle.refusals.proofs.Chain.{handed_on, below_none, below_more, below-stops}
use Rattle.algebra.proofs.Lists.{length-stretch, from-stretch, stretch-fits}
use Rattle.algebra.proofs.Sums.{byte_mul}
use Rattle.readers.specs.Choosing.{choice_size, choice_check, choice_at, choices_check}
use Rattle.readers.proofs.choices.check_choices.Goals as goal

pub overflow_mul-rounds : goal.overflow_mul-rounds
overflow_mul-rounds c = let g = c.args in omega (arith, byte_mul g.rounds (choice_size g.n) (omega arith) (omega arith))

pub returns-then-choices-rounds : goal.returns-then-choices-rounds
unfolding choices_check
returns-then-choices-rounds c = rw (ne_eqb _ _ c.if-choices-rounds.true) (ap means c.refuse.ensures)

pub loop-k-init : goal.loop-k-init
loop-k-init c = below_none _

pub overflow_mul-from : goal.overflow_mul-from
overflow_mul-from c = let g = c.args in
    let f = stretch-fits (choice_size g.n) _ _ c.loop-k-test.true in
    omega (arith, byte_mul g.rounds (choice_size g.n) (omega arith) (omega arith))

pub overflow_add-to : goal.overflow_add-to
overflow_add-to c = let g = c.args in
    let f = stretch-fits (choice_size g.n) _ _ c.loop-k-test.true in
    omega (arith, byte_mul g.rounds (choice_size g.n) (omega arith) (omega arith))

pub slice_bounds-check_choice-end : goal.slice_bounds-check_choice-end
slice_bounds-check_choice-end c = let g = c.args in let f = stretch-fits (choice_size g.n) _ _ c.loop-k-test.true in omega arith

pub check_choice-requires : goal.check_choice-requires
check_choice-requires c = let g = c.args in
    let k = c.loop-k.k in
    let f = stretch-fits (choice_size g.n) _ _ c.loop-k-test.true in
    let m = byte_mul g.rounds (choice_size g.n) (omega arith) (omega arith) in
    let e = c.if-choices-rounds.false in (
      search rules,
      ap length (from-stretch (choice_size g.n) k _ g.choices.now refl) ∙ length-stretch (choice_size g.n) k g.choices.now (omega arith),
      omega arith,
    )

pub returns-in_err-check_choice : goal.returns-in_err-check_choice
unfolding choices_check
returns-in_err-check_choice c = let g = c.args in
    let k = c.loop-k.k in
    ap means (handed_on c.from_residual.ensures)
    ∙ rw (eq-eqb _ _ c.if-choices-rounds.false)
    (below-stops (choice_at g.n g.choices.now) _ c.loop-k.invariant _ c.loop-k-test.true
    (sym (ap (choice_check g.n (k * choice_size g.n)) (from-stretch (choice_size g.n) k _ g.choices.now refl))
    ∙ sym c.check_choice.ensures ∙ ap means c.in_err-check_choice.was))

pub loop-k-preserved : goal.loop-k-preserved
loop-k-preserved c = let g = c.args in
    let k = c.loop-k.k in
    below_more (choice_at g.n g.choices.now) _ c.loop-k.invariant
    (sym (ap (choice_check g.n (k * choice_size g.n)) (from-stretch (choice_size g.n) k _ g.choices.now refl))
    ∙ sym c.check_choice.ensures ∙ ap means c.in_ok-check_choice.was)

pub returns : goal.returns
unfolding choices_check
returns c = let e : c.loop-k.k ≡ c.args.rounds = omega arith in
    rw (eq-eqb _ _ c.if-choices-rounds.false) (sym (rw e at c.loop-k.invariant))
