-- `judge_rounds` meets its contract: the first round that does not pass decides, and its bit tells the number.
use mathlib.Core.Path.{refl, sym, ap, ◌∙◌}
use native.Mathlib.Omega.{arith}
use Rattle.refusals.specs.Told.{means_count}
use Rattle.register_rules.proofs.Facts.{bit_cut}
use Rattle.register_rules.proofs.Orders.{all_passed, round_failed}
use Rattle.register_rules.specs.Verdict.{number_of}
use Rattle.register_rounds.proofs.judge_rounds.Goals as goal

pub returns-in-None : goal.returns-in-None
returns-in-None c = all_passed _ _ _ c.in-None.ensures.first c.from.ensures (sym c.from.ensures)

pub returns-in-Some : goal.returns-in-Some
returns-in-Some c =
    let l = c.in-Some.ensures.below in
    ap means_count c.refuse.ensures
    ∙ round_failed _ _ _ c.in-Some.ensures.first refl (λ z. absurd (omega arith)) _
    (c.reason_of.ensures ∙ ap number_of (c.bit_at-bit.ensures ∙ bit_cut c.args.x.now.bits.now c.in-Some.k))
