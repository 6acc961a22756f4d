-- `signon_check_opening` answers where the round's stretch starts, once the check has said that it is there.
use mathlib.Core.Path.{sym, ap, ◌∙◌}
use native.Mathlib.Omega.{arith}
use Rattle.refusals.specs.Told.{means}
use Rattle.card_for_c.specs.Answers.{answer_of}
use Rattle.signon.proofs.Numbers.{place-fits, place-told, no_place-told}
use Rattle.readers.proofs.OpeningLaws.{opening-told}
use Rattle.signon.proofs.read.signon_check_opening.Goals as goal

pub bounds-openings-4 : goal.bounds-openings-4
bounds-openings-4 c = let p = (opening-told _ _ _ (sym c.check_opening.ensures ∙ ap means c.in-Ok.is)).0.there in omega arith

pub overflow_mul-round : goal.overflow_mul-round
overflow_mul-round c = let p = place-fits _ _ _ c.from.ensures (sym c.check_opening.ensures ∙ ap means c.in-Ok.is) in omega arith

pub overflow_add-start : goal.overflow_add-start
overflow_add-start c = let p = place-fits _ _ _ c.from.ensures (sym c.check_opening.ensures ∙ ap means c.in-Ok.is) in omega arith

pub returns-in-Ok : goal.returns-in-Ok
returns-in-Ok c = c.success.ensures ∙ ap answer_of (place-told _ _ _ _ c.start.ensures.0 c.from.ensures (sym c.check_opening.ensures ∙ ap means c.in-Ok.is))

pub returns-in-Err : goal.returns-in-Err
returns-in-Err c = c.refusal.ensures ∙ ap answer_of (no_place-told _ _ _ (sym c.check_opening.ensures ∙ ap means c.in-Err.is))
