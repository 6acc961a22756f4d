-- `check_all` meets its contract: the checks, then SELF.
use mathlib.Core.Path.{sym, ap, ◌∙◌}
use mathlib.Core.List.{[]}
use Rattle.card_rules.proofs.Facts.{open_told_lem}
use Rattle.card_steps.proofs.Opening.{open_ready}
use Rattle.card_steps.specs.Steps.{open_refusal}
use Rattle.refusals.proofs.Chain.{goes_on, stops, handed_on}
use Rattle.refusals.specs.Told.{means}
use Rattle.card.proofs.open.check_all.Goals as goal

pub returns-in_err-check_open : goal.returns-in_err-check_open
unfolding open_refusal
returns-in_err-check_open c = ap means (handed_on c.from_residual.ensures) ∙ stops _ c.check_open.ensures c.in_err-check_open.was

pub check_own-requires : goal.check_own-requires
check_own-requires c = open_ready _ _ _ _ _ (open_told_lem _ _ _ _ _ [] (sym c.check_open.ensures ∙ ap means c.in_ok-check_open.was))

pub returns : goal.returns
unfolding open_refusal
returns c = goes_on c.check_open.ensures c.in_ok-check_open.was c.check_own.ensures
