-- `check_key` meets its contract: the frames, then KEY.
use mathlib.Core.Path.{sym, ap, ◌∙◌}
use mathlib.Core.List.{[]}
use Rattle.card_rules.proofs.Facts.{keys-told}
use Rattle.card_rules.specs.Keys.{key_check}
use Rattle.refusals.proofs.Chain.{goes_on, stops, handed_on}
use Rattle.refusals.specs.Told.{means}
use Rattle.card_checks.proofs.key.check_key.Goals as goal

pub returns-in_err-check_keys : goal.returns-in_err-check_keys
unfolding key_check
returns-in_err-check_keys c = record { says = ap means (handed_on c.from_residual.ensures) ∙ stops _ c.check_keys.ensures c.in_err-check_keys.was }

pub check_valid-requires : goal.check_valid-requires
check_valid-requires c = keys-told _ [] (sym c.check_keys.ensures ∙ ap means c.in_ok-check_keys.was)

pub returns : goal.returns
unfolding key_check
returns c = record { says = goes_on c.check_keys.ensures c.in_ok-check_keys.was c.check_valid.ensures }
