-- `check_rest` meets its contract: the chain, as the code goes through it.
use mathlib.Core.Path.{◌≡◌, sym, ap, ◌∙◌}
use Rattle.refusals.specs.Told.{means}
use Rattle.refusals.proofs.Chain.{goes_on, stops, handed_on}
use Rattle.readers.specs.Choosing.{choices_check}
use Rattle.card_rules.specs.Parts.{as_keys}
use Rattle.card_rules.specs.Keys.{places_of}
use Rattle.card_rules.proofs.Orders.{no_room, room_enough, rest_in_order}
use Rattle.card_checks.proofs.order.check_rest.Goals as goal
use Rattle.card_checks.proofs.order.check_rest.Goals.{After-check_choices}

choices : (c : After-check_choices) → means c.check_choices.result ≡ choices_check (places_of (as_keys c.args.keys.now)) c.args.rounds c.args.choices.now
choices c = rw c.matrix.ensures.places at c.check_choices.ensures

pub returns-in_err-check_choices : goal.returns-in_err-check_choices
returns-in_err-check_choices c =
    ap means (handed_on c.from_residual.ensures)
    ∙ stops _ (choices (goal.at.returns-in_err-check_choices c).After-check_choices) c.in_err-check_choices.was
    ∙ sym (rest_in_order _ _ _ _ _)

pub returns-in_err-check_valid : goal.returns-in_err-check_valid
returns-in_err-check_valid c =
    ap means (handed_on c.from_residual-in_err-check_valid.ensures)
    ∙ goes_on (choices (goal.at.returns-in_err-check_valid c).After-check_choices) c.in_ok-check_choices.was
    (stops _ c.check_valid.ensures c.in_err-check_valid.was)
    ∙ sym (rest_in_order _ _ _ _ _)

pub returns-then-room-need : goal.returns-then-room-need
returns-then-room-need c =
    goes_on (choices (goal.at.returns-then-room-need c).After-check_choices) c.in_ok-check_choices.was
    (goes_on c.check_valid.ensures c.in_ok-check_valid.was (ap means c.refuse.ensures ∙ no_room _ _ c.if-room-need.true))
    ∙ sym (rest_in_order _ _ _ _ _)

pub returns : goal.returns
returns c =
    goes_on (choices (goal.at.returns c).After-check_choices) c.in_ok-check_choices.was
    (goes_on c.check_valid.ensures c.in_ok-check_valid.was (room_enough _ _ c.if-room-need.false))
    ∙ sym (rest_in_order _ _ _ _ _)
