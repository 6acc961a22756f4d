-- `check_begin` meets its contract: the chain, as the code goes through it.
use mathlib.Core.Path.{◌≡◌, sym, ap, ◌∙◌}
use mathlib.Core.List.{[]}
use native.Mathlib.Omega.{arith}
use Rattle.refusals.specs.Told.{means}
use Rattle.refusals.proofs.Chain.{goes_on, stops, handed_on}
use Rattle.kinds.specs.Kinds.{within, alone}
use Rattle.frames.proofs.Facts.{within-told}
use Rattle.card_rules.specs.Asking.{staged, at_rest, begin_check}
use Rattle.card_rules.proofs.Facts.{keys-told}
use Rattle.card_rules.proofs.Orders.{test_goes_on, test_stops}
use Rattle.card_checks.proofs.order.check_begin.Goals as goal
use Rattle.card_checks.proofs.order.check_begin.Goals.{After-staged, After-contains}

-- the first two links, by what they are to mean
stage : (c : After-staged) → means c.staged.result ≡ staged (at_rest c.args.session.stage)
stage c = rw c.at_rest.ensures at c.staged.ensures

limits : (c : After-contains) → c.contains.result ≡ within alone.rounds c.args.rounds
limits c = rw c.alone.ensures at c.contains.ensures

pub returns-in_err-staged : goal.returns-in_err-staged
unfolding begin_check
returns-in_err-staged c =
    ap means (handed_on c.from_residual.ensures) ∙ stops _ (stage (goal.at.returns-in_err-staged c).After-staged) c.in_err-staged.was

pub returns-then-not-contains : goal.returns-then-not-contains
unfolding begin_check
returns-then-not-contains c = let q = goal.at.returns-then-not-contains c in
    ap means c.refuse.ensures
    ∙ goes_on (stage q.After-staged) c.in_ok-staged.was
    (test_stops _ _ _ _ (sym (limits q.After-contains) ∙ c.if-not-contains.true))

pub returns-in_err-check_keys : goal.returns-in_err-check_keys
unfolding begin_check
returns-in_err-check_keys c = let q = goal.at.returns-in_err-check_keys c in
    ap means (handed_on c.from_residual-in_err-check_keys.ensures)
    ∙ goes_on (stage q.After-staged) c.in_ok-staged.was
    (test_goes_on _ _ _ (sym (limits q.After-contains) ∙ c.if-not-contains.false)
    (stops _ c.check_keys.ensures c.in_err-check_keys.was))

pub check_rest-requires : goal.check_rest-requires
check_rest-requires c =
    let w = within-told alone.rounds c.args.rounds (sym (limits (goal.at.check_rest-requires c).After-contains) ∙ c.if-not-contains.false) in
    (keys-told _ [] (sym c.check_keys.ensures ∙ ap means c.in_ok-check_keys.was), omega arith)

pub returns : goal.returns
unfolding begin_check
returns c = let q = goal.at.returns c in
    goes_on (stage q.After-staged) c.in_ok-staged.was
    (test_goes_on _ _ _ (sym (limits q.After-contains) ∙ c.if-not-contains.false)
    (goes_on c.check_keys.ensures c.in_ok-check_keys.was c.check_rest.ensures))
