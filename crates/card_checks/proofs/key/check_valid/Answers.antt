-- `check_valid` meets its contract: the first row that is not zero, or none.
use mathlib.Core.Path.{refl, ap, ◌∙◌}
use native.Mathlib.Omega.{arith}
use Rattle.refusals.specs.Told.{means}
use Rattle.card_rules.proofs.Facts.{parts_fault}
use Rattle.card_rules.proofs.Orders.{bad_key, good-key}
use Rattle.card_rules.specs.Parts.{as_keys}
use Rattle.card_checks.proofs.key.check_valid.Goals as goal

pub returns-in-Some : goal.returns-in-Some
returns-in-Some c = let b = c.in-Some.ensures.below in
    ap means c.refuse.ensures
    ∙ bad_key (as_keys c.args.keys.now) _ _ (c.in-Some.ensures.fault ∙ parts_fault (as_keys c.args.keys.now) _ _ _ c.matrix.ensures.system c.vector.ensures c.permutation.ensures) c.matrix.ensures.rows (omega arith)

pub returns-in-None : goal.returns-in-None
returns-in-None c =
    good-key (as_keys c.args.keys.now) _ _ (c.in-None.ensures.fault ∙ parts_fault (as_keys c.args.keys.now) _ _ _ c.matrix.ensures.system c.vector.ensures c.permutation.ensures) c.matrix.ensures.rows refl
