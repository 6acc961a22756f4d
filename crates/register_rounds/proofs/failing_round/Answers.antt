-- `failing_round` meets its contract: the bodies that it cuts are those of the frames.
use mathlib.Core.Path.{sym, ap, ◌∙◌}
use Rattle.std.specs.Prelude.{unwrap_or}
use Rattle.register_rules.proofs.Facts.{parts_fit, parts_passed}
use Rattle.register_rules.specs.Parts.{as_sign_on}
use Rattle.register_rounds.proofs.failing_round.Goals as goal

pub first_failing-requires : goal.first_failing-requires
first_failing-requires c =
    let a = c.matrix_of-a.ensures in
    let f = parts_fit (as_sign_on c.args.x.now) _ _ _ _ a.entries a.places a.rows c.from-rounds.ensures c.requires in (f.1, f.2)

pub returns-clause-first : goal.returns-clause-first
returns-clause-first c =
    let a = c.matrix_of-a.ensures in
    ap (unwrap_or c.first_failing.result) (sym c.from-rounds.ensures)
    ∙ c.first_failing.ensures.first
    ∙ parts_passed (as_sign_on c.args.x.now) _ _ _ _ a.entries a.places a.rows c.from-rounds.ensures
