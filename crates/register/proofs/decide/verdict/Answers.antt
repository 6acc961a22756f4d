-- `verdict` meets its contract: the frames, the grade, the rounds, in that order.
use mathlib.Core.Path.{sym, ap, ◌∙◌}
use mathlib.Core.List.{[]}
use native.Mathlib.Omega.{arith}
use Rattle.refusals.specs.Told.{means, means_count}
use Rattle.refusals.proofs.Chain.{handed_on}
use Rattle.register_rules.proofs.Facts.{frames-told, sign_on_fits}
use Rattle.register_rules.proofs.Orders.{bad_frames, rounds_decide, too_weak}
use Rattle.register_rules.specs.Verdict.{SignOnFits, enough}
use Rattle.register_rules.specs.Parts.{as_sign_on}
use Rattle.register.proofs.decide.verdict.Goals as goal
use Rattle.register.proofs.decide.verdict.Goals.{In_ok-check_frames}

-- past the frames
frames_fine : (c : In_ok-check_frames) → SignOnFits (as_sign_on c.args.x.now)
frames_fine c = sign_on_fits _ (frames-told _ [] (sym c.check_frames.ensures ∙ ap means c.in_ok-check_frames.was))

pub returns-in_err-check_frames : goal.returns-in_err-check_frames
returns-in_err-check_frames c = record { says = ap means_count (handed_on c.from_residual.ensures) ∙ bad_frames _ _ _ _ c.check_frames.ensures c.in_err-check_frames.was }

pub bounds-x-4 : goal.bounds-x-4
bounds-x-4 c = let t = (frames_fine (goal.at.bounds-x-4 c).In_ok-check_frames).commitments_there in omega arith

pub returns-then-not-enough : goal.returns-then-not-enough
returns-then-not-enough c = record { says = ap means_count c.refuse.ensures ∙ too_weak _ _ _ c.check_frames.ensures c.in_ok-check_frames.was (ap (enough _) (sym c.from.ensures) ∙ sym c.enough.ensures ∙ c.if-not-enough.true) }

pub judge_rounds-requires : goal.judge_rounds-requires
judge_rounds-requires c = frames_fine (goal.at.judge_rounds-requires c).In_ok-check_frames

pub returns : goal.returns
returns c = record { says = rounds_decide _ _ _ c.check_frames.ensures c.in_ok-check_frames.was (ap (enough _) (sym c.from.ensures) ∙ sym c.enough.ensures ∙ c.if-not-enough.false) _ c.judge_rounds.ensures }
