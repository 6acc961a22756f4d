-- `read_opening` meets its contract: the frame, then the round, and what was read says that the stretch is there.
use mathlib.Core.Path.{◌≡◌, ap, ◌∙◌}
use mathlib.Core.List.{List, [], ◌∷◌}
use Prim.Native.Nat.{ℕ, ◌<◌}
use native.Mathlib.Omega.{arith}
use Rattle.std.proofs.Common.{Bor, Result}
use Rattle.refusals.specs.declared.Refusal.{Refusal}
use Rattle.refusals.specs.Told.{Told, done, outcome}
use Rattle.refusals.proofs.Chain.{handed_on}
use Rattle.kinds.specs.declared.Kind.TheVariants.{Openings}
use Rattle.kinds.specs.Kinds.{alone}
use Rattle.frames.specs.Reading.{second_of, reading}
use Rattle.readers.proofs.OpeningLaws.{first-read, second-read, start-read, round_ends, no_frame, no_round, a_round, opening-cut}
use Rattle.readers.proofs.opening.read_opening.Goals as goal
use Rattle.readers.proofs.opening.read_opening.Goals.{In_ok-openings}

-- the meaning of what is handed back, whose stretch is no value that is told
part_means : Result (Bor (List ℕ)) Refusal → Told
part_means = outcome (λ part. [])

read_fine : (c : In_ok-openings) → done (c.in_ok-openings.openings.first ∷ c.in_ok-openings.openings.second ∷ c.in_ok-openings.openings.start ∷ []) ≡ reading Openings alone c.args.frame.now
read_fine c = c.in_ok-openings.ensures.says

pub returns-in_err-openings-clause-told : goal.returns-in_err-openings-clause-told
unfolding part_means
returns-in_err-openings-clause-told c = ap part_means (handed_on c.from_residual.ensures) ∙ no_frame _ _ _ _ _ c.in_err-openings.ensures.says

pub returns-then-openings-round-clause-told : goal.returns-then-openings-round-clause-told
unfolding part_means
returns-then-openings-round-clause-told c = let e = read_fine (goal.at.returns-then-openings-round-clause-told c).In_ok-openings in
    let s = c.args.frame.now in
    ap part_means c.refuse.ensures ∙ no_round s _ _ e (omega (arith, second-read s _ _ _ e, c.if-openings-round.true))

pub returns-clause-told : goal.returns-clause-told
returns-clause-told c = let e = read_fine (goal.at.returns-clause-told c).In_ok-openings in
    let s = c.args.frame.now in
    a_round s _ _ e (omega (arith, second-read s _ _ _ e, c.if-openings-round.false))

pub overflow_mul-from : goal.overflow_mul-from
overflow_mul-from c = let e = round_ends _ _ _ _ (read_fine (goal.at.overflow_mul-from c).In_ok-openings) _ c.if-openings-round.false in omega arith

pub overflow_add-from : goal.overflow_add-from
overflow_add-from c = let p = read_fine (goal.at.overflow_add-from c).In_ok-openings in
    let e = round_ends _ _ _ _ p _ c.if-openings-round.false in omega (arith, start-read _ _ _ _ p)

pub overflow_add-to : goal.overflow_add-to
overflow_add-to c = let p = read_fine (goal.at.overflow_add-to c).In_ok-openings in
    let e = round_ends _ _ _ _ p _ c.if-openings-round.false in omega (arith, start-read _ _ _ _ p)

pub slice_bounds-result-end : goal.slice_bounds-result-end
slice_bounds-result-end c = let e = round_ends _ _ _ _ (read_fine (goal.at.slice_bounds-result-end c).In_ok-openings) _ c.if-openings-round.false in omega arith

pub returns-clause-part : goal.returns-clause-part
returns-clause-part c = let e = read_fine (goal.at.returns-clause-part c).In_ok-openings in
    let s = c.args.frame.now in
    let k : c.args.round < second_of Openings s = rw (← second-read s _ _ _ e) c.if-openings-round.false in
    opening-cut s c.args.round _ _ (first-read s _ _ _ e) (omega (arith, start-read s _ _ _ e)) (a_round s c.args.round _ e k)
